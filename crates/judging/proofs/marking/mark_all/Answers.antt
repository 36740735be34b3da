use Rattle.std.proofs.Common.{◌<◌, length, arith}
use Rattle.judging.specs.WorkedCase.{design}
use Rattle.judging.proofs.ClaimLists.{one_more}
use Rattle.judging.proofs.marking.mark_all.Goals as goal

pub loop-claim-preserved : goal.loop-claim-preserved
loop-claim-preserved g c =
    let within : c.loop-claim.claim-index < length c.loop-claim.claims = omega arith in
    one_more g.A.Arithmetic.model (design c.of-worked.result) _ _ _ _ _ within c.loop-claim.auto.claims c.loop-claim.invariant c.mark_one.ensures
