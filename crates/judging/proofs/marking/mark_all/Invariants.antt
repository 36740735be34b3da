use Rattle.judging.specs.WorkedCase.{design}
use Rattle.judging.proofs.ClaimLists.{SoFar}
use Rattle.judging.proofs.marking.mark_all.Given as goal

abbrev pub invariant-loop-claim : goal.invariant-loop-claim
invariant-loop-claim g l = SoFar g.A.Arithmetic.model (design l.worked) l.initial.claims l.claims l.claim-index
