use Rattle.std.proofs.Common.{sym, refl, ap, ◌∙◌}
use Rattle.judging.specs.WorkedCase.{design}
use Rattle.judging.specs.Claim.{stated_claim}
use Rattle.judging.proofs.ClaimLists.{none_of, stated_none, no_such_claim, one_marked}
use Rattle.judging.proofs.worked_case.WorkedCase.mark_one.Goals as goal

pub returns-in_default-new : goal.returns-in_default-new
returns-in_default-new g c = no_such_claim g.A.Arithmetic.model (design c.args.self.now) c.args.claim.now (stated_none _ c.args.claim.now.value (none_of _ c.in_default-new.not-Some) c.new.ensures)

pub returns : goal.returns
returns g c =
    one_marked g.A.Arithmetic.model (design c.args.self.now) c.args.claim.now _ c.in-Some.figure c.in-Some-new.claimed c.mark.result
    (sym c.in-Some.is ∙ c.numbered.ensures) (ap stated_claim (sym c.in-Some-new.is) ∙ c.new.ensures) refl refl refl c.mark.ensures
