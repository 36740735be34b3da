use Rattle.std.proofs.Common.{arith}
use Rattle.quantities.specs.Case.{design_of}
use Rattle.quantities.proofs.Bends.{given_same, computed_same}
use Rattle.quantities.proofs.bend.stiffness.Goals as goal

pub returns-then-section-ne0-clause-value : goal.returns-then-section-ne0-clause-value
returns-then-section-ne0-clause-value c = given_same (design_of c.args.case.now) _ c.if-section-ne0.true

pub returns-clause-value : goal.returns-clause-value
returns-clause-value c = computed_same (design_of c.args.case.now) _ (omega arith)
