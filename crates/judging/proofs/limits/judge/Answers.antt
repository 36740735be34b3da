use Rattle.std.proofs.Common.{rules}
use Rattle.quantities.specs.Case.{design_of}
use Rattle.judging.proofs.Meanings.{means}
use Rattle.judging.proofs.limits.judge.Goals as goal

pub returns-clause-verdict : goal.returns-clause-verdict
returns-clause-verdict g c = means g.A.Arithmetic.model (design_of c.args.case.now) c.sheet.result (search rules)
