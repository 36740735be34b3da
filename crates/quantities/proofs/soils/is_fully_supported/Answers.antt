use Rattle.std.proofs.Common.{arith}
use Rattle.quantities.specs.Case.{design_of}
use Rattle.quantities.proofs.Supports.{wide_full, walls_full, never_full}
use Rattle.quantities.proofs.soils.is_fully_supported.Goals as goal

pub returns-then-case-site : goal.returns-then-case-site
returns-then-case-site c = wide_full (design_of c.args.case.now) (omega arith)

pub returns-then-site-lt120000 : goal.returns-then-site-lt120000
returns-then-site-lt120000 c = walls_full (design_of c.args.case.now) (omega arith) (omega arith)

pub returns-else-site-lt120000 : goal.returns-else-site-lt120000
returns-else-site-lt120000 c = never_full (design_of c.args.case.now) (omega arith) (omega arith)
