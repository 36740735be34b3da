use Rattle.std.proofs.Common.{lit≤}
use Rattle.handbook.proofs.prism_pressure.Goals as goal

pub returns : goal.returns
returns c = record { to = record { cross = lit≤ tt }; from = record { cross = lit≤ tt } }
