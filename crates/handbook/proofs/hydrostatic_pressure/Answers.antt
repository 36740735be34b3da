use Rattle.std.proofs.Common.{arith}
use Rattle.handbook.proofs.hydrostatic_pressure.Goals as goal

pub returns : goal.returns
returns c =
    record {
      to = record { cross = omega (arith, c.min-depth.ensures) };
      from = record { cross = omega (arith, c.min-depth.ensures) };
    }
