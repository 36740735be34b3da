use Rattle.std.proofs.Common.{refl}
use Rattle.fraction.specs.Ratio.{value}
use Rattle.lookups.specs.Operand.{pressure_of}
use Rattle.records.specs.Lines.{embedment_points}
use Rattle.fraction.proofs.Sames as same
use Rattle.lookups.proofs.Values.{hundred_times, curve_moved}
use Rattle.lookups.proofs.curves.embedment_modulus.Goals as goal

pub returns : goal.returns
returns c =
    same.trans (same.by_parts refl)
    (curve_moved (embedment_points c.args.curve.now) _ _ _ (hundred_times (value c.hundredths.result) (pressure_of c.args.pressure) c.hundredths.ensures.num c.hundredths.ensures.den) c.curve_value-value.ensures.value)
