use Rattle.std.proofs.Common.{◌*◌, ap}
use Rattle.fraction.specs.Ratio.{value}
use Rattle.lookups.specs.Operand.{stiffness_of}
use Rattle.records.specs.Lines.{shape_points}
use Rattle.lookups.proofs.Values.{hundredth_times, over_hundred, curve_moved}
use Rattle.lookups.proofs.curves.shape_factor.Goals as goal

pub returns-clause-value : goal.returns-clause-value
returns-clause-value c =
    over_hundred (value c.hundredth.result) (value c.curve_value.result) _ c.hundredth.ensures.num c.hundredth.ensures.den
    (curve_moved (shape_points c.args.curve.now) _ _ _ (hundredth_times (value c.from.result) (stiffness_of c.args.stiffness) c.from.ensures.0 (ap (λ n. 100 * n) c.from.ensures.1)) c.curve_value.ensures.value)
