use Rattle.std.proofs.Common.{arith}
use Rattle.quantities.specs.MeasuredCase.{design}
use Rattle.quantities.proofs.Pressing.{no_water, water_steps}
use Rattle.quantities.proofs.Ranges.{measured}
use Rattle.quantities.proofs.measured.MeasuredCase.water.Goals as goal

pub returns-then-site-eq0 : goal.returns-then-site-eq0
returns-then-site-eq0 g c = no_water g.met.A.Arithmetic.sound (design c.args.self.now) (omega arith)

pub returns : goal.returns
returns g c =
    let s = g.met.A.Arithmetic.sound in
    let d = design c.args.self.now in
    let k = measured s d c.args.self.now.measures c.args.self.now.measured in
    water_steps s d c.parts-factor.result c.parts-depth.result c.water_pressure.result c.parts-factor.ensures c.parts-depth.ensures c.water_pressure.ensures k.fill k.outside (omega arith)
