use Rattle.std.proofs.Common.{arith}
use Rattle.quantities.specs.MeasuredCase.{design}
use Rattle.quantities.proofs.Pressing.{no_load, too_deep, paired_steps, single_steps}
use Rattle.quantities.proofs.Ranges.{measured}
use Rattle.quantities.proofs.measured.MeasuredCase.live_pressure.Goals.{then-paired, in-Truck-3}
use Rattle.quantities.proofs.measured.MeasuredCase.live_pressure.Goals as goal

pub returns-in-None : goal.returns-in-None
returns-in-None g c = no_load g.met.A.Arithmetic.sound (design c.args.self.now) c.in-None.is

pub returns-in-Truck : goal.returns-in-Truck
returns-in-Truck g c = too_deep g.met.A.Arithmetic.sound (design c.args.self.now) c.in-Truck.is c.if-deep.true

pub returns : goal.returns
returns g c =
    let s = g.met.A.Arithmetic.sound in
    let d = design c.args.self.now in
    let k = measured s d c.args.self.now.measures c.args.self.now.measured in
    let under = c.if-paired.load in
    let width = c.plus-width in
    elim c.if-paired.branch [
      | then-paired w ↦ paired_steps s d c.wheel_width.result w.whole.result width.result c.under_wheels.result under c.wheel_width.ensures w.whole.ensures w.load-is width.ensures c.under_wheels.ensures k.fill k.inside c.in-Truck-2.is (omega arith) (omega arith)
      | in-Truck-3 w ↦ single_steps s d c.wheel_width.result width.result c.under_wheels.result under c.wheel_width.ensures w.load-is width.ensures c.under_wheels.ensures k.fill k.inside c.in-Truck-2.is (omega arith) (omega arith)
    ]
