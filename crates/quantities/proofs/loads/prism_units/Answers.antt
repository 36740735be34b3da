use Rattle.std.proofs.Common.{◌-◌, ◌*◌, arith}
use Rattle.quantities.specs.Case.{design_of}
use Rattle.quantities.proofs.Pressing.{wet_least}
use Rattle.quantities.proofs.loads.prism_units.Goals as goal

pub returns-clause-least : goal.returns-clause-least
returns-clause-least c =
    let d = design_of c.args.case.now in
    let t = d.site in
    let o = d.section.outside in
    wet_least t.fill o (2 * t.water - o) t.moist_weight t.saturated_weight (omega (arith, t.fills)) (omega (arith, c.args.case.now.drained)) (omega (arith, t.weights)) (omega (arith, t.weights))
