use Rattle.std.proofs.Common.{◌≡◌, rules}
use Rattle.enclosure.specs.Formula.{computed}
use Rattle.quantities.specs.MeasuredCase.{design}
use Rattle.quantities.specs.Formulas.{spread_factor_of, hoop_factor_of, live_thrust_of}
use Rattle.std.specs.Option.{option_map}
use Rattle.quantities.proofs.Ranges.{measured}
use Rattle.quantities.proofs.Working.{live_steps}
use Rattle.quantities.proofs.measured.MeasuredCase.live.Goals as goal

pub returns : goal.returns
returns g c =
    let s = g.met.A.Arithmetic.sound in
    let o = computed g.A.Arithmetic.model in
    let d = design c.args.self.now in
    let p = c.args.self.now.measures in
    let h : c.map-thrust.result ≡ option_map (λ q. live_thrust_of o c.length_share-share.result (spread_factor_of o c.live_length-length.result p.outside p.inside) (hoop_factor_of o c.args.hoop) q p.outside) c.live_pressure-pressure.result = search rules in
    live_steps s d p (measured s d p c.args.self.now.measured) c.live_length-length.result c.length_share-share.result c.args.hoop c.live_pressure-pressure.result c.map-thrust.result c.live_length-length.ensures c.length_share-share.ensures h c.requires c.live_pressure-pressure.ensures
