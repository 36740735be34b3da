use Rattle.std.proofs.Common.{◌≡◌, ◌^◌, ◌<◌, sym, subst, rules}
use Rattle.fraction.specs.Fraction.{whole, ◌⊗◌}
use Rattle.fraction.specs.Ratio.{value}
use Rattle.enclosure.specs.Model.{Encloses}
use Rattle.enclosure.specs.Formula.{computed, wide_of}
use Rattle.enclosure.specs.Readings.{Under, Over}
use Rattle.enclosure.proofs.ReadOuts.{readings_bound}
use Rattle.handbook.proofs.Millionths.{enclosed}
use Rattle.handbook.proofs.in_millionths.Goals as goal

pub returns : goal.returns
returns g c =
    let m = g.A.Arithmetic.model in
    let x = c.args.x in
    let few : x.num < 2 ^ 128 = search rules in
    let parts : x.den < 2 ^ 128 = search rules in
    let is : c.mul-millionths.result ≡ m.product (m.quotient (wide_of (computed m) x.num) (wide_of (computed m) x.den)) (m.from_whole (10 ^ 6)) = cc in
    let inside = subst (λ e. Encloses m e (value x ⊗ whole (10 ^ 6))) (sym is) (enclosed g.met.A.Arithmetic.sound x few parts) in
    let b = readings_bound m c.mul-millionths.result _ inside in
    (subst (λ o. Under o (value x ⊗ whole (10 ^ 6))) (sym c.floor.ensures) b.below, subst (λ o. Over o (value x ⊗ whole (10 ^ 6))) (sym c.ceiling.ensures) b.above)
