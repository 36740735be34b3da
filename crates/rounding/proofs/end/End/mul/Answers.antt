use Rattle.std.proofs.Common.{Some, sym, ap, ◌∙◌, arith}
use Rattle.rounding.proofs.Ends.{power_pos}
use Rattle.rounding.proofs.Rounds.{rounded_none}
use Rattle.rounding.proofs.Scalings.{narrow_product, wide_product, scales_fit, no_product}
use Rattle.rounding.proofs.end.End.mul.Goals as goal

pub returns-then-product-eq0 : goal.returns-then-product-eq0
returns-then-product-eq0 g c =
    let r = g.R.Radix in
    ap Some c.zero.ensures ∙ sym (rounded_none r _ _ (power_pos r.lawful r.BIAS) c.args.toward (no_product c.args.self.digits c.args.other.digits _ _ c.if-product-eq0.true))

pub scaled-requires : goal.scaled-requires
scaled-requires g c =
    let z = g.R.Radix.lawful in
    let a = c.args.self in
    let b = c.args.other in
    let f = scales_fit z c.args.toward (narrow_product a b c.args.toward _ _ _ _ _ c.FULL-full.ensures c.limit-limit.ensures c.PLACES.ensures c.BIAS.ensures c.cut_off.ensures c.if-product-eq0.false c.if-product-limit.true) in
    record { full = f.0; few = f.1; low = omega (arith, a.low, b.low, z) }

pub returns-then-product-limit : goal.returns-then-product-limit
returns-then-product-limit g c =
    c.scaled.ensures _ _ _ _
    (narrow_product c.args.self c.args.other c.args.toward _ _ _ _ _ c.FULL-full.ensures c.limit-limit.ensures c.PLACES.ensures c.BIAS.ensures c.cut_off.ensures c.if-product-eq0.false c.if-product-limit.true)

pub scaled-requires-2 : goal.scaled-requires-2
scaled-requires-2 g c =
    let z = g.R.Radix.lawful in
    let a = c.args.self in
    let b = c.args.other in
    let f = scales_fit z c.args.toward (wide_product a b c.args.toward _ _ _ _ _ c.FULL-full.ensures c.limit-limit.ensures c.PLACES.ensures c.BIAS-2.ensures c.cut_off-2.ensures (omega (arith, c.if-product-limit.false))) in
    record { full = f.0; few = f.1; low = omega (arith, a.low, b.low, z) }

pub returns : goal.returns
returns g c =
    c.scaled-2.ensures _ _ _ _
    (wide_product c.args.self c.args.other c.args.toward _ _ _ _ _ c.FULL-full.ensures c.limit-limit.ensures c.PLACES.ensures c.BIAS-2.ensures c.cut_off-2.ensures (omega (arith, c.if-product-limit.false)))
