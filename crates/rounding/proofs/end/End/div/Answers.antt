use Rattle.std.proofs.Common.{◌≡◌, ◌*◌, ◌^◌, ◌<◌, Some, sym, ap, ◌∙◌, mul-pos, arith}
use Rattle.rounding.specs.Rounded.{units}
use Rattle.rounding.proofs.Ends.{power_pos}
use Rattle.rounding.proofs.Rounds.{rounded_none}
use Rattle.rounding.proofs.Scalings.{low_quotient, high_quotient, scales_fit, divided_by}
use Rattle.rounding.proofs.end.End.div.Goals as goal

pub returns-then-self-eq0 : goal.returns-then-self-eq0
returns-then-self-eq0 g c =
    let r = g.R.Radix in
    let a = c.args.self in
    let b = c.args.other in
    let some : 0 < b.digits = omega (arith, c.if-other-eq0.false) in
    let none : units a * r.BASE ^ r.BIAS ≡ 0 = ap (λ x. x * r.BASE ^ a.exponent * r.BASE ^ r.BIAS) c.if-self-eq0.true ∙ omega arith in
    ap Some c.zero.ensures ∙ sym (rounded_none r _ (units b) (mul-pos some (power_pos r.lawful b.exponent)) c.args.toward none)
    ∙ sym (divided_by a b c.args.toward some)

pub scaled-requires : goal.scaled-requires
scaled-requires g c =
    let z = g.R.Radix.lawful in
    let a = c.args.self in
    let f = scales_fit z c.args.toward (low_quotient a c.args.other c.args.toward _ _ _ _ c.PLACES.ensures c.BIAS.ensures c.cut_off.ensures c.if-other-eq0.false c.limit.ensures c.if-self-eq0.false c.if-top-bottom.true) in
    record { full = f.0; few = f.1; low = omega (arith, a.low, z) }

pub returns-then-top-bottom : goal.returns-then-top-bottom
returns-then-top-bottom g c =
    let a = c.args.self in
    let b = c.args.other in
    let t = c.args.toward in
    c.scaled.ensures _ _ _ _ (low_quotient a b t _ _ _ _ c.PLACES.ensures c.BIAS.ensures c.cut_off.ensures c.if-other-eq0.false c.limit.ensures c.if-self-eq0.false c.if-top-bottom.true)
    ∙ sym (divided_by a b t (omega (arith, c.if-other-eq0.false)))

pub scaled-requires-2 : goal.scaled-requires-2
scaled-requires-2 g c =
    let z = g.R.Radix.lawful in
    let a = c.args.self in
    let f = scales_fit z c.args.toward (high_quotient a c.args.other c.args.toward _ _ _ _ c.PLACES.ensures c.BIAS.ensures c.cut_off-2.ensures c.if-other-eq0.false c.FULL.ensures (omega (arith, c.if-top-bottom.false))) in
    record { full = f.0; few = f.1; low = omega (arith, a.low, z) }

pub returns : goal.returns
returns g c =
    let a = c.args.self in
    let b = c.args.other in
    let t = c.args.toward in
    c.scaled-2.ensures _ _ _ _ (high_quotient a b t _ _ _ _ c.PLACES.ensures c.BIAS.ensures c.cut_off-2.ensures c.if-other-eq0.false c.FULL.ensures (omega (arith, c.if-top-bottom.false)))
    ∙ sym (divided_by a b t (omega (arith, c.if-other-eq0.false)))
