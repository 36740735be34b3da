use Rattle.std.proofs.Common.{◌≡◌, ◌+◌, ◌-◌, ◌*◌, ◌^◌, Some, sym, ap, ◌∙◌, mul-le-mul_left, arith}
use Rattle.rounding.specs.Cut.{cut}
use Rattle.rounding.proofs.Rounds.{rounded_none}
use Rattle.rounding.proofs.Sums.{sum_full, sum_none, sum_stands, rest_few}
use Rattle.rounding.proofs.end.End.sum.Goals as goal

pub returns-then-m-eq0 : goal.returns-then-m-eq0
returns-then-m-eq0 g c =
    let a = c.args.large in
    let b = c.args.small in
    let t = c.args.toward in
    let m : a.digits + cut t b.digits (g.R.Radix.BASE ^ (a.exponent - b.exponent)) ≡ 0 = ap (λ x. a.digits + x) (sym c.dropped.ensures) ∙ c.if-m-eq0.true in
    ap Some c.zero.ensures ∙ sym (rounded_none g.R.Radix _ 1 (omega arith) t (sum_none a b t c.requires m))

pub placed-requires : goal.placed-requires
placed-requires g c =
    let r = g.R.Radix in
    let z = r.lawful in
    let a = c.args.large in
    let b = c.args.small in
    let t = c.args.toward in
    let e = c.dropped.ensures in
    let f = sum_full a b t c.requires (λ h. c.if-m-eq0.false (ap (λ x. a.digits + x) e ∙ h)) in
    let few = rest_few a b t (a.exponent - b.exponent) in
    let two = mul-le-mul_left (r.FULL * r.BASE - 1) z.0.0 in
    record { full = omega (arith, f.0); few = omega (arith, a.few); low = omega (arith, z) }

pub returns : goal.returns
returns g c =
    let a = c.args.large in
    let b = c.args.small in
    let t = c.args.toward in
    let e = c.dropped.ensures in
    let f = sum_full a b t c.requires (λ h. c.if-m-eq0.false (ap (λ x. a.digits + x) e ∙ h)) in
    c.placed.ensures _ 1 (sum_stands g.R.Radix.lawful t a.digits a.exponent b.digits b.exponent _ c.requires (ap (λ x. a.digits + x) e) f.1)
