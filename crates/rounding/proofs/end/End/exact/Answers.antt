use Rattle.std.proofs.Common.{◌≡◌, ◌*◌, ◌^◌, sym, ap, ◌∙◌, mul-pos, arith}
use native.Mathlib.Nat.{pow-zero}
use Rattle.rounding.proofs.Ends.{power_pos}
use Rattle.rounding.proofs.Sums.{exact_stands}
use Rattle.rounding.proofs.end.End.exact.Goals as goal

pub returns-then-n-FULL : goal.returns-then-n-FULL
returns-then-n-FULL g c N e =
    let b = g.R.Radix.BASE in
    let r = c.raised-n.result in
    let low : r.1 ≡ 0 = c.raised-n.ensures.done (omega arith) in
    let unit : b ^ r.1 ≡ 1 = ap (λ x. b ^ x) low ∙ pow-zero b in
    let is : N ≡ r.0 = e ∙ sym c.raised-n.ensures.same ∙ omega (arith, ap (λ x. r.0 * x) unit) in
    let some = mul-pos c.requires.some (power_pos g.R.Radix.lawful c.args.e) in
    c.slightest.ensures N 1 (omega arith) (omega (arith, e)) (omega arith)

pub returns : goal.returns
returns g c N e = c.placed.ensures N 1 (exact_stands g.R.Radix.lawful c.args.toward N _ _ (e ∙ sym c.raised-n.ensures.same) (omega arith))
