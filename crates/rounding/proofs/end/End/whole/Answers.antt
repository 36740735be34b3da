use Rattle.std.proofs.Common.{◌*◌, ◌^◌, Some, sym, ap, ◌∙◌, zero-mul, arith}
use Rattle.rounding.proofs.Rounds.{rounded_none, whole_within}
use Rattle.rounding.proofs.Sums.{whole_stands}
use Rattle.rounding.proofs.end.End.whole.Goals as goal

pub returns-then-n-eq0 : goal.returns-then-n-eq0
returns-then-n-eq0 g c =
    let r = g.R.Radix in
    let t = c.args.toward in
    ap Some c.zero.ensures
    ∙ sym (rounded_none r _ 1 (omega arith) t (ap (λ x. x * r.BASE ^ r.BIAS) c.if-n-eq0.true ∙ zero-mul (r.BASE ^ r.BIAS)))
    ∙ sym (whole_within r t c.args.n c.if-n-gt-WHOLE_MOST.false)

pub returns : goal.returns
returns g c =
    let r = g.R.Radix in
    let t = c.args.toward in
    c.at.ensures t (c.args.n * r.BASE ^ r.BIAS) 1
    (rw c.BIAS-2.ensures (whole_stands r.lawful t c.args.n _ _ (omega arith) c.shed-m.ensures.is c.shed-m.ensures.fills))
    ∙ sym (whole_within r t c.args.n c.if-n-gt-WHOLE_MOST.false)
