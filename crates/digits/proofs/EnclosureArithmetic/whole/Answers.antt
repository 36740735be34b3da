use Rattle.std.proofs.Common.{◌≡◌, ap, ◌∙◌, arith}
use Rattle.rounding.specs.Rounded.{or_zero, whole_end}
use Rattle.rounding.specs.declared.rounding.Rounding.TheVariants.{Down, Up}
use Rattle.rounding.proofs.Orders.{whole_ordered}
use Rattle.digits.proofs.Spans.{ordered_by, same_span}
use Rattle.digits.proofs.EnclosureArithmetic.whole.Goals as goal

pub spanning-requires : goal.spanning-requires
spanning-requires g c =
    let l : c.whole.result ≡ whole_end Down c.args.n = grind arith in
    let h : c.whole-2.result ≡ whole_end Up c.args.n = grind arith in
    ordered_by (whole_ordered g.R.Radix c.args.n) (ap or_zero l) h

pub returns : goal.returns
returns g c =
    let l : c.whole.result ≡ whole_end Down c.args.n = grind arith in
    let h : c.whole-2.result ≡ whole_end Up c.args.n = grind arith in
    same_span _ _ (c.spanning.ensures.lower ∙ ap or_zero l) (c.spanning.ensures.upper ∙ h)
