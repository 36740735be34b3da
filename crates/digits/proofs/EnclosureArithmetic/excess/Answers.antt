use Rattle.std.proofs.Common.{◌≡◌, ap, ◌∙◌, rules}
use Rattle.rounding.specs.Pairs.{lower_excess, upper_excess}
use Rattle.rounding.specs.Rounded.{or_zero}
use Rattle.rounding.proofs.Orders.{excess_ordered}
use Rattle.digits.specs.Meaning.{is_ordered}
use Rattle.digits.proofs.Spans.{matched, ordered_by, same_span}
use Rattle.digits.proofs.EnclosureArithmetic.excess.Goals as goal

pub spanning-requires : goal.spanning-requires
spanning-requires g c =
    let a = c.args.self in
    let b = c.args.other in
    ordered_by (excess_ordered g.R.Radix a.lower b.lower a.upper b.upper (is_ordered a) (is_ordered b))
    (matched (λ k. or_zero c.and_then.result ≡ lower_excess a.lower k) (ap or_zero) (λ x p. search rules) b.upper c.and_then.ensures)
    (matched (λ h. c.and_then-2.result ≡ upper_excess h b.lower) (λ e. e) (λ x p. search rules) a.upper c.and_then-2.ensures)

pub returns : goal.returns
returns g c =
    let a = c.args.self in
    let b = c.args.other in
    same_span _ _
    (c.spanning.ensures.lower ∙ matched (λ k. or_zero c.and_then.result ≡ lower_excess a.lower k) (ap or_zero) (λ x p. search rules) b.upper c.and_then.ensures)
    (c.spanning.ensures.upper ∙ matched (λ h. c.and_then-2.result ≡ upper_excess h b.lower) (λ e. e) (λ x p. search rules) a.upper c.and_then-2.ensures)
