use Rattle.std.proofs.Common.{◌≡◌, ap, ◌∙◌, rules}
use Rattle.rounding.specs.Rounded.{or_zero}
use Rattle.rounding.specs.Pairs.{upper_product}
use Rattle.rounding.proofs.Orders.{product_ordered}
use Rattle.digits.specs.Meaning.{is_ordered}
use Rattle.digits.proofs.Spans.{zipped, ordered_by, same_span}
use Rattle.digits.proofs.EnclosureArithmetic.mul.Goals as goal

pub spanning-requires : goal.spanning-requires
spanning-requires g c =
    let a = c.args.self in
    let b = c.args.other in
    ordered_by (product_ordered g.R.Radix a.lower b.lower a.upper b.upper (is_ordered a) (is_ordered b))
    (ap or_zero c.mul.ensures)
    (zipped _ (λ h k. c.and_then.result ≡ upper_product h k) (λ k e. e) (λ x e. e) (λ x y p. search rules) a.upper b.upper c.zip.ensures c.and_then.ensures)

pub returns : goal.returns
returns g c =
    let a = c.args.self in
    let b = c.args.other in
    same_span _ _ (c.spanning.ensures.lower ∙ ap or_zero c.mul.ensures)
    (c.spanning.ensures.upper ∙ zipped _ (λ h k. c.and_then.result ≡ upper_product h k) (λ k e. e) (λ x e. e) (λ x y p. search rules) a.upper b.upper c.zip.ensures c.and_then.ensures)
