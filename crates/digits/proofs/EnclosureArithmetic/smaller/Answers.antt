use Rattle.std.proofs.Common.{◌≡◌, Some, None, ap, ◌∙◌, rules}
use Rattle.std.specs.Option.{option_or}
use Rattle.rounding.specs.Pairs.{smaller_upper}
use Rattle.digits.proofs.Spans.{zipped, same_span}
use Rattle.digits.proofs.EnclosureArithmetic.smaller.Goals as goal

pub returns : goal.returns
returns g c =
    same_span _ _ c.smaller_end.ensures
    (c.or-2.ensures ∙ ap (λ x. option_or x c.args.other.upper) c.or.ensures
    ∙ zipped _ (λ h k. option_or (option_or c.map.result h) k ≡ smaller_upper h k)
    (λ k e. ap (λ r. option_or (option_or r None) k) e) (λ x e. ap (λ r. option_or (option_or r (Some x)) None) e) (λ x y p. search rules)
    c.args.self.upper c.args.other.upper c.zip.ensures c.map.ensures.cases)
