use Rattle.std.proofs.Common.{◌≡◌, rules}
use Rattle.rounding.specs.Pairs.{larger_upper}
use Rattle.digits.proofs.Spans.{zipped, same_span}
use Rattle.digits.proofs.EnclosureArithmetic.larger.Goals as goal

pub returns : goal.returns
returns g c =
    same_span _ _ c.larger_end.ensures
    (zipped _ (λ h k. c.map.result ≡ larger_upper h k) (λ k e. e) (λ x e. e) (λ x y p. search rules) c.args.self.upper c.args.other.upper c.zip.ensures c.map.ensures.cases)
