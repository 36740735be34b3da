-- A ratio in millionths, enclosed.
use Rattle.std.proofs.Common.{◌^◌, ◌<◌, lit≤}
use Rattle.fraction.specs.Fraction.{whole, ratio, ◌⊗◌, ◌⊘◌, Same}
use Rattle.fraction.specs.Ratio.{value}
use Rattle.fraction.specs.declared.ratio.Ratio.{Ratio}
use Rattle.fraction.proofs.Sames as same
use Rattle.enclosure.specs.Model.{Model, Sound, Encloses}
use Rattle.enclosure.specs.Formula.{computed, wide_of}
use Rattle.enclosure.proofs.Closeness.{encloses_along}
use Rattle.enclosure.proofs.WideNumbers.{wide_in}

divided : (x : Ratio) → Same (whole x.num ⊘ whole x.den) (value x)
unfolding ratio
divided x = same.whole_over x.num x.den x.positive

some : (x : Ratio) → 0 < (whole x.den).num
unfolding whole
some x = x.positive

module _ {E : Type 0} {m : Model E} (s : Sound m) where
  pub enclosed : (x : Ratio) → x.num < 2 ^ 128 → x.den < 2 ^ 128 → Encloses m (m.product (m.quotient (wide_of (computed m) x.num) (wide_of (computed m) x.den)) (m.from_whole (10 ^ 6))) (value x ⊗ whole (10 ^ 6))
  enclosed x hn hd =
      encloses_along (same.times (divided x) (same.refl (whole (10 ^ 6))))
      (s.product_in _ _ _ _ (s.quotient_in _ _ _ _ (some x) (wide_in s x.num hn) (wide_in s x.den hd)) (s.whole_in (10 ^ 6) (lit≤ tt)))
