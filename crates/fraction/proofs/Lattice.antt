-- The smaller and the larger of two fractions.
use Rattle.std.proofs.Common.{◌≡◌, ℕ, ◌-◌, ◌*◌, ◌<◌, ◌≤◌, min, max, mul-le-mul_right, arith, lit<}
use mathlib.Core.Logic.{dite}
use native.Mathlib.Decide.{dec_le}
use Rattle.fraction.specs.Fraction.{Fraction, ◌⊔◌, ◌⊓◌, ◌≼◌}
use Rattle.fraction.specs.Graded.{Within}
use Rattle.fraction.proofs.Graded as graded

min_cases : (a b p q : ℕ) → q ≤ a * p → q ≤ b * p → q ≤ min a b * p
min_cases a b p q u v =
    dite (dec_le a b)
    (λ le. let e : min a b ≡ a = omega arith in rw e u)
    (λ gt. let e : min a b ≡ b = omega arith in rw e v)

pub max_cases : (a b p q : ℕ) → a * p ≤ q → b * p ≤ q → max a b * p ≤ q
max_cases a b p q u v =
    dite (dec_le a b)
    (λ le. let e : max a b ≡ b = omega arith in rw e v)
    (λ gt. let e : max a b ≡ a = omega arith in rw e u)

-- each is on its side of both
pub smaller_first : (x y : Fraction) → x ⊓ y ≼ x
unfolding ◌⊓◌
smaller_first x y =
    let h : min (x.num * y.den) (y.num * x.den) ≤ x.num * y.den = omega arith in record { cross = omega (arith, mul-le-mul_right x.den h) }

pub smaller_second : (x y : Fraction) → x ⊓ y ≼ y
unfolding ◌⊓◌
smaller_second x y =
    let h : min (x.num * y.den) (y.num * x.den) ≤ y.num * x.den = omega arith in record { cross = omega (arith, mul-le-mul_right y.den h) }

pub larger_first : (x y : Fraction) → x ≼ x ⊔ y
unfolding ◌⊔◌
larger_first x y =
    let h : x.num * y.den ≤ max (x.num * y.den) (y.num * x.den) = omega arith in record { cross = omega (arith, mul-le-mul_right x.den h) }

pub larger_second : (x y : Fraction) → y ≼ x ⊔ y
unfolding ◌⊔◌
larger_second x y =
    let h : y.num * x.den ≤ max (x.num * y.den) (y.num * x.den) = omega arith in record { cross = omega (arith, mul-le-mul_right y.den h) }

-- and the nearest such: at any grade, so in the order too
module _ {w n : ℕ} where
  pub within_smaller : {z x y : Fraction} → Within w n z x → Within w n z y → Within w n z (x ⊓ y)
  unfolding ◌⊓◌
  within_smaller {z} {x} {y} a b =
      let m = min_cases (x.num * y.den) (y.num * x.den) (z.den * w) (z.num * (x.den * y.den) * (w - n)) (omega (arith, mul-le-mul_right y.den a.cross)) (omega (arith, mul-le-mul_right x.den b.cross)) in
      record { cross = omega (arith, m) }

  pub larger_within : {x y z : Fraction} → Within w n x z → Within w n y z → Within w n (x ⊔ y) z
  unfolding ◌⊔◌
  larger_within {x} {y} {z} a b =
      let m = max_cases (x.num * y.den) (y.num * x.den) (z.den * (w - n)) (z.num * (x.den * y.den) * w) (omega (arith, mul-le-mul_right y.den a.cross)) (omega (arith, mul-le-mul_right x.den b.cross)) in
      record { cross = omega (arith, m) }

  pub smaller : {x y u v : Fraction} → 0 < w → Within w n x y → Within w n u v → Within w n (x ⊓ u) (y ⊓ v)
  smaller {x} {y} {u} {v} big a b = within_smaller (graded.after big (smaller_first x u) a) (graded.after big (smaller_second x u) b)

  pub larger : {x y u v : Fraction} → 0 < w → Within w n x y → Within w n u v → Within w n (x ⊔ u) (y ⊔ v)
  larger {x} {y} {u} {v} big a b = larger_within (graded.before big a (larger_first y v)) (graded.before big b (larger_second y v))

one : 0 < 1
one = lit< tt

pub le_smaller : {z x y : Fraction} → z ≼ x → z ≼ y → z ≼ x ⊓ y
le_smaller a b = graded.plain one (within_smaller (graded.exact a) (graded.exact b))

pub larger_le : {x y z : Fraction} → x ≼ z → y ≼ z → x ⊔ y ≼ z
larger_le a b = graded.plain one (larger_within (graded.exact a) (graded.exact b))

pub smaller_mono : {x y u v : Fraction} → x ≼ y → u ≼ v → x ⊓ u ≼ y ⊓ v
smaller_mono a b = graded.plain one (smaller one (graded.exact a) (graded.exact b))

pub larger_mono : {x y u v : Fraction} → x ≼ y → u ≼ v → x ⊔ u ≼ y ⊔ v
larger_mono a b = graded.plain one (larger one (graded.exact a) (graded.exact b))
