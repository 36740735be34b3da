-- Exact non-negative fractions: what every promise about a quantity is stated in.
use Rattle.std.specs.Prelude.{ℕ, ◌+◌, ◌-◌, ◌*◌, ◌<◌, ◌≤◌, min, max}
use Rattle.std.proofs.Common.{mul-pos, arith, lit<}

infixl 65 ◌⊕◌
infixl 65 ◌⊖◌
infixl 60 ◌⊔◌
infixl 60 ◌⊓◌
infixl 70 ◌⊗◌
infixl 70 ◌⊘◌
infix 50 ◌≼◌
infix 50 ◌≺◌
-- a numerator over a denominator above 0, not always in lowest terms
pub record Fraction : Type 0 where
  pub num : ℕ
  pub den : ℕ
  pub pos : 0 < den

-- n over d
unfoldable pub ratio : (n d : ℕ) → 0 < d → Fraction
ratio n d h = record { num = n; den = d; pos = h }

-- the whole number n
unfoldable pub whole : ℕ → Fraction
whole n = record { num = n; den = 1; pos = lit< tt }

-- the sum
unfoldable pub ◌⊕◌ : Fraction → Fraction → Fraction
x ⊕ y = record { num = x.num * y.den + y.num * x.den; den = x.den * y.den; pos = mul-pos x.pos y.pos }

-- the product
unfoldable pub ◌⊗◌ : Fraction → Fraction → Fraction
x ⊗ y = record { num = x.num * y.num; den = x.den * y.den; pos = mul-pos x.pos y.pos }

-- the quotient; by 0 it has some value, and no law speaks of it
unfoldable pub ◌⊘◌ : Fraction → Fraction → Fraction
x ⊘ y = record { num = x.num * y.den; den = x.den * max 1 y.num; pos = mul-pos x.pos (omega arith) }

-- the excess of x over y, 0 where y is not below x
unfoldable pub ◌⊖◌ : Fraction → Fraction → Fraction
x ⊖ y = record { num = x.num * y.den - y.num * x.den; den = x.den * y.den; pos = mul-pos x.pos y.pos }

-- the larger
unfoldable pub ◌⊔◌ : Fraction → Fraction → Fraction
x ⊔ y = record { num = max (x.num * y.den) (y.num * x.den); den = x.den * y.den; pos = mul-pos x.pos y.pos }

-- the smaller
unfoldable pub ◌⊓◌ : Fraction → Fraction → Fraction
x ⊓ y = record { num = min (x.num * y.den) (y.num * x.den); den = x.den * y.den; pos = mul-pos x.pos y.pos }

-- x is at most y
pub record ◌≼◌ (x y : Fraction) : Type 0 where
  pub cross : x.num * y.den ≤ y.num * x.den

-- x is below y
pub record ◌≺◌ (x y : Fraction) : Type 0 where
  pub cross : x.num * y.den < y.num * x.den

-- x and y are one number
pub record Same (x y : Fraction) : Type 0 where
  pub to : x ≼ y
  pub from : y ≼ x
