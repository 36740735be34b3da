-- An enclosure that is narrow around an exact fraction.
use Rattle.std.specs.Prelude.{◌≡◌, ℕ, ◌*◌, ◌^◌, Bool, ◌&&◌, nat_le}
use Rattle.std.proofs.Common.{lit<}
use Rattle.fraction.specs.Fraction.{Fraction, ratio, whole, ◌≼◌}
use Rattle.fraction.specs.Graded.{Within}
use Rattle.enclosure.specs.Model.{Model, at}
use Rattle.enclosure.specs.Formula.{Made}

-- 10 ^ -35 ≤ x ≤ 10 ^ 35: far enough from where fineness ends that the ends of a narrow enclosure are inside too
pub record Tame (x : Fraction) : Type 0 where
  pub low : ratio 1 (10 ^ 35) (lit< tt) ≼ x
  pub high : x ≼ whole (10 ^ 35)

-- e was made from whole numbers, contains x, and each end is within the grade n of x
pub record Close {E : Type 0} (m : Model E) (n : ℕ) (x : Fraction) (e : E) : Type 0 where
  pub top : Fraction
  pub is : m.upper e ≡ at top
  pub low : m.lower e ≼ x
  pub high : x ≼ top
  pub near : Within m.fineness n x (m.lower e)
  pub far : Within m.fineness n top x
  pub tame : Tame x
  pub made : Made m e

-- whether a grade is at most 100000, a lower bound at least 10 ^ -35 and an upper bound at most 10 ^ 35: what the
-- closeness of a formula is proved within
abbrev pub in_range : (n : ℕ) (low high : Fraction) → Bool
in_range n low high = nat_le n 100000 && (nat_le low.den (low.num * 10 ^ 35) && nat_le high.num (10 ^ 35 * high.den))
