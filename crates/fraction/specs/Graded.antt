-- The graded order, by which errors are counted, and closeness on it.
use Rattle.std.specs.Prelude.{ℕ, ◌-◌, ◌*◌, ◌≤◌}
use Rattle.fraction.specs.Fraction.{Fraction, whole, ◌⊗◌, ◌⊖◌, ◌⊔◌, ◌≼◌}

-- x is at most y, but for n / w of x: x (1 - n / w) ≤ y
pub record Within (w n : ℕ) (x y : Fraction) : Type 0 where
  pub cross : x.num * y.den * (w - n) ≤ y.num * x.den * w

-- x and y differ by at most k / w of the larger
pub record Band (w k : ℕ) (x y : Fraction) : Type 0 where
  pub above : (x ⊖ y) ⊗ whole w ≼ (x ⊔ y) ⊗ whole k
  pub below : (y ⊖ x) ⊗ whole w ≼ (x ⊔ y) ⊗ whole k
