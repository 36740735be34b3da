-- Enclosures of quantities whose range is known.
use Rattle.std.specs.Prelude.{◌≡◌, ℕ, ◌<◌, Some, None, Option}
use Rattle.fraction.specs.Fraction.{Fraction, ratio, ◌≼◌}
use Rattle.enclosure.specs.Model.{Model}
use Rattle.enclosure.specs.Close.{Close}

-- e is within the grade n of x, which lies from a / b to c / d
pub record Known {E : Type 0} (m : Model E) (n a b c d : ℕ) (x : Fraction) (e : E) : Type 0 where
  pub close : Close m n x e
  pub least : 0 < b
  pub most : 0 < d
  pub above : ratio a b least ≼ x
  pub below : x ≼ ratio c d most

-- and where nothing is computed, x is 0
abbrev pub Perhaps : {E : Type 0} → Model E → (n a b c d : ℕ) → Fraction → Option E → Type 0
Perhaps m n a b c d x (Some e) = Known m n a b c d x e
Perhaps m n a b c d x None = x.num ≡ 0
