-- An arithmetic by the numbers of its radix.
use Rattle.std.specs.Prelude.{◌≡◌, ℕ, ◌+◌}
use Rattle.enclosure.specs.Model.{Model}
use Rattle.rounding.specs.declared.radix.Radix.{Ghosts}
use Rattle.digits.specs.Meaning.{model_of}
use Rattle.digits.specs.declared.span.Enclosure.{Enclosure}

-- the arithmetic of significands with so many digits to a base, in units of 1 / base ^ bias
pub record IsOfDigits {R : Type 0} {g : Ghosts R} (m : Model (Enclosure R g)) (digits base fineness bias : ℕ) : Type 0 where
  pub model : m ≡ model_of
  pub base_is : g.BASE ≡ base
  pub digits_are : g.PLACES + 1 ≡ digits
  pub fineness_is : m.fineness ≡ fineness
  pub bias_is : g.BIAS ≡ bias
