-- Decimal parts of whole numbers, in which records and equations state their numbers.
use Rattle.std.specs.Prelude.{ℕ}
use Rattle.fraction.specs.Fraction.{Fraction, whole, ◌⊗◌, ◌⊘◌}

abbrev pub tenths : ℕ → Fraction
tenths n = whole n ⊘ whole 10

abbrev pub hundredths : ℕ → Fraction
hundredths n = whole n ⊘ whole 100

abbrev pub thousandths : ℕ → Fraction
thousandths n = whole n ⊘ whole 1000

abbrev pub ten_thousandths : ℕ → Fraction
ten_thousandths n = whole n ⊘ whole 10000

abbrev pub millionths : ℕ → Fraction
millionths n = whole n ⊘ whole 1000000

-- x times itself, and that times x
abbrev pub squared : Fraction → Fraction
squared x = x ⊗ x

abbrev pub cubed : Fraction → Fraction
cubed x = x ⊗ x ⊗ x
