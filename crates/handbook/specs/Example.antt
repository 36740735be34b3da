-- The worked example's pressures, and what is said of them.
use Rattle.std.specs.Prelude.{ℕ, ◌*◌, ◌^◌, Bool, ◌&&◌, Option, nat_le}
use Rattle.std.proofs.Common.{lit<}
use Rattle.fraction.specs.Fraction.{Fraction, whole, ◌⊗◌}
use Rattle.fraction.specs.Ratio.{value, at_most}
use Rattle.enclosure.specs.Readings.{Under, Over}
use Rattle.fraction.specs.declared.ratio.Ratio.{Ratio}

-- ((180 - 75.5) 120 + (75.5 + 0.11 41) (136 - 62.4)) / 1728 psi, which is 18428.736 / 1728
abbrev pub prism_pressure : Fraction
prism_pressure = record { num = 18428736; den = 1728000; pos = lit< tt }

-- 62.4 124.8 / 1728 psi: 1.3 of the water's 96 inches, less than the ground's 200.5
abbrev pub hydrostatic_pressure : Fraction
hydrostatic_pressure = record { num = 624 * 1248; den = 172800; pos = lit< tt }

-- the two numbers bound the ratio in millionths
abbrev pub Bounded : Ratio → Option ℕ × Option ℕ → Type 0
Bounded x b = Under b.0 (value x ⊗ whole (10 ^ 6)) × Over b.1 (value x ⊗ whole (10 ^ 6))

-- from 98 to 102 hundredths of the printed tenths
abbrev pub agrees : Fraction → ℕ → Bool
agrees x printed =
    at_most (record { num = 98 * printed; den = 1000; pos = lit< tt }) x && at_most x (record { num = 102 * printed; den = 1000; pos = lit< tt })

-- the same of bounds a and b, and of printed millionths
abbrev pub bounds_agree : (a b printed : ℕ) → Bool
bounds_agree a b printed = nat_le (98 * printed) (100 * a) && nat_le (100 * b) (102 * printed)
