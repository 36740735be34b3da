-- Whole parts, rounded down or up.
use Rattle.std.specs.Prelude.{ℕ, ◌+◌, ◌-◌, ◌/◌}
use Rattle.rounding.specs.declared.rounding.Rounding.{Rounding}
use Rattle.rounding.specs.declared.rounding.Rounding.TheVariants.{Down, Up}

-- n / d, rounded to a whole number
abbrev pub cut : Rounding → ℕ → ℕ → ℕ
cut Down n d = n / d
cut Up n d = (n + (d - 1)) / d

-- the other way, as for what is taken away
abbrev pub turned : Rounding → Rounding
turned Down = Up
turned Up = Down
