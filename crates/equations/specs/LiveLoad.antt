-- What rolls over the pipe: each kind's pressure at the crown, its spread, its load factor and the modulus that answers it.
use Rattle.std.specs.Prelude.{Bool, false, cond}
use Rattle.fraction.specs.Fraction.{Fraction, whole, ◌⊕◌, ◌⊗◌, ◌⊘◌, ◌⊖◌}
use Rattle.fraction.specs.Ratio.{at_most}
use Rattle.records.specs.declared.site.LiveLoad.{LiveLoad}
use Rattle.records.specs.declared.site.LiveLoad.TheVariants.{None, Truck}
use Rattle.equations.specs.Units.{tenths, hundredths}
use Rattle.equations.specs.Design.{Design, inside_diameter, fill_depth, short_modulus}

-- ℓ = 10 + 1.15 H, in: length of the load at the crown
unfoldable pub live_length : Design → Fraction
live_length d = whole 10 ⊕ hundredths 115 ⊗ fill_depth d

-- 20 + 1.15 H + 0.06 Di, in: width at the crown under one wheel
unfoldable pub wheel_width : Design → Fraction
wheel_width d = whole 20 ⊕ hundredths 115 ⊗ fill_depth d ⊕ hundredths 6 ⊗ inside_diameter d

-- whether two wheels act: one does where that width is below 72
unfoldable pub wheels_pair : Design → Bool
wheels_pair d = at_most (whole 72) (wheel_width d)

-- lbf: 16,000 of one wheel
unfoldable pub wheel_load : Design → Fraction
wheel_load d = cond (wheels_pair d) (whole 32000) (whole 16000)

-- w, in: 72 more under two wheels
unfoldable pub live_width : Design → Fraction
live_width d = cond (wheels_pair d) (wheel_width d ⊕ whole 72) (wheel_width d)

-- 1 + 0.33 (1 - H/96): what rolling adds
unfoldable pub impact : Design → Fraction
impact d = whole 1 ⊕ hundredths 33 ⊗ (whole 1 ⊖ fill_depth d ⊘ whole 96)

-- 1.2 (1 + 0.33 (1 - H/96)) load / (ℓ w), psi, where H ≤ 96
unfoldable pub truck_pressure : Design → Fraction
truck_pressure d = tenths 12 ⊗ impact d ⊗ (wheel_load d ⊘ (live_length d ⊗ live_width d))

-- whether a load of this kind counts: a truck up to 96 inches of fill
abbrev pub counts : LiveLoad → Fraction → Bool
counts None h = false
counts Truck h = at_most h (whole 96)

-- PL, psi: 0 of a load that does not count
unfoldable pub live_pressure : Design → Fraction
live_pressure d = cond (counts d.site.live_load (fill_depth d)) (truck_pressure d) (whole 0)

-- γLL: load factor
abbrev pub live_factor : Fraction
live_factor = hundredths 175

-- Ev, psi: the pipe's modulus under the load
abbrev pub live_modulus : Design → Fraction
live_modulus d = short_modulus d
