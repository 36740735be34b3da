-- The thrust in the wall.
use Rattle.fraction.specs.Fraction.{Fraction, whole, ◌⊕◌, ◌⊗◌, ◌⊘◌, ◌⊖◌, ◌⊔◌, ◌⊓◌}
use Rattle.equations.specs.Units.{tenths, hundredths}
use Rattle.equations.specs.Design.{Design, inside_diameter, centroid_diameter, outside_diameter, gross_area, long_modulus, installation_factor}
use Rattle.equations.specs.Pressures.{prism_pressure, water_pressure}
use Rattle.equations.specs.LiveLoad.{live_length, live_pressure}
use Rattle.equations.specs.Soil.{soil_modulus}

-- SH = 0.9 Ms (D/2) / (Elt Ag): hoop stiffness factor
unfoldable pub hoop_stiffness : Design → Fraction
hoop_stiffness d = tenths 9 ⊗ soil_modulus d ⊗ (centroid_diameter d ⊘ whole 2) ⊘ (long_modulus d ⊗ gross_area d)

-- 0.76 - 0.71 (SH - 1.17) / (SH + 2.92), over one divisor, since SH - 1.17 may be below zero
unfoldable pub arching : Fraction → Fraction
arching sh = (hundredths 76 ⊗ (sh ⊕ hundredths 292) ⊕ hundredths 71 ⊗ hundredths 117 ⊖ hundredths 71 ⊗ sh) ⊘ (sh ⊕ hundredths 292)

-- VAF: vertical arching factor
unfoldable pub vertical_arching : Design → Fraction
vertical_arching d = arching (hoop_stiffness d)

-- γ = 1.3 KγE: load factor of the soil
unfoldable pub load_factor : Design → Fraction
load_factor d = tenths 13 ⊗ installation_factor d

-- CL = min(ℓ/Do, 1): share of the pipe under the live load
unfoldable pub length_share : Design → Fraction
length_share d = live_length d ⊘ outside_diameter d ⊓ whole 1

-- F1 = max(0.75 Do/ℓ, 15/Di, 1)
unfoldable pub spread_factor : Design → Fraction
spread_factor d = (hundredths 75 ⊗ outside_diameter d ⊘ live_length d ⊔ whole 15 ⊘ inside_diameter d) ⊔ whole 1

-- F2 = 0.95 / (1 + 0.6 SH)
unfoldable pub hoop_factor : Design → Fraction
hoop_factor d = hundredths 95 ⊘ (whole 1 ⊕ tenths 6 ⊗ hoop_stiffness d)

-- Q = CL F1 F2 PL Do/2, lbf/in: thrust of the live load
unfoldable pub live_thrust : Design → Fraction
live_thrust d = length_share d ⊗ spread_factor d ⊗ hoop_factor d ⊗ live_pressure d ⊗ outside_diameter d ⊘ whole 2

-- TD = 1.05 (γ VAF Psp + Pw) Do/2, lbf/in: design thrust
unfoldable pub design_thrust : Design → Fraction
design_thrust d =
    hundredths 105 ⊗ (load_factor d ⊗ vertical_arching d ⊗ prism_pressure d ⊕ water_pressure d) ⊗ outside_diameter d ⊘ whole 2

-- Tmin = (0.54 VAF Psp + Pw) Do/2, lbf/in: least thrust
unfoldable pub least_thrust : Design → Fraction
least_thrust d = (hundredths 54 ⊗ vertical_arching d ⊗ prism_pressure d ⊕ water_pressure d) ⊗ outside_diameter d ⊘ whole 2

-- TS = (VAF Psp + Pw) Do/2, lbf/in: service thrust
unfoldable pub service_thrust : Design → Fraction
service_thrust d = (vertical_arching d ⊗ prism_pressure d ⊕ water_pressure d) ⊗ outside_diameter d ⊘ whole 2
