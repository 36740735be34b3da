-- How far the pipe flattens.
use Rattle.fraction.specs.Fraction.{Fraction, whole, ◌⊕◌, ◌⊗◌, ◌⊘◌}
use Rattle.equations.specs.Units.{tenths, hundredths, thousandths, cubed}
use Rattle.equations.specs.Design.{Design, centroid_diameter, outside_diameter, wall_moment, long_modulus}
use Rattle.equations.specs.Pressures.{prism_pressure}
use Rattle.equations.specs.LiveLoad.{live_pressure, live_modulus}
use Rattle.equations.specs.Soil.{soil_modulus}
use Rattle.equations.specs.Thrust.{length_share}
use Rattle.equations.specs.Strains.{service_strain}

-- E Ip / (D/2)³ + 0.061 Ms, psi: what resists, at the modulus E
unfoldable pub resistance : Design → Fraction → Fraction
resistance d e = e ⊗ wall_moment d ⊘ cubed (centroid_diameter d ⊘ whole 2) ⊕ thousandths 61 ⊗ soil_modulus d

-- 0.15 Psp Do / (Elt Ip/(D/2)³ + 0.061 Ms), in: under the soil
unfoldable pub soil_deflection : Design → Fraction
soil_deflection d = hundredths 15 ⊗ prism_pressure d ⊗ outside_diameter d ⊘ resistance d (long_modulus d)

-- 0.1 CL PL Do / (Ev Ip/(D/2)³ + 0.061 Ms), in: under the live load
unfoldable pub live_deflection : Design → Fraction
live_deflection d = tenths 1 ⊗ length_share d ⊗ live_pressure d ⊗ outside_diameter d ⊘ resistance d (live_modulus d)

-- Δ, in: these two, and D εs by which the ring shortens
unfoldable pub deflection : Design → Fraction
deflection d = soil_deflection d ⊕ live_deflection d ⊕ centroid_diameter d ⊗ service_strain d
