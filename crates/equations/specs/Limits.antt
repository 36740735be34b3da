-- The seven limit states: each asks that its left side is at most its right side.
use Rattle.std.specs.Prelude.{Bool, not, ℕ, ◌==◌}
use Rattle.fraction.specs.Fraction.{Fraction, whole, ◌⊕◌, ◌⊗◌, ◌⊘◌}
use Rattle.equations.specs.Units.{tenths, hundredths, thousandths, squared, cubed}
use Rattle.equations.specs.Design.{Design, inside_diameter, centroid_diameter, outside_diameter, effective_area, wall_moment, short_modulus, long_modulus, compression_limit, tension_limit, fill_depth}
use Rattle.equations.specs.Pressures.{prism_pressure}
use Rattle.equations.specs.Soil.{soil_modulus}
use Rattle.equations.specs.Strains.{thrust_strain, least_strain, service_strain}
use Rattle.equations.specs.Bending.{bending_factor}
use Rattle.equations.specs.Deflection.{deflection}
use Rattle.equations.specs.declared.limit_state.LimitState.{LimitState}
use Rattle.equations.specs.declared.limit_state.LimitState.TheVariants.{Thrust, NetTension, Combined, Deflection, Buckling, Flexibility, Buoyancy}

-- 0.05 g Di/D: strain of bending at a deflection of 5 in 100, before the service strain is taken off
unfoldable pub bending_strain : Design → Fraction
bending_strain d = hundredths 5 ⊗ bending_factor d ⊗ inside_diameter d ⊘ centroid_diameter d

-- εyt + εmin + g εs, and 1.5 εyc + g εs: the service strain stands on the right, so that nothing is subtracted
unfoldable pub tension_allowed : Design → Fraction
tension_allowed d = tension_limit d ⊕ least_strain d ⊕ bending_factor d ⊗ service_strain d

unfoldable pub compression_allowed : Design → Fraction
compression_allowed d = tenths 15 ⊗ compression_limit d ⊕ bending_factor d ⊗ service_strain d

-- 0.462³ Ip/(Aeff³ Elt²) (0.9 Ms 0.4/0.49)² (11.4 H/(11 H + D))³: the cube of the strain at which the wall buckles
unfoldable pub buckling_cube : Design → Fraction
buckling_cube d =
    cubed (thousandths 462) ⊗ (wall_moment d ⊘ (cubed (effective_area d) ⊗ squared (long_modulus d)))
    ⊗ squared (tenths 9 ⊗ soil_modulus d ⊗ (tenths 4 ⊘ hundredths 49))
    ⊗ cubed (tenths 114 ⊗ fill_depth d ⊘ (whole 11 ⊗ fill_depth d ⊕ centroid_diameter d))

-- D²/(Est Ip), in/lbf: flexibility
unfoldable pub flexibility : Design → Fraction
flexibility d = squared (centroid_diameter d) ⊘ (short_modulus d ⊗ wall_moment d)

-- π is taken as 3.141592654
abbrev pub pi : Fraction
pi = whole 3141592654 ⊘ whole 1000000000

-- (π/4) Do² 62.4/1728, lbf/in: uplift; 0.675 Psp Do, lbf/in: what holds the pipe down
unfoldable pub uplift : Design → Fraction
uplift d = pi ⊘ whole 4 ⊗ squared (outside_diameter d) ⊗ tenths 624 ⊘ whole 1728

unfoldable pub hold_down : Design → Fraction
hold_down d = thousandths 675 ⊗ prism_pressure d ⊗ outside_diameter d

-- the left side of each
abbrev pub left : LimitState → Design → Fraction
left Thrust d = thrust_strain d
left NetTension d = bending_strain d
left Combined d = bending_strain d ⊕ thrust_strain d
left Deflection d = deflection d
left Buckling d = cubed (thrust_strain d)
left Flexibility d = flexibility d
left Buoyancy d = uplift d

-- and the right side
abbrev pub right : LimitState → Design → Fraction
right Thrust d = compression_limit d
right NetTension d = tension_allowed d
right Combined d = compression_allowed d
right Deflection d = hundredths 5 ⊗ inside_diameter d
right Buckling d = buckling_cube d
right Flexibility d = thousandths 95
right Buoyancy d = hold_down d

-- the number of each
abbrev pub limit_number : LimitState → ℕ
limit_number Thrust = 1
limit_number NetTension = 2
limit_number Combined = 3
limit_number Deflection = 4
limit_number Buckling = 5
limit_number Flexibility = 6
limit_number Buoyancy = 7

-- buoyancy is asked where there is water
abbrev pub buoyant : Design → Bool
buoyant d = not (d.site.water == 0)
