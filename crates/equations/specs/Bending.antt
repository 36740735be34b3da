-- How far the wall bends with the pipe's deflection.
use Rattle.std.specs.Prelude.{cond, ◌==◌}
use Rattle.fraction.specs.Fraction.{Fraction, whole, ◌⊗◌, ◌⊘◌, ◌⊖◌, ◌⊔◌}
use Rattle.lookups.specs.Lookup.{shape_at}
use Rattle.equations.specs.Units.{hundredths, thousandths, cubed}
use Rattle.equations.specs.Design.{Design, inside_diameter, centroid_diameter, outside_diameter, wall_moment, short_modulus}
use Rattle.equations.specs.Thrust.{load_factor}

-- Est Ip / (0.149 (D/2)³), psi
unfoldable pub computed_stiffness : Design → Fraction
computed_stiffness d = short_modulus d ⊗ wall_moment d ⊘ (thousandths 149 ⊗ cubed (centroid_diameter d ⊘ whole 2))

-- PS, psi: pipe stiffness, as the section gives it, or computed where it gives 0
unfoldable pub pipe_stiffness : Design → Fraction
pipe_stiffness d = cond (d.section.stiffness == 0) (computed_stiffness d) (hundredths d.section.stiffness)

-- Df: shape factor at the pipe stiffness
unfoldable pub shape_factor : Design → Fraction
shape_factor d = shape_at d.shape (pipe_stiffness d)

-- max(Do - D, D - Di), in: twice the distance from the centroid to the farther face of the wall
unfoldable pub farther_face : Design → Fraction
farther_face d = (outside_diameter d ⊖ centroid_diameter d) ⊔ (centroid_diameter d ⊖ inside_diameter d)

-- g = γ Df max(Do - D, D - Di) / D: bending factor
unfoldable pub bending_factor : Design → Fraction
bending_factor d = load_factor d ⊗ shape_factor d ⊗ farther_face d ⊘ centroid_diameter d
