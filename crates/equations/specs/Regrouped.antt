-- The forms in which a computation takes quantities, so that each difference and each decision is one of whole numbers.
use Rattle.std.specs.Prelude.{◌≡◌, cond, ◌&&◌, ◌||◌, ℕ, ◌+◌, ◌-◌, ◌*◌, ◌≤◌, max, nat_le, nat_lt}
use Rattle.fraction.specs.Fraction.{Fraction, whole, ◌⊕◌, ◌⊗◌, ◌⊘◌, Same}
use Rattle.fraction.specs.Ratio.{at_most}
use Rattle.equations.specs.Units.{tenths, hundredths, thousandths, ten_thousandths}
use Rattle.equations.specs.Design.{Design, centroid_diameter, fill_depth}
use Rattle.equations.specs.Pressures.{prism_pressure}
use Rattle.equations.specs.LiveLoad.{impact, wheels_pair}
use Rattle.equations.specs.Soil.{fully_supported}
use Rattle.equations.specs.Thrust.{arching}
use Rattle.equations.specs.Bending.{computed_stiffness, farther_face}

-- the water is not above the ground
abbrev pub Drained : Design → Type 0
Drained d = 2 * d.site.water ≤ 2 * d.site.fill + d.section.outside

-- the prism pressure in units of 1 / 3,456,000,000 psi: of fill h, outside diameter o, moist weight g; and, with t
-- twice the water above the crown, saturated weight s
abbrev pub dry_units : (h o g : ℕ) → ℕ
dry_units h o g = 2 * (100 * h + 11 * o) * g

abbrev pub wet_units : (h o t g s : ℕ) → ℕ
wet_units h o t g s = 100 * (2 * h - t) * g + (100 * t + 22 * o) * (s - 624)

abbrev pub prism_units : Design → ℕ
prism_units d =
    cond (nat_le (2 * d.site.water) d.section.outside)
    (dry_units d.site.fill d.section.outside d.site.moist_weight)
    (wet_units d.site.fill d.section.outside (2 * d.site.water - d.section.outside) d.site.moist_weight d.site.saturated_weight)

-- the wheels' width in hundredths of a mil less 20 inches, and the factor of impact in units of 1 / 9,600,000
abbrev pub wheel_units : Design → ℕ
wheel_units d = 115 * d.site.fill + 6 * d.section.inside

abbrev pub impact_units : Design → ℕ
impact_units d = 12768000 - 33 * d.site.fill

-- the farther face in mil
abbrev pub face_units : Design → ℕ
face_units d = max (d.section.outside - d.section.centroid) (d.section.centroid - d.section.inside)

-- hundredths of psi over 149 D³ mil³
abbrev pub stiffness_units : Design → ℕ
stiffness_units d = 800000000 * d.section.short_modulus * d.section.moment

abbrev pub centroid_cube : Design → ℕ
centroid_cube d = d.section.centroid * d.section.centroid * d.section.centroid

-- each form is the same number, and each decision the same, as in the equations
pub record Regroups (d : Design) : Type 0 where
  pub prism : Drained d → Same (whole (prism_units d) ⊘ whole 3456000000) (prism_pressure d)
  pub arch : (sh : Fraction) → Same (hundredths 5 ⊕ ten_thousandths 29039 ⊘ (sh ⊕ hundredths 292)) (arching sh)
  pub rolling : d.site.fill ≤ 96000 → Same (whole (impact_units d) ⊘ whole 9600000) (impact d)
  pub depth : Same (tenths 114 ⊘ (whole 11 ⊕ centroid_diameter d ⊘ fill_depth d)) (tenths 114 ⊗ fill_depth d ⊘ (whole 11 ⊗ fill_depth d ⊕ centroid_diameter d))
  pub ring : Same (whole (stiffness_units d) ⊘ whole (100 * (149 * centroid_cube d))) (computed_stiffness d)
  pub face : Same (thousandths (face_units d)) (farther_face d)
  pub pair : wheels_pair d ≡ nat_le 5200000 (wheel_units d)
  pub shallow : at_most (fill_depth d) (whole 96) ≡ nat_le d.site.fill 96000
  pub full : fully_supported d ≡ (nat_le (3 * d.section.outside) d.site.trench || (nat_lt d.site.fill 120000 && d.site.stable_walls))

abbrev pub AllRegroup : Type 0
AllRegroup = (d : Design) → Regroups d

-- what the arching factor solves: VAF (SH + 2.92) + 0.71 SH = 0.76 (SH + 2.92) + 0.71 1.17
abbrev pub ArchingLaw : Type 0
ArchingLaw =
    (sh : Fraction) →
    Same (arching sh ⊗ (sh ⊕ hundredths 292) ⊕ hundredths 71 ⊗ sh) (hundredths 76 ⊗ (sh ⊕ hundredths 292) ⊕ hundredths 71 ⊗ hundredths 117)
