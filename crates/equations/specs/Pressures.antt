-- What soil and water press on the pipe.
use Rattle.std.specs.Prelude.{cond}
use Rattle.fraction.specs.Fraction.{Fraction, whole, ◌⊕◌, ◌⊗◌, ◌⊘◌, ◌⊖◌, ◌⊓◌}
use Rattle.fraction.specs.Ratio.{at_most}
use Rattle.equations.specs.Units.{tenths, hundredths}
use Rattle.equations.specs.Design.{Design, outside_diameter, fill_depth, water_depth, moist_weight, saturated_weight, water_factor}

-- a = Hw - Do/2, in: water above the crown
unfoldable pub crown_water : Design → Fraction
crown_water d = water_depth d ⊖ outside_diameter d ⊘ whole 2

-- (H + 0.11 Do) γs / 1728, psi
unfoldable pub dry_prism : Design → Fraction
dry_prism d = (fill_depth d ⊕ hundredths 11 ⊗ outside_diameter d) ⊗ moist_weight d ⊘ whole 1728

-- ((H - a) γs + (a + 0.11 Do) (γsat - 62.4)) / 1728, psi
unfoldable pub wet_prism : Design → Fraction
wet_prism d =
    ((fill_depth d ⊖ crown_water d) ⊗ moist_weight d ⊕ (crown_water d ⊕ hundredths 11 ⊗ outside_diameter d) ⊗ (saturated_weight d ⊖ tenths 624)) ⊘ whole 1728

-- Psp, psi: pressure of the soil prism, dry where Hw ≤ Do/2
unfoldable pub prism_pressure : Design → Fraction
prism_pressure d = cond (at_most (water_depth d) (outside_diameter d ⊘ whole 2)) (dry_prism d) (wet_prism d)

-- Pw = 62.4 min(Kw Hw, H + Do/2) / 1728, psi: hydrostatic pressure
unfoldable pub water_pressure : Design → Fraction
water_pressure d = tenths 624 ⊗ (water_factor d ⊗ water_depth d ⊓ (fill_depth d ⊕ outside_diameter d ⊘ whole 2)) ⊘ whole 1728
