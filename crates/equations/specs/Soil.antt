-- How the soil supports the pipe.
use Rattle.std.specs.Prelude.{Bool, cond, not, ◌&&◌, ◌||◌}
use Rattle.fraction.specs.Fraction.{Fraction, whole, ◌⊗◌, ◌⊘◌}
use Rattle.fraction.specs.Ratio.{at_most}
use Rattle.lookups.specs.Lookup.{modulus_at, support_at}
use Rattle.equations.specs.Design.{Design, outside_diameter, fill_depth, trench_width, native_modulus}
use Rattle.equations.specs.Pressures.{prism_pressure}

-- Msb, psi: modulus of the embedment at the prism pressure
unfoldable pub embedment_modulus : Design → Fraction
embedment_modulus d = modulus_at d.embedment (prism_pressure d)

-- whether nothing of the embedment's modulus is lost: Bd ≥ 3 Do, or H < 120 between stable walls
unfoldable pub fully_supported : Design → Bool
fully_supported d =
    at_most (whole 3 ⊗ outside_diameter d) (trench_width d) || (not (at_most (whole 120) (fill_depth d)) && d.site.stable_walls)

-- Sc: support factor, the grid at (Bd/Do, Msn/Msb) where support is not full; both widths are in mil
unfoldable pub support_factor : Design → Fraction
support_factor d =
    cond (fully_supported d) (whole 1)
    (support_at d.widths d.ratios d.factors (whole d.site.trench ⊘ whole d.section.outside) (native_modulus d ⊘ embedment_modulus d))

-- Ms = Sc Msb, psi: modulus of the soil
unfoldable pub soil_modulus : Design → Fraction
soil_modulus d = support_factor d ⊗ embedment_modulus d
