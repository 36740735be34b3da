-- What makes a site lawful.
use Rattle.std.specs.Prelude.{ℕ, cond, List, [], ◌∷◌, length, Some, Option, ◌==◌}
use Rattle.records.specs.declared.fault.Cause.TheVariants.{Writing}
use Rattle.records.specs.declared.fields.Allowed.{Allowed}
use Rattle.records.specs.declared.fields.Allowed.TheVariants.{Between, Among}
use Rattle.records.specs.Cause.{Refusal, refusal}
use Rattle.records.specs.Fields.{outside}

-- what each of the ten fields may hold
abbrev pub site_ranges : List Allowed
site_ranges =
    -- fill, trench width and water above the springline: mil
    Between 12001 1200000 ∷ Between 1 1200000 ∷ Between 0 1260000
    -- moist and saturated weight: tenths of pcf
    ∷ Between 500 2000 ∷ Between 800 2000
    -- water factor and installation factor: hundredths
    ∷ Between 100 130 ∷ Among 115 135 150
    -- native modulus: psi
    ∷ Between 50 50000
    -- walls: 1 stable, 0 not; live load: 0 none, 1 truck
    ∷ Between 0 1 ∷ Between 0 1 ∷ []

-- why the numbers make no site
abbrev pub site_refusal : List ℕ → Option Refusal
site_refusal ns = cond (length ns == 10) (outside site_ranges 2 ns) (Some (refusal Writing 0))
