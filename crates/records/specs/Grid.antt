-- What makes a support grid lawful.
use Rattle.std.specs.Prelude.{ℕ, ◌+◌, ◌*◌, Bool, cond, ◌&&◌, List, [], ◌∷◌, ◌++◌, length, take, drop, Some, None, Option, ◌==◌, nat_lt, slice_index}
use Rattle.std.specs.List.{list_all, range_with_len}
use Rattle.records.specs.declared.fault.Cause.TheVariants.{Order, Steep, Writing}
use Rattle.records.specs.declared.fields.Allowed.TheVariants.{Between}
use Rattle.records.specs.declared.point.Point.{Point}
use Rattle.records.specs.declared.point.Rule.{Rule}
use Rattle.records.specs.declared.point.Rule.TheVariants.{NeverFalling, Gentle}
use Rattle.records.specs.Cause.{Refusal, refusal, first, none}
use Rattle.records.specs.Curve.{chained, holds}
use Rattle.records.specs.Fields.{outside}

-- each number is above the one before
abbrev pub rising : List ℕ → Bool
rising ns = chained nat_lt ns

-- the curve over the modulus ratios at the i-th of w widths; the factors stand in rows of w, a row for each ratio
abbrev pub column : ℕ → ℕ → List ℕ → List ℕ → List Point
column w i [] factors = []
column w i (m ∷ ms) factors = record { x = m; y = slice_index factors i } ∷ column w i ms (drop w factors)

-- a rule holds along the modulus ratio at every width
abbrev pub columns_hold : Rule → List ℕ → List ℕ → List ℕ → Bool
columns_hold r widths ratios factors = list_all (λ i. chained (holds r) (column (length widths) i ratios factors)) (range_with_len 0 (length widths))

-- why the values make no grid: widths (hundredths), modulus ratios and factors (thousandths) are the fields from 4 on
abbrev pub values_refusal : List ℕ → List ℕ → List ℕ → Option Refusal
values_refusal widths ratios factors =
    first (outside (Between 100 1000 ∷ []) 4 widths)
    (first (outside (Between 5 5000 ∷ []) (4 + length widths) ratios)
    (first (outside (Between 1 2000 ∷ []) (4 + length widths + length ratios) factors)
    (cond (rising widths && columns_hold NeverFalling widths ratios factors)
    (cond (columns_hold Gentle widths ratios factors) None (Some (refusal Steep 0)))
    (Some (refusal Order 0)))))

-- why the lists make no grid: the counts are fields 2 and 3, and the values go on from 4
abbrev pub lists_refusal : List ℕ → List ℕ → List ℕ → Option Refusal
lists_refusal widths ratios factors =
    first (outside (Between 1 6 ∷ []) 2 (length widths ∷ length ratios ∷ [])) (values_refusal widths ratios factors)

-- nothing is refused
abbrev pub lawful_lists : List ℕ → List ℕ → List ℕ → Bool
lawful_lists widths ratios factors = none (lists_refusal widths ratios factors)

-- a grid's fields after the place: two counts, as many widths and ratios, and a factor for each pair
abbrev pub lists_line : List ℕ → List ℕ → List ℕ → List ℕ
lists_line widths ratios factors = length widths ∷ length ratios ∷ (widths ++ (ratios ++ factors))

-- there are as many fields as the two counts ask for; a missing count asks for none
abbrev pub grid_complete : List ℕ → Bool
grid_complete ns = length ns == 2 + (slice_index ns 0 + slice_index ns 1 + slice_index ns 1 * slice_index ns 0)

-- why the numbers make no grid
abbrev pub grid_refusal : List ℕ → Option Refusal
grid_refusal ns =
    cond (grid_complete ns)
    (lists_refusal (take (slice_index ns 0) (drop 2 ns)) (take (slice_index ns 1) (drop (2 + slice_index ns 0) ns)) (drop (2 + slice_index ns 0 + slice_index ns 1) ns))
    (Some (refusal Writing 0))
