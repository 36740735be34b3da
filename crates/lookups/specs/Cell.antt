-- What the search for a cell promises.
use Rattle.std.specs.Prelude.{List, ◌≡◌, ℕ, ◌+◌, ◌*◌, ◌≤◌, ◌<◌, length, slice_index, slice_index_or}
use Rattle.fraction.specs.Fraction.{Fraction, Same, whole, ◌⊕◌, ◌⊗◌, ◌⊘◌}
use Rattle.lookups.specs.Line.{line_at}
use Rattle.lookups.specs.declared.cell.Cell.{Cell}

-- x lies past a point, or not
abbrev pub Passed : {A : Type 0} → (A → ℕ) → Fraction → A → Type 0
Passed spot x p = spot p * x.den < x.num

abbrev pub Reached : {A : Type 0} → (A → ℕ) → Fraction → A → Type 0
Reached spot x p = x.num ≤ spot p * x.den

-- the value that a cell makes of the points' values
unfoldable pub mix : Cell → List Fraction → Fraction
mix c ys = (slice_index_or ys c.first (whole 0) ⊗ whole c.after ⊕ slice_index_or ys c.second (whole 0) ⊗ whole c.before) ⊘ whole (c.after + c.before)

-- the cell serves the line at x through these places, whatever the points' values
abbrev pub Finds : List ℕ → Fraction → Cell → Type 0
Finds xs x c = (ys : List Fraction) → length ys ≡ length xs → Same (mix c ys) (line_at xs ys x)

-- the value of a row of factors that begins at `start`, times the cell's whole weight
abbrev pub row_sum : List ℕ → ℕ → Cell → ℕ
row_sum fs start c = slice_index fs (start + c.first) * c.after + slice_index fs (start + c.second) * c.before

-- both cells lie within a grid, and their weights are small
pub record Crossing (widths ratios : List ℕ) (across along : Cell) : Type 0 where
  pub across_within : (across.first < length widths) × (across.second < length widths)
  pub along_within : (along.first < length ratios) × (along.second < length ratios)
  pub across_small : across.after + across.before ≤ 120000000
  pub along_small : along.after + along.before ≤ 17280000000000000000000
