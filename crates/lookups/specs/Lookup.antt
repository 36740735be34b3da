-- What curves and grids give, in exact fractions.
use Rattle.std.specs.Prelude.{List, [], ◌∷◌, map, ℕ, length, take, drop}
use Rattle.fraction.specs.Fraction.{Fraction, whole, ◌⊗◌, ◌⊘◌}
use Rattle.lookups.specs.Line.{line_at}
use Rattle.records.specs.declared.point.Point.{Point}

-- a curve at x, in the units of its points
abbrev pub curve_at : List Point → Fraction → Fraction
curve_at points x = line_at (map (λ p. p.x) points) (map (λ p. whole p.y) points) x

-- the embedment's modulus, psi, at a pressure in psi
abbrev pub modulus_at : List Point → Fraction → Fraction
modulus_at points pressure = curve_at points (pressure ⊗ whole 100)

-- the shape factor at a pipe stiffness in psi
abbrev pub shape_at : List Point → Fraction → Fraction
shape_at points stiffness = curve_at points (stiffness ⊗ whole 100) ⊘ whole 100

-- at each modulus ratio the factor, thousandths, at the width w, hundredths; the factors stand in rows, a row for each ratio
abbrev pub rows : List ℕ → List ℕ → List ℕ → Fraction → List Fraction
rows widths [] factors w = []
rows widths (r ∷ rs) factors w = line_at widths (map whole (take (length widths) factors)) w ∷ rows widths rs (drop (length widths) factors) w

-- the support factor at a width ratio and a modulus ratio
unfoldable pub support_at : List ℕ → List ℕ → List ℕ → Fraction → Fraction → Fraction
support_at widths ratios factors width modulus =
    line_at ratios (rows widths ratios factors (width ⊗ whole 100)) (modulus ⊗ whole 1000) ⊘ whole 1000
