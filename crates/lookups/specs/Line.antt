-- A line through points with any values: straight between neighbours, level beyond the ends.
use Rattle.std.specs.Prelude.{cond, List, [], ◌∷◌, ℕ}
use Rattle.fraction.specs.Fraction.{Fraction, whole, ◌⊕◌, ◌⊗◌, ◌⊘◌, ◌⊖◌}
use Rattle.fraction.specs.Ratio.{at_most}

-- (y1 (x2 - x) + y2 (x - x1)) / (x2 - x1), which is y1 + (y2 - y1) (x - x1) / (x2 - x1), be the line rising or falling
unfoldable pub chord : ℕ → Fraction → ℕ → Fraction → Fraction → Fraction
chord x1 y1 x2 y2 x = (y1 ⊗ (whole x2 ⊖ x) ⊕ y2 ⊗ (x ⊖ whole x1)) ⊘ (whole x2 ⊖ whole x1)

-- at x past the point (x1, y1), with the points that follow it
abbrev pub line_from : ℕ → Fraction → List ℕ → List Fraction → Fraction → Fraction
line_from x1 y1 [] ys x = y1
line_from x1 y1 (x2 ∷ xs) [] x = y1
line_from x1 y1 (x2 ∷ xs) (y2 ∷ ys) x = cond (at_most x (whole x2)) (chord x1 y1 x2 y2 x) (line_from x2 y2 xs ys x)

-- at x, through the points with these places and values; of no points it is 0
abbrev pub line_at : List ℕ → List Fraction → Fraction → Fraction
line_at [] ys x = whole 0
line_at (x1 ∷ xs) [] x = whole 0
line_at (x1 ∷ xs) (y1 ∷ ys) x = cond (at_most x (whole x1)) y1 (line_from x1 y1 xs ys x)
