-- Values by hand of the definitions, one for each of their clauses.
use Rattle.std.specs.Prelude.{List, [], ◌∷◌, ℕ}
use Rattle.std.proofs.Common.{lit<}
use Rattle.fraction.specs.Fraction.{Fraction, Same, ratio, whole}
use Rattle.lookups.specs.Lookup.{modulus_at, shape_at, support_at}
use Rattle.records.specs.declared.point.Point.{Point}

abbrev point : ℕ → ℕ → Point
point x y = record { x = x; y = y }

-- 10 psi: 1,625 psi; 20 psi: 1,800 psi
abbrev embedment : List Point
embedment = point 1000 1625 ∷ point 2000 1800 ∷ []

-- 36 psi: 3.5; 72 psi: 2.8
abbrev shape : List Point
shape = point 3600 350 ∷ point 7200 280 ∷ []

-- widths 1.75 and 2.00; at the modulus ratio 0.8 the factors 0.900 and 0.930, at 1.0 twice 1.000
abbrev support : Fraction → Fraction → Fraction
support = support_at (175 ∷ 200 ∷ []) (800 ∷ 1000 ∷ []) (900 ∷ 930 ∷ 1000 ∷ 1000 ∷ [])

pub record Tabulated : Type 0 where
  -- psi
  pub modulus_between : Same (modulus_at embedment (whole 15)) (ratio 17125 10 (lit< tt))
  pub modulus_beyond : Same (modulus_at embedment (whole 60)) (whole 1800)
  pub shape_between : Same (shape_at shape (whole 40)) (ratio 154 45 (lit< tt))
  -- at the width ratio and the modulus ratio
  pub support_within : Same (support (ratio 1875 1000 (lit< tt)) (ratio 9 10 (lit< tt))) (ratio 9575 10000 (lit< tt))
  pub support_wide : Same (support (whole 2) (ratio 8 10 (lit< tt))) (ratio 930 1000 (lit< tt))
  pub support_stiff : Same (support (ratio 175 100 (lit< tt)) (whole 1)) (whole 1)
