-- A curve's value from its cell, and the numbers that it takes.
use mathlib.Core.Path.{◌≡◌, sym, ◌∙◌}
use mathlib.Core.List.{List, map}
use Prim.Native.Nat.{ℕ, ◌+◌, ◌*◌, ◌^◌, ◌≤◌, ◌<◌, max}
use native.Mathlib.Nat.{mul-le-mul_right}
use native.Mathlib.Omega.{arith}
use lib.ListN.{length, get_or, length-map, get_or-map}
use Rattle.fraction.specs.Fraction.{Fraction, Same, whole, ◌⊕◌, ◌⊗◌, ◌⊘◌}
use Rattle.fraction.proofs.Order as order
use Rattle.fraction.proofs.Sames as same
use Rattle.lookups.specs.Cell.{mix, Finds}
use Rattle.lookups.specs.Lookup.{curve_at}
use Rattle.lookups.specs.declared.cell.Cell.{Cell}
use Rattle.records.specs.declared.point.Point.{Point}
use Rattle.records.specs.declared.curve.Curve.{Curve}
use Rattle.records.specs.declared.curve.CurveKind.{Ghosts}
use Rattle.records.specs.Lines.{points_of}
use Rattle.records.proofs.CurveLines.{nil, Kept, points_kept}
use Rattle.lookups.proofs.Cells.{line_cong}

-- y A + z B lies between the bounds of y and z
pub mean_least : (k y z A B : ℕ) → k ≤ y → k ≤ z → k * (A + B) ≤ y * A + z * B
mean_least k y z A B h l = omega (arith, mul-le-mul_right A h, mul-le-mul_right B l)

pub mean_most : (k y z A B : ℕ) → y ≤ k → z ≤ k → y * A + z * B ≤ k * (A + B)
mean_most k y z A B h l = omega (arith, mul-le-mul_right A h, mul-le-mul_right B l)

-- a cell's weights
pub weights_most : (k x s d : ℕ) → s ≤ max 1 (x * d) → x ≤ k → s ≤ max 1 (k * d)
weights_most k x s d h l = omega (arith, mul-le-mul_right d l)

weights_fit : (s d : ℕ) → s ≤ max 1 (100000 * d) → d < 2 ^ 64 → s ≤ 100000 * 2 ^ 64
weights_fit s d h l = omega arith

-- the numbers of a curve's value fit
pub record Fitting (y z A B : ℕ) : Type 0 where
  pub whole : A + B ≤ 100000 * 2 ^ 64
  pub sum : y * A + z * B ≤ 50000 * (A + B)

pub fitting : (y z A B x d : ℕ) → y ≤ 50000 → z ≤ 50000 → A + B ≤ max 1 (x * d) → x ≤ 100000 → d < 2 ^ 64 → Fitting y z A B
fitting y z A B x d hy hz h l m =
    record { whole = weights_fit (A + B) d (weights_most 100000 x (A + B) d h l) m; sum = mean_most 50000 y z A B hy hz }

-- a weighted sum over the whole weight
pub mean_same : (y z A B s : ℕ) (h : 0 < s) → max 1 (A + B) ≡ s → Same (record { num = y * A + z * B; den = s; pos = h }) ((whole y ⊗ whole A ⊕ whole z ⊗ whole B) ⊘ whole (A + B))
unfolding ◌⊕◌ ◌⊗◌ ◌⊘◌ whole
mean_same y z A B s h e = same.by_parts (rw e (omega arith))

pub places_at : (ps : List Point) (k : ℕ) → get_or (map (λ p. p.x) ps) k 0 ≡ (get_or ps k nil).x
places_at ps k = get_or-map (λ p. p.x) ps k nil

heights_at : (ps : List Point) (k : ℕ) → get_or (map (λ p. whole p.y) ps) k (whole 0) ≡ whole (get_or ps k nil).y
heights_at ps k = get_or-map (λ p. whole p.y) ps k nil

pub value_same : (ps : List Point) (x : Fraction) (c : Cell) → Finds (map (λ p. p.x) ps) x c → (h : 0 < c.after + c.before) → Same (record { num = (get_or ps c.first nil).y * c.after + (get_or ps c.second nil).y * c.before; den = c.after + c.before; pos = h }) (curve_at ps x)
unfolding mix
value_same ps x c f h =
    same.trans
    (rw (heights_at ps c.first, heights_at ps c.second) (mean_same (get_or ps c.first nil).y (get_or ps c.second nil).y c.after c.before (c.after + c.before) h (order.one_max (c.after + c.before) c.positive)))
    (f (map (λ p. whole p.y) ps) (length-map ps (λ p. whole p.y) ∙ sym (length-map ps (λ p. p.x))))

-- what the lent points keep
pub curve_kept : {K : Type 0} {g : Ghosts K} (c : Curve K g) (ps : List Point) → ps ≡ points_of c → Kept g.rules ps
curve_kept {g = g} c ps e = rw e (points_kept g.rules (points_of c) c.lawful)

-- so the numbers of a curve's value fit
pub curve_fits : {K : Type 0} {g : Ghosts K} (curve : Curve K g) (ps : List Point) → ps ≡ points_of curve → (g.rules.reach ≤ 100000) × (g.rules.most ≤ 50000) → (c : Cell) → c.first < length ps → c.second < length ps → (d : ℕ) → c.after + c.before ≤ max 1 (get_or (map (λ p. p.x) ps) c.second 0 * d) → d < 2 ^ 64 → Fitting (get_or ps c.first nil).y (get_or ps c.second nil).y c.after c.before
curve_fits {g = g} curve ps e b c f s d l m =
    let k = curve_kept curve ps e in
    let y = k.inside c.first f in
    let z = k.inside c.second s in
    fitting (get_or ps c.first nil).y (get_or ps c.second nil).y c.after c.before (get_or ps c.second nil).x d (omega (arith, y.3, b.1)) (omega (arith, z.3, b.1)) (rw (places_at ps c.second) at l) (omega (arith, z.1, b.0)) m

-- hundredths
pub hundred_times : (r p : Fraction) → r.num ≡ 100 * p.num → r.den ≡ p.den → Same r (p ⊗ whole 100)
unfolding ◌⊗◌ whole
hundred_times r p e f = same.by_parts (rw (e, f) (omega arith))

pub hundredth_times : (r s : Fraction) → r.num ≡ s.num → 100 * r.den ≡ s.den → Same r (s ⊗ whole 100)
unfolding ◌⊗◌ whole
hundredth_times r s e f = same.by_parts (rw (e, ← f) (omega arith))

pub over_hundred : (r x y : Fraction) → r.num ≡ x.num → r.den ≡ 100 * x.den → Same x y → Same r (y ⊘ whole 100)
unfolding ◌⊘◌ whole
over_hundred r x y e f h = same.trans (same.by_parts (rw (e, f) (omega arith))) (same.over_one (whole 100) h)

-- the operand is the same number
pub curve_moved : (ps : List Point) (r x y : Fraction) → Same x y → Same r (curve_at ps x) → Same r (curve_at ps y)
curve_moved ps r x y h k = same.trans k (line_cong (map (λ p. p.x) ps) (map (λ p. whole p.y) ps) h)
