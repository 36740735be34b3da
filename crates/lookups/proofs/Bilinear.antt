-- The support factor from its two cells.
use mathlib.Core.Path.{◌≡◌, refl, sym, ◌∙◌, ap}
use mathlib.Core.List.{List, [], ◌∷◌, map}
use Prim.Native.Nat.{ℕ, zero, suc, ◌+◌, ◌*◌, ◌≤◌, ◌<◌, max}
use native.Mathlib.Nat.{not-suc-le-zero, le_of_suc-le-suc, mul-le-mul, mul-le-mul_right, zero-mul, suc-mul, add_comm}
use native.Mathlib.Omega.{arith}
use lib.ListN.{length, get_or, take, drop, length-map, length-take, length-drop, get_or-map}
use lib.Seq.{get_or-take, get_or-drop, drop-drop}
use Rattle.fraction.specs.Fraction.{Fraction, Same, whole, ◌⊕◌, ◌⊗◌, ◌⊘◌}
use Rattle.fraction.specs.Ratio.{value}
use Rattle.fraction.specs.declared.ratio.Ratio.{Ratio}
use Rattle.fraction.proofs.Order as order
use Rattle.fraction.proofs.Sames as same
use Rattle.lookups.specs.Cell.{mix, Finds, row_sum}
use Rattle.lookups.specs.Line.{line_at}
use Rattle.lookups.specs.Lookup.{rows, support_at}
use Rattle.lookups.specs.declared.cell.Cell.{Cell}
use Rattle.records.specs.declared.grid.SupportGrid.{SupportGrid}
use Rattle.records.specs.Lines.{grid_widths, grid_ratios, grid_factors}
use Rattle.records.proofs.GridLines.{gridded}
use Rattle.lookups.proofs.Cells.{finds_at}
use Rattle.lookups.proofs.Values.{mean_least, mean_most, mean_same}

rows_length : (widths rs fs : List ℕ) (w : Fraction) → length (rows widths rs fs w) ≡ length rs
rows_length widths [] fs w = refl
rows_length widths (r ∷ rs) fs w = ap suc (rows_length widths rs (drop (length widths) fs) w)

abbrev row_of : List ℕ → List ℕ → ℕ → List Fraction
row_of widths fs j = map whole (take (length widths) (drop (j * length widths) fs))

rows_at : (widths rs fs : List ℕ) (w : Fraction) (j : ℕ) → j < length rs → get_or (rows widths rs fs w) j (whole 0) ≡ line_at widths (row_of widths fs j) w
rows_at widths [] fs w j h = absurd (not-suc-le-zero h)
rows_at widths (r ∷ rs) fs w zero h =
    ap (λ (l : List ℕ). line_at widths (map whole (take (length widths) l)) w) (sym (ap (λ (k : ℕ). drop k fs) (zero-mul (length widths))))
rows_at widths (r ∷ rs) fs w (suc j) h =
    rows_at widths rs (drop (length widths) fs) w j (le_of_suc-le-suc h)
    ∙ ap (λ (l : List ℕ). line_at widths (map whole (take (length widths) l)) w)
    (drop-drop (j * length widths) (length widths) fs ∙ ap (λ (k : ℕ). drop k fs) (add_comm (length widths) (j * length widths) ∙ sym (suc-mul j (length widths))))

row_at : (widths fs : List ℕ) (j i : ℕ) → i < length widths → get_or (row_of widths fs j) i (whole 0) ≡ whole (get_or fs (j * length widths + i) 0)
row_at widths fs j i h =
    get_or-map whole (take (length widths) (drop (j * length widths) fs)) i 0
    ∙ ap whole (get_or-take (length widths) (drop (j * length widths) fs) i 0 h ∙ get_or-drop (j * length widths) fs i 0)

row_length : (widths rs fs : List ℕ) (j : ℕ) → length fs ≡ length rs * length widths → j < length rs → length (row_of widths fs j) ≡ length widths
row_length widths rs fs j e h =
    let s : j + 1 ≤ length rs = omega arith in
    simp (length-map, length-take, length-drop) (omega (arith, mul-le-mul_right (length widths) s))

grid_nat : (R S A B s t : ℕ) (hs : 0 < s) (h : 0 < 1000 * s * t) → max 1 (A + B) ≡ t → Same (record { num = R * A + S * B; den = 1000 * s * t; pos = h }) (((record { num = R; den = s; pos = hs }) ⊗ whole A ⊕ (record { num = S; den = s; pos = hs }) ⊗ whole B) ⊘ whole (A + B) ⊘ whole 1000)
unfolding ◌⊕◌ ◌⊗◌ ◌⊘◌ whole
grid_nat R S A B s t hs h e = same.by_parts (rw e (omega arith))

module _ (widths ratios fs : List ℕ) (full : length fs ≡ length ratios * length widths) where
  -- the weighted sum of row j is its value, times the whole weight
  one_row : (w : Fraction) (c : Cell) → Finds widths w c → c.first < length widths → c.second < length widths → (j : ℕ) → j < length ratios → (R : ℕ) → R ≡ get_or fs (j * length widths + c.first) 0 * c.after + get_or fs (j * length widths + c.second) 0 * c.before → Same (record { num = R; den = c.after + c.before; pos = c.positive }) (get_or (rows widths ratios fs w) j (whole 0))
  unfolding mix
  one_row w c fw cf cs j h R e =
      rw (e, rows_at widths ratios fs w j h)
      (same.trans
      (rw (row_at widths fs j c.first cf, row_at widths fs j c.second cs) (mean_same (get_or fs (j * length widths + c.first) 0) (get_or fs (j * length widths + c.second) 0) c.after c.before (c.after + c.before) c.positive (order.one_max (c.after + c.before) c.positive)))
      (fw (row_of widths fs j) (row_length widths ratios fs j full h)))

  -- two rows, weighed in their turn
  pub support_same : (w m : Fraction) (c d : Cell) → Finds widths (w ⊗ whole 100) c → Finds ratios (m ⊗ whole 1000) d → c.first < length widths → c.second < length widths → d.first < length ratios → d.second < length ratios → (R S : ℕ) → R ≡ get_or fs (d.first * length widths + c.first) 0 * c.after + get_or fs (d.first * length widths + c.second) 0 * c.before → S ≡ get_or fs (d.second * length widths + c.first) 0 * c.after + get_or fs (d.second * length widths + c.second) 0 * c.before → (h : 0 < 1000 * (c.after + c.before) * (d.after + d.before)) → Same (record { num = R * d.after + S * d.before; den = 1000 * (c.after + c.before) * (d.after + d.before); pos = h }) (support_at widths ratios fs w m)
  unfolding support_at mix
  support_same w m c d fw fm cf cs df ds R S r s h =
      same.trans
      (grid_nat R S d.after d.before (c.after + c.before) (d.after + d.before) c.positive h (order.one_max (d.after + d.before) d.positive))
      (same.over_one (whole 1000)
      (same.trans
      (same.over_one (whole (d.after + d.before))
      (same.plus
      (same.times (one_row (w ⊗ whole 100) c fw cf cs d.first df R r) (same.refl (whole d.after)))
      (same.times (one_row (w ⊗ whole 100) c fw cf cs d.second ds S s) (same.refl (whole d.before)))))
      (fm (rows widths ratios fs (w ⊗ whole 100)) (rows_length widths ratios fs (w ⊗ whole 100)))))

-- the place of a row's element
pub place : (i j n r len : ℕ) → i < n → j < r → len ≡ r * n → j * n + i < len
place i j n r len h k e =
    let s : j + 1 ≤ r = omega arith in
    omega (arith, mul-le-mul_right n s)

-- numbers are their own places
own_places : (ns : List ℕ) → map (λ (n : ℕ). n) ns ≡ ns
own_places [] = refl
own_places (n ∷ ns) = ap (λ (l : List ℕ). n ∷ l) (own_places ns)

pub own_finds : (ns : List ℕ) {x y : Fraction} (c : Cell) → Same x y → Finds (map (λ (n : ℕ). n) ns) x c → Finds ns y c
own_finds ns c h f = finds_at ns c h (rw (own_places ns) at f)

-- the weights of the two cells
pub cell_fits : (most den s k d : ℕ) (ns : List ℕ) → 1 ≤ most * den → s ≤ max 1 (get_or (map (λ (n : ℕ). n) ns) k 0 * d) → get_or ns k 0 ≤ most → d ≤ den → s ≤ most * den
cell_fits most den s k d ns one h l m = let e = rw (own_places ns) at h in omega (arith, mul-le-mul l m)

-- the numbers fit
pub weights_fit : (s t : ℕ) → s ≤ 120000000 → t ≤ 17280000000000000000000 → 0 < s → 0 < t → (0 < s * t) × (s * t ≤ 120000000 * 17280000000000000000000)
weights_fit s t h k hs ht = (omega (arith, mul-le-mul hs ht), mul-le-mul h k)

pub weighed : (R S A B s n : ℕ) → n ≡ R * A + S * B → s ≤ R → R ≤ 2000 * s → s ≤ S → S ≤ 2000 * s → (1000 * s * (A + B) ≤ 1000 * n) × (n ≤ 2 * (1000 * s * (A + B)))
weighed R S A B s n e r1 r2 s1 s2 = (omega (arith, e, mul-le-mul_right A r1, mul-le-mul_right B s1), omega (arith, e, mul-le-mul_right A r2, mul-le-mul_right B s2))

-- the two ratios as the lookups take them
pub width_same : (r : Fraction) (b o : ℕ) → 0 < o → r.num ≡ 100 * b → r.den ≡ o → Same r ((whole b ⊘ whole o) ⊗ whole 100)
unfolding ◌⊗◌ ◌⊘◌ whole
width_same r b o h e f = same.by_parts (rw (e, f, order.one_max o h) (omega arith))

pub modulus_same : (r : Fraction) (n : ℕ) (m : Fraction) → 0 < m.num → r.num ≡ 1000 * n * m.den → r.den ≡ m.num → Same r ((whole n ⊘ m) ⊗ whole 1000)
unfolding ◌⊗◌ ◌⊘◌ whole
modulus_same r n m h e f = same.by_parts (rw (e, f, order.one_max m.num h) (omega arith))

-- the weighted sum of a row lies between the bounds of its factors
pub row_bounds : (g : SupportGrid) (j : ℕ) (c : Cell) → j < length (grid_ratios g) → c.first < length (grid_widths g) → c.second < length (grid_widths g) → (c.after + c.before ≤ row_sum (grid_factors g) (j * length (grid_widths g)) c) × (row_sum (grid_factors g) (j * length (grid_widths g)) c ≤ 2000 * (c.after + c.before))
row_bounds g j c h f s =
    let q = gridded g in
    let a = q.factors _ (place c.first j _ _ _ f h q.full) in
    let b = q.factors _ (place c.second j _ _ _ s h q.full) in
    (omega (arith, mean_least 1 _ _ c.after c.before a.0 b.0), mean_most 2000 _ _ c.after c.before a.1 b.1)

-- the grid's factor from its cells
pub found_factor : (g : SupportGrid) (w m : Fraction) (r : Ratio) (c d : Cell) → Finds (grid_widths g) (w ⊗ whole 100) c → Finds (grid_ratios g) (m ⊗ whole 1000) d → c.first < length (grid_widths g) → c.second < length (grid_widths g) → d.first < length (grid_ratios g) → d.second < length (grid_ratios g) → r.num ≡ row_sum (grid_factors g) (d.first * length (grid_widths g)) c * d.after + row_sum (grid_factors g) (d.second * length (grid_widths g)) c * d.before → r.den ≡ 1000 * (c.after + c.before) * (d.after + d.before) → Same (value r) (support_at (grid_widths g) (grid_ratios g) (grid_factors g) w m)
found_factor g w m r c d fc fd cf cs df ds n k =
    let h : 0 < 1000 * (c.after + c.before) * (d.after + d.before) = rw (← k) r.positive in
    same.trans (same.by_parts (rw (n, k))) (support_same (grid_widths g) (grid_ratios g) (grid_factors g) (gridded g).full w m c d fc fd cf cs df ds _ _ refl refl h)
