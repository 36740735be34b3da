-- The ways through a grid's line, and what a lawful grid keeps.
use Rattle.std.proofs.Common.{◌≡◌, ℕ, ◌+◌, ◌-◌, ◌*◌, ◌<◌, ◌≤◌, true, List, [], ◌∷◌, ◌++◌, length, get_or, take, drop, Some, None, Ok, Err, sym, refl, ap, ◌∙◌, mul-le-mul, arith, lit<, length-drop, take-append-drop, length-take, take_all, drop-drop, eqb-true}
use Rattle.records.specs.declared.grid.SupportGrid.{SupportGrid}
use Rattle.records.specs.declared.fields.Allowed.TheVariants.{Between}
use Rattle.records.specs.Cause.{Refusal, unless}
use Rattle.records.specs.Fields.{outside}
use Rattle.records.specs.Grid.{values_refusal, lists_refusal, lists_line, grid_complete, grid_refusal}
use Rattle.records.specs.Lines.{grid_widths, grid_ratios, grid_factors}
use Rattle.records.proofs.Ranges.{first_none, none_found, each_between}

-- what the ranges keep
pub record Kept (ws ms fs : List ℕ) : Type 0 where
  pub wide : (1 ≤ length ws) × (length ws ≤ 6)
  pub deep : (1 ≤ length ms) × (length ms ≤ 6)
  pub widths : None ≡ outside (Between 100 1000 ∷ []) 4 ws
  pub ratios : None ≡ outside (Between 5 5000 ∷ []) (4 + length ws) ms
  pub factors : None ≡ outside (Between 1 2000 ∷ []) (4 + length ws + length ms) fs

pub lists_kept : (ws ms fs : List ℕ) → None ≡ lists_refusal ws ms fs → Kept ws ms fs
lists_kept ws ms fs e =
    let a = first_none _ _ e in
    let b = first_none _ _ a.1 in
    let c = first_none _ _ b.1 in
    let d = first_none _ _ c.1 in
    let counts = each_between 1 6 2 (length ws ∷ length ms ∷ []) a.0 in
    record {
      wide = counts 0 (lit< tt);
      deep = counts 1 (lit< tt);
      widths = b.0;
      ratios = c.0;
      factors = d.0;
    }

-- a full grid has few factors
pub few_factors : (w m n : ℕ) → w ≤ 6 → m ≤ 6 → n ≡ m * w → n ≤ 36
few_factors w m n h k e = omega (arith, mul-le-mul k h)

two_counts : (ns : List ℕ) → 2 ≤ length ns → take 2 ns ≡ get_or ns 0 0 ∷ get_or ns 1 0 ∷ []
two_counts [] h = absurd (omega (arith, h))
two_counts (x ∷ []) h = absurd (omega (arith, h))
two_counts (x ∷ (y ∷ ns)) h = refl

-- the lists, as the code cuts them out of a complete line
module _ (ns rest ws ms fs : List ℕ) (complete : true ≡ grid_complete ns)
    (w : ws ≡ take (get_or ns 0 0) (take (length ns - 2) (drop 2 ns))) (r : rest ≡ drop (get_or ns 0 0) (take (length ns - 2) (drop 2 ns)))
    (m : ms ≡ take (get_or ns 1 0) rest) (f : fs ≡ drop (get_or ns 1 0) rest) where
  abbrev wide : ℕ
  wide = get_or ns 0 0

  abbrev deep : ℕ
  deep = get_or ns 1 0

  asked : length ns ≡ 2 + (wide + deep + deep * wide)
  asked = eqb-true (length ns) (2 + (wide + deep + deep * wide)) (sym complete)

  whole : take (length ns - 2) (drop 2 ns) ≡ drop 2 ns
  whole = take_all (length ns - 2) (drop 2 ns) (simp length-drop (omega arith))

  widths_is : ws ≡ take wide (drop 2 ns)
  widths_is = w ∙ ap (take wide) whole

  rest_is : rest ≡ drop (2 + wide) ns
  rest_is = r ∙ ap (drop wide) whole ∙ drop-drop wide 2 ns

  ratios_is : ms ≡ take deep (drop (2 + wide) ns)
  ratios_is = m ∙ ap (take deep) rest_is

  factors_is : fs ≡ drop (2 + wide + deep) ns
  factors_is = f ∙ ap (drop deep) rest_is ∙ drop-drop deep (2 + wide) ns

  pub factors_length : length fs ≡ deep * wide
  factors_length = rw factors_is (simp length-drop (omega (arith, asked)))

  pub counts_are : take 2 ns ≡ length ws ∷ length ms ∷ []
  counts_are =
      let a : length ws ≡ wide = rw widths_is (simp (length-take, length-drop) (omega (arith, asked))) in
      let b : length ms ≡ deep = rw ratios_is (simp (length-take, length-drop) (omega (arith, asked))) in
      rw (a, b) (two_counts ns (omega (arith, asked)))

  line_back : lists_line ws ms fs ≡ ns
  line_back =
      ap (λ (l : List ℕ). l ++ (ws ++ (ms ++ fs))) (sym counts_are)
      ∙ rw (widths_is, m, f, take-append-drop deep rest, rest_is, ← drop-drop wide 2 ns, take-append-drop wide (drop 2 ns)) (take-append-drop 2 ns)

  refusal_is : None ≡ outside (Between 1 6 ∷ []) 2 (take 2 ns) → grid_refusal ns ≡ values_refusal ws ms fs
  refusal_is e = let k = rw counts_are at e in rw (← widths_is, ← ratios_is, ← factors_is, ← complete, ← k) refl

  pub values_refused : None ≡ outside (Between 1 6 ∷ []) 2 (take 2 ns) → (e : Refusal) → Some e ≡ values_refusal ws ms fs → Err e ≡ unless (grid_refusal ns) ns
  values_refused k e h = rw (refusal_is k, ← h)

  pub grid_made : None ≡ outside (Between 1 6 ∷ []) 2 (take 2 ns) → None ≡ values_refusal ws ms fs → Ok (lists_line ws ms fs) ≡ unless (grid_refusal ns) ns
  grid_made k h = rw (refusal_is k, ← h) (ap (λ (l : List ℕ). Ok l) line_back)

-- what a grid keeps, for those who read it
pub record Gridded (ws ms fs : List ℕ) : Type 0 where
  pub wide : (1 ≤ length ws) × (length ws ≤ 6)
  pub deep : (1 ≤ length ms) × (length ms ≤ 6)
  pub full : length fs ≡ length ms * length ws
  pub widths : (k : ℕ) → k < length ws → (100 ≤ get_or ws k 0) × (get_or ws k 0 ≤ 1000)
  pub ratios : (k : ℕ) → k < length ms → (5 ≤ get_or ms k 0) × (get_or ms k 0 ≤ 5000)
  pub factors : (k : ℕ) → k < length fs → (1 ≤ get_or fs k 0) × (get_or fs k 0 ≤ 2000)

pub gridded : (g : SupportGrid) → Gridded (grid_widths g) (grid_ratios g) (grid_factors g)
gridded g =
    let k = lists_kept (grid_widths g) (grid_ratios g) (grid_factors g) (none_found (lists_refusal (grid_widths g) (grid_ratios g) (grid_factors g)) g.lawful) in
    record {
      wide = k.wide;
      deep = k.deep;
      full = g.full;
      widths = each_between 100 1000 _ (grid_widths g) k.widths;
      ratios = each_between 5 5000 _ (grid_ratios g) k.ratios;
      factors = each_between 1 2000 _ (grid_factors g) k.factors;
    }
