-- A site whose fields have passed the tests.
use Rattle.std.proofs.Common.{◌≡◌, ℕ, ◌<◌, ◌≤◌, Bool, true, false, eqb, List, [], ◌∷◌, length, get_or, None, Ok, sym, refl, ap, arith, lit<, eqb-true}
use borrow.Author.Tests.{eqb-false}
use Rattle.std.specs.Bool.{MatchBool}
use Rattle.std.proofs.lemmas.Bool.Decides.{nat_tests}
use Rattle.records.specs.declared.fault.Cause.TheVariants.{Writing}
use Rattle.records.specs.declared.fields.Allowed.TheVariants.{Among}
use Rattle.records.specs.declared.site.LiveLoad.{LiveLoad}
use Rattle.records.specs.declared.site.LiveLoad.TheVariants.{None as NoLoad, Truck}
use Rattle.records.specs.Cause.{refusal, unless}
use Rattle.records.specs.Fields.{allows, outside}
use Rattle.records.specs.Lines.{walls_number, live_load_number}
use Rattle.records.specs.Site.{site_ranges, site_refusal}
use Rattle.records.proofs.Ranges.{spelled, cond_none, each_keeps}

three : (n : ℕ) → true ≡ allows (Among 115 135 150) n → (115 ≤ n) × (n ≤ 150) × (true ≡ allows (Among 115 135 150) n)
three n e = (grind (arith, nat_tests), grind (arith, nat_tests), e)

-- what the ranges keep
pub record SiteKept (ns : List ℕ) : Type 0 where
  pub fill : (12001 ≤ get_or ns 0 0) × (get_or ns 0 0 ≤ 1200000)
  pub trench : (1 ≤ get_or ns 1 0) × (get_or ns 1 0 ≤ 1200000)
  pub water : get_or ns 2 0 ≤ 1260000
  pub moist : (500 ≤ get_or ns 3 0) × (get_or ns 3 0 ≤ 2000)
  pub saturated : (800 ≤ get_or ns 4 0) × (get_or ns 4 0 ≤ 2000)
  pub factor : (100 ≤ get_or ns 5 0) × (get_or ns 5 0 ≤ 130)
  pub installation : (115 ≤ get_or ns 6 0) × (get_or ns 6 0 ≤ 150) × (true ≡ allows (Among 115 135 150) (get_or ns 6 0))
  pub native : (50 ≤ get_or ns 7 0) × (get_or ns 7 0 ≤ 50000)
  pub walls : get_or ns 8 0 ≤ 1
  pub live : get_or ns 9 0 ≤ 1

pub site_kept : (ns : List ℕ) → 10 ≤ length ns → length ns < 11 → None ≡ outside site_ranges 2 ns → SiteKept ns
site_kept ns a b e =
    let k = each_keeps site_ranges 2 ns (omega (arith, a, b)) e in
    record {
      fill = k 0 (lit< tt);
      trench = k 1 (lit< tt);
      water = (k 2 (lit< tt)).1;
      moist = k 3 (lit< tt);
      saturated = k 4 (lit< tt);
      factor = k 5 (lit< tt);
      installation = three _ (k 6 (lit< tt));
      native = k 7 (lit< tt);
      walls = (k 8 (lit< tt)).1;
      live = (k 9 (lit< tt)).1;
    }

walls_back : (n : ℕ) → n ≤ 1 → walls_number (eqb n 1) ≡ n
walls_back n h = by (eqb n 1) refl
  where
    by : (b : Bool) → eqb n 1 ≡ b → walls_number b ≡ n
    by true e = sym (eqb-true n 1 e)
    by false e = let ne = eqb-false n 1 e in omega arith

live_back : (load : LiveLoad) (n : ℕ) → n ≤ 1 → MatchBool (eqb n 1) (load ≡ Truck) (load ≡ NoLoad) → live_load_number load ≡ n
live_back load n h t = by (eqb n 1) refl t
  where
    by : (b : Bool) → eqb n 1 ≡ b → MatchBool b (load ≡ Truck) (load ≡ NoLoad) → live_load_number load ≡ n
    by true e t = rw t (sym (eqb-true n 1 e))
    by false e t = let ne = eqb-false n 1 e in rw t (omega arith)

pub site_made : (ns : List ℕ) (load : LiveLoad) → 10 ≤ length ns → length ns < 11 → None ≡ outside site_ranges 2 ns → MatchBool (eqb (get_or ns 9 0) 1) (load ≡ Truck) (load ≡ NoLoad) → Ok (get_or ns 0 0 ∷ get_or ns 1 0 ∷ get_or ns 2 0 ∷ get_or ns 3 0 ∷ get_or ns 4 0 ∷ get_or ns 5 0 ∷ get_or ns 6 0 ∷ get_or ns 7 0 ∷ walls_number (eqb (get_or ns 8 0) 1) ∷ live_load_number load ∷ []) ≡ unless (site_refusal ns) ns
site_made ns load a b e t =
    let l : length ns ≡ 10 = omega (arith, a, b) in
    let k = each_keeps site_ranges 2 ns l e in
    rw (l, ← e, live_back load _ (k 9 (lit< tt)).1 t, walls_back (get_or ns 8 0) (k 8 (lit< tt)).1) (ap (λ (m : List ℕ). Ok m) (sym (spelled 0 10 ns l)))

-- a line that is not refused has ten fields
pub ten : (ns : List ℕ) → None ≡ site_refusal ns → length ns ≡ 10
ten ns found = eqb-true (length ns) 10 (sym (cond_none (eqb (length ns) 10) _ (refusal Writing 0) found).0)
