-- A section whose fields have passed the tests.
use Rattle.std.proofs.Common.{◌≡◌, ℕ, ◌<◌, ◌≤◌, true, cond, eqb, List, length, get_or, Some, None, Ok, sym, ap, arith, lit<, eqb-true, lt-ltb, le-leb}
use Rattle.std.proofs.lemmas.Bool.Decides.{nat_tests}
use Rattle.records.specs.declared.fault.Cause.TheVariants.{Order, Writing}
use Rattle.records.specs.Cause.{refusal, first, unless}
use Rattle.records.specs.Fields.{outside}
use Rattle.records.specs.Section.{section_ranges, section_ordered, section_refusal}
use Rattle.records.proofs.Ranges.{spell, spelled, cond_none, first_none, each_keeps}

-- what the ranges keep
pub record SectionKept (ns : List ℕ) : Type 0 where
  pub inside : 3000 ≤ get_or ns 0 0
  pub outside : get_or ns 2 0 ≤ 120000
  pub gross : get_or ns 3 0 ≤ 100000
  pub effective : 100 ≤ get_or ns 4 0
  pub moment : (100 ≤ get_or ns 5 0) × (get_or ns 5 0 ≤ 100000000)
  pub short : get_or ns 6 0 ≤ 1000000
  pub long : 1000 ≤ get_or ns 7 0
  pub compression : (1 ≤ get_or ns 8 0) × (get_or ns 8 0 ≤ 2000)
  pub tension : (1 ≤ get_or ns 9 0) × (get_or ns 9 0 ≤ 2000)
  pub stiffness : get_or ns 10 0 ≤ 100000

pub section_kept : (ns : List ℕ) → 11 ≤ length ns → length ns < 12 → None ≡ outside section_ranges 2 ns → SectionKept ns
section_kept ns a b e =
    let k = each_keeps section_ranges 2 ns (omega (arith, a, b)) e in
    record {
      inside = (k 0 (lit< tt)).0;
      outside = (k 2 (lit< tt)).1;
      gross = (k 3 (lit< tt)).1;
      effective = (k 4 (lit< tt)).0;
      moment = k 5 (lit< tt);
      short = (k 6 (lit< tt)).1;
      long = (k 7 (lit< tt)).0;
      compression = k 8 (lit< tt);
      tension = k 9 (lit< tt);
      stiffness = (k 10 (lit< tt)).1;
    }

pub section_made : (ns : List ℕ) → 11 ≤ length ns → length ns < 12 → None ≡ outside section_ranges 2 ns → get_or ns 0 0 < get_or ns 1 0 → get_or ns 1 0 < get_or ns 2 0 → get_or ns 4 0 ≤ get_or ns 3 0 → get_or ns 7 0 ≤ get_or ns 6 0 → Ok (spell 0 11 ns) ≡ unless (section_refusal ns) ns
section_made ns m n e a b c d =
    let l : length ns ≡ 11 = omega (arith, m, n) in
    rw (l, ← e, lt-ltb _ _ a, lt-ltb _ _ b, le-leb _ _ c, le-leb _ _ d) (ap (λ (k : List ℕ). Ok k) (sym (spelled 0 11 ns l)))

-- and what a line that is not refused keeps beside
module _ (ns : List ℕ) (found : None ≡ section_refusal ns) where
  counted : (true ≡ eqb (length ns) 11) × (None ≡ first (outside section_ranges 2 ns) (cond (section_ordered ns) None (Some (refusal Order 0))))
  counted = cond_none (eqb (length ns) 11) _ (refusal Writing 0) found

  pub eleven : length ns ≡ 11
  eleven = eqb-true (length ns) 11 (sym counted.0)

  pub section_order : (get_or ns 0 0 < get_or ns 1 0) × (get_or ns 1 0 < get_or ns 2 0) × (get_or ns 4 0 ≤ get_or ns 3 0) × (get_or ns 7 0 ≤ get_or ns 6 0)
  section_order = in_order (cond_none (section_ordered ns) None (refusal Order 0) (first_none (outside section_ranges 2 ns) _ counted.1).1).0
    where
      in_order : true ≡ section_ordered ns → (get_or ns 0 0 < get_or ns 1 0) × (get_or ns 1 0 < get_or ns 2 0) × (get_or ns 4 0 ≤ get_or ns 3 0) × (get_or ns 7 0 ≤ get_or ns 6 0)
      in_order e = (grind (arith, nat_tests), grind (arith, nat_tests), grind (arith, nat_tests), grind (arith, nat_tests))
