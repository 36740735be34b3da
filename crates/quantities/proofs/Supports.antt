-- What is known of the soil's modulus.
use Rattle.std.proofs.Common.{◌≡◌, ℕ, ◌*◌, ◌^◌, ◌<◌, ◌≤◌, true, false, ltb, leb, map, sym, ◌∙◌, arith, lit<, le-ltb, lt-ltb, le-leb}
use borrow.Author.Tests.{lt-leb}
use Rattle.fraction.specs.Fraction.{Fraction, ratio, whole, ◌⊗◌, ◌⊘◌, ◌≼◌, Same}
use Rattle.fraction.specs.Ratio.{value}
use Rattle.fraction.specs.declared.ratio.Ratio.{Ratio}
use Rattle.fraction.proofs.Order as order
use Rattle.fraction.proofs.Sames as same
use Rattle.enclosure.specs.Model.{Model, Sound}
use Rattle.enclosure.specs.Formula.{computed}
use Rattle.enclosure.proofs.Trees.{as_tree, field, long, closed}
use Rattle.lookups.specs.Lookup.{modulus_at, rows, support_at}
use Rattle.lookups.specs.Operand.{modulus_of}
use Rattle.lookups.specs.declared.operand.Modulus.{Modulus}
use Rattle.lookups.proofs.Cells.{line_cong}
use Rattle.equations.specs.Design.{Design}
use Rattle.equations.specs.Soil.{embedment_modulus, fully_supported, support_factor, soil_modulus}
use Rattle.equations.specs.Regrouped.{Drained, prism_units}
use Rattle.equations.proofs.Prism.{prism_same}
use Rattle.equations.proofs.Forms.{all_regroup}
use Rattle.quantities.specs.Known.{Known}
use Rattle.quantities.specs.Quantities.{Soil}
use Rattle.quantities.specs.Formulas.{parts_of, long_parts_of}
use Rattle.quantities.proofs.Known.{leaf, known, known_along}

-- the decision
pub wide_full : (d : Design) → 3 * d.section.outside ≤ d.site.trench → leb (3 * d.section.outside) d.site.trench ≡ fully_supported d
wide_full d h = le-leb (3 * d.section.outside) d.site.trench h ∙ sym ((all_regroup d).full ∙ rw (le-leb (3 * d.section.outside) d.site.trench h))

pub walls_full : (d : Design) → d.site.trench < 3 * d.section.outside → d.site.fill < 120000 → d.site.stable_walls ≡ fully_supported d
walls_full d h k = sym ((all_regroup d).full ∙ rw (lt-leb (3 * d.section.outside) d.site.trench h, lt-ltb d.site.fill 120000 k))

pub never_full : (d : Design) → d.site.trench < 3 * d.section.outside → 120000 ≤ d.site.fill → ltb d.site.fill 120000 ≡ fully_supported d
never_full d h k = le-ltb d.site.fill 120000 k ∙ sym ((all_regroup d).full ∙ rw (lt-leb (3 * d.section.outside) d.site.trench h, le-ltb d.site.fill 120000 k))

-- a quotient of whole numbers as a pair of them
pub pair_same : (n k : ℕ) (pos : 0 < k) → Same (whole n ⊘ whole k) (record { num = n; den = k; pos = pos })
unfolding ◌⊘◌ whole
pair_same n k pos = same.by_parts (rw (order.one_max k pos) (omega arith))

pub at_least_pair : (a b n k : ℕ) (p : 0 < b) → 0 < k → a * k ≤ n * b → ratio a b p ≼ whole n ⊘ whole k
unfolding ratio ◌⊘◌ whole
at_least_pair a b n k p pos h = record { cross = rw (order.one_max k pos) (omega (arith, h)) }

pub at_most_pair : (c d n k : ℕ) (q : 0 < d) → 0 < k → n * d ≤ c * k → whole n ⊘ whole k ≼ ratio c d q
unfolding ratio ◌⊘◌ whole
at_most_pair c d n k q pos h = record { cross = rw (order.one_max k pos) (omega (arith, h)) }

-- the embedment's modulus, of the operand that is looked up
pub embedment_same : (d : Design) (n : ℕ) (pos : 0 < 3456000000) (r : Modulus) → n ≡ prism_units d → Drained d → Same (modulus_of r) (modulus_at d.embedment (record { num = n; den = 3456000000; pos = pos })) → Same (modulus_of r) (embedment_modulus d)
unfolding embedment_modulus
embedment_same d n pos r e drained found =
    let here = same.trans (same.sym (pair_same n 3456000000 pos)) (rw e (prism_same d drained)) in
    same.trans found (line_cong (map (λ q. q.x) d.embedment) (map (λ q. whole q.y) d.embedment) (same.times here (same.refl (whole 100))))

modulus_positive : (r : Modulus) → 0 < r.num
modulus_positive r = omega (arith, r.positive, r.least)

pub support_same : (d : Design) (r : Modulus) (f : Ratio) → Same (modulus_of r) (embedment_modulus d) → false ≡ fully_supported d → Same (value f) (support_at d.widths d.ratios d.factors (whole d.site.trench ⊘ whole d.section.outside) (whole d.site.native_modulus ⊘ modulus_of r)) → Same (value f) (support_factor d)
unfolding support_factor support_at
support_same d r f embedment part found =
    rw (← part)
    (same.trans found
    (same.over_one (whole 1000)
    (line_cong d.ratios (rows d.widths d.ratios d.factors ((whole d.site.trench ⊘ whole d.section.outside) ⊗ whole 100))
    (same.times (same.over (modulus_positive r) (same.refl (whole d.site.native_modulus)) embedment) (same.refl (whole 1000))))))

times_one : (x : Fraction) → Same x (whole 1 ⊗ x)
unfolding ◌⊗◌ whole
times_one x = same.by_parts (omega arith)

module _ {E : Type 0} {m : Model E} (s : Sound m) (d : Design) where
  embedment_known : (r : Modulus) → Known m 3 50 1 50000 1 (whole r.num ⊘ whole r.den) (parts_of (computed m) r.num r.den)
  embedment_known r =
      let n = r.num in
      let k = r.den in
      record {
        close = closed s ((as_tree m).div (field 1 3456000000000000000 n (modulus_positive r) (omega (arith, r.most, r.fits))) (field 1 69120000000000 k r.positive r.fits)) tt;
        least = lit< tt;
        most = lit< tt;
        above = at_least_pair 50 1 n k (lit< tt) r.positive (omega (arith, r.least));
        below = at_most_pair 50000 1 n k (lit< tt) r.positive (omega (arith, r.most));
      }

  factor_known : (f : Ratio) → f.den ≤ 1000 * f.num → f.num ≤ 2 * f.den → f.den < 2 ^ 114 → Known m 9 1 1000 2 1 (whole f.num ⊘ whole f.den) (long_parts_of (computed m) f.num f.den)
  factor_known f least most fits =
      let n = f.num in
      let k = f.den in
      record {
        close = closed s ((as_tree m).div (long 1 (2 ^ 115) n (omega (arith, f.positive)) (omega arith)) (long 1 (2 ^ 114) k f.positive (omega arith))) tt;
        least = lit< tt;
        most = lit< tt;
        above = at_least_pair 1 1000 n k (lit< tt) f.positive (omega arith);
        below = at_most_pair 2 1 n k (lit< tt) f.positive (omega arith);
      }

  pub full_known : (r : Modulus) → Same (modulus_of r) (embedment_modulus d) → true ≡ fully_supported d → Soil m d (parts_of (computed m) r.num r.den)
  unfolding soil_modulus support_factor
  full_known r embedment full =
      known_along s
      (rw (← full) (same.trans (same.trans (pair_same r.num r.den r.positive) embedment) (times_one (embedment_modulus d))))
      (known s (leaf (embedment_known r)) 13 1 20 100000 1 tt)

  pub gridded_known : (r : Modulus) (f : Ratio) → f.den ≤ 1000 * f.num → f.num ≤ 2 * f.den → f.den < 2 ^ 114 → Same (modulus_of r) (embedment_modulus d) → Same (value f) (support_factor d) → Soil m d (m.product (long_parts_of (computed m) f.num f.den) (parts_of (computed m) r.num r.den))
  unfolding soil_modulus
  gridded_known r f least most fits embedment factor =
      known_along s
      (same.times (same.trans (pair_same f.num f.den f.positive) factor) (same.trans (pair_same r.num r.den r.positive) embedment))
      (known s ((as_tree m).mul (leaf (factor_known f least most fits)) (leaf (embedment_known r))) 13 1 20 100000 1 tt)

  pub supported_known : (r : Modulus) (f : Ratio) (b l e : E) → b ≡ parts_of (computed m) r.num r.den → l ≡ long_parts_of (computed m) f.num f.den → e ≡ m.product l b → f.den ≤ 1000 * f.num → f.num ≤ 2 * f.den → f.den < 2 ^ 114 → Same (modulus_of r) (embedment_modulus d) → Same (value f) (support_factor d) → Soil m d e
  supported_known r f b l e p q i least most fits embedment factor = rw (i, q, p) (gridded_known r f least most fits embedment factor)
