-- The prism pressure as a whole number over one scale.
use mathlib.Core.Path.{◌≡◌}
use mathlib.Core.Logic.{dite}
use native.Mathlib.Decide.{dec_le}
use Prim.Native.Nat.{ℕ, ◌+◌, ◌-◌, ◌*◌, ◌<◌}
use native.Mathlib.Nat.{lt_of_not-le}
use native.Mathlib.Omega.{arith}
use borrow.Author.Tests.{le-leb, lt-leb}
use lib.Dec.{leb, lit<}
use Rattle.fraction.specs.Fraction.{whole, ◌⊕◌, ◌⊗◌, ◌⊘◌, ◌⊖◌, Same}
use Rattle.fraction.specs.Ratio.{at_most}
use Rattle.fraction.proofs.Sames as same
use Rattle.equations.specs.Units.{tenths, hundredths, thousandths}
use Rattle.equations.specs.Design.{Design}
use Rattle.equations.specs.Pressures.{crown_water, dry_prism, wet_prism, prism_pressure}
use Rattle.equations.specs.Regrouped.{Drained, dry_units, wet_units, prism_units}

pub dry_same : (h o g : ℕ) → Same (whole (dry_units h o g) ⊘ whole 3456000000) ((thousandths h ⊕ hundredths 11 ⊗ thousandths o) ⊗ tenths g ⊘ whole 1728)
unfolding ◌⊕◌ ◌⊗◌ ◌⊘◌ whole
dry_same h o g = same.by_parts (omega arith)

module _ (h o w t s v e : ℕ) where
  above_crown : o + t ≡ 2 * w → Same (thousandths w ⊖ thousandths o ⊘ whole 2) (whole t ⊘ whole 2000)
  unfolding ◌⊖◌ ◌⊘◌ whole
  above_crown k = same.by_parts (omega arith)

  above_water : o + t ≡ 2 * w → t + e ≡ 2 * h → Same (thousandths h ⊖ (thousandths w ⊖ thousandths o ⊘ whole 2)) (whole e ⊘ whole 2000)
  unfolding ◌⊖◌ ◌⊘◌ whole
  above_water k l = same.by_parts (omega arith)

  submerged : 624 + v ≡ s → Same (tenths s ⊖ tenths 624) (tenths v)
  unfolding ◌⊖◌ ◌⊘◌ whole
  submerged k = same.by_parts (omega arith)

  gathered : (g : ℕ) → Same (whole (100 * e * g + (100 * t + 22 * o) * v) ⊘ whole 3456000000) ((whole e ⊘ whole 2000 ⊗ tenths g ⊕ (whole t ⊘ whole 2000 ⊕ hundredths 11 ⊗ thousandths o) ⊗ tenths v) ⊘ whole 1728)
  unfolding ◌⊕◌ ◌⊗◌ ◌⊘◌ whole
  gathered g = same.by_parts (omega arith)

positive : 0 < (whole 1728).num
unfolding whole
positive = lit< tt

pub wet_same : (d : Design) → d.section.outside < 2 * d.site.water → Drained d → Same (whole (wet_units d.site.fill d.section.outside (2 * d.site.water - d.section.outside) d.site.moist_weight d.site.saturated_weight) ⊘ whole 3456000000) (wet_prism d)
unfolding wet_prism crown_water
wet_same d wet drained =
    let h = d.site.fill in
    let o = d.section.outside in
    let w = d.site.water in
    let s = d.site.saturated_weight in
    let t = 2 * w - o in
    let e = 2 * h - t in
    let v = s - 624 in
    let a = above_crown h o w t s v e (omega arith) in
    let b = above_water h o w t s v e (omega arith) (omega arith) in
    let c = submerged h o w t s v e (omega (arith, d.site.weights)) in
    same.trans (gathered h o w t s v e d.site.moist_weight)
    (same.over positive
    (same.plus (same.times (same.sym b) (same.refl (tenths d.site.moist_weight))) (same.times (same.plus (same.sym a) (same.refl (hundredths 11 ⊗ thousandths o))) (same.sym c)))
    (same.refl (whole 1728)))

dry_test : (w o : ℕ) → at_most (thousandths w) (thousandths o ⊘ whole 2) ≡ leb (2 * w) o
unfolding ◌⊘◌ whole
dry_test w o = same.one_test _ _ (2 * w) o (λ h. omega arith) (λ h. omega arith)

pub prism_same : (d : Design) → Drained d → Same (whole (prism_units d) ⊘ whole 3456000000) (prism_pressure d)
unfolding prism_pressure dry_prism
prism_same d drained =
    let o = d.section.outside in
    let w = d.site.water in
    rw (dry_test w o)
    (dite (dec_le (2 * w) o)
    (λ le. rw (le-leb (2 * w) o le) (dry_same d.site.fill o d.site.moist_weight))
    (λ gt. let wet : o < 2 * w = lt_of_not-le gt in rw (lt-leb (2 * w) o wet) (wet_same d wet drained)))
