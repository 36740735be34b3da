-- The forms of a computation are the equations' own.
use mathlib.Core.Path.{◌≡◌, subst}
use mathlib.Core.Bool.{not}
use mathlib.Core.Logic.{dite}
use native.Mathlib.Decide.{dec_le}
use Prim.Native.Nat.{ℕ, ◌+◌, ◌-◌, ◌*◌, ◌<◌, max}
use native.Mathlib.Nat.{mul-pos, lt_of_not-le}
use native.Mathlib.Omega.{arith}
use borrow.Author.Tests.{le-leb, lt-leb, lt-ltb, le-ltb}
use lib.Dec.{leb, ltb, lit<}
use Rattle.fraction.specs.Fraction.{Fraction, whole, ◌⊕◌, ◌⊗◌, ◌⊘◌, ◌⊖◌, ◌⊔◌, Same}
use Rattle.fraction.specs.Ratio.{at_most}
use Rattle.fraction.proofs.Order as order
use Rattle.fraction.proofs.Sames as same
use Rattle.equations.specs.Units.{tenths, hundredths, thousandths, millionths, cubed}
use Rattle.equations.specs.Design.{fill_depth, centroid_diameter}
use Rattle.equations.specs.LiveLoad.{impact, wheel_width, wheels_pair}
use Rattle.equations.specs.Soil.{fully_supported}
use Rattle.equations.specs.Bending.{computed_stiffness, farther_face}
use Rattle.equations.specs.Regrouped.{AllRegroup}
use Rattle.equations.proofs.Arching.{arching_parts}
use Rattle.equations.proofs.Prism.{prism_same}

-- 1 + 0.33 (1 - h / 96,000) with h + e = 96,000
rolling_same : (h e : ℕ) → h + e ≡ 96000 → Same (whole (9600000 + 33 * e) ⊘ whole 9600000) (whole 1 ⊕ hundredths 33 ⊗ (whole 1 ⊖ thousandths h ⊘ whole 96))
unfolding ◌⊕◌ ◌⊗◌ ◌⊘◌ ◌⊖◌ whole
rolling_same h e k = same.by_parts (omega arith)

-- a quotient, both of its parts multiplied
scaled : (a b x : Fraction) → 0 < b.num → 0 < x.num → Same (a ⊗ x ⊘ (b ⊗ x)) (a ⊘ b)
unfolding ◌⊗◌ ◌⊘◌
scaled a b x bp xp = same.by_parts (rw (order.one_max (b.num * x.num) (mul-pos bp xp), order.one_max b.num bp) (omega arith))

multiplied : (x y : Fraction) → 0 < x.num → Same ((whole 11 ⊕ y ⊘ x) ⊗ x) (whole 11 ⊗ x ⊕ y)
unfolding ◌⊕◌ ◌⊗◌ ◌⊘◌ whole
multiplied x y pos = same.by_parts (rw (order.one_max x.num pos) (omega arith))

eleven : 0 < (whole 11).num
unfolding whole
eleven = lit< tt

depth_same : (x y : Fraction) → 0 < x.num → Same (tenths 114 ⊘ (whole 11 ⊕ y ⊘ x)) (tenths 114 ⊗ x ⊘ (whole 11 ⊗ x ⊕ y))
depth_same x y pos =
    let some = order.plus_positive (whole 11) (y ⊘ x) eleven in
    same.trans (same.sym (scaled (tenths 114) (whole 11 ⊕ y ⊘ x) x some pos))
    (same.over (order.times_positive (whole 11 ⊕ y ⊘ x) x some pos) (same.refl (tenths 114 ⊗ x)) (multiplied x y pos))

ring_cross : (e i p m n : ℕ) → m ≡ 149 * p → n ≡ 100 * (149 * p) → 800000000 * e * i * 1 * (1000000 * m) ≡ e * (i * 1) * 8000000000000 * (1 * n)
ring_cross e i p m n a b = rw (a, b) (omega arith)

ring_same : (e i c : ℕ) → 0 < c → Same (whole (800000000 * e * i) ⊘ whole (100 * (149 * (c * c * c)))) (whole e ⊗ millionths i ⊘ (thousandths 149 ⊗ cubed (thousandths c ⊘ whole 2)))
unfolding ◌⊗◌ ◌⊘◌ whole
ring_same e i c pos =
    let p = mul-pos (mul-pos pos pos) pos in
    same.by_parts (ring_cross e i (c * c * c) _ _ (omega arith) (omega arith))

face_same : (i c o : ℕ) → Same (thousandths (max (o - c) (c - i))) ((thousandths o ⊖ thousandths c) ⊔ (thousandths c ⊖ thousandths i))
unfolding ◌⊘◌ ◌⊖◌ ◌⊔◌ whole
face_same i c o = same.by_parts (omega arith)

pair_test : (h i : ℕ) → at_most (whole 72) (whole 20 ⊕ hundredths 115 ⊗ thousandths h ⊕ hundredths 6 ⊗ thousandths i) ≡ leb 5200000 (115 * h + 6 * i)
unfolding ◌⊕◌ ◌⊗◌ ◌⊘◌ whole
pair_test h i = same.one_test _ _ 5200000 (115 * h + 6 * i) (λ k. omega arith) (λ k. omega arith)

shallow_test : (h : ℕ) → at_most (thousandths h) (whole 96) ≡ leb h 96000
unfolding ◌⊘◌ whole
shallow_test h = same.one_test _ _ h 96000 (λ k. omega arith) (λ k. omega arith)

wide_test : (o b : ℕ) → at_most (whole 3 ⊗ thousandths o) (thousandths b) ≡ leb (3 * o) b
unfolding ◌⊗◌ ◌⊘◌ whole
wide_test o b = same.one_test _ _ (3 * o) b (λ k. omega arith) (λ k. omega arith)

low_test : (h : ℕ) → not (at_most (whole 120) (thousandths h)) ≡ ltb h 120000
unfolding ◌⊘◌ whole
low_test h =
    dite (dec_le 120000 h)
    (λ le. rw (le-leb 120000 (h * 1 * 1) (omega arith), le-ltb h 120000 le))
    (λ gt. let lt = lt_of_not-le gt in rw (lt-leb 120000 (h * 1 * 1) (omega arith), lt-ltb h 120000 lt))

deep : (h : ℕ) → 0 < h → 0 < (thousandths h).num
unfolding ◌⊘◌ whole
deep h pos = omega arith

pub all_regroup : AllRegroup
unfolding impact wheels_pair wheel_width fully_supported computed_stiffness farther_face
all_regroup d =
    let h = d.site.fill in
    let c = d.section.centroid in
    record {
      prism = prism_same d;
      arch = arching_parts;
      rolling = λ le. subst (λ (n : ℕ). Same (whole n ⊘ whole 9600000) (impact d)) (omega arith) (rolling_same h (96000 - h) (omega arith));
      depth = depth_same (fill_depth d) (centroid_diameter d) (deep h (omega (arith, d.site.fills)));
      ring = ring_same d.section.short_modulus d.section.moment c (omega (arith, d.section.diameters));
      face = face_same d.section.inside c d.section.outside;
      pair = pair_test h d.section.inside;
      shallow = shallow_test h;
      full = rw (wide_test d.section.outside d.site.trench, low_test h);
    }
