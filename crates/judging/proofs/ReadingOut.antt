-- The whole numbers that a narrow enclosure is read out in.
use Rattle.std.proofs.Common.{◌≡◌, ℕ, ◌+◌, ◌-◌, ◌*◌, ◌/◌, ◌^◌, ◌<◌, ◌≤◌, Some, ap, ◌∙◌, mul-le-mul_right, mod-lt, le_of_mul-le-mul_right, arith, lit≤, le-leb}
use Rattle.std.proofs.lemmas.Option.{same_Some}
use native.Mathlib.Nat.{div-add-mod}
use Rattle.fraction.specs.Fraction.{Fraction, ratio, whole, ◌⊕◌, ◌⊗◌, ◌⊘◌, ◌≼◌, Same}
use Rattle.fraction.specs.Graded.{Within}
use Rattle.fraction.proofs.Graded as graded
use Rattle.fraction.proofs.Order as order
use Rattle.fraction.proofs.Sames as same
use Rattle.enclosure.specs.Model.{Model, Sound}
use Rattle.enclosure.specs.Readings.{readable, read_below, read_above}
use Rattle.enclosure.proofs.Closeness.{fine_positive}
use Rattle.judging.specs.Judged.{ReadOutOf}
use Rattle.quantities.specs.Known.{Known}

abbrev floor_of : Fraction → ℕ
floor_of x = x.num / x.den

abbrev ceiling_of : Fraction → ℕ
ceiling_of x = (x.num + (x.den - 1)) / x.den

floor_most : (x : Fraction) → floor_of x * x.den ≤ x.num
floor_most x = omega (arith, div-add-mod x.num x.den)

floor_least : (x : Fraction) → x.num < floor_of x * x.den + x.den
floor_least x = omega (arith, div-add-mod x.num x.den, mod-lt x.num x.pos)

ceiling_least : (x : Fraction) → x.num ≤ ceiling_of x * x.den
ceiling_least x = omega (arith, x.pos, div-add-mod (x.num + (x.den - 1)) x.den, mod-lt (x.num + (x.den - 1)) x.pos)

ceiling_most : (x : Fraction) → ceiling_of x * x.den < x.num + x.den
ceiling_most x = omega (arith, x.pos, div-add-mod (x.num + (x.den - 1)) x.den)

-- below what is small, both can be read
floor_there : (n : ℕ) (x : Fraction) → n < 10 ^ 18 → x ≼ whole n → read_below x ≡ Some (floor_of x)
unfolding whole
floor_there n x small h =
    let l : floor_of x ≤ n = le_of_mul-le-mul_right {k = x.den} (omega (arith, floor_most x, h.cross)) x.pos in
    rw (le-leb (floor_of x) (10 ^ 18) (omega arith))

ceiling_there : (n : ℕ) (x : Fraction) → n < 10 ^ 18 → x ≼ whole n → readable (ceiling_of x) ≡ Some (ceiling_of x)
unfolding whole
ceiling_there n x small h =
    let l : ceiling_of x ≤ n + 1 = le_of_mul-le-mul_right {k = x.den} (omega (arith, ceiling_most x, h.cross)) x.pos in
    rw (le-leb (ceiling_of x) (10 ^ 18) (omega arith))

floor_below : (x : Fraction) → whole (floor_of x) ≼ x
unfolding whole
floor_below x = record { cross = omega (arith, floor_most x) }

floor_near : (x : Fraction) → x ≼ whole (floor_of x) ⊕ whole 1
unfolding whole ◌⊕◌
floor_near x = record { cross = omega (arith, floor_least x) }

ceiling_above : (x : Fraction) → x ≼ whole (ceiling_of x)
unfolding whole
ceiling_above x = record { cross = omega (arith, ceiling_least x) }

ceiling_near : (x : Fraction) → whole (ceiling_of x) ≼ x ⊕ whole 1
unfolding whole ◌⊕◌
ceiling_near x = record { cross = omega (arith, ceiling_most x) }

-- a grade as a sum: x w ≤ y w + k x
spread : {w k : ℕ} (x y : Fraction) → Within w k x y → x ⊗ whole w ≼ y ⊗ whole w ⊕ whole k ⊗ x
unfolding whole ◌⊕◌ ◌⊗◌
spread {w} {k} x y h = record { cross = omega (arith, mul-le-mul_right x.den (graded.cleared h)) }

-- and back
narrow : (w k : ℕ) (t l x : Fraction) → 0 < w → t ⊗ whole w ≼ l ⊗ whole w ⊕ whole k ⊗ x → t ≼ l ⊕ whole k ⊘ whole w ⊗ x
unfolding whole ◌⊕◌ ◌⊗◌ ◌⊘◌
narrow w k t l x pos h = record { cross = rw (order.one_max w pos) (omega (arith, h.cross)) }

twos : (a : ℕ) (y : Fraction) → Same (whole a ⊕ whole 1 ⊕ y ⊕ whole 1) (whole a ⊕ y ⊕ whole 2)
unfolding whole ◌⊕◌
twos a y = same.by_parts (omega arith)

gather : (l x : Fraction) → l ⊕ whole 302 ⊗ x ⊕ whole 302 ⊗ (x ⊗ whole 2) ≼ l ⊕ whole 10000 ⊗ x
unfolding whole ◌⊕◌ ◌⊗◌
gather l x = record { cross = omega arith }

module _ {E : Type 0} {m : Model E} (s : Sound m) {x : Fraction} {e : E} (p : Known m 302 1 (10 ^ 4) (10 ^ 15) 1 x e) where
  abbrev top : Fraction
  top = p.close.top

  high : x ≼ whole (10 ^ 15)
  unfolding whole ratio
  high = record { cross = p.below.cross }

  top_twice : top ≼ x ⊗ whole 2
  top_twice = graded.twice (fine_positive s) (omega (arith, s.least_fineness)) p.close.far

  top_high : top ≼ whole (2 * 10 ^ 15)
  top_high = order.le_trans top_twice (order.le_trans (order.times_le high (order.le_refl (whole 2))) (same.whole_times (10 ^ 15) 2).to)

  -- the ends are 10000 / W of x apart at most
  apart : top ≼ m.lower e ⊕ whole 10000 ⊘ whole m.fineness ⊗ x
  apart =
      let w = m.fineness in
      let t = p.close.top in
      let l = m.lower e in
      let up = spread t x p.close.far in
      let down = spread x l p.close.near in
      let twice = order.times_le (order.le_refl (whole 302)) top_twice in
      narrow w 10000 t l x (fine_positive s) (order.le_trans up (order.le_trans (order.plus_le down twice) (gather (l ⊗ whole w) x)))

  pub floor_read : read_below (m.lower e) ≡ Some (floor_of (m.lower e))
  floor_read = floor_there (10 ^ 15) (m.lower e) (lit≤ tt) (order.le_trans p.close.low high)

  pub ceiling_read : read_above (m.upper e) ≡ Some (ceiling_of top)
  ceiling_read = ap read_above p.close.is ∙ ceiling_there (2 * 10 ^ 15) p.close.top (lit≤ tt) top_high

  pub read_out : (a b : ℕ) → Some a ≡ read_below (m.lower e) → Some b ≡ read_above (m.upper e) → ReadOutOf m.fineness x a b
  read_out a b h k =
      let l = m.lower e in
      let t = p.close.top in
      let i = same_Some a (floor_of l) (h ∙ floor_read) in
      let j = same_Some b (ceiling_of t) (k ∙ ceiling_read) in
      let share = whole 10000 ⊘ whole m.fineness ⊗ x in
      rw (i, j)
      (record {
        below = order.le_trans (floor_below l) p.close.low;
        above = order.le_trans p.close.high (ceiling_above t);
        near = order.le_trans (ceiling_near t) (order.le_trans (order.plus_le (order.le_trans apart (order.plus_le (floor_near l) (order.le_refl share))) (order.le_refl (whole 1))) (twos (floor_of l) share).to);
      })
