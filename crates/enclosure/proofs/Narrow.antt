-- Two ends that are narrow around an exact fraction, before any rounding.
use Rattle.std.proofs.Common.{◌≡◌, ℕ, suc, ◌+◌, ◌-◌, ◌*◌, ◌^◌, ◌<◌, ◌≤◌, max, ◌&&◌, T, leb, ap, mul-le-mul_right, mul-le-mul_left, le_of_mul-le-mul_right, arith, lit<, leb→le}
use lib.Ieee.Fits.{and_l, and_r}
use Rattle.fraction.specs.Fraction.{Fraction, ratio, whole, ◌⊕◌, ◌⊗◌, ◌⊘◌, ◌⊔◌, ◌⊓◌, ◌≼◌}
use Rattle.fraction.specs.Graded.{Within}
use Rattle.fraction.proofs.Order.{le_refl, le_trans, zero_le, one_max, plus_le, times_le, over_le, above_zero}
use Rattle.fraction.proofs.Graded as graded
use Rattle.fraction.proofs.Lattice as lattice
use Rattle.enclosure.specs.Model.{Near, huge, tiny}
use Rattle.enclosure.specs.Close.{Tame, in_range}

-- the ends l and h contain x, and each is within the grade n of it
pub record Around (w n : ℕ) (x l h : Fraction) : Type 0 where
  pub low : l ≼ x
  pub high : x ≼ h
  pub near : Within w n x l
  pub far : Within w n h x

pub around_self : {w : ℕ} (x : Fraction) → Around w 0 x x x
around_self x = record { low = le_refl x; high = le_refl x; near = graded.exact (le_refl x); far = graded.exact (le_refl x) }

pub around_wider : {w n : ℕ} (k : ℕ) {x l h : Fraction} → n ≤ k → Around w n x l h → Around w k x l h
around_wider k le a = record { low = a.low; high = a.high; near = graded.wider k le a.near; far = graded.wider k le a.far }

module _ {w : ℕ} (big : 0 < w) {n k : ℕ} {x y l h p q : Fraction} (a : Around w n x l h) (b : Around w k y p q) where
  pub around_times : Around w (n + k) (x ⊗ y) (l ⊗ p) (h ⊗ q)
  around_times =
      record {
        low = times_le a.low b.low;
        high = times_le a.high b.high;
        near = graded.times big a.near b.near;
        far = graded.times big a.far b.far;
      }

  pub around_over : 0 < p.num → Around w (n + k) (x ⊘ y) (l ⊘ q) (h ⊘ p)
  around_over pos =
      let middle = above_zero pos b.low in
      let top = above_zero middle b.high in
      record {
        low = over_le middle a.low b.high;
        high = over_le pos a.high b.low;
        near = graded.over big top a.near b.far;
        far = graded.over big middle a.far b.near;
      }

  first : Around w (max n k) x l h
  first = around_wider (max n k) (omega arith) a

  second : Around w (max n k) y p q
  second = around_wider (max n k) (omega arith) b

  pub around_plus : Around w (max n k) (x ⊕ y) (l ⊕ p) (h ⊕ q)
  around_plus =
      record {
        low = plus_le a.low b.low;
        high = plus_le a.high b.high;
        near = graded.plus first.near second.near;
        far = graded.plus first.far second.far;
      }

  pub around_smaller : Around w (max n k) (x ⊓ y) (l ⊓ p) (h ⊓ q)
  around_smaller =
      record {
        low = lattice.smaller_mono a.low b.low;
        high = lattice.smaller_mono a.high b.high;
        near = lattice.smaller big first.near second.near;
        far = lattice.smaller big first.far second.far;
      }

  pub around_larger : Around w (max n k) (x ⊔ y) (l ⊔ p) (h ⊔ q)
  around_larger =
      record {
        low = lattice.larger_mono a.low b.low;
        high = lattice.larger_mono a.high b.high;
        near = lattice.larger big first.near second.near;
        far = lattice.larger big first.far second.far;
      }

-- a tame fraction is above 0, and so is half of it above 10 ^ -36, and twice it below 10 ^ 36
pub least_positive : {x : Fraction} → ratio 1 (10 ^ 35) (lit< tt) ≼ x → 0 < x.num
unfolding ratio
least_positive h = above_zero {x = ratio 1 (10 ^ 35) (lit< tt)} (lit< tt) h

pub tame_positive : {x : Fraction} → Tame x → 0 < x.num
tame_positive t = least_positive t.low

-- what the test of a grade and two bounds shows
pub record IsInRange (n : ℕ) (low high : Fraction) : Type 0 where
  pub narrow : n ≤ 100000
  pub least : ratio 1 (10 ^ 35) (lit< tt) ≼ low
  pub most : high ≼ whole (10 ^ 35)

pub ranged : (n : ℕ) (low high : Fraction) → T (in_range n low high) → IsInRange n low high
unfolding ratio whole
ranged n low high t =
    let below = leb low.den (low.num * 10 ^ 35) in
    let above = leb high.num (10 ^ 35 * high.den) in
    let r = and_r (leb n 100000) (below && above) t in
    record {
      narrow = leb→le n 100000 (and_l (leb n 100000) (below && above) t);
      least = record { cross = omega (arith, leb→le low.den (low.num * 10 ^ 35) (and_l below above r)) };
      most = record { cross = omega (arith, leb→le high.num (10 ^ 35 * high.den) (and_r below above r)) };
    }

pub tame_between : {n : ℕ} {x low high : Fraction} → IsInRange n low high → low ≼ x → x ≼ high → Tame x
tame_between i a b = record { low = le_trans i.least a; high = le_trans b i.most }

pub tiny_positive : {x : Fraction} → tiny ≼ x → 0 < x.num
unfolding tiny ratio
tiny_positive h = above_zero {x = tiny} (lit< tt) h

half_above : {x y : Fraction} → Tame x → x ≼ y ⊗ whole 2 → tiny ≼ y
unfolding tiny ratio whole ◌⊗◌
half_above {x} {y} t h = let k = le_trans t.low h in record { cross = omega (arith, k.cross) }

twice_below : {x y : Fraction} → Tame x → y ≼ x ⊗ whole 2 → y ≼ huge
unfolding huge whole ◌⊗◌
twice_below {x} {y} t h = let k = le_trans h (times_le t.high (le_refl (whole 2))) in record { cross = omega (arith, k.cross) }

-- so where the ends are narrow around it, fineness is owed, and relative to the end alone
pub record Inside (l h : Fraction) : Type 0 where
  pub low_tiny : tiny ≼ l
  pub high_tiny : tiny ≼ h
  pub low_huge : l ≼ huge
  pub high_huge : h ≼ huge

pub inside : {w n : ℕ} {x l h : Fraction} → 0 < w → 2 * n ≤ w → Tame x → Around w n x l h → Inside l h
inside {w} {n} {x} {l} {h} big half t a =
    let self = graded.twice big {k = 0} (omega arith) (graded.exact (le_refl x)) in
    record {
      low_tiny = half_above t (graded.twice big half a.near);
      high_tiny = le_trans (half_above t self) a.high;
      low_huge = le_trans a.low (twice_below t self);
      high_huge = twice_below t (graded.twice big half a.far);
    }

near_cross : (xn xd gn gd p w : ℕ) → w ≡ suc p → 0 < xd → xn * (gd * (xd * w)) ≤ (gn * (xd * w) + xn * 1 * gd) * xd → xn * gd * p ≤ gn * xd * w
near_cross xn xd gn gd p w e pos h =
    le_of_mul-le-mul_right {k = xd} (omega (arith, h, ap (λ (v : ℕ). xn * gd * xd * v) e)) pos

far_cross : (xn xd gn gd p w : ℕ) → w ≡ suc p → 0 < xd → gn * (xd * (xd * w)) ≤ (xn * (xd * w) + xn * 1 * xd) * gd → gn * xd * p ≤ xn * gd * w
far_cross xn xd gn gd p w e pos h =
    let half : gn * xd * w ≤ xn * gd * (w + 1) = le_of_mul-le-mul_right {k = xd} (omega (arith, h)) pos in
    let less : (w + 1) * p ≤ w * w = omega (arith, ap (λ (v : ℕ). w * v) e, ap (λ (v : ℕ). v * p) e) in
    le_of_mul-le-mul_right {k = w} (omega (arith, mul-le-mul_right p half, mul-le-mul_left (xn * gd) less)) (omega arith)

-- an end within 1 / w of the exact end is at the grade 1 of it, since there the scale is the exact end
module _ {w : ℕ} (big : 0 < w) {x g : Fraction} (above : tiny ≼ x) (near : Near w (x ⊔ tiny ⊔ whole 0) x g) where
  step : (x ⊔ tiny ⊔ whole 0) ⊘ whole w ≼ x ⊘ whole w
  unfolding whole
  step = over_le big (lattice.larger_le (lattice.larger_le (le_refl x) above) (zero_le x)) (le_refl (whole w))

  last : w ≡ suc (w - 1)
  last = omega arith

  pub near_grade : Within w 1 x g
  unfolding ◌⊕◌ ◌⊘◌ whole
  near_grade =
      let h = le_trans near.under (plus_le (le_refl g) step) in
      record { cross = near_cross x.num x.den g.num g.den (w - 1) w last x.pos (rw (one_max w big) at h.cross) }

  pub far_grade : Within w 1 g x
  unfolding ◌⊕◌ ◌⊘◌ whole
  far_grade =
      let h = le_trans near.over (plus_le (le_refl x) step) in
      record { cross = far_cross x.num x.den g.num g.den (w - 1) w last x.pos (rw (one_max w big) at h.cross) }
