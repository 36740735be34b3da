-- The graded order: how its grades add up, and the band that it gives.
use Rattle.std.proofs.Common.{◌≡◌, ℕ, zero, suc, ◌+◌, ◌-◌, ◌*◌, ◌<◌, ◌≤◌, max, sym, subst, add-zero, mul-le-mul_right, mul_comm, mul-le-mul, mul-le-mul_left, mul-pos, zero-add, le_of_mul-le-mul_right, arith}
use mathlib.Core.Logic.{dite}
use native.Mathlib.Decide.{dec_le}
use Rattle.fraction.specs.Fraction.{Fraction, whole, ◌⊕◌, ◌⊗◌, ◌⊘◌, ◌⊖◌, ◌⊔◌, ◌≼◌}
use Rattle.fraction.specs.Graded.{Within, Band}
use Rattle.fraction.proofs.Order.{sub_mul}

-- (1 - n / w) (1 - m / w) ≥ 1 - (n + m) / w
rest_of_both : (n m r w p q : ℕ) → w ≡ n + m + r → p ≡ m + r → q ≡ n + r → w * r ≤ p * q
rest_of_both n m r w p q a b c =
    subst (λ (v : ℕ). v * r ≤ p * q) (sym a) (subst (λ (v : ℕ). (n + m + r) * r ≤ v * q) (sym b) (subst (λ (v : ℕ). (n + m + r) * r ≤ (m + r) * v) (sym c) (omega arith)))

rests : (w n m : ℕ) → w * (w - (n + m)) ≤ (w - n) * (w - m)
rests w n m =
    dite (dec_le (n + m) w)
    (λ le. rest_of_both n m (w - (n + m)) w (w - n) (w - m) (omega arith) (omega arith) (omega arith))
    (λ gt. let e : w - (n + m) ≡ 0 = omega arith in rw e (omega arith))

-- p, q and r are what is left of w
trans_cross : (xn xd yn yd zn zd w p q r : ℕ) → 0 < yd → 0 < w → w * r ≤ p * q → xn * yd * p ≤ yn * xd * w → yn * zd * q ≤ zn * yd * w → xn * zd * r ≤ zn * xd * w
trans_cross xn xd yn yd zn zd w p q r pos big j a b =
    le_of_mul-le-mul_right {k = yd * w}
    (omega (arith, mul-le-mul_left (xn * zd * yd) j, mul-le-mul_right (zd * q) a, mul-le-mul_right (xd * w) b))
    (mul-pos pos big)

times_cross : (xn xd yn yd un ud vn vd w p q r : ℕ) → 0 < w → w * r ≤ p * q → xn * yd * p ≤ yn * xd * w → un * vd * q ≤ vn * ud * w → (xn * un) * (yd * vd) * r ≤ (yn * vn) * (xd * ud) * w
times_cross xn xd yn yd un ud vn vd w p q r big j a b =
    le_of_mul-le-mul_right {k = w} (omega (arith, mul-le-mul_left (xn * un * yd * vd) j, mul-le-mul a b)) big

plus_cross : (xn xd yn yd un ud vn vd p q : ℕ) → xn * yd * p ≤ yn * xd * q → un * vd * p ≤ vn * ud * q → (xn * ud + un * xd) * (yd * vd) * p ≤ (yn * vd + vn * yd) * (xd * ud) * q
plus_cross xn xd yn yd un ud vn vd p q a b = omega (arith, mul-le-mul_right (ud * vd) a, mul-le-mul_right (xd * yd) b)

over_cross : (xn xd yn yd un ud vn vd mu mv w p q r : ℕ) → 0 < w → w * r ≤ p * q → un ≤ mu → mv ≡ vn → xn * yd * p ≤ yn * xd * w → vn * ud * q ≤ un * vd * w → (xn * ud) * (yd * mv) * r ≤ (yn * vd) * (xd * mu) * w
over_cross xn xd yn yd un ud vn vd mu mv w p q r big j le e a b =
    let h : (xn * ud) * (yd * vn) * r ≤ (yn * vd) * (xd * un) * w = le_of_mul-le-mul_right {k = w} (omega (arith, mul-le-mul_left (xn * ud * yd * vn) j, mul-le-mul a b)) big in
    let k : (xn * ud) * (yd * vn) * r ≤ (yn * vd) * (xd * mu) * w = omega (arith, h, mul-le-mul_left (yn * vd * xd * w) le) in
    subst (λ (m : ℕ). (xn * ud) * (yd * m) * r ≤ (yn * vd) * (xd * mu) * w) (sym e) k

module _ {w : ℕ} where
  -- the order is the grade 0
  pub exact : {x y : Fraction} → x ≼ y → Within w 0 x y
  exact {x} {y} h =
      let e : w - 0 ≤ w = omega arith in
      record { cross = omega (arith, mul-le-mul_left (x.num * y.den) e, mul-le-mul_right w h.cross) }

  pub wider : {k : ℕ} (l : ℕ) {x y : Fraction} → k ≤ l → Within w k x y → Within w l x y
  wider {k} l {x} {y} le a =
      let e : w - l ≤ w - k = omega arith in record { cross = omega (arith, a.cross, mul-le-mul_left (x.num * y.den) e) }

  pub plus : {n : ℕ} {x y u v : Fraction} → Within w n x y → Within w n u v → Within w n (x ⊕ u) (y ⊕ v)
  unfolding ◌⊕◌
  plus {n} {x} {y} {u} {v} a b =
      record { cross = plus_cross x.num x.den y.num y.den u.num u.den v.num v.den (w - n) w a.cross b.cross }

  -- x w ≤ y w + k x
  pub cleared : {k : ℕ} {x y : Fraction} → Within w k x y → x.num * y.den * w ≤ y.num * x.den * w + k * (x.num * y.den)
  cleared {k} {x} {y} a =
      let e : w ≤ (w - k) + k = omega arith in omega (arith, a.cross, mul-le-mul_left (x.num * y.den) e)

module _ {w : ℕ} (big : 0 < w) where
  pub trans : {n m : ℕ} {x y z : Fraction} → Within w n x y → Within w m y z → Within w (n + m) x z
  trans {n} {m} {x} {y} {z} a b =
      record { cross = trans_cross x.num x.den y.num y.den z.num z.den w (w - n) (w - m) (w - (n + m)) y.pos big (rests w n m) a.cross b.cross }

  -- after and before what is exact
  pub after : {n : ℕ} {x y z : Fraction} → x ≼ y → Within w n y z → Within w n x z
  after {n} a b = rw (zero-add n) at (trans (exact a) b)

  pub before : {n : ℕ} {x y z : Fraction} → Within w n x y → y ≼ z → Within w n x z
  before {n} a b = rw (add-zero n) at (trans a (exact b))

  -- and the grade 0 is the order
  pub plain : {x y : Fraction} → Within w 0 x y → x ≼ y
  plain {x} {y} a =
      let e : w ≤ w - 0 = omega arith in
      record { cross = le_of_mul-le-mul_right {k = w} (omega (arith, a.cross, mul-le-mul_left (x.num * y.den) e)) big }

  pub times : {n m : ℕ} {x y u v : Fraction} → Within w n x y → Within w m u v → Within w (n + m) (x ⊗ u) (y ⊗ v)
  unfolding ◌⊗◌
  times {n} {m} {x} {y} {u} {v} a b =
      record { cross = times_cross x.num x.den y.num y.den u.num u.den v.num v.den w (w - n) (w - m) (w - (n + m)) big (rests w n m) a.cross b.cross }

  pub over : {n m : ℕ} {x y u v : Fraction} → 0 < v.num → Within w n x y → Within w m v u → Within w (n + m) (x ⊘ u) (y ⊘ v)
  unfolding ◌⊘◌
  over {n} {m} {x} {y} {u} {v} pos a b =
      record { cross = over_cross x.num x.den y.num y.den u.num u.den v.num v.den (max 1 u.num) (max 1 v.num) w (w - n) (w - m) (w - (n + m)) big (rests w n m) (omega arith) (omega arith) a.cross b.cross }

  -- up to half of w, one is at most twice the other
  pub twice : {k : ℕ} {x y : Fraction} → 2 * k ≤ w → Within w k x y → x ≼ y ⊗ whole 2
  unfolding ◌⊗◌ whole
  twice {k} {x} {y} le a =
      let h : w ≤ 2 * (w - k) = omega arith in
      let d : x.num * y.den ≤ 2 * (y.num * x.den) = le_of_mul-le-mul_right {k = w} (omega (arith, a.cross, mul-le-mul_left (x.num * y.den) h)) big in
      record { cross = omega (arith, d) }

-- above 0 at any grade below w
pub below_zero : {w n : ℕ} {x y : Fraction} → n < w → 0 < x.num → Within w n x y → 0 < y.num
below_zero {w} {n} {x} {y} part pos a = by y.num a.cross
  where
    left : 0 < w - n
    left = omega arith

    by : (k : ℕ) → x.num * y.den * (w - n) ≤ k * x.den * w → 0 < k
    by zero h = omega (arith, h, mul-pos (mul-pos pos y.pos) left)
    by (suc k) h = omega arith

band_cross : (X Y w j k D M : ℕ) → j ≤ k → X ≤ M → X * w ≤ Y * w + j * X → ((X - Y) * w) * D ≤ (M * k) * D
band_cross X Y w j k D M le top h =
    let flat : (X - Y) * w ≤ M * k = rw (sub_mul X Y w) (omega (arith, h, mul-le-mul_right X le, mul-le-mul_right k top)) in
    mul-le-mul_right D flat

above_band : {w j : ℕ} (k : ℕ) {x y : Fraction} → j ≤ k → Within w j x y → (x ⊖ y) ⊗ whole w ≼ (x ⊔ y) ⊗ whole k
unfolding ◌⊗◌ ◌⊖◌ ◌⊔◌ whole
above_band {w} {j} k {x} {y} le a =
    record { cross = band_cross (x.num * y.den) (y.num * x.den) w j k (x.den * y.den * 1) (max (x.num * y.den) (y.num * x.den)) le (omega arith) (cleared a) }

below_band : {w j : ℕ} (k : ℕ) {x y : Fraction} → j ≤ k → Within w j y x → (y ⊖ x) ⊗ whole w ≼ (x ⊔ y) ⊗ whole k
unfolding ◌⊗◌ ◌⊖◌ ◌⊔◌ whole
below_band {w} {j} k {x} {y} le a =
    let h = band_cross (y.num * x.den) (x.num * y.den) w j k (x.den * y.den * 1) (max (x.num * y.den) (y.num * x.den)) le (omega arith) (cleared a) in
    record { cross = rw (mul_comm y.den x.den) h }

-- two that are within a grade of each other, both ways, are in the band of that grade
pub band : {w j : ℕ} (k : ℕ) {x y : Fraction} → j ≤ k → Within w j x y → Within w j y x → Band w k x y
band k le a b = record { above = above_band k le a; below = below_band k le b }
