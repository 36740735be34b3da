-- The order of fractions, and how the operations keep it.
use Rattle.std.proofs.Common.{◌≡◌, ℕ, zero, suc, ◌+◌, ◌-◌, ◌*◌, ◌<◌, ◌≤◌, max, refl, ◌∙◌, mul-le-mul_right, mul_comm, mul-le-mul, lt_of_mul-lt-mul_right, mul-le-mul_left, mul-lt-mul_of_pos_right, mul-pos, lt_of_not-le, le_of_mul-le-mul_right, arith}
use native.Mathlib.Nat.{mul-sub}
use Rattle.fraction.specs.Fraction.{Fraction, whole, ◌⊕◌, ◌⊗◌, ◌⊘◌, ◌⊖◌, ◌≼◌, ◌≺◌}

pub le_refl : (x : Fraction) → x ≼ x
le_refl x = record { cross = omega arith }

pub le_trans : {x y z : Fraction} → x ≼ y → y ≼ z → x ≼ z
le_trans {x} {y} {z} a b =
    record { cross = le_of_mul-le-mul_right {k = y.den} (omega (arith, mul-le-mul_right z.den a.cross, mul-le-mul_right x.den b.cross)) y.pos }

pub le_lt : {x y z : Fraction} → x ≼ y → y ≺ z → x ≺ z
le_lt {x} {y} {z} a b =
    record { cross = lt_of_mul-lt-mul_right y.den (omega (arith, mul-le-mul_right z.den a.cross, mul-lt-mul_of_pos_right b.cross x.pos)) }

pub lt_le : {x y z : Fraction} → x ≺ y → y ≼ z → x ≺ z
lt_le {x} {y} {z} a b =
    record { cross = lt_of_mul-lt-mul_right y.den (omega (arith, mul-lt-mul_of_pos_right a.cross z.pos, mul-le-mul_right x.den b.cross)) }

pub le_of_lt : {x y : Fraction} → x ≺ y → x ≼ y
le_of_lt h = record { cross = omega (arith, h.cross) }

pub lt_trans : {x y z : Fraction} → x ≺ y → y ≺ z → x ≺ z
lt_trans a b = lt_le a (le_of_lt b)

-- one is at most the other, or above it, and not both
pub not_le : {x y : Fraction} → (x ≼ y → ⊥) → y ≺ x
not_le {x} {y} h = record { cross = lt_of_not-le (λ (c : x.num * y.den ≤ y.num * x.den). h (record { cross = c })) }

pub not_lt : {x y : Fraction} → (x ≺ y → ⊥) → y ≼ x
not_lt {x} {y} h =
    let l = lt_of_not-le (λ (c : x.num * y.den < y.num * x.den). h (record { cross = c })) in record { cross = omega arith }

pub not_both : {x y : Fraction} → x ≼ y → y ≺ x → ⊥
not_both a b = omega (arith, a.cross, b.cross)

-- above what is above 0 nothing is 0
pub above_zero : {x y : Fraction} → 0 < x.num → x ≼ y → 0 < y.num
above_zero {x} {y} pos le = by y.num le.cross
  where
    by : (n : ℕ) → x.num * y.den ≤ n * x.den → 0 < n
    by zero h = omega (arith, mul-pos pos y.pos)
    by (suc n) h = omega arith

pub whole_le : {m n : ℕ} → m ≤ n → whole m ≼ whole n
unfolding whole
whole_le h = record { cross = omega (arith, h) }

pub zero_le : (x : Fraction) → whole 0 ≼ x
unfolding whole
zero_le x = record { cross = omega arith }

pub plus_first : (x y : Fraction) → x ≼ x ⊕ y
unfolding ◌⊕◌
plus_first x y = record { cross = omega arith }

pub plus_second : (x y : Fraction) → y ≼ x ⊕ y
unfolding ◌⊕◌
plus_second x y = record { cross = omega arith }

plus_cross : (xn xd yn yd un ud vn vd : ℕ) → xn * yd ≤ yn * xd → un * vd ≤ vn * ud → (xn * ud + un * xd) * (yd * vd) ≤ (yn * vd + vn * yd) * (xd * ud)
plus_cross xn xd yn yd un ud vn vd a b = omega (arith, mul-le-mul_right (ud * vd) a, mul-le-mul_right (xd * yd) b)

pub plus_le : {x y u v : Fraction} → x ≼ y → u ≼ v → x ⊕ u ≼ y ⊕ v
unfolding ◌⊕◌
plus_le {x} {y} {u} {v} a b =
    record { cross = plus_cross x.num x.den y.num y.den u.num u.den v.num v.den a.cross b.cross }

times_cross : (xn xd yn yd un ud vn vd : ℕ) → xn * yd ≤ yn * xd → un * vd ≤ vn * ud → (xn * un) * (yd * vd) ≤ (yn * vn) * (xd * ud)
times_cross xn xd yn yd un ud vn vd a b = omega (arith, mul-le-mul a b)

pub times_le : {x y u v : Fraction} → x ≼ y → u ≼ v → x ⊗ u ≼ y ⊗ v
unfolding ◌⊗◌
times_le {x} {y} {u} {v} a b =
    record { cross = times_cross x.num x.den y.num y.den u.num u.den v.num v.den a.cross b.cross }

-- the divisor, where it is not 0
pub one_max : (n : ℕ) → 0 < n → max 1 n ≡ n
one_max n h = omega arith

over_cross : (xn xd yn yd un ud vn vd mu mv : ℕ) → un ≤ mu → mv ≡ vn → xn * yd ≤ yn * xd → vn * ud ≤ un * vd → (xn * ud) * (yd * mv) ≤ (yn * vd) * (xd * mu)
over_cross xn xd yn yd un ud vn vd mu mv le e a b = rw e (omega (arith, mul-le-mul a b, mul-le-mul_left (yn * vd * xd) le))

-- the larger divisor gives the smaller quotient
pub over_le : {x y u v : Fraction} → 0 < v.num → x ≼ y → v ≼ u → x ⊘ u ≼ y ⊘ v
unfolding ◌⊘◌
over_le {x} {y} {u} {v} pos a b =
    record { cross = over_cross x.num x.den y.num y.den u.num u.den v.num v.den (max 1 u.num) (max 1 v.num) (omega arith) (omega arith) a.cross b.cross }

-- by one divisor, be it 0 or not
pub over_one_le : {x y : Fraction} (z : Fraction) → x ≼ y → x ⊘ z ≼ y ⊘ z
unfolding ◌⊘◌
over_one_le {x} {y} z h =
    let m = max 1 z.num in
    record { cross = over_cross x.num x.den y.num y.den m z.den m z.den m m (omega arith) refl h.cross (omega arith) }

-- a product with a difference
pub sub_mul : (a b c : ℕ) → (a - b) * c ≡ a * c - b * c
sub_mul a b c = mul_comm (a - b) c ∙ (mul-sub c a b ∙ swap)
  where
    swap : c * a - c * b ≡ a * c - b * c
    swap = rw (mul_comm c a, mul_comm c b)

excess_cross : (xn xd yn yd an ad bn bd : ℕ) → xn * ad ≤ an * xd → bn * yd ≤ yn * bd → (xn * yd - yn * xd) * (ad * bd) ≤ (an * bd - bn * ad) * (xd * yd)
excess_cross xn xd yn yd an ad bn bd a b =
    rw (sub_mul (xn * yd) (yn * xd) (ad * bd), sub_mul (an * bd) (bn * ad) (xd * yd))
    (omega (arith, mul-le-mul_right (yd * bd) a, mul-le-mul_right (xd * ad) b))

pub excess_le : {x y u v : Fraction} → x ≼ u → v ≼ y → x ⊖ y ≼ u ⊖ v
unfolding ◌⊖◌
excess_le {x} {y} {u} {v} a b =
    record { cross = excess_cross x.num x.den y.num y.den u.num u.den v.num v.den a.cross b.cross }

pub excess_first : (x y : Fraction) → x ⊖ y ≼ x
unfolding ◌⊖◌
excess_first x y =
    let h : x.num * y.den - y.num * x.den ≤ x.num * y.den = omega arith in record { cross = omega (arith, mul-le-mul_right x.den h) }

-- no result of what is above 0 is 0
pub plus_positive : (x y : Fraction) → 0 < x.num → 0 < (x ⊕ y).num
unfolding ◌⊕◌
plus_positive x y h = omega (arith, mul-pos h y.pos)

pub times_positive : (x y : Fraction) → 0 < x.num → 0 < y.num → 0 < (x ⊗ y).num
unfolding ◌⊗◌
times_positive x y h k = mul-pos h k

pub over_positive : (x y : Fraction) → 0 < x.num → 0 < (x ⊘ y).num
unfolding ◌⊘◌
over_positive x y h = mul-pos h y.pos
