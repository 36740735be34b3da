-- Fractions that are one number: what holds of one holds of the other.
use Rattle.std.proofs.Common.{◌≡◌, ℕ, ◌+◌, ◌*◌, ◌<◌, ◌≤◌, leb, sym as back, ◌∙◌, lt_of_not-le, arith}
use Rattle.std.proofs.lemmas.Bool.{le-leb, lt-leb}
use mathlib.Core.Logic.{dite}
use native.Mathlib.Decide.{dec_le}
use Rattle.fraction.specs.Fraction.{Fraction, ratio, whole, ◌⊕◌, ◌⊗◌, ◌⊘◌, ◌⊖◌, ◌⊔◌, ◌⊓◌, ◌≼◌, ◌≺◌, Same}
use Rattle.fraction.specs.Graded.{Within, Band}
use Rattle.fraction.specs.Ratio.{at_most}
use Rattle.fraction.proofs.Order as order
use Rattle.fraction.proofs.Graded as graded
use Rattle.fraction.proofs.Lattice as lattice

pub refl : (x : Fraction) → Same x x
refl x = record { to = order.le_refl x; from = order.le_refl x }

pub sym : {x y : Fraction} → Same x y → Same y x
sym h = record { to = h.from; from = h.to }

pub trans : {x y z : Fraction} → Same x y → Same y z → Same x z
trans h k = record { to = order.le_trans h.to k.to; from = order.le_trans k.from h.from }

-- by the two parts of each
pub by_parts : {x y : Fraction} → x.num * y.den ≡ y.num * x.den → Same x y
by_parts {x} {y} e = record { to = record { cross = omega (arith, e) }; from = record { cross = omega (arith, e) } }

-- the operations; a quotient where the divisor is not 0, or by one divisor, be it 0 or not
pub plus : {x y u v : Fraction} → Same x y → Same u v → Same (x ⊕ u) (y ⊕ v)
plus h k = record { to = order.plus_le h.to k.to; from = order.plus_le h.from k.from }

pub times : {x y u v : Fraction} → Same x y → Same u v → Same (x ⊗ u) (y ⊗ v)
times h k = record { to = order.times_le h.to k.to; from = order.times_le h.from k.from }

pub over : {x y u v : Fraction} → 0 < u.num → Same x y → Same u v → Same (x ⊘ u) (y ⊘ v)
over pos h k =
    record {
      to = order.over_le (order.above_zero pos k.to) h.to k.from;
      from = order.over_le pos h.from k.to;
    }

pub over_one : {x y : Fraction} (z : Fraction) → Same x y → Same (x ⊘ z) (y ⊘ z)
over_one z h = record { to = order.over_one_le z h.to; from = order.over_one_le z h.from }

pub excess : {x y u v : Fraction} → Same x y → Same u v → Same (x ⊖ u) (y ⊖ v)
excess h k = record { to = order.excess_le h.to k.from; from = order.excess_le h.from k.to }

pub smaller : {x y u v : Fraction} → Same x y → Same u v → Same (x ⊓ u) (y ⊓ v)
smaller h k = record { to = lattice.smaller_mono h.to k.to; from = lattice.smaller_mono h.from k.from }

pub larger : {x y u v : Fraction} → Same x y → Same u v → Same (x ⊔ u) (y ⊔ v)
larger h k = record { to = lattice.larger_mono h.to k.to; from = lattice.larger_mono h.from k.from }

-- the relations
pub le_along : {x y u v : Fraction} → Same x y → Same u v → x ≼ u → y ≼ v
le_along h k a = order.le_trans h.from (order.le_trans a k.to)

pub lt_along : {x y u v : Fraction} → Same x y → Same u v → x ≺ u → y ≺ v
lt_along h k a = order.le_lt h.from (order.lt_le a k.to)

pub within_along : {w n : ℕ} {x y u v : Fraction} → 0 < w → Same x y → Same u v → Within w n x u → Within w n y v
within_along big h k a = graded.after big h.from (graded.before big a k.to)

pub band_along : {w n : ℕ} {x y u v : Fraction} → Same x y → Same u v → Band w n x u → Band w n y v
band_along {w} {n} h k b =
    record {
      above = le_along (times (excess h k) (refl (whole w))) (times (larger h k) (refl (whole n))) b.above;
      below = le_along (times (excess k h) (refl (whole w))) (times (larger h k) (refl (whole n))) b.below;
    }

-- one decision, by the two orders
pub one_test : (a b c d : ℕ) → (a ≤ b → c ≤ d) → (c ≤ d → a ≤ b) → leb a b ≡ leb c d
one_test a b c d to from =
    dite (dec_le a b)
    (λ le. le-leb a b le ∙ back (le-leb c d (to le)))
    (λ gt. lt-leb a b (lt_of_not-le gt) ∙ back (lt-leb c d (lt_of_not-le (λ le. gt (from le)))))

pub test_along : {x y : Fraction} (z : Fraction) → Same x y → at_most x z ≡ at_most y z
test_along {x} {y} z h =
    one_test _ _ _ _
    (λ le. (order.le_trans {x = y} {y = x} {z = z} h.from (record { cross = le })).cross)
    (λ le. (order.le_trans {x = x} {y = y} {z = z} h.to (record { cross = le })).cross)

-- the laws of sums and products
pub plus_comm : (x y : Fraction) → Same (x ⊕ y) (y ⊕ x)
unfolding ◌⊕◌
plus_comm x y = by_parts (omega arith)

pub plus_assoc : (x y z : Fraction) → Same (x ⊕ y ⊕ z) (x ⊕ (y ⊕ z))
unfolding ◌⊕◌
plus_assoc x y z = by_parts (omega arith)

pub times_comm : (x y : Fraction) → Same (x ⊗ y) (y ⊗ x)
unfolding ◌⊗◌
times_comm x y = by_parts (omega arith)

pub times_assoc : (x y z : Fraction) → Same (x ⊗ y ⊗ z) (x ⊗ (y ⊗ z))
unfolding ◌⊗◌
times_assoc x y z = by_parts (omega arith)

pub times_plus : (x y z : Fraction) → Same (x ⊗ (y ⊕ z)) (x ⊗ y ⊕ x ⊗ z)
unfolding ◌⊕◌ ◌⊗◌
times_plus x y z = by_parts (omega arith)

-- whole numbers among fractions
pub whole_plus : (m n : ℕ) → Same (whole m ⊕ whole n) (whole (m + n))
unfolding ◌⊕◌ whole
whole_plus m n = by_parts (omega arith)

pub whole_times : (m n : ℕ) → Same (whole m ⊗ whole n) (whole (m * n))
unfolding ◌⊗◌ whole
whole_times m n = by_parts (omega arith)

-- a quotient of whole numbers is their ratio, and dividing undoes multiplying
pub whole_over : (m n : ℕ) (pos : 0 < n) → Same (whole m ⊘ whole n) (ratio m n pos)
unfolding ◌⊘◌ whole ratio
whole_over m n pos = by_parts (rw (order.one_max n pos) (omega arith))

pub over_times : (x y : Fraction) → 0 < y.num → Same (x ⊘ y ⊗ y) x
unfolding ◌⊘◌ ◌⊗◌
over_times x y pos = by_parts (rw (order.one_max y.num pos) (omega arith))
