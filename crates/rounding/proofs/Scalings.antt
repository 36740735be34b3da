-- A quantity P / Q at one exponent, counted from another.
use Rattle.std.proofs.Common.{◌≡◌, ℕ, zero, suc, ◌+◌, ◌-◌, ◌*◌, ◌^◌, ◌<◌, ◌≤◌, cond, None, sym, refl, ap, ◌∙◌, subst, le_of_lt, mul-le-mul_right, mul-le-mul, le_antisymm, lt_of_mul-lt-mul_right, mul-le-mul_left, mul-lt-mul_of_pos_right, mul-pos, pow-suc, le_of_mul-le-mul_right, arith, pow-add, ne_eqb}
use native.Mathlib.Nat.{pow-le-pow_right, pow-zero}
use Rattle.rounding.specs.Radix.{Radix}
use Rattle.rounding.specs.Cut.{cut}
use Rattle.rounding.specs.Placed.{Stands, Scales}
use Rattle.rounding.specs.Rounded.{wider, units, rounded, divided}
use Rattle.rounding.specs.declared.radix.Radix.{Ghosts}
use Rattle.rounding.specs.declared.rounding.Rounding.{Rounding}
use Rattle.rounding.specs.declared.end.End.{End}
use Rattle.rounding.proofs.Cuts.{cut_least, cut_most, cut_terms}
use Rattle.rounding.proofs.Ends.{base_pos, power_pos}
use Rattle.rounding.proofs.Rounds.{stands}

mul_right_cancel : {a b k : ℕ} → 0 < k → a * k ≡ b * k → a ≡ b
mul_right_cancel {a} {b} {k} pos e = le_antisymm (le_of_mul-le-mul_right {k = k} (omega arith) pos) (le_of_mul-le-mul_right {k = k} (omega arith) pos)

module _ {B S W bias : ℕ} (z : Radix B S W bias) (t : Rounding) (N u P Q m from floor : ℕ) (s : Scales B W t N u P Q m from floor) where
  some_parts : 0 < P
  some_parts = let h = mul-pos {m = W} {n = Q} (omega arith) s.parts in omega (arith, s.least)

  pub scales_some : 0 < N
  scales_some = by N s.same
    where
      by : (n : ℕ) → n * (Q * B ^ floor) ≡ P * B ^ from * u → 0 < n
      by zero e = let h = mul-pos (mul-pos some_parts (power_pos z from)) s.some in omega arith
      by (suc n) e = omega arith

  -- below the floor it is less than the least end above 0
  pub scales_slight : from < floor → N < W * u
  scales_slight h =
      let j = floor - from in
      let up : B ≤ B ^ j = subst (λ (x : ℕ). x ≤ B ^ j) (pow-suc B 0 ∙ omega (arith, ap (λ x. x * B) (pow-zero B))) (pow-le-pow_right (base_pos z) (let k : 1 ≤ j = omega arith in k)) in
      let parts : B ^ floor ≡ B ^ j * B ^ from = ap (λ x. B ^ x) (let e : floor ≡ j + from = omega arith in e) ∙ pow-add B j from in
      let same : N * (Q * B ^ j) * B ^ from ≡ P * u * B ^ from = omega (arith, s.same, ap (λ x. N * (Q * x)) parts) in
      let short : N * (Q * B ^ j) ≡ P * u = mul_right_cancel (power_pos z from) same in
      lt_of_mul-lt-mul_right (Q * B)
      (omega (arith, mul-le-mul_left (N * Q) up, mul-lt-mul_of_pos_right s.most s.some))

  pub scales_stands : floor ≤ from → Stands B W t N u m (from - floor)
  scales_stands h =
      let e = from - floor in
      let parts : B ^ from ≡ B ^ e * B ^ floor = ap (λ x. B ^ x) (let i : from ≡ e + floor = omega arith in i) ∙ pow-add B e floor in
      let same : N * Q * B ^ floor ≡ P * (u * B ^ e) * B ^ floor = omega (arith, s.same, ap (λ x. P * x * u) parts) in
      let short : N * Q ≡ P * (u * B ^ e) = mul_right_cancel (power_pos z floor) same in
      stands z t N u m e s.some
      (s.is ∙ cut_terms t P Q N (u * B ^ e) s.parts (mul-pos s.some (power_pos z e)) (sym short))
      (le_of_mul-le-mul_right {k = Q} (omega (arith, short, mul-le-mul_right (u * B ^ e) s.least)) s.parts)

-- it is a full significand, or the next power
pub scales_fit : {B S W bias : ℕ} (z : Radix B S W bias) (t : Rounding) {N u P Q m from floor : ℕ} → Scales B W t N u P Q m from floor → (W ≤ m) × (m ≤ W * B)
scales_fit {B} {S} {W} z t {P = P} {Q = Q} s =
    let least = cut_least t P Q W s.parts s.least in
    let most = cut_most t P Q (W * B) s.parts (le_of_lt s.most) in
    let is = s.is in
    (omega arith, omega arith)

-- the products of two ends' digits
module _ {B S W bias : ℕ} (z : Radix B S W bias) (t : Rounding) (da db ea eb k Q m from : ℕ) where
  pub product_scales : from ≡ ea + eb + k → B ^ k ≡ Q → m ≡ cut t (da * db) Q → W * Q ≤ da * db → da * db < W * B * Q → Scales B W t (da * B ^ ea * (db * B ^ eb)) (B ^ bias) (da * db) Q m from bias
  product_scales f q is least most =
      let sum : B ^ from ≡ B ^ ea * B ^ eb * Q = ap (λ x. B ^ x) f ∙ pow-add B (ea + eb) k ∙ ap (λ x. x * B ^ k) (pow-add B ea eb) ∙ ap (λ x. B ^ ea * B ^ eb * x) q in
      record {
        some = power_pos z bias;
        parts = subst (λ (x : ℕ). 0 < x) q (power_pos z k);
        is = is;
        least = least;
        most = most;
        same = omega (arith, ap (λ x. da * db * x * B ^ bias) sum);
      }

-- the quotient of two ends' digits, of which the first is raised by k digits
module _ {B S W bias : ℕ} (z : Radix B S W bias) (t : Rounding) (da db ea eb k F m floor : ℕ) where
  pub quotient_scales : floor ≡ eb + k → B ^ k ≡ F → 0 < db → m ≡ cut t (da * F) db → W * db ≤ da * F → da * F < W * B * db → Scales B W t (da * B ^ ea * B ^ bias) (db * B ^ eb) (da * F) db m (ea + bias) floor
  quotient_scales g f pos is least most =
      let high = pow-add B ea bias in
      let low : B ^ floor ≡ B ^ eb * F = ap (λ x. B ^ x) g ∙ pow-add B eb k ∙ ap (λ x. B ^ eb * x) f in
      record {
        some = mul-pos pos (power_pos z eb);
        parts = pos;
        is = is;
        least = least;
        most = most;
        same = omega (arith, ap (λ x. da * F * x * (db * B ^ eb)) high, ap (λ x. da * B ^ ea * B ^ bias * (db * x)) low);
      }

-- none of the product where the digits give none
pub no_product : (x y p q : ℕ) → x * y ≡ 0 → x * p * (y * q) ≡ 0
no_product x y p q e = omega (arith, ap (λ n. n * (p * q)) e)

pub power_next : {B S W bias : ℕ} → Radix B S W bias → B ^ (S + 1) ≡ W * B
power_next {B} {S} {W} z = ap (λ x. B ^ x) (let e : S + 1 ≡ suc S = omega arith in e) ∙ pow-suc B S ∙ ap (λ x. x * B) z.0.2

-- the digits of two ends above 0
module _ {R : Type 0} {g : Ghosts R} (a b : End R g) where
  pub limit_square : g.FULL * g.BASE * (g.FULL * g.BASE) ≤ 2 ^ 62
  limit_square = let h = g.lawful.1.1 in omega (arith, mul-le-mul h h)

  pub product_most : a.digits * b.digits < g.FULL * g.BASE * (g.FULL * g.BASE)
  product_most =
      let f = a.few in
      let fb = b.few in
      let w = wider g.lawful in
      omega (arith, mul-le-mul_left a.digits (le_of_lt fb), mul-lt-mul_of_pos_right f (let p : 0 < g.FULL * g.BASE = omega arith in p))

  both_some : 0 < a.digits * b.digits → (0 < a.digits) × (0 < b.digits)
  both_some h = by a.digits b.digits h
    where
      by : (m n : ℕ) → 0 < m * n → (0 < m) × (0 < n)
      by zero n h = absurd (omega arith)
      by (suc m) zero h = absurd (omega arith)
      by (suc m) (suc n) h = (omega arith, omega arith)

  pub product_least : (a.digits * b.digits ≡ 0 → ⊥) → g.FULL * g.FULL ≤ a.digits * b.digits
  product_least n =
      let s = both_some (omega arith) in
      mul-le-mul (a.full s.0) (b.full s.1)

-- the digits of a quotient, raised by one digit more where the first are fewer
module _ {R : Type 0} {g : Ghosts R} (a b : End R g) where
  pub quotient_low : 0 < a.digits → a.digits < b.digits → (g.FULL * b.digits ≤ a.digits * (g.FULL * g.BASE)) × (a.digits * (g.FULL * g.BASE) < g.FULL * g.BASE * b.digits)
  quotient_low some l =
      let w = wider g.lawful in
      let pos : 0 < g.FULL * g.BASE = omega arith in (
        omega (arith, mul-le-mul_right (g.FULL * g.BASE) (a.full some), mul-le-mul_left g.FULL (le_of_lt b.few)),
        omega (arith, mul-lt-mul_of_pos_right l pos),
      )

  pub quotient_high : 0 < b.digits → b.digits ≤ a.digits → (g.FULL * b.digits ≤ a.digits * g.FULL) × (a.digits * g.FULL < g.FULL * g.BASE * b.digits)
  quotient_high some l =
      let pos : 0 < g.FULL = let z = g.lawful in omega arith in (
        omega (arith, mul-le-mul_right g.FULL l),
        omega (arith, mul-lt-mul_of_pos_right a.few pos, mul-le-mul_left (g.FULL * g.BASE) (b.full some)),
      )

  pub divided_by : (t : Rounding) → 0 < b.digits → divided {g = g} t (units a) (units b) ≡ rounded {g = g} t (units a * g.BASE ^ g.BIAS) (units b)
  divided_by t some =
      let p = mul-pos some (power_pos g.lawful b.exponent) in
      ap (λ x. cond x None (rounded {g = g} t (units a * g.BASE ^ g.BIAS) (units b))) (ne_eqb (units b) 0 (λ e. omega arith))

-- a product and a quotient by their digits, as the code finds them
module _ {R : Type 0} {g : Ghosts R} (a b : End R g) (t : Rounding) (full limit places bias m : ℕ) (f : full ≡ g.FULL) (l : limit ≡ g.FULL * g.BASE) (p : places ≡ g.PLACES) (q : bias ≡ g.BIAS) where
  pub narrow_product : m ≡ cut t (a.digits * b.digits) full → (a.digits * b.digits ≡ 0 → ⊥) → a.digits * b.digits < limit * full → Scales g.BASE g.FULL t (units a * units b) (g.BASE ^ g.BIAS) (a.digits * b.digits) g.FULL m (a.exponent + b.exponent + places) bias
  narrow_product is some most =
      rw (p, q)
      (product_scales g.lawful t a.digits b.digits a.exponent b.exponent g.PLACES g.FULL m _ refl g.lawful.0.2 (rw f at is) (product_least a b some) (rw (l, f) at most))

  pub wide_product : m ≡ cut t (a.digits * b.digits) limit → limit * full ≤ a.digits * b.digits → Scales g.BASE g.FULL t (units a * units b) (g.BASE ^ g.BIAS) (a.digits * b.digits) (g.FULL * g.BASE) m (a.exponent + b.exponent + places + 1) bias
  wide_product is least =
      rw (p, q)
      (let h : g.FULL * g.BASE * g.FULL ≤ a.digits * b.digits = rw (l, f) at least in
      product_scales g.lawful t a.digits b.digits a.exponent b.exponent (g.PLACES + 1) (g.FULL * g.BASE) m _ (omega arith) (power_next g.lawful) (rw l at is) (omega (arith, h)) (product_most a b))

module _ {R : Type 0} {g : Ghosts R} (a b : End R g) (t : Rounding) (raised places bias m : ℕ) (p : places ≡ g.PLACES) (q : bias ≡ g.BIAS) (is : m ≡ cut t (a.digits * raised) b.digits) (some : b.digits ≡ 0 → ⊥) where
  pub low_quotient : raised ≡ g.FULL * g.BASE → (a.digits ≡ 0 → ⊥) → a.digits < b.digits → Scales g.BASE g.FULL t (units a * g.BASE ^ g.BIAS) (units b) (a.digits * (g.FULL * g.BASE)) b.digits m (a.exponent + bias) (b.exponent + places + 1)
  low_quotient l n h =
      let k = quotient_low a b (omega (arith, n)) h in
      rw (p, q)
      (quotient_scales g.lawful t a.digits b.digits a.exponent b.exponent (g.PLACES + 1) (g.FULL * g.BASE) m _ (omega arith) (power_next g.lawful) (omega (arith, some)) (rw l at is) k.0 k.1)

  pub high_quotient : raised ≡ g.FULL → b.digits ≤ a.digits → Scales g.BASE g.FULL t (units a * g.BASE ^ g.BIAS) (units b) (a.digits * g.FULL) b.digits m (a.exponent + bias) (b.exponent + places)
  high_quotient f h =
      let k = quotient_high a b (omega (arith, some)) h in
      rw (p, q)
      (quotient_scales g.lawful t a.digits b.digits a.exponent b.exponent g.PLACES g.FULL m _ refl g.lawful.0.2 (omega (arith, some)) (rw f at is) k.0 k.1)
