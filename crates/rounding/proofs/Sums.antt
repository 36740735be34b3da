-- Sums, differences and whole numbers, as digits at an exponent.
use Rattle.std.proofs.Common.{◌≡◌, ℕ, zero, suc, ◌+◌, ◌-◌, ◌*◌, ◌^◌, ◌<◌, ◌≤◌, sym, refl, ap, ◌∙◌, subst, le_of_lt, mul-le-mul_right, mul-le-mul, mul-le-mul_left, one-mul, pow-suc, lt_of_not-le, arith, pow-add}
use mathlib.Core.Logic.{dite}
use native.Mathlib.Decide.{dec_le}
use native.Mathlib.Nat.{pow-le-pow_right, pow-zero}
use Rattle.rounding.specs.Radix.{Radix}
use Rattle.rounding.specs.Cut.{cut, turned}
use Rattle.rounding.specs.Placed.{Stands}
use Rattle.rounding.specs.Rounded.{units, wider}
use Rattle.rounding.specs.declared.radix.Radix.{Ghosts}
use Rattle.rounding.specs.declared.rounding.Rounding.{Rounding}
use Rattle.rounding.specs.declared.end.End.{End}
use Rattle.rounding.proofs.Cuts.{cut_terms, cut_plus, cut_minus, cut_exact, cut_one, cut_least, cut_most}
use Rattle.rounding.proofs.Ends.{base_pos, power_pos, exponents_tell, digits_tell}
use Rattle.rounding.proofs.Rounds.{stands}
use Rattle.rounding.proofs.Drops.{less_power}

module _ {B S W bias : ℕ} (z : Radix B S W bias) (t : Rounding) where
  pub power_split : (e f : ℕ) → f ≤ e → B ^ e ≡ B ^ f * B ^ (e - f)
  power_split e f h = ap (λ x. B ^ x) (let i : e ≡ f + (e - f) = omega arith in i) ∙ pow-add B f (e - f)

  -- digits at a lower exponent, cut at a higher one
  pub cut_lower : (x e f : ℕ) → f ≤ e → cut t (x * B ^ f) (B ^ e) ≡ cut t x (B ^ (e - f))
  cut_lower x e f h = cut_terms t (x * B ^ f) (B ^ e) x (B ^ (e - f)) (power_pos z e) (power_pos z (e - f)) (omega (arith, ap (λ y. x * y) (power_split e f h)))

  pub cut_raised : (x e f : ℕ) → f ≤ e → cut t (x * B ^ e) (B ^ f) ≡ x * B ^ (e - f)
  cut_raised x e f h =
      ap (λ y. cut t y (B ^ f)) (let s = power_split e f h in let i : x * B ^ e ≡ x * B ^ (e - f) * B ^ f = omega (arith, ap (λ y. x * y) s) in i)
      ∙ cut_exact t (x * B ^ (e - f)) (B ^ f) (power_pos z f)

  stands_one : (N m e : ℕ) → m ≡ cut t N (B ^ e) → W * B ^ e ≤ N → Stands B W t N 1 m e
  stands_one N m e is h = stands z t N 1 m e (omega arith) (is ∙ ap (λ x. cut t N x) (sym (one-mul (B ^ e)))) (omega arith)

  -- a quantity that needs no rounding
  pub exact_stands : (N m e : ℕ) → N ≡ m * B ^ e → W ≤ m → Stands B W t N 1 m e
  exact_stands N m e is h =
      stands_one N m e (sym (ap (λ x. cut t x (B ^ e)) is ∙ cut_exact t m (B ^ e) (power_pos z e))) (omega (arith, mul-le-mul_right (B ^ e) h))

  pub sum_stands : (da ea db eb m : ℕ) → eb ≤ ea → m ≡ da + cut t db (B ^ (ea - eb)) → W * B ^ ea ≤ da * B ^ ea + db * B ^ eb → Stands B W t (da * B ^ ea + db * B ^ eb) 1 m ea
  sum_stands da ea db eb m h is l =
      stands_one _ m ea (is ∙ ap (λ x. da + x) (sym (cut_lower db ea eb h)) ∙ sym (cut_plus t da (db * B ^ eb) (B ^ ea) (power_pos z ea))) l

  -- a whole number of many digits
  pub whole_stands : (n m k : ℕ) → W * B ≤ n → m ≡ cut t n (B ^ k) → ((i : ℕ) → i < k → W * B ≤ cut t n (B ^ i)) → Stands B W t (n * B ^ bias) 1 m (bias + k)
  whole_stands n m k h is f =
      record {
        some = omega arith;
        is = is ∙ sym (part k);
        large = cut_least t (n * B ^ bias) 1 W (omega arith) (let w = wider z in omega (arith, mul-le-mul_left n (power_pos z bias)));
        fills = λ i l. dite (dec_le bias i)
            (λ le. let j : i ≡ bias + (i - bias) = omega arith in
            subst (λ (x : ℕ). W * B ≤ cut t (n * B ^ bias) (1 * B ^ x)) (sym j) (subst (λ (x : ℕ). W * B ≤ x) (sym (part (i - bias))) (f (i - bias) (omega arith))))
            (λ gt. let g = lt_of_not-le gt in
            cut_least t (n * B ^ bias) (1 * B ^ i) (W * B) (subst (λ (x : ℕ). 0 < x) (sym (one-mul (B ^ i))) (power_pos z i))
            (omega (arith, mul-le-mul h (pow-le-pow_right (base_pos z) (le_of_suc i bias g)))));
      }
    where
      le_of_suc : (i j : ℕ) → i < j → i ≤ j
      le_of_suc i j l = omega arith

      part : (k : ℕ) → cut t (n * B ^ bias) (1 * B ^ (bias + k)) ≡ cut t n (B ^ k)
      part k =
          let s = pow-add B bias k in
          cut_terms t (n * B ^ bias) (1 * B ^ (bias + k)) n (B ^ k) (subst (λ (x : ℕ). 0 < x) (sym (one-mul (B ^ (bias + k)))) (power_pos z (bias + k))) (power_pos z k) (omega (arith, ap (λ x. n * x) s))

module _ {R : Type 0} {g : Ghosts R} (a b : End R g) where
  -- of two ends, the first at the higher exponent, of which one at least is above 0
  pub sum_full : (t : Rounding) → b.exponent ≤ a.exponent → (a.digits + cut t b.digits (g.BASE ^ (a.exponent - b.exponent)) ≡ 0 → ⊥) → (g.FULL ≤ a.digits + cut t b.digits (g.BASE ^ (a.exponent - b.exponent))) × (g.FULL * g.BASE ^ a.exponent ≤ units a + units b)
  sum_full t h n =
      dite (dec_le 1 a.digits)
      (λ some. let f = a.full some in (omega arith, omega (arith, mul-le-mul_right (g.BASE ^ a.exponent) f)))
      (λ none.
      let x : a.digits ≡ 0 = let l = lt_of_not-le none in omega arith in
      let e : a.exponent ≡ 0 = a.zero x in
      let i : b.exponent ≡ 0 = omega arith in
      let j : a.exponent - b.exponent ≡ 0 = omega arith in
      let c : cut t b.digits (g.BASE ^ (a.exponent - b.exponent)) ≡ b.digits = ap (λ y. cut t b.digits (g.BASE ^ y)) j ∙ ap (λ y. cut t b.digits y) (pow-zero g.BASE) ∙ cut_one t b.digits in
      let f = b.full (let s : 0 < b.digits = omega arith in s) in
      let p : g.BASE ^ a.exponent ≡ g.BASE ^ b.exponent = ap (λ y. g.BASE ^ y) (let k : a.exponent ≡ b.exponent = omega arith in k) in
      (omega arith, omega (arith, ap (λ y. g.FULL * y) p, mul-le-mul_right (g.BASE ^ b.exponent) f)))

  pub sum_none : (t : Rounding) → b.exponent ≤ a.exponent → a.digits + cut t b.digits (g.BASE ^ (a.exponent - b.exponent)) ≡ 0 → units a + units b ≡ 0
  sum_none t h n =
      let x : a.digits ≡ 0 = omega arith in
      let e : a.exponent ≡ 0 = a.zero x in
      let j : a.exponent - b.exponent ≡ 0 = omega arith in
      let c : cut t b.digits (g.BASE ^ (a.exponent - b.exponent)) ≡ b.digits = ap (λ y. cut t b.digits (g.BASE ^ y)) j ∙ ap (λ y. cut t b.digits y) (pow-zero g.BASE) ∙ cut_one t b.digits in
      let y : b.digits ≡ 0 = omega arith in
      omega (arith, ap (λ v. v * g.BASE ^ a.exponent) x, ap (λ v. v * g.BASE ^ b.exponent) y)

  pub rest_few : (t : Rounding) (k : ℕ) → cut t b.digits (g.BASE ^ k) < g.FULL * g.BASE
  rest_few t k =
      let p = cut_most t b.digits (g.BASE ^ k) b.digits (power_pos g.lawful k) (let q = mul-le-mul_left b.digits (power_pos g.lawful k) in omega arith) in
      omega (arith, b.few)

  -- where a is above b its exponent is not below b's
  pub not_below : units b < units a → b.exponent ≤ a.exponent
  not_below h =
      dite (dec_le b.exponent a.exponent)
      (λ le. le)
      (λ gt. let x = exponents_tell a b (lt_of_not-le gt) in absurd (omega arith))

  -- digits apart by one digit at most: the difference is exact
  pub level_difference : b.exponent ≡ a.exponent → units b < units a → (b.digits < a.digits) × (units a - units b ≡ (a.digits - b.digits) * g.BASE ^ b.exponent)
  level_difference e h =
      let p : g.BASE ^ a.exponent ≡ g.BASE ^ b.exponent = ap (λ y. g.BASE ^ y) (sym e) in
      let l : b.digits < a.digits =
      dite (dec_le a.digits b.digits)
      (λ le. let x = digits_tell a b (sym e) le in absurd (omega arith))
      (λ gt. lt_of_not-le gt) in
      let s : (a.digits - b.digits) + b.digits ≡ a.digits = omega arith in
      (l, omega (arith, ap (λ y. a.digits * y) p, ap (λ y. y * g.BASE ^ b.exponent) s))

  pub next_difference : a.exponent ≡ b.exponent + 1 → (b.digits < a.digits * g.BASE) × (units a - units b ≡ (a.digits * g.BASE - b.digits) * g.BASE ^ b.exponent)
  next_difference e =
      let p : g.BASE ^ a.exponent ≡ g.BASE ^ b.exponent * g.BASE = ap (λ y. g.BASE ^ y) (e ∙ (let i : b.exponent + 1 ≡ suc b.exponent = omega arith in i)) ∙ pow-suc g.BASE b.exponent in
      let f = a.full (some a.digits a.zero) in
      let l : b.digits < a.digits * g.BASE = omega (arith, mul-le-mul_right g.BASE f, b.few) in
      let s : (a.digits * g.BASE - b.digits) + b.digits ≡ a.digits * g.BASE = omega arith in
      (l, omega (arith, ap (λ y. a.digits * y) p, ap (λ y. y * g.BASE ^ b.exponent) s))
    where
      some : (m : ℕ) → (m ≡ 0 → a.exponent ≡ 0) → 0 < m
      some zero f = let x = f refl in absurd (omega arith)
      some (suc m) f = omega arith

  -- digits further apart: of b only a rest is taken away
  module _ (t : Rounding) (gap : ℕ) (apart : gap ≡ a.exponent - b.exponent) (far : 2 ≤ gap) where
    lift : g.BASE ≤ g.BASE ^ (gap - 1)
    lift =
        let p = pow-le-pow_right (base_pos g.lawful) (let i : 1 ≤ gap - 1 = omega arith in i) in
        subst (λ (x : ℕ). x ≤ g.BASE ^ (gap - 1)) (pow-suc g.BASE 0 ∙ ap (λ x. x * g.BASE) (pow-zero g.BASE) ∙ one-mul g.BASE) p

    top : g.FULL ≤ a.digits
    top = a.full (some a.digits a.zero)
      where
        some : (m : ℕ) → (m ≡ 0 → a.exponent ≡ 0) → 0 < m
        some zero f = let x = f refl in absurd (omega arith)
        some (suc m) f = omega arith

    rest_most : cut (turned t) b.digits (g.BASE ^ (gap - 1)) ≤ g.FULL
    rest_most = cut_most (turned t) b.digits (g.BASE ^ (gap - 1)) g.FULL (power_pos g.lawful (gap - 1)) (omega (arith, b.few, mul-le-mul_left g.FULL lift))

    pub far_digits : (cut (turned t) b.digits (g.BASE ^ (gap - 1)) ≤ a.digits * g.BASE) × (g.FULL ≤ a.digits * g.BASE - cut (turned t) b.digits (g.BASE ^ (gap - 1)))
    far_digits = let r = rest_most in let p = mul-le-mul_right g.BASE top in let w = wider g.lawful in (omega arith, omega arith)

    pub far_stands : Stands g.BASE g.FULL t (units a - units b) 1 (a.digits * g.BASE - cut (turned t) b.digits (g.BASE ^ (gap - 1))) (a.exponent - 1)
    far_stands =
        let z = g.lawful in
        let e = a.exponent - 1 in
        let p : g.BASE ^ a.exponent ≡ g.BASE * g.BASE ^ e = less_power g.BASE a.exponent (omega arith) in
        let ua : units a ≡ a.digits * g.BASE * g.BASE ^ e = omega (arith, ap (λ x. a.digits * x) p) in
        let k : e - b.exponent ≡ gap - 1 = omega arith in
        let ub : units b ≤ g.FULL * g.BASE ^ e =
        let s = power_split g.lawful t e b.exponent (omega arith) in
        let i = ap (λ x. g.BASE ^ x) k in
        omega (arith, mul-le-mul_right (g.BASE ^ b.exponent) (le_of_lt b.few), mul-le-mul_left (g.FULL * g.BASE ^ b.exponent) lift, ap (λ x. g.FULL * (g.BASE ^ b.exponent * x)) i, ap (λ x. g.FULL * x) s) in
        let big : g.FULL * g.BASE ^ e * 2 ≤ units a = omega (arith, mul-le-mul_right (g.BASE * g.BASE ^ e) top, mul-le-mul_left (g.FULL * g.BASE ^ e) g.lawful.0.0) in
        let is : cut t (units a - units b) (g.BASE ^ e) ≡ a.digits * g.BASE - cut (turned t) b.digits (g.BASE ^ (gap - 1)) =
        ap (λ x. cut t (x - units b) (g.BASE ^ e)) ua
        ∙ cut_minus t (a.digits * g.BASE) (units b) (g.BASE ^ e) (power_pos g.lawful e) (omega arith)
        ∙ ap (λ x. a.digits * g.BASE - x) (cut_lower g.lawful (turned t) b.digits e b.exponent (omega arith))
        ∙ ap (λ x. a.digits * g.BASE - cut (turned t) b.digits (g.BASE ^ x)) k in
        stands_one g.lawful t (units a - units b) _ e (sym is) (omega arith)

  -- as the code finds them
  pub record Far (t : Rounding) (base less : ℕ) : Type 0 where
    pub under : less ≤ a.digits * base
    pub full : g.FULL ≤ a.digits * base - less
    pub few : a.digits * base - less ≤ (g.FULL * g.BASE - 1) * g.BASE
    pub stands : Stands g.BASE g.FULL t (units a - units b) 1 (a.digits * base - less) (a.exponent - 1)

  pub far_found : (t turn : Rounding) (base less : ℕ) → base ≡ g.BASE → turn ≡ turned t → less ≡ cut turn b.digits (g.BASE ^ (a.exponent - b.exponent - 1)) → (a.exponent - b.exponent ≡ 0 → ⊥) → (a.exponent - b.exponent ≡ 1 → ⊥) → Far t base less
  far_found t turn base less p q r level next =
      let gap = a.exponent - b.exponent in
      let far : 2 ≤ gap = omega (arith, level, next) in
      let d = far_digits t gap refl far in
      let few : a.digits * g.BASE ≤ (g.FULL * g.BASE - 1) * g.BASE = mul-le-mul_right g.BASE (let m : a.digits ≤ g.FULL * g.BASE - 1 = omega (arith, a.few) in m) in
      rw (p, r, q) (record { under = d.0; full = d.1; few = omega (arith, few); stands = far_stands t gap refl far })
