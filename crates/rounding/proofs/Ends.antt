-- Ends are equal where their digits and exponents are, and so where they stand for the same.
use Rattle.std.proofs.Common.{◌≡◌, ℕ, zero, suc, ◌-◌, ◌*◌, ◌^◌, ◌<◌, ◌≤◌, min, max, sym, refl, ap, ◌∙◌, subst, mul-le-mul_right, mul-le-mul_left, mul-lt-mul_of_pos_right, pow-suc, lt_of_not-le, arith}
use mathlib.Core.HLevel.{is_prop→PathP}
use mathlib.Core.Logic.{dite}
use native.Mathlib.Decide.{dec_le}
use native.Mathlib.Nat.{ℕ_set, pow-le-pow_right, one-le-pow}
use native.Mathlib.Bridge.{le_prop}
use Rattle.rounding.specs.Radix.{Radix}
use Rattle.rounding.specs.Rounded.{units, zero_end, full_end}
use Rattle.rounding.specs.declared.radix.Radix.{Ghosts}
use Rattle.rounding.specs.declared.end.End.{End}

-- what makes a radix has one proof
pub radix_prop : {B S W bias : ℕ} → IsProp (Radix B S W bias)
radix_prop {B} {S} {W} {bias} x y = λ i. (
  (le_prop x.0.0 y.0.0 i, le_prop x.0.1 y.0.1 i, ℕ_set (B ^ S) W x.0.2 y.0.2 i),
  (le_prop x.1.0 y.1.0 i, le_prop x.1.1 y.1.1 i, le_prop x.1.2 y.1.2 i),
  (le_prop x.2.0 y.2.0 i, le_prop x.2.1 y.2.1 i),
)

pub base_pos : {B S W bias : ℕ} → Radix B S W bias → 0 < B
base_pos z = omega arith

pub power_pos : {B S W bias : ℕ} → Radix B S W bias → (e : ℕ) → 0 < B ^ e
power_pos {B} z e = one-le-pow e B (base_pos z)

pub zero_units : {R : Type 0} (g : Ghosts R) → units {g = g} zero_end ≡ 0
unfolding zero_end
zero_units g = omega arith

pub full_units : {R : Type 0} (g : Ghosts R) → (m e : ℕ) → g.FULL ≤ m → m < g.FULL * g.BASE → e ≤ 2 * g.BIAS → units {g = g} (full_end m e) ≡ m * g.BASE ^ e
unfolding full_end
full_units g m e h l t =
    let d : max g.FULL (min m (g.FULL * g.BASE - 1)) ≡ m = omega arith in
    let x : min e (2 * g.BIAS) ≡ e = omega arith in
    ap (λ y. y * g.BASE ^ min e (2 * g.BIAS)) d ∙ ap (λ y. m * g.BASE ^ y) x

module _ {R : Type 0} {g : Ghosts R} where
  pub same_end : (a b : End R g) → a.digits ≡ b.digits → a.exponent ≡ b.exponent → a ≡ b
  same_end a b p q = λ i.
      record {
        digits = p i;
        exponent = q i;
        radix = a.radix;
        few = is_prop→PathP (λ i. p i < g.FULL * g.BASE) (λ i. le_prop {n = suc (p i)} {m = g.FULL * g.BASE}) a.few b.few i;
        low = is_prop→PathP (λ i. q i ≤ 2 * g.BIAS) (λ i. le_prop {n = q i} {m = 2 * g.BIAS}) a.low b.low i;
        full = is_prop→PathP (λ i. 0 < p i → g.FULL ≤ p i) (λ i x y. λ j h. le_prop {n = g.FULL} {m = p i} (x h) (y h) j) a.full b.full i;
        zero = is_prop→PathP (λ i. p i ≡ 0 → q i ≡ 0) (λ i x y. λ j h. ℕ_set (q i) 0 (x h) (y h) j) a.zero b.zero i;
      }

  -- an end that the code makes is the one of the definition
  pub is_full : (m e : ℕ) (a : End R g) → a.digits ≡ m → a.exponent ≡ e → g.FULL ≤ m → a ≡ full_end m e
  unfolding full_end
  is_full m e a p q h = let f = a.few in let l = a.low in same_end a (full_end m e) (omega arith) (omega arith)

  pub is_zero : (a : End R g) → a.digits ≡ 0 → a ≡ zero_end
  unfolding zero_end
  is_zero a p = same_end a zero_end p (a.zero p)

  -- a higher exponent is a larger end, since significands are full
  pub exponents_tell : (a b : End R g) → a.exponent < b.exponent → units a < units b
  exponents_tell a b h =
      let some : 0 < b.digits = by b.digits b.exponent h b.zero in
      let up : g.BASE ^ suc a.exponent ≤ g.BASE ^ b.exponent = pow-le-pow_right (base_pos g.lawful) h in
      let step = pow-suc g.BASE a.exponent in
      omega (arith, mul-lt-mul_of_pos_right a.few (power_pos g.lawful a.exponent), mul-le-mul_right (g.BASE ^ b.exponent) (b.full some), mul-le-mul_left g.FULL up, ap (λ y. g.FULL * y) step)
    where
      by : (m e : ℕ) → a.exponent < e → (m ≡ 0 → e ≡ 0) → 0 < m
      by zero e l f = let x = f refl in omega arith
      by (suc m) e l f = omega arith

  pub digits_tell : (a b : End R g) → a.exponent ≡ b.exponent → a.digits ≤ b.digits → units a ≤ units b
  digits_tell a b e h = subst (λ (x : ℕ). a.digits * g.BASE ^ a.exponent ≤ b.digits * g.BASE ^ x) e (mul-le-mul_right (g.BASE ^ a.exponent) h)

  pub digits_apart : (a b : End R g) → a.exponent ≡ b.exponent → a.digits < b.digits → units a < units b
  digits_apart a b e h = subst (λ (x : ℕ). a.digits * g.BASE ^ a.exponent < b.digits * g.BASE ^ x) e (mul-lt-mul_of_pos_right h (power_pos g.lawful a.exponent))

  -- ends that stand for the same are the same
  pub units_tell : (a b : End R g) → units a ≡ units b → a ≡ b
  units_tell a b u =
      dite (dec_le (suc a.exponent) b.exponent)
      (λ h. let x = exponents_tell a b h in absurd (omega arith))
      (λ n. dite (dec_le (suc b.exponent) a.exponent)
      (λ h. let x = exponents_tell b a h in absurd (omega arith))
      (λ m. let e : a.exponent ≡ b.exponent = let p = lt_of_not-le n in let q = lt_of_not-le m in omega arith in
      dite (dec_le (suc a.digits) b.digits)
      (λ h. let x = digits_apart a b e h in absurd (omega arith))
      (λ p. dite (dec_le (suc b.digits) a.digits)
      (λ h. let x = digits_apart b a (sym e) h in absurd (omega arith))
      (λ q. let i = lt_of_not-le p in let j = lt_of_not-le q in same_end a b (omega arith) e))))
