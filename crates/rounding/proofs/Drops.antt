-- Digits cut off in stages, and the powers that do it.
use Rattle.std.proofs.Common.{◌≡◌, ℕ, zero, suc, ◌+◌, ◌-◌, ◌*◌, ◌/◌, ◌^◌, ◌<◌, ◌≤◌, cond, Some, None, sym, ap, ◌∙◌, subst, mul_comm, div-lt_iff_lt-mul, mul-le-mul, mul-le-mul_left, one-mul, pow-suc, le-div_iff_mul-le, arith, pow-add, le-leb}
use native.Mathlib.Nat.{pow-le-pow_right, pow-zero}
use borrow.Author.Tests.{lt-leb}
use Rattle.enclosure.specs.Readings.{readable}
use Rattle.rounding.specs.Radix.{Radix}
use Rattle.rounding.specs.Cut.{cut}
use Rattle.rounding.specs.Rounded.{wider}
use Rattle.rounding.specs.declared.rounding.Rounding.{Rounding}
use Rattle.rounding.specs.declared.rounding.Rounding.TheVariants.{Down, Up}
use Rattle.rounding.proofs.Cuts.{cut_is, cut_cut, cut_most}
use Rattle.rounding.proofs.Ends.{base_pos, power_pos}
use Rattle.rounding.proofs.Scalings.{power_next}

module _ {B S W bias : ℕ} (z : Radix B S W bias) where
  -- the powers by squaring fit
  pub record Powers : Type 0 where
    pub two : B * B ≡ B ^ 2
    pub four : B * B * (B * B) ≡ B ^ 4
    pub eight : B * B * (B * B) * (B * B * (B * B)) ≡ B ^ 8
    pub sixteen : B * B * (B * B) * (B * B * (B * B)) * (B * B * (B * B) * (B * B * (B * B))) ≡ B ^ 16
    pub two_fits : B * B ≤ 10 ^ 2
    pub four_fits : B * B * (B * B) ≤ 10 ^ 4
    pub eight_fits : B * B * (B * B) * (B * B * (B * B)) ≤ 10 ^ 8
    pub sixteen_fits : B * B * (B * B) * (B * B * (B * B)) * (B * B * (B * B) * (B * B * (B * B))) ≤ 10 ^ 16

  pub powers : Powers
  powers =
      let one : B ≡ B ^ 1 = sym (pow-suc B 0 ∙ ap (λ x. x * B) (pow-zero B) ∙ one-mul B) in
      let two : B * B ≡ B ^ 2 = ap (λ x. x * x) one ∙ sym (pow-add B 1 1) in
      let four : B * B * (B * B) ≡ B ^ 4 = ap (λ x. x * x) two ∙ sym (pow-add B 2 2) in
      let eight : B * B * (B * B) * (B * B * (B * B)) ≡ B ^ 8 = ap (λ x. x * x) four ∙ sym (pow-add B 4 4) in
      let f2 : B * B ≤ 10 ^ 2 = mul-le-mul z.0.1 z.0.1 in
      let f4 : B * B * (B * B) ≤ 10 ^ 4 = mul-le-mul f2 f2 in
      let f8 : B * B * (B * B) * (B * B * (B * B)) ≤ 10 ^ 8 = mul-le-mul f4 f4 in
      record {
        two = two;
        four = four;
        eight = eight;
        sixteen = ap (λ x. x * x) eight ∙ sym (pow-add B 8 8);
        two_fits = f2;
        four_fits = f4;
        eight_fits = f8;
        sixteen_fits = mul-le-mul f8 f8;
      }

  pub base_power : B ≡ B ^ 1
  base_power = sym (pow-suc B 0 ∙ ap (λ x. x * B) (pow-zero B) ∙ one-mul B)

  -- one stage
  pub cut_stage : (t : Rounding) (n k step unit : ℕ) → unit ≡ B ^ step → step ≤ k → cut t (cut t n unit) (B ^ (k - step)) ≡ cut t n (B ^ k)
  cut_stage t n k step unit p h =
      let e : k ≡ step + (k - step) = omega arith in
      ap (λ x. cut t (cut t n x) (B ^ (k - step))) p ∙ cut_cut t n (B ^ step) (B ^ (k - step)) (power_pos z step) (power_pos z (k - step))
      ∙ ap (λ x. cut t n x) (sym (pow-add B step (k - step)) ∙ ap (λ x. B ^ x) (sym e))

  pub cut_less : (t : Rounding) (n d : ℕ) → 0 < d → cut t n d ≤ n
  cut_less t n d pos = cut_most t n d n pos (let h = mul-le-mul_left n pos in omega arith)

  -- all of the digits are cut off
  pub cut_all : (t : Rounding) (n k : ℕ) → n < W * B → 32 ≤ k → cut t n (W * B) ≡ cut t n (B ^ k)
  cut_all t n k h l =
      let up : W * B ≤ B ^ k = subst (λ (x : ℕ). x ≤ B ^ k) (power_next z) (pow-le-pow_right (base_pos z) (let i : S + 1 ≤ k = omega arith in i)) in
      let w = wider z in
      by t n (W * B) (B ^ k) (omega arith) (omega arith) h (omega arith)
    where
      by : (t : Rounding) (n a b : ℕ) → 0 < a → 0 < b → n < a → n < b → cut t n a ≡ cut t n b
      by Down n a b pa pb x y = cut_is Down n a 0 pa (omega arith, omega arith) ∙ sym (cut_is Down n b 0 pb (omega arith, omega arith))
      by Up zero a b pa pb x y = cut_is Up 0 a 0 pa (omega arith, omega arith) ∙ sym (cut_is Up 0 b 0 pb (omega arith, omega arith))
      by Up (suc n) a b pa pb x y = cut_is Up (suc n) a 1 pa (omega arith, omega arith) ∙ sym (cut_is Up (suc n) b 1 pb (omega arith, omega arith))

  -- one digit more cut off
  pub cut_next : (t : Rounding) (n k m : ℕ) → m ≡ cut t n (B ^ k) → cut t m B ≡ cut t n (B ^ (k + 1))
  cut_next t n k m e =
      let one : k + 1 ≡ suc k = omega arith in
      ap (λ x. cut t x B) e ∙ cut_cut t n (B ^ k) B (power_pos z k) (base_pos z)
      ∙ ap (λ x. cut t n x) (sym (pow-suc B k) ∙ ap (λ x. B ^ x) (sym one))

  -- one digit more put on, up to a limit
  pub more_digit : (n k m : ℕ) → m ≡ n * B ^ k → m * B ≡ n * B ^ (k + 1)
  more_digit n k m e =
      let one : k + 1 ≡ suc k = omega arith in
      let p : B ^ (k + 1) ≡ B ^ k * B = ap (λ x. B ^ x) one ∙ pow-suc B k in
      omega (arith, ap (λ x. x * B) e, ap (λ x. n * x) p)

  pub grown_past : (n j k m : ℕ) → m ≡ n * B ^ j → j < k → 10 ^ 18 < m * B → None ≡ readable (n * B ^ k)
  grown_past n j k m e h l =
      let up : B ^ (j + 1) ≤ B ^ k = pow-le-pow_right (base_pos z) (let i : j + 1 ≤ k = omega arith in i) in
      let big : 10 ^ 18 < n * B ^ k = omega (arith, more_digit n j m e, mul-le-mul_left n up) in
      sym (ap (λ x. cond x (Some (n * B ^ k)) None) (lt-leb _ _ big))

pub less_power : (B f : ℕ) → 0 < f → B ^ f ≡ B * B ^ (f - 1)
less_power B f h =
    let e : f ≡ suc (f - 1) = omega arith in
    ap (λ x. B ^ x) e ∙ pow-suc B (f - 1) ∙ mul_comm (B ^ (f - 1)) B

pub past_limit : (m B : ℕ) → 0 < B → 10 ^ 18 / B < m → 10 ^ 18 < m * B
past_limit m B pos h = (div-lt_iff_lt-mul pos).0 h

pub under_limit : (m B : ℕ) → 0 < B → m ≤ 10 ^ 18 / B → m * B ≤ 10 ^ 18
under_limit m B pos h = (le-div_iff_mul-le pos).0 h

pub grown_within : (n : ℕ) → n ≤ 10 ^ 18 → Some n ≡ readable n
grown_within n h = sym (ap (λ x. cond x (Some n) None) (le-leb _ _ h))
