-- What rounding an exact quantity to an end gives.
use Rattle.std.proofs.Common.{◌≡◌, ℕ, zero, suc, ◌+◌, ◌*◌, ◌^◌, ◌<◌, ◌≤◌, cond, ltb, Some, None, Option, sym, refl, ap, ◌∙◌, subst, le_refl, mul_assoc, mul_comm, mul-le-mul_left, mul-pos, pow-suc, lt_of_not-le, mul-one, arith, le-ltb, lt-ltb, eq-eqb, ne_eqb, le-leb}
use mathlib.Core.Logic.{dite}
use native.Mathlib.Decide.{dec_le}
use native.Mathlib.Nat.{pow-le-pow_right, pow-zero, one-le-pow}
use Rattle.rounding.specs.Radix.{Radix}
use Rattle.rounding.specs.Cut.{cut}
use Rattle.rounding.specs.Placed.{Stands}
use Rattle.rounding.specs.Rounded.{surplus, slight, rounded, whole_end, zero_end, full_end, wider}
use Rattle.rounding.specs.declared.radix.Radix.{Ghosts}
use Rattle.rounding.specs.declared.rounding.Rounding.{Rounding}
use Rattle.rounding.specs.declared.rounding.Rounding.TheVariants.{Down, Up}
use Rattle.rounding.specs.declared.end.End.{End}
use Rattle.rounding.proofs.Cuts.{cut_cut, cut_least, cut_most, cut_below, cut_some, cut_shrinks, cut_none}
use Rattle.rounding.proofs.Ends.{base_pos, power_pos}

module _ (t : Rounding) (B L : ℕ) (b : 2 ≤ B) (l : 2 ≤ L) where
  surplus_none : (k n : ℕ) → n < L → surplus t B L k n ≡ 0
  unfolding surplus
  surplus_none zero n h = refl
  surplus_none (suc k) n h = ap (λ x. cond x 0 (suc (surplus t B L k (cut t n B)))) (lt-ltb n L h)

  surplus_more : (k n : ℕ) → L ≤ n → surplus t B L (suc k) n ≡ suc (surplus t B L k (cut t n B))
  unfolding surplus
  surplus_more k n h = ap (λ x. cond x 0 (suc (surplus t B L k (cut t n B)))) (le-ltb n L h)

  base : 0 < B
  base = omega arith

  next_cut : (n i : ℕ) → cut t (cut t n B) (B ^ i) ≡ cut t n (B ^ suc i)
  next_cut n i = cut_cut t n B (B ^ i) base (one-le-pow i B base) ∙ ap (λ x. cut t n x) (mul_comm B (B ^ i) ∙ sym (pow-suc B i))

  -- the digits to cut off: too many are left until then
  pub surplus_is : (e k n : ℕ) → n ≤ k → cut t n (B ^ e) < L → ((i : ℕ) → i < e → L ≤ cut t n (B ^ i)) → surplus t B L k n ≡ e
  surplus_is zero k n f h o = surplus_none k n (subst (λ (x : ℕ). x < L) (cut_none t n B) h)
  surplus_is (suc e) zero n f h o = let many : L ≤ n = subst (λ (x : ℕ). L ≤ x) (cut_none t n B) (o zero (omega arith)) in absurd (omega arith)
  surplus_is (suc e) (suc k) n f h o =
      let many : L ≤ n = subst (λ (x : ℕ). L ≤ x) (cut_none t n B) (o zero (omega arith)) in
      let s = cut_shrinks t n B b (omega arith) in
      surplus_more k n many
      ∙ ap suc
      (surplus_is e k (cut t n B) (omega arith)
      (subst (λ (x : ℕ). x < L) (sym (next_cut n e)) h)
      (λ i j. subst (λ (x : ℕ). L ≤ x) (sym (next_cut n i)) (o (suc i) (omega arith))))

  ended : (k n : ℕ) → n < L → (cut t n (B ^ surplus t B L k n) < L) × ((i : ℕ) → i < surplus t B L k n → L ≤ cut t n (B ^ i))
  ended k n h =
      let e = surplus_none k n h in
      (subst (λ (x : ℕ). cut t n (B ^ x) < L) (sym e) (subst (λ (x : ℕ). x < L) (sym (cut_none t n B)) h), λ i l. absurd (omega (arith, e)))

  later : (n : ℕ) → L ≤ n → (k : ℕ) → ((i : ℕ) → i < k → L ≤ cut t (cut t n B) (B ^ i)) → (i : ℕ) → i < suc k → L ≤ cut t n (B ^ i)
  later n many k f zero l = subst (λ (x : ℕ). L ≤ x) (sym (cut_none t n B)) many
  later n many k f (suc i) l = subst (λ (x : ℕ). L ≤ x) (next_cut n i) (f i (omega arith))

  -- and that is where cutting ends
  pub surplus_ends : (k n : ℕ) → n ≤ k → (cut t n (B ^ surplus t B L k n) < L) × ((i : ℕ) → i < surplus t B L k n → L ≤ cut t n (B ^ i))
  surplus_ends zero n f = let e : n ≡ 0 = omega arith in ended zero n (omega arith)
  surplus_ends (suc k) n f =
      dite (dec_le L n)
      (λ many.
      let s = cut_shrinks t n B b (omega arith) in
      let r = surplus_ends k (cut t n B) (omega arith) in
      let e = surplus_more k n many in (
        subst (λ (x : ℕ). cut t n (B ^ x) < L) (sym e) (subst (λ (x : ℕ). x < L) (next_cut n (surplus t B L k (cut t n B))) r.0),
        λ i l. later n many (surplus t B L k (cut t n B)) r.1 i (subst (λ (x : ℕ). i < x) e l),
      ))
      (λ few. ended (suc k) n (lt_of_not-le few))

module _ {B S W bias : ℕ} (z : Radix B S W bias) (t : Rounding) (N u : ℕ) (pu : 0 < u) where
  -- cut at every lower place it would have too many digits
  abbrev pub Fills : ℕ → Type 0
  Fills e = (i : ℕ) → i < e → W * B ≤ cut t N (u * B ^ i)

  -- N / u is at least a full significand at the exponent e
  pub fills : (e : ℕ) → u * (W * B ^ e) ≤ N → Fills e
  fills e h i l =
      let up : B ^ suc i ≤ B ^ e = pow-le-pow_right (base_pos z) l in
      cut_least t N (u * B ^ i) (W * B) (mul-pos pu (power_pos z i))
      (omega (arith, mul-le-mul_left (u * W) up, ap (λ x. u * W * x) (pow-suc B i)))

  pub fills_more : (e : ℕ) → Fills e → W * B ≤ cut t N (u * B ^ e) → Fills (suc e)
  fills_more e f h i l =
      dite (dec_le (suc i) e)
      (λ lt. f i lt)
      (λ ge. let eq : i ≡ e = let g = lt_of_not-le ge in omega arith in subst (λ (x : ℕ). W * B ≤ cut t N (u * B ^ x)) (sym eq) h)

  cut_again : (e : ℕ) → cut t (cut t N u) (B ^ e) ≡ cut t N (u * B ^ e)
  cut_again e = cut_cut t N u (B ^ e) pu (power_pos z e)

  surplus_at : (e : ℕ) → Fills e → cut t N (u * B ^ e) < W * B → surplus t B (W * B) (cut t N u) (cut t N u) ≡ e
  surplus_at e f h =
      surplus_is t B (W * B) (omega arith) (let w = wider z in omega arith) e (cut t N u) (cut t N u) (le_refl _)
      (subst (λ (x : ℕ). x < W * B) (sym (cut_again e)) h)
      (λ i l. subst (λ (x : ℕ). W * B ≤ x) (sym (cut_again i)) (f i l))

-- digits at an exponent that a quantity comes to
module _ {B S W bias : ℕ} (z : Radix B S W bias) (t : Rounding) (N u m e : ℕ) where
  -- one digit more cut off
  pub stands_carried : Stands B W t N u m e → W * B ≤ m → Stands B W t N u (cut t m B) (e + 1)
  stands_carried s h =
      let one : e + 1 ≡ suc e = omega arith in
      let next : cut t m B ≡ cut t N (u * B ^ suc e) =
      ap (λ x. cut t x B) s.is ∙ cut_cut t N (u * B ^ e) B (mul-pos s.some (power_pos z e)) (base_pos z)
      ∙ ap (λ x. cut t N x) (mul_assoc u (B ^ e) B ∙ ap (λ x. u * x) (sym (pow-suc B e))) in
      subst (λ (x : ℕ). Stands B W t N u (cut t m B) x) (sym one)
      (record { some = s.some; is = next; large = s.large; fills = fills_more z t N u s.some e s.fills (subst (λ (x : ℕ). W * B ≤ x) s.is h) })

  -- a quantity of at least a full significand there
  pub stands : 0 < u → m ≡ cut t N (u * B ^ e) → u * (W * B ^ e) ≤ N → Stands B W t N u m e
  stands pu is h =
      record {
        some = pu;
        is = is;
        large = cut_least t N u W pu (omega (arith, mul-le-mul_left (u * W) (power_pos z e)));
        fills = fills z t N u pu e h;
      }

module _ {R : Type 0} (g : Ghosts R) (t : Rounding) (N u : ℕ) (pu : 0 < u) where
  abbrev tail : (n e : ℕ) → Option (End R g)
  tail n e = cond (ltb (2 * g.BIAS) e) None (Some (full_end {g = g} (cut t n (g.BASE ^ e)) e))

  large : g.FULL ≤ cut t N u → (e : ℕ) → surplus t g.BASE (g.FULL * g.BASE) (cut t N u) (cut t N u) ≡ e → rounded {g = g} t N u ≡ tail (cut t N u) e
  unfolding rounded
  large w e s =
      ap (λ x. cond x (Some (slight {g = g} t (cut t N u))) (tail (cut t N u) (surplus t g.BASE (g.FULL * g.BASE) (cut t N u) (cut t N u)))) (le-ltb _ _ w)
      ∙ ap (λ x. tail (cut t N u) x) s

  pub rounded_full : (e : ℕ) → g.FULL ≤ cut t N u → Fills g.lawful t N u pu e → cut t N (u * g.BASE ^ e) < g.FULL * g.BASE → e ≤ 2 * g.BIAS → rounded {g = g} t N u ≡ Some (full_end (cut t N (u * g.BASE ^ e)) e)
  rounded_full e w f h top =
      large w e (surplus_at g.lawful t N u pu e f h)
      ∙ ap (λ x. cond x None (Some (full_end {g = g} (cut t (cut t N u) (g.BASE ^ e)) e))) (le-ltb _ _ top)
      ∙ ap (λ x. Some (full_end {g = g} x e)) (cut_again g.lawful t N u pu e)

  pub rounded_past : (e : ℕ) → g.FULL ≤ cut t N u → Fills g.lawful t N u pu e → cut t N (u * g.BASE ^ e) < g.FULL * g.BASE → 2 * g.BIAS < e → rounded {g = g} t N u ≡ None
  rounded_past e w f h top =
      large w e (surplus_at g.lawful t N u pu e f h)
      ∙ ap (λ x. cond x None (Some (full_end {g = g} (cut t (cut t N u) (g.BASE ^ e)) e))) (lt-ltb _ _ top)

module _ {R : Type 0} (g : Ghosts R) (N u : ℕ) (pu : 0 < u) where
  small : (t : Rounding) → cut t N u < g.FULL → rounded {g = g} t N u ≡ Some (slight t (cut t N u))
  unfolding rounded
  small t h =
      let n = cut t N u in
      let e = surplus t g.BASE (g.FULL * g.BASE) n n in
      ap (λ x. cond x (Some (slight {g = g} t n)) (cond (ltb (2 * g.BIAS) e) None (Some (full_end {g = g} (cut t n (g.BASE ^ e)) e)))) (lt-ltb _ _ h)

  -- below the least end above 0
  pub rounded_slight_down : N < g.FULL * u → rounded {g = g} Down N u ≡ Some zero_end
  rounded_slight_down h = small Down (cut_below N u g.FULL pu h)

  pub rounded_slight_up : 0 < N → N ≤ g.FULL * u → rounded {g = g} Up N u ≡ Some (full_end g.FULL 0)
  rounded_slight_up some h =
      let q = cut_most Up N u g.FULL pu h in
      let p = cut_some N u pu some in
      dite (dec_le (suc (cut Up N u)) g.FULL)
      (λ l. small Up l ∙ ap (λ x. Some (cond x (zero_end {g = g}) (full_end {g = g} g.FULL 0))) (ne_eqb (cut Up N u) 0 (λ e. omega arith)))
      (λ m. let e : cut Up N u ≡ g.FULL = let l = lt_of_not-le m in omega arith in
      let w = wider g.lawful in
      let one : cut Up N (u * g.BASE ^ 0) ≡ g.FULL = ap (λ x. cut Up N (u * x)) (pow-zero g.BASE) ∙ ap (λ x. cut Up N x) (mul-one u) ∙ e in
      rounded_full g Up N u pu 0 (omega arith) (λ i l. absurd (omega arith)) (omega (arith, one)) (omega arith)
      ∙ ap (λ x. Some (full_end {g = g} x 0)) one)

  pub rounded_none : (t : Rounding) → N ≡ 0 → rounded {g = g} t N u ≡ Some zero_end
  rounded_none t e = by t
    where
      none : (t : Rounding) → cut t N u ≡ 0
      none t = let q = cut_most t N u 0 pu (omega arith) in omega arith

      by : (t : Rounding) → rounded {g = g} t N u ≡ Some zero_end
      by Down = rounded_slight_down (let p = mul-pos {m = g.FULL} {n = u} (omega arith) pu in omega arith)
      by Up = small Up (omega (arith, none Up)) ∙ ap (λ x. Some (cond x (zero_end {g = g}) (full_end {g = g} g.FULL 0))) (eq-eqb _ _ (none Up))

module _ {R : Type 0} (g : Ghosts R) (t : Rounding) (N u m e : ℕ) where
  pub stands_full : Stands g.BASE g.FULL t N u m e → m < g.FULL * g.BASE → e ≤ 2 * g.BIAS → rounded {g = g} t N u ≡ Some (full_end m e)
  stands_full s h top =
      rounded_full g t N u s.some e s.large s.fills (subst (λ (x : ℕ). x < g.FULL * g.BASE) s.is h) top
      ∙ ap (λ x. Some (full_end {g = g} x e)) (sym s.is)

  pub stands_past : Stands g.BASE g.FULL t N u m e → m < g.FULL * g.BASE → 2 * g.BIAS < e → rounded {g = g} t N u ≡ None
  stands_past s h top = rounded_past g t N u s.some e s.large s.fills (subst (λ (x : ℕ). x < g.FULL * g.BASE) s.is h) top

pub whole_within : {R : Type 0} (g : Ghosts R) (t : Rounding) (n : ℕ) → n ≤ 2 ^ 62 → whole_end {g = g} t n ≡ rounded {g = g} t (n * g.BASE ^ g.BIAS) 1
whole_within g t n h = ap (λ x. cond x (rounded {g = g} t (n * g.BASE ^ g.BIAS) 1) None) (le-leb n (2 ^ 62) h)
