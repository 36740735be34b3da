-- A rounded quantity is on its side of the exact one, and near it.
use Rattle.std.proofs.Common.{◌≡◌, ℕ, zero, suc, ◌+◌, ◌*◌, ◌^◌, ◌<◌, ◌≤◌, Some, None, Option, sym, refl, ap, ◌∙◌, subst, le_refl, le_of_lt, mul-le-mul_right, mul_assoc, mul-le-mul_left, mul-pos, pow-suc, lt_of_not-le, mul-one, le_of_mul-le-mul_right, arith, pow-add}
use mathlib.Core.Logic.{dite}
use native.Mathlib.Decide.{dec_le}
use native.Mathlib.Nat.{pow-zero}
use Rattle.rounding.specs.Cut.{cut}
use Rattle.rounding.specs.Rounded.{surplus, rounded, units, zero_end, full_end, wider, or_zero, Ordered}
use Rattle.rounding.specs.declared.rounding.Rounding.{Rounding}
use Rattle.rounding.specs.declared.rounding.Rounding.TheVariants.{Down, Up}
use Rattle.rounding.specs.declared.end.End.{End}
use Rattle.rounding.proofs.Cuts.{cut_cut, cut_least, cut_most, cuts}
use Rattle.rounding.proofs.Ends.{base_pos, power_pos, zero_units, full_units}
use Rattle.rounding.proofs.Rounds.{Fills, surplus_ends, rounded_full, rounded_past, rounded_slight_down, rounded_slight_up, rounded_none}
use Rattle.rounding.specs.declared.radix.Radix.{Ghosts}

-- an upper end reaches N / u units, or is no bound
abbrev pub Reaches : {R : Type 0} {g : Ghosts R} (N u : ℕ) → Option (End R g) → Type 0
Reaches N u (Some h) = N ≤ units h * u
Reaches N u None = Unit {0}

module _ {R : Type 0} (g : Ghosts R) where
  least : 0 < g.FULL
  least = omega arith

  -- N / u is no more than the largest quantity that fineness is owed for
  abbrev pub InRange : (N u : ℕ) → Type 0
  InRange N u = N ≤ 10 ^ 36 * g.BASE ^ g.BIAS * u

  module _ (t : Rounding) (N u : ℕ) (pu : 0 < u) (some : g.FULL ≤ cut t N u) where
    -- the exponent at which a full significand is left
    abbrev pub place : ℕ
    place = surplus t g.BASE (g.FULL * g.BASE) (cut t N u) (cut t N u)

    part : (i : ℕ) → cut t (cut t N u) (g.BASE ^ i) ≡ cut t N (u * g.BASE ^ i)
    part i = cut_cut t N u (g.BASE ^ i) pu (power_pos g.lawful i)

    pub place_few : cut t N (u * g.BASE ^ place) < g.FULL * g.BASE
    place_few =
        subst (λ (x : ℕ). x < g.FULL * g.BASE) (part place) (surplus_ends t g.BASE (g.FULL * g.BASE) g.lawful.0.0 (let w = wider g.lawful in omega arith) (cut t N u) (cut t N u) (le_refl _)).0

    pub place_fills : Fills g.lawful t N u pu place
    place_fills i l =
        subst (λ (x : ℕ). g.FULL * g.BASE ≤ x) (part i) ((surplus_ends t g.BASE (g.FULL * g.BASE) g.lawful.0.0 (let w = wider g.lawful in omega arith) (cut t N u) (cut t N u) (le_refl _)).1 i l)

    pub place_full : g.FULL ≤ cut t N (u * g.BASE ^ place)
    place_full = by place refl
      where
        by : (e : ℕ) → place ≡ e → g.FULL ≤ cut t N (u * g.BASE ^ place)
        by zero e = subst (λ (x : ℕ). g.FULL ≤ cut t N x) (sym (ap (λ x. u * g.BASE ^ x) e ∙ ap (λ x. u * x) (pow-zero g.BASE) ∙ mul-one u)) some
        by (suc e) i =
            let f = place_fills e (omega arith) in
            let c = cut_least t (cut t N (u * g.BASE ^ e)) g.BASE g.FULL (base_pos g.lawful) f in
            let j : cut t (cut t N (u * g.BASE ^ e)) g.BASE ≡ cut t N (u * g.BASE ^ place) =
            cut_cut t N (u * g.BASE ^ e) g.BASE (mul-pos pu (power_pos g.lawful e)) (base_pos g.lawful)
            ∙ ap (λ x. cut t N x) (mul_assoc u (g.BASE ^ e) g.BASE ∙ ap (λ x. u * x) (sym (pow-suc g.BASE e)) ∙ ap (λ x. u * g.BASE ^ x) (sym i)) in
            subst (λ (x : ℕ). g.FULL ≤ x) j c

    -- in range the exponent is one that an end has
    pub place_low : InRange N u → place ≤ 2 * g.BIAS
    place_low r =
        dite (dec_le place (2 * g.BIAS))
        (λ le. le)
        (λ gt.
        let l = lt_of_not-le gt in
        let f = place_fills (2 * g.BIAS) l in
        let q = cut_most t N (u * g.BASE ^ (2 * g.BIAS)) (10 ^ 36 * g.BASE ^ g.BIAS) (mul-pos pu (power_pos g.lawful (2 * g.BIAS))) (omega (arith, mul-le-mul_left (10 ^ 36 * g.BASE ^ g.BIAS * u) (power_pos g.lawful (2 * g.BIAS)))) in
        absurd (over q f))
      where
        square : g.BASE ^ (2 * g.BIAS) ≡ g.BASE ^ g.BIAS * g.BASE ^ g.BIAS
        square = ap (λ x. g.BASE ^ x) (let e : 2 * g.BIAS ≡ g.BIAS + g.BIAS = omega arith in e) ∙ pow-add g.BASE g.BIAS g.BIAS

        over : cut t N (u * g.BASE ^ (2 * g.BIAS)) ≤ 10 ^ 36 * g.BASE ^ g.BIAS → g.FULL * g.BASE ≤ cut t N (u * g.BASE ^ (2 * g.BIAS)) → ⊥
        over q f =
            let h = g.lawful.2.0 in
            let tight : cut t N (u * g.BASE ^ (2 * g.BIAS)) ≤ 1 =
            cut_most t N (u * g.BASE ^ (2 * g.BIAS)) 1 (mul-pos pu (power_pos g.lawful (2 * g.BIAS)))
            (omega (arith, r, ap (λ x. u * x) square, mul-le-mul_right (g.BASE ^ g.BIAS * u) (small h))) in
            let w = wider g.lawful in
            omega arith
          where
            small : 10 ^ 36 * g.FULL * g.FULL ≤ g.BASE ^ g.BIAS → 10 ^ 36 ≤ g.BASE ^ g.BIAS
            small h = omega (arith, mul-le-mul_left (10 ^ 36) (mul-pos least least))

  module _ (N u : ℕ) (pu : 0 < u) where
    -- rounded down
    pub below : units (or_zero (rounded {g = g} Down N u)) * u ≤ N
    below =
        dite (dec_le g.FULL (cut Down N u))
        (λ some.
        let e = place Down N u pu some in
        let m = cut Down N (u * g.BASE ^ e) in
        dite (dec_le e (2 * g.BIAS))
        (λ le.
        let is = rounded_full g Down N u pu e some (place_fills Down N u pu some) (place_few Down N u pu some) le in
        let v = full_units g m e (place_full Down N u pu some) (place_few Down N u pu some) le in
        let c = cuts Down N (u * g.BASE ^ e) (mul-pos pu (power_pos g.lawful e)) in
        subst (λ (r : Option (End R g)). units (or_zero {g = g} r) * u ≤ N) (sym is) (omega (arith, ap (λ x. x * u) v, c.0)))
        (λ gt.
        let is = rounded_past g Down N u pu e some (place_fills Down N u pu some) (place_few Down N u pu some) (lt_of_not-le gt) in
        subst (λ (r : Option (End R g)). units (or_zero {g = g} r) * u ≤ N) (sym is) (none u)))
        (λ few.
        let c = cuts Down N u pu in
        let l = mul-le-mul_right u (let h : cut Down N u + 1 ≤ g.FULL = let f = lt_of_not-le few in omega arith in h) in
        subst (λ (r : Option (End R g)). units (or_zero {g = g} r) * u ≤ N) (sym (rounded_slight_down g N u pu (omega arith))) (none u))
      where
        none : (u : ℕ) → units (zero_end {g = g}) * u ≤ N
        none u = omega (arith, ap (λ x. x * u) (zero_units g))

    pub below_near : (Q : ℕ) → N ≤ Q → g.FULL * g.FULL * u ≤ Q → InRange N u → g.FULL * N ≤ g.FULL * (units (or_zero (rounded {g = g} Down N u)) * u) + Q
    below_near Q q s range =
        dite (dec_le g.FULL (cut Down N u))
        (λ some.
        let e = place Down N u pu some in
        let m = cut Down N (u * g.BASE ^ e) in
        let le = place_low Down N u pu some range in
        let is = rounded_full g Down N u pu e some (place_fills Down N u pu some) (place_few Down N u pu some) le in
        let v = full_units g m e (place_full Down N u pu some) (place_few Down N u pu some) le in
        let c = cuts Down N (u * g.BASE ^ e) (mul-pos pu (power_pos g.lawful e)) in
        let f = mul-le-mul_right (u * g.BASE ^ e) (place_full Down N u pu some) in
        subst (λ (r : Option (End R g)). g.FULL * N ≤ g.FULL * (units (or_zero {g = g} r) * u) + Q) (sym is)
        (omega (arith, ap (λ x. g.FULL * (x * u)) v, mul-le-mul_left g.FULL (le_of_lt c.1), c.0)))
        (λ few.
        let c = cuts Down N u pu in
        let l = mul-le-mul_right u (let h : cut Down N u + 1 ≤ g.FULL = let f = lt_of_not-le few in omega arith in h) in
        let under : N < g.FULL * u = omega arith in
        subst (λ (r : Option (End R g)). g.FULL * N ≤ g.FULL * (units (or_zero {g = g} r) * u) + Q) (sym (rounded_slight_down g N u pu under))
        (omega (arith, mul-le-mul_left g.FULL (le_of_lt under))))

    -- rounded up
    pub above : Reaches N u (rounded {g = g} Up N u)
    above =
        dite (dec_le g.FULL (cut Up N u))
        (λ some.
        let e = place Up N u pu some in
        let m = cut Up N (u * g.BASE ^ e) in
        dite (dec_le e (2 * g.BIAS))
        (λ le.
        let is = rounded_full g Up N u pu e some (place_fills Up N u pu some) (place_few Up N u pu some) le in
        let v = full_units g m e (place_full Up N u pu some) (place_few Up N u pu some) le in
        let c = cuts Up N (u * g.BASE ^ e) (mul-pos pu (power_pos g.lawful e)) in
        let reach : N ≤ units (full_end {g = g} m e) * u = omega (arith, ap (λ x. x * u) v, c.0) in
        subst (Reaches N u) (sym is) reach)
        (λ gt. subst (Reaches N u) (sym (rounded_past g Up N u pu e some (place_fills Up N u pu some) (place_few Up N u pu some) (lt_of_not-le gt))) tt))
        (λ few. slightly (lt_of_not-le few) (cuts Up N u pu))
      where
        slightly : cut Up N u < g.FULL → (N ≤ cut Up N u * u) × (cut Up N u * u < N + u) → Reaches N u (rounded {g = g} Up N u)
        slightly f c =
            let l = mul-le-mul_right u (le_of_lt f) in
            dite (dec_le 1 N)
            (λ some.
            let v = full_units g g.FULL 0 (le_refl g.FULL) (let w = wider g.lawful in omega arith) (omega arith) in
            let reach : N ≤ units (full_end {g = g} g.FULL 0) * u = omega (arith, ap (λ x. x * u) v, ap (λ x. g.FULL * x * u) (pow-zero g.BASE)) in
            subst (Reaches N u) (sym (rounded_slight_up g N u pu some (omega arith))) reach)
            (λ none.
            let e : N ≡ 0 = let i = lt_of_not-le none in omega arith in
            let reach : N ≤ units (zero_end {g = g}) * u = omega arith in
            subst (Reaches N u) (sym (rounded_none g N u pu Up e)) reach)

    -- an upper end that is there, and too much by little
    pub record Tops (Q : ℕ) : Type 0 where
      pub end : End R g
      pub is : rounded {g = g} Up N u ≡ Some end
      pub near : g.FULL * (units end * u) ≤ g.FULL * N + Q

    module _ (Q : ℕ) (q : N ≤ Q) (s : g.FULL * g.FULL * u ≤ Q) where
      near_full : (some : g.FULL ≤ cut Up N u) (e : ℕ) → e ≡ place Up N u pu some → g.FULL * (cut Up N (u * g.BASE ^ e) * g.BASE ^ e * u) ≤ g.FULL * N + Q
      near_full some e i =
          let m = cut Up N (u * g.BASE ^ e) in
          let c = cuts Up N (u * g.BASE ^ e) (mul-pos pu (power_pos g.lawful e)) in
          dite (dec_le (u * (g.FULL * g.BASE ^ e)) N)
          (λ large. omega (arith, mul-le-mul_left g.FULL (le_of_lt c.1)))
          (λ less.
          let l = lt_of_not-le less in
          let most = cut_most Up N (u * g.BASE ^ e) g.FULL (mul-pos pu (power_pos g.lawful e)) (omega arith) in
          carried e i (mul-le-mul_right (g.BASE ^ e * u) most))
        where
          carried : (e : ℕ) → e ≡ place Up N u pu some → cut Up N (u * g.BASE ^ e) * (g.BASE ^ e * u) ≤ g.FULL * (g.BASE ^ e * u) → g.FULL * (cut Up N (u * g.BASE ^ e) * g.BASE ^ e * u) ≤ g.FULL * N + Q
          carried zero i h = omega (arith, mul-le-mul_left g.FULL h, ap (λ x. g.FULL * (g.FULL * (x * u))) (pow-zero g.BASE))
          carried (suc j) i h =
              let f = place_fills Up N u pu some j (omega arith) in
              let d = cuts Up N (u * g.BASE ^ j) (mul-pos pu (power_pos g.lawful j)) in
              let below : g.FULL * g.BASE * (u * g.BASE ^ j) < N + u * g.BASE ^ j = omega (arith, mul-le-mul_right (u * g.BASE ^ j) f, d.1) in
              let room : g.FULL * (u * g.BASE ^ j) ≤ N = omega (arith, mul-le-mul_right (u * g.BASE ^ j) (wider g.lawful), mul-le-mul_right (u * g.BASE ^ j) least) in
              omega (arith, mul-le-mul_left g.FULL h, ap (λ x. g.FULL * (g.FULL * (x * u))) (pow-suc g.BASE j), mul-le-mul_left g.FULL (le_of_lt below))

      pub above_near : InRange N u → Tops Q
      above_near range =
          dite (dec_le g.FULL (cut Up N u))
          (λ some.
          let e = place Up N u pu some in
          let m = cut Up N (u * g.BASE ^ e) in
          let le = place_low Up N u pu some range in
          let v = full_units g m e (place_full Up N u pu some) (place_few Up N u pu some) le in
          record {
            end = full_end {g = g} m e;
            is = rounded_full g Up N u pu e some (place_fills Up N u pu some) (place_few Up N u pu some) le;
            near = subst (λ (x : ℕ). g.FULL * (x * u) ≤ g.FULL * N + Q) (sym v) (near_full some e refl);
          })
          (λ few. slightly (lt_of_not-le few) (cuts Up N u pu))
        where
          slightly : cut Up N u < g.FULL → (N ≤ cut Up N u * u) × (cut Up N u * u < N + u) → Tops Q
          slightly f c =
              let l = mul-le-mul_right u (le_of_lt f) in
              dite (dec_le 1 N)
              (λ some.
              let v = full_units g g.FULL 0 (le_refl g.FULL) (let w = wider g.lawful in omega arith) (omega arith) in
              record {
                end = full_end {g = g} g.FULL 0;
                is = rounded_slight_up g N u pu some (omega arith);
                near = omega (arith, ap (λ x. g.FULL * (x * u)) v, ap (λ x. g.FULL * (g.FULL * x * u)) (pow-zero g.BASE));
              })
              (λ none.
              let e : N ≡ 0 = let i = lt_of_not-le none in omega arith in
              record { end = zero_end {g = g}; is = rounded_none g N u pu Up e; near = omega (arith, ap (λ x. g.FULL * (x * u)) (zero_units g)) })

  -- what is rounded down is not above what is rounded up from no less
  pub rounded_ordered : (N u M v : ℕ) → 0 < u → 0 < v → N * v ≤ M * u → Ordered (or_zero (rounded {g = g} Down N u)) (rounded {g = g} Up M v)
  rounded_ordered N u M v pu pv h = by (rounded {g = g} Up M v) (above M v pv)
    where
      by : (o : Option (End R g)) → Reaches M v o → Ordered (or_zero (rounded {g = g} Down N u)) o
      by (Some e) r =
          le_of_mul-le-mul_right {k = u * v}
          (omega (arith, mul-le-mul_right v (below N u pu), mul-le-mul_right u r))
          (mul-pos pu pv)
      by None r = tt
