-- The nearest end below or above an exact quantity.
use Rattle.std.specs.Prelude.{ℕ, zero, suc, ◌-◌, ◌*◌, ◌^◌, ◌≤◌, min, max, Bool, true, cond, Some, None, Option, ◌==◌, nat_le, nat_lt}
use Rattle.std.proofs.Common.{mul-le-mul_left, arith}
use Rattle.rounding.specs.Radix.{Radix}
use Rattle.rounding.specs.Cut.{cut}
use Rattle.rounding.specs.declared.radix.Radix.{Ghosts}
use Rattle.rounding.specs.declared.rounding.Rounding.{Rounding}
use Rattle.rounding.specs.declared.rounding.Rounding.TheVariants.{Down, Up}
use Rattle.rounding.specs.declared.end.End.{End}

-- how many digits n has too many for a significand below L, when they are cut off one by one (at most k of them)
module _ (d : Rounding) (B L : ℕ) where
  unfoldable pub surplus : (k n : ℕ) → ℕ
  surplus zero n = 0
  surplus (suc k) n = cond (nat_lt n L) 0 (suc (surplus k (cut d n B)))

-- a full significand leaves room above the least
pub wider : {B S W bias : ℕ} → Radix B S W bias → W * 2 ≤ W * B
wider {W} z = mul-le-mul_left W z.0.0

module _ {R : Type 0} {g : Ghosts R} where
  -- what an end stands for, counted in units of 1 / BASE ^ BIAS
  abbrev pub units : End R g → ℕ
  units r = r.digits * g.BASE ^ r.exponent

  unfoldable pub zero_end : End R g
  zero_end = record { digits = 0; exponent = 0; radix = record {}; few = omega (arith, wider g.lawful); low = omega arith; full = λ h. absurd (omega arith); zero = λ h. h }

  -- the end with these digits and this exponent; the clamps only make it one for every m and e
  unfoldable pub full_end : (m e : ℕ) → End R g
  full_end m e =
      record {
        digits = max g.FULL (min m (g.FULL * g.BASE - 1));
        exponent = min e (2 * g.BIAS);
        radix = record {};
        few = omega (arith, wider g.lawful);
        low = omega arith;
        full = λ h. omega arith;
        zero = λ h. absurd (omega (arith, g.lawful));
      }

  -- what stands for a quantity below the least end above 0, of n units
  abbrev pub slight : Rounding → (n : ℕ) → End R g
  slight Down n = zero_end
  slight Up n = cond (n == 0) zero_end (full_end g.FULL 0)

  -- N / u units, rounded to an end; none past the largest
  unfoldable pub rounded : Rounding → (N u : ℕ) → Option (End R g)
  rounded d N u =
      let n = cut d N u in
      let e = surplus d g.BASE (g.FULL * g.BASE) n n in
      cond (nat_lt n g.FULL) (Some (slight d n)) (cond (nat_lt (2 * g.BIAS) e) None (Some (full_end (cut d n (g.BASE ^ e)) e)))

  -- the quotient of two ends, of a and b units: none by 0
  abbrev pub divided : Rounding → (a b : ℕ) → Option (End R g)
  divided t a b = cond (b == 0) None (rounded t (a * g.BASE ^ g.BIAS) b)

  -- the whole number n; none past 2 ^ 62
  abbrev pub whole_end : Rounding → (n : ℕ) → Option (End R g)
  whole_end t n = cond (nat_le n (2 ^ 62)) (rounded t (n * g.BASE ^ g.BIAS) 1) None

  -- a lower end: 0 where there is none
  abbrev pub or_zero : Option (End R g) → End R g
  or_zero (Some e) = e
  or_zero None = zero_end

  -- a lower end that is not above an upper end, where none is no bound
  abbrev pub Ordered : End R g → Option (End R g) → Type 0
  Ordered l (Some h) = units l ≤ units h
  Ordered l None = Unit {0}

  -- the same as a test
  abbrev pub in_order : End R g → Option (End R g) → Bool
  in_order l (Some h) = nat_le (units l) (units h)
  in_order l None = true
