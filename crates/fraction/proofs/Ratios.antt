-- Ratios that the code makes, and the turns of their comparison.
use Rattle.std.proofs.Common.{◌≡◌, ℕ, zero, suc, ◌+◌, ◌*◌, ◌/◌, ◌%◌, ◌<◌, ◌≤◌, ltb, leb, Bool, true, false, Some, nat_cmp, rules, sym, ap, ◌∙◌, mul-le-mul_right, mod-lt, mul-lt-mul_of_pos_right, lt_of_not-le, arith, le-ltb, lt-ltb, le-leb}
use mathlib.Core.Logic.{dite}
use native.Mathlib.Decide.{dec_le}
use native.Mathlib.Nat.{div-add-mod}
use native.Mathlib.Bridge.{le_prop}
use borrow.Author.Tests.{lt-leb}
use Rattle.std.specs.Cmp.{nat_cmp_is}
use Rattle.std.specs.Ordering.{MatchOrdering, is_ne}
use Rattle.std.specs.declared.cmp.Ordering.{Ordering}
use Rattle.std.specs.declared.cmp.Ordering.TheVariants.{Less, Equal, Greater}
use Rattle.std.proofs.lemmas.Cmp.{ranked}
use Rattle.fraction.specs.Ratio.{ratio_of}
use Rattle.fraction.specs.Ordered.{scaled}

pub made : (n d : ℕ) (p : 0 < d) → Some (record { num = n; den = d; positive = p }) ≡ ratio_of n d
made n zero p = absurd (omega arith)
made n (suc d) p = ap (λ q. Some (record { num = n; den = suc d; positive = q })) (le_prop p _)

-- two pairs compare as their whole parts do, where those differ
apart_cmp : (q p x y : ℕ) → (q < p → x < y) → (p < q → y < x) → is_ne (nat_cmp q p) ≡ true → nat_cmp q p ≡ nat_cmp x y
apart_cmp q p x y less more = by (nat_cmp q p) (ranked q p (nat_cmp q p) (λ i. nat_cmp q p))
  where
    by : (r : Ordering) → MatchOrdering r (q < p) (q ≡ p) (p < q) → is_ne r ≡ true → r ≡ nat_cmp x y
    by Less h n = nat_cmp_is x y Less (less h)
    by Equal h n = absurd (search (rules, n))
    by Greater h n = nat_cmp_is x y Greater (more h)

level_cmp : (q p : ℕ) → is_ne (nat_cmp q p) ≡ false → q ≡ p
level_cmp q p = by (nat_cmp q p) (ranked q p (nat_cmp q p) (λ i. nat_cmp q p))
  where
    by : (r : Ordering) → MatchOrdering r (q < p) (q ≡ p) (p < q) → is_ne r ≡ false → q ≡ p
    by Less h n = absurd (search (rules, n))
    by Equal h n = h
    by Greater h n = absurd (search (rules, n))

module _ (a b c d : ℕ) (bp : 0 < b) (dp : 0 < d) where
  whole_a : b * (a / b) + a % b ≡ a
  whole_a = div-add-mod a b

  whole_c : d * (c / d) + c % d ≡ c
  whole_c = div-add-mod c d

  -- the whole parts decide where they differ
  pub less : a / b < c / d → a * d < c * b
  less l =
      omega (arith, ap (λ x. x * d) whole_a, ap (λ x. x * b) whole_c, mul-le-mul_right d (mod-lt a bp), mul-le-mul_right (b * d) l)

  pub more : c / d < a / b → c * b < a * d
  more l =
      omega (arith, ap (λ x. x * d) whole_a, ap (λ x. x * b) whole_c, mul-lt-mul_of_pos_right (mod-lt c dp) bp, mul-le-mul_right (b * d) l)

  -- and where they do not, the remainders do
  pub level : a / b ≡ c / d → a * d + c % d * b ≡ c * b + a % b * d
  level e = omega (arith, ap (λ x. x * d) whole_a, ap (λ x. x * b) whole_c, ap (λ x. x * (b * d)) e)

  -- as the code finds them
  pub found_apart : (whole : Ordering) (ne : Bool) → whole ≡ nat_cmp (a / b) (c / d) → ne ≡ is_ne whole → ne ≡ true → whole ≡ nat_cmp (a * d) (c * b)
  found_apart whole ne w n t = w ∙ apart_cmp _ _ _ _ less more (ap is_ne (sym w) ∙ (sym n ∙ t))

  pub found_level : (whole : Ordering) (ne : Bool) → whole ≡ nat_cmp (a / b) (c / d) → ne ≡ is_ne whole → ne ≡ false → a * d + c % d * b ≡ c * b + a % b * d
  found_level whole ne w n f = level (level_cmp (a / b) (c / d) (ap is_ne (sym w) ∙ (sym n ∙ f)))

-- two pairs compare alike where their differences are one
pub same_cmp : (x y u v : ℕ) → x + v ≡ y + u → nat_cmp u v ≡ nat_cmp x y
same_cmp x y u v e = nat_cmp_is x y (nat_cmp u v) (by (nat_cmp u v) (ranked u v (nat_cmp u v) (λ i. nat_cmp u v)))
  where
    by : (r : Ordering) → MatchOrdering r (u < v) (u ≡ v) (v < u) → MatchOrdering r (x < y) (x ≡ y) (y < x)
    by Less h = omega (arith, h)
    by Equal h = omega (arith, h)
    by Greater h = omega (arith, h)

-- a factor above 0 changes no comparison with 0
pub zero_cmp : (r o k l : ℕ) → 0 < k → 0 < l → r * o ≡ 0 → nat_cmp r o ≡ nat_cmp (r * k) (o * l)
zero_cmp zero o k l kp lp z = let e : 0 * k ≡ 0 * l = omega arith in rw e (sym (scaled 0 o l lp))
zero_cmp (suc r) zero k l kp lp z = let e : 0 * l ≡ 0 * k = omega arith in rw e (sym (scaled (suc r) 0 k kp))
zero_cmp (suc r) (suc o) k l kp lp z = absurd (omega (arith, z))

-- so do the tests whether the one is at most the other
pub same_test : (x y u v : ℕ) → x + v ≡ y + u → leb u v ≡ leb x y
same_test x y u v e =
    dite (dec_le u v)
    (λ h. le-leb u v h ∙ sym (le-leb x y (omega arith)))
    (λ h. let l : v < u = lt_of_not-le h in lt-leb u v l ∙ sym (lt-leb x y (omega arith)))

-- and the whole parts decide such a test, where they differ
pub apart_test : (q p x y : ℕ) → (q < p → x ≤ y) → (p < q → y < x) → (q ≡ p → ⊥) → ltb q p ≡ leb x y
apart_test q p x y less more ne =
    dite (dec_le (suc q) p)
    (λ h. lt-ltb q p h ∙ sym (le-leb x y (less h)))
    (λ h. let l : p < q = omega (arith, lt_of_not-le h) in le-ltb q p (omega arith) ∙ sym (lt-leb x y (more l)))
