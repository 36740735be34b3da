-- The order of fractions is total. A proof, which the impl of `Ord` names; a reader need not believe it.
use Rattle.std.proofs.Common.{◌≡◌, ℕ, ◌*◌, ◌<◌, ◌∙◌, sym, ap, subst, mul-lt-mul_of_pos_right, lt_of_mul-lt-mul_right, arith}
use Rattle.std.specs.Cmp.{IsTotalOrder, nat_cmp_is, nat_cmp_total}
use Rattle.std.specs.Ordering.{nat_cmp, MatchOrdering}
use Rattle.std.specs.declared.cmp.Ordering.{Ordering}
use Rattle.std.specs.declared.cmp.Ordering.TheVariants.{Less, Equal, Greater}
use Rattle.std.proofs.lemmas.Cmp.{ranked}
use Rattle.fraction.specs.Fraction.{Fraction}
use Rattle.fraction.specs.Ratio.{order}

-- a factor above 0 changes no comparison
pub scaled : (a b k : ℕ) → 0 < k → nat_cmp (a * k) (b * k) ≡ nat_cmp a b
scaled a b k pos = sym (nat_cmp_is (a * k) (b * k) (nat_cmp a b) (by (nat_cmp a b) (ranked a b (nat_cmp a b) (λ i. nat_cmp a b))))
  where
    by : (r : Ordering) → MatchOrdering r (a < b) (a ≡ b) (b < a) → MatchOrdering r (a * k < b * k) (a * k ≡ b * k) (b * k < a * k)
    by Less h = mul-lt-mul_of_pos_right h pos
    by Equal h = ap (λ n. n * k) h
    by Greater h = mul-lt-mul_of_pos_right h pos

-- what an order answers, from what holds
below : (x y : Fraction) → order x y ≡ Less → x.num * y.den < y.num * x.den
below x y e = subst (λ r. MatchOrdering r (x.num * y.den < y.num * x.den) (x.num * y.den ≡ y.num * x.den) (y.num * x.den < x.num * y.den)) e (ranked (x.num * y.den) (y.num * x.den) (order x y) (λ i. order x y))

level : (x y : Fraction) → order x y ≡ Equal → x.num * y.den ≡ y.num * x.den
level x y e = subst (λ r. MatchOrdering r (x.num * y.den < y.num * x.den) (x.num * y.den ≡ y.num * x.den) (y.num * x.den < x.num * y.den)) e (ranked (x.num * y.den) (y.num * x.den) (order x y) (λ i. order x y))

pub order_total : IsTotalOrder order
order_total =
    record {
      antisymm = λ x y. nat_cmp_total.antisymm (x.num * y.den) (y.num * x.den);
      trans = λ x y z a b. sym (nat_cmp_is _ _ Less (chain x y z (below x y a) (below y z b)));
      congr = λ x y z e.
          sym (scaled (x.num * z.den) (z.num * x.den) y.den y.pos)
          ∙ (alike x y z (level x y e)
          ∙ scaled (y.num * z.den) (z.num * y.den) x.den x.pos);
    }
  where
    chain : (x y z : Fraction) → x.num * y.den < y.num * x.den → y.num * z.den < z.num * y.den → x.num * z.den < z.num * x.den
    chain x y z a b =
        lt_of_mul-lt-mul_right y.den (omega (arith, mul-lt-mul_of_pos_right a z.pos, mul-lt-mul_of_pos_right b x.pos))

    alike : (x y z : Fraction) → x.num * y.den ≡ y.num * x.den → nat_cmp (x.num * z.den * y.den) (z.num * x.den * y.den) ≡ nat_cmp (y.num * z.den * x.den) (z.num * y.den * x.den)
    alike x y z e =
        let p : x.num * z.den * y.den ≡ y.num * z.den * x.den = omega (arith, ap (λ n. n * z.den) e) in
        let q : z.num * x.den * y.den ≡ z.num * y.den * x.den = omega arith in
        rw (p, q)
