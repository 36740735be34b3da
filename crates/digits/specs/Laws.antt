-- Every radix keeps the laws of an arithmetic. Here, and not in proofs/, since an impl can name the proof of its law
-- from specs/ only.
use Rattle.std.specs.Prelude.{◌≡◌, ℕ, ◌+◌, ◌-◌, ◌*◌, ◌^◌, ◌<◌, ◌≤◌, Bool, true, false, cond, Some, None, Option, nat_le, refl}
use Rattle.std.proofs.Common.{sym, ◌∙◌, subst, mul-le-mul_right, lt_of_not-le, le-leb, eq-eqb, ne_eqb}
use Rattle.std.proofs.Math.Path.{ap}
use native.Mathlib.Omega.{arith}
use Rattle.std.proofs.Math.Dec.{lit≤}
use Rattle.std.proofs.Math.Logic.{dite}
use Rattle.std.proofs.Math.Decide.{dec_le}
use Rattle.fraction.specs.Fraction.{Fraction, whole, ◌⊕◌, ◌⊗◌, ◌⊘◌, ◌⊖◌, ◌⊔◌, ◌⊓◌, ◌≼◌, Same}
use Rattle.fraction.proofs.Order.{le_trans, plus_le, times_le, over_le, excess_le, excess_first, above_zero, one_max, sub_mul}
use Rattle.fraction.proofs.Lattice.{larger_first, larger_second, smaller_mono, larger_mono, smaller_first, smaller_second, le_smaller, larger_le}
use Rattle.enclosure.specs.Model.{Model, Upper, at, unbounded, Below, Encloses, Bounded, Near, Fine, Ends, Sound, huge, tiny}
use Rattle.rounding.specs.declared.radix.Radix.{Ghosts}
use Rattle.rounding.specs.Rounded.{rounded, divided, units, or_zero, zero_end, Ordered, wider}
use Rattle.rounding.specs.Pairs.{lower_whole, upper_whole, upper_sum, upper_product, lower_quotient, upper_quotient, lower_excess, upper_excess, smaller_end, larger_end, smaller_upper, larger_upper}
use Rattle.rounding.specs.declared.rounding.Rounding.TheVariants.{Down, Up}
use Rattle.rounding.specs.declared.end.End.{End}
use Rattle.rounding.proofs.Ends.{power_pos, zero_units}
use Rattle.rounding.proofs.Orders.{smaller_units, larger_units}
use Rattle.digits.specs.Meaning.{value, bound, is_ordered, model_of}
use Rattle.digits.specs.declared.span.Enclosure.{Enclosure}
use Rattle.digits.specs.Exacts.{exact_below, exact_above, near_below, near_above}

-- what is not above y is not above what y is not above
below_trans : {x y : Fraction} (t : Upper) → x ≼ y → Below y t → Below x t
below_trans (at h) p q = le_trans p q
below_trans unbounded p q = tt

at_is : {x y : Fraction} → at x ≡ at y → x ≡ y
at_is e = cc

more : (a b : ℕ) → 0 < a → a ≤ b → 0 < b
more a b p q = omega arith

-- a scale is at least each of its parts
in_scale : (x s : Fraction) → x ≼ x ⊔ tiny ⊔ s
in_scale x s = le_trans (larger_first x tiny) (larger_first (x ⊔ tiny) s)

tiny_scale : (x s : Fraction) → tiny ≼ x ⊔ tiny ⊔ s
tiny_scale x s = le_trans (larger_second x tiny) (larger_first (x ⊔ tiny) s)

module _ {R : Type 0} (g : Ghosts R) where
  abbrev m : Model (Enclosure R g)
  m = model_of

  pub enclosure_ordered : (l : End R g) (h : Option (End R g)) → Ordered l h → Below (value l) (bound h)
  enclosure_ordered l (Some h) o = record { cross = mul-le-mul_right (g.BASE ^ g.BIAS) o }
  enclosure_ordered l None o = tt

  -- N / u units, for the exact fraction x
  abbrev Is : Fraction → ℕ → ℕ → Type 0
  Is x N u = x.num * (u * g.BASE ^ g.BIAS) ≡ N * x.den

  whole_is : (n : ℕ) → Is (whole n) (n * g.BASE ^ g.BIAS) 1
  unfolding whole
  whole_is n = omega arith

  sum_is : (a b : End R g) → Is (value a ⊕ value b) (units a + units b) 1
  unfolding ◌⊕◌
  sum_is a b = omega arith

  product_is : (a b : End R g) → Is (value a ⊗ value b) (units a * units b) (g.BASE ^ g.BIAS)
  unfolding ◌⊗◌
  product_is a b = omega arith

  excess_is : (a b : End R g) → Is (value a ⊖ value b) (units a - units b) 1
  unfolding ◌⊖◌
  excess_is a b = let e = sub_mul (units a) (units b) (g.BASE ^ g.BIAS) in omega (arith, ap (λ x. x * g.BASE ^ g.BIAS) e)

  quotient_is : (a b : End R g) → 0 < units b → Is (value a ⊘ value b) (units a * g.BASE ^ g.BIAS) (units b)
  unfolding ◌⊘◌
  quotient_is a b pos = let e = one_max (units b) pos in omega (arith, ap (λ x. units a * g.BASE ^ g.BIAS * (g.BASE ^ g.BIAS * x)) e)

  -- both ends near the exact ones
  fine_by : (l h s : Fraction) (N u M v : ℕ) → 0 < u → 0 < v → Is l N u → Is h M v → l ≼ huge → h ≼ huge → (e : Enclosure R g) → e.lower ≡ or_zero (rounded {g = g} Down N u) → e.upper ≡ rounded {g = g} Up M v → Fine m s l h e
  fine_by l h s N u M v pu pv il ih hl hh e p q =
      let t = near_above g h M v pv ih (h ⊔ tiny ⊔ s) hh (in_scale h s) (tiny_scale h s) in
      record {
        top = value t.end;
        is = ap bound (q ∙ t.is);
        low = subst (λ (x : End R g). Near g.FULL (l ⊔ tiny ⊔ s) l (value x)) (sym p) (near_below g l N u pu il (l ⊔ tiny ⊔ s) hl (in_scale l s) (tiny_scale l s));
        high = t.near;
      }

  -- an upper end that is a fraction
  record Capped (o : Option (End R g)) (h : Fraction) : Type 0 where
    end : End R g
    is : o ≡ Some end
    same : value end ≡ h

  capped : (o : Option (End R g)) (h : Fraction) → bound o ≡ at h → Capped o h
  capped (Some e) h p = record { end = e; is = refl; same = at_is p }
  capped None h p = let q : ◌≡◌ {A = ℕ} 0 1 = cc in absurd (omega arith)

  divided_is : (a b : ℕ) → 0 < b → divided {g = g} Down a b ≡ rounded {g = g} Down (a * g.BASE ^ g.BIAS) b
  divided_is a b pos = ap (λ t. cond t None (rounded {g = g} Down (a * g.BASE ^ g.BIAS) b)) (ne_eqb b 0 (λ e. omega arith))

  divided_up : (a b : ℕ) → 0 < b → divided {g = g} Up a b ≡ rounded {g = g} Up (a * g.BASE ^ g.BIAS) b
  divided_up a b pos = ap (λ t. cond t None (rounded {g = g} Up (a * g.BASE ^ g.BIAS) b)) (ne_eqb b 0 (λ e. omega arith))

  zero_below : (x : Fraction) → value (zero_end {g = g}) ≼ x
  zero_below x = record { cross = omega (arith, ap (λ u. u * x.den) (zero_units g)) }

  lower_is : (n : ℕ) → n ≤ 2 ^ 62 → lower_whole {g = g} n ≡ or_zero (rounded {g = g} Down (n * g.BASE ^ g.BIAS) 1)
  lower_is n h = ap (λ t. or_zero {g = g} (cond t (rounded {g = g} Down (n * g.BASE ^ g.BIAS) 1) None)) (le-leb n (2 ^ 62) h)

  upper_is : (n : ℕ) → n ≤ 2 ^ 62 → upper_whole {g = g} n ≡ rounded {g = g} Up (n * g.BASE ^ g.BIAS) 1
  upper_is n h = ap (λ t. cond t (rounded {g = g} Up (n * g.BASE ^ g.BIAS) 1) None) (le-leb n (2 ^ 62) h)

  one : 0 < 1
  one = omega arith

  whole_in : (n : ℕ) → n ≤ 2 ^ 62 → Encloses m (m.from_whole n) (whole n)
  whole_in n h =
      record {
        low = subst (λ (e : End R g). value e ≼ whole n) (sym (lower_is n h)) (exact_below g (whole n) _ 1 one (whole_is n));
        high = subst (λ (o : Option (End R g)). Below (whole n) (bound o)) (sym (upper_is n h)) (exact_above g (whole n) _ 1 one (whole_is n));
      }

  whole_huge : (n : ℕ) → n ≤ 2 ^ 62 → whole n ≼ huge
  unfolding huge whole
  whole_huge n h = record { cross = let l : 2 ^ 62 ≤ 10 ^ 36 = lit≤ tt in omega arith }

  whole_fine : (n : ℕ) → n ≤ 2 ^ 62 → Fine m (whole 0) (whole n) (whole n) (m.from_whole n)
  whole_fine n h = fine_by (whole n) (whole n) (whole 0) _ 1 _ 1 one one (whole_is n) (whole_is n) (whole_huge n h) (whole_huge n h) (m.from_whole n) (lower_is n h) (upper_is n h)

  sum_high : (h k : Option (End R g)) (x y : Fraction) → Below x (bound h) → Below y (bound k) → Below (x ⊕ y) (bound (upper_sum h k))
  sum_high (Some h) (Some k) x y p q = below_trans (bound (rounded {g = g} Up (units h + units k) 1)) (plus_le p q) (exact_above g (value h ⊕ value k) _ 1 one (sum_is h k))
  sum_high (Some h) None x y p q = tt
  sum_high None k x y p q = tt

  product_high : (h k : Option (End R g)) (x y : Fraction) → Below x (bound h) → Below y (bound k) → Below (x ⊗ y) (bound (upper_product h k))
  product_high (Some h) (Some k) x y p q = below_trans (bound (rounded {g = g} Up (units h * units k) (g.BASE ^ g.BIAS))) (times_le p q) (exact_above g (value h ⊗ value k) _ (g.BASE ^ g.BIAS) (power_pos g.lawful g.BIAS) (product_is h k))
  product_high (Some h) None x y p q = tt
  product_high None k x y p q = tt

  excess_low : (a : End R g) (k : Option (End R g)) (x y : Fraction) → value a ≼ x → Below y (bound k) → value (lower_excess a k) ≼ x ⊖ y
  excess_low a (Some k) x y p q = le_trans (exact_below g (value a ⊖ value k) _ 1 one (excess_is a k)) (excess_le p q)
  excess_low a None x y p q = zero_below (x ⊖ y)

  excess_high : (h : Option (End R g)) (b : End R g) (x y : Fraction) → Below x (bound h) → value b ≼ y → Below (x ⊖ y) (bound (upper_excess h b))
  excess_high (Some h) b x y p q = below_trans (bound (rounded {g = g} Up (units h - units b) 1)) (excess_le p q) (exact_above g (value h ⊖ value b) _ 1 one (excess_is h b))
  excess_high None b x y p q = tt

  quotient_low : (a : End R g) (k : Option (End R g)) (x y : Fraction) → 0 < y.num → value a ≼ x → Below y (bound k) → value (lower_quotient a k) ≼ x ⊘ y
  quotient_low a (Some k) x y pos p q =
      let some = above_zero pos q in
      subst (λ (o : Option (End R g)). value (or_zero {g = g} o) ≼ x ⊘ y) (sym (divided_is (units a) (units k) some))
      (le_trans (exact_below g (value a ⊘ value k) _ (units k) some (quotient_is a k some)) (over_le pos p q))
  quotient_low a None x y pos p q = zero_below (x ⊘ y)

  quotient_high : (h : Option (End R g)) (b : End R g) (x y : Fraction) → Below x (bound h) → value b ≼ y → Below (x ⊘ y) (bound (upper_quotient h b))
  quotient_high (Some h) b x y p q =
      dite (dec_le 1 (units b))
      (λ some.
      subst (λ (o : Option (End R g)). Below (x ⊘ y) (bound o)) (sym (divided_up (units h) (units b) some))
      (below_trans (bound (rounded {g = g} Up (units h * g.BASE ^ g.BIAS) (units b))) (over_le some p q) (exact_above g (value h ⊘ value b) _ (units b) some (quotient_is h b some))))
      (λ none.
      subst (λ (t : Bool). Below (x ⊘ y) (bound (cond t None (rounded {g = g} Up (units h * g.BASE ^ g.BIAS) (units b))))) (sym (eq-eqb (units b) 0 (let l = lt_of_not-le none in omega arith))) tt)
  quotient_high None b x y p q = tt

  -- one of the two ends
  pick : (P : End R g → Type 0) (t : Bool) (a b : End R g) → P a → P b → P (cond t a b)
  pick P true a b p q = p
  pick P false a b p q = q

  smaller_low : (a b : End R g) → value (smaller_end a b) ≼ value a ⊓ value b
  smaller_low a b =
      let u = smaller_units a b in
      le_smaller (record { cross = mul-le-mul_right (g.BASE ^ g.BIAS) (let h : units (smaller_end a b) ≤ units a = omega arith in h) })
      (record { cross = mul-le-mul_right (g.BASE ^ g.BIAS) (let h : units (smaller_end a b) ≤ units b = omega arith in h) })

  larger_high : (a b : End R g) → value a ⊔ value b ≼ value (larger_end a b)
  larger_high a b =
      let u = larger_units a b in
      larger_le (record { cross = mul-le-mul_right (g.BASE ^ g.BIAS) (let h : units a ≤ units (larger_end a b) = omega arith in h) })
      (record { cross = mul-le-mul_right (g.BASE ^ g.BIAS) (let h : units b ≤ units (larger_end a b) = omega arith in h) })

  smaller_same : (a b : End R g) → Same (value (smaller_end a b)) (value a ⊓ value b)
  smaller_same a b =
      record {
        to = smaller_low a b;
        from = pick (λ e. value a ⊓ value b ≼ value e) (nat_le (units a) (units b)) a b (smaller_first (value a) (value b)) (smaller_second (value a) (value b));
      }

  larger_same : (a b : End R g) → Same (value (larger_end a b)) (value a ⊔ value b)
  larger_same a b =
      record {
        to = pick (λ e. value e ≼ value a ⊔ value b) (nat_le (units a) (units b)) b a (larger_second (value a) (value b)) (larger_first (value a) (value b));
        from = larger_high a b;
      }

  smaller_high : (h k : Option (End R g)) (x y : Fraction) → Below x (bound h) → Below y (bound k) → Below (x ⊓ y) (bound (smaller_upper h k))
  smaller_high (Some h) (Some k) x y p q = le_trans (smaller_mono p q) (smaller_same h k).from
  smaller_high (Some h) None x y p q = le_trans (smaller_first x y) p
  smaller_high None (Some k) x y p q = le_trans (smaller_second x y) q
  smaller_high None None x y p q = tt

  larger_top : (h k : Option (End R g)) (x y : Fraction) → Below x (bound h) → Below y (bound k) → Below (x ⊔ y) (bound (larger_upper h k))
  larger_top (Some h) (Some k) x y p q = le_trans (larger_mono p q) (larger_same h k).from
  larger_top (Some h) None x y p q = tt
  larger_top None k x y p q = tt

  module _ (a b : Enclosure R g) (h k : Fraction) (ba : Bounded m a h) (bb : Bounded m b k) where
    top_a : Capped a.upper h
    top_a = capped a.upper h ba.is

    top_b : Capped b.upper k
    top_b = capped b.upper k bb.is

    -- the exact upper end, by the ends that the operands have
    by_tops : (op : Fraction → Fraction → Fraction) → op (value top_a.end) (value top_b.end) ≡ op h k
    by_tops op = ap (λ x. op x (value top_b.end)) top_a.same ∙ ap (λ y. op h y) top_b.same

    sum_fine : value a.lower ⊕ value b.lower ≼ huge → h ⊕ k ≼ huge → Fine m (whole 0) (value a.lower ⊕ value b.lower) (h ⊕ k) (m.sum a b)
    sum_fine pl ph =
        let x = top_a.end in
        let y = top_b.end in
        subst (λ (f : Fraction). f ≼ huge → Fine m (whole 0) (value a.lower ⊕ value b.lower) f (m.sum a b)) (by_tops ◌⊕◌)
        (λ p. fine_by _ _ (whole 0) _ 1 _ 1 one one (sum_is a.lower b.lower) (sum_is x y) pl p (m.sum a b) refl (ap (λ o. upper_sum o b.upper) top_a.is ∙ ap (λ o. upper_sum (Some x) o) top_b.is))
        ph

    product_fine : value a.lower ⊗ value b.lower ≼ huge → h ⊗ k ≼ huge → Fine m (whole 0) (value a.lower ⊗ value b.lower) (h ⊗ k) (m.product a b)
    product_fine pl ph =
        let x = top_a.end in
        let y = top_b.end in
        let u = power_pos g.lawful g.BIAS in
        subst (λ (f : Fraction). f ≼ huge → Fine m (whole 0) (value a.lower ⊗ value b.lower) f (m.product a b)) (by_tops ◌⊗◌)
        (λ p. fine_by _ _ (whole 0) _ (g.BASE ^ g.BIAS) _ (g.BASE ^ g.BIAS) u u (product_is a.lower b.lower) (product_is x y) pl p (m.product a b) refl (ap (λ o. upper_product o b.upper) top_a.is ∙ ap (λ o. upper_product (Some x) o) top_b.is))
        ph

    excess_fine : Fine m h (value a.lower ⊖ k) (h ⊖ value b.lower) (m.excess a b)
    excess_fine =
        let x = top_a.end in
        let y = top_b.end in
        subst (λ (f : Fraction). Fine m h (value a.lower ⊖ f) (h ⊖ value b.lower) (m.excess a b)) top_b.same
        (subst (λ (f : Fraction). f ≼ huge → Fine m h (value a.lower ⊖ value y) (f ⊖ value b.lower) (m.excess a b)) top_a.same
        (λ p. fine_by _ _ h _ 1 _ 1 one one (excess_is a.lower y) (excess_is x b.lower) (le_trans (excess_first (value a.lower) (value y)) ba.low) (le_trans (excess_first (value x) (value b.lower)) p) (m.excess a b) (ap (λ o. lower_excess a.lower o) top_b.is) (ap (λ o. upper_excess o b.lower) top_a.is))
        ba.high)

    quotient_fine : 0 < units b.lower → value a.lower ⊘ k ≼ huge → h ⊘ value b.lower ≼ huge → Fine m (whole 0) (value a.lower ⊘ k) (h ⊘ value b.lower) (m.quotient a b)
    quotient_fine some pl ph =
        let x = top_a.end in
        let y = top_b.end in
        let some_y : 0 < units y = let o : Ordered b.lower (Some y) = subst (λ (o : Option (End R g)). Ordered b.lower o) top_b.is (is_ordered b) in more (units b.lower) (units y) some o in
        subst (λ (f : Fraction). f ≼ huge → Fine m (whole 0) (value a.lower ⊘ k) f (m.quotient a b)) (ap (λ v. v ⊘ value b.lower) top_a.same)
        (λ p. subst (λ (f : Fraction). f ≼ huge → Fine m (whole 0) f (value x ⊘ value b.lower) (m.quotient a b)) (ap (λ v. value a.lower ⊘ v) top_b.same)
        (λ q. fine_by _ _ (whole 0) _ (units y) _ (units b.lower) some_y some (quotient_is a.lower y some_y) (quotient_is x b.lower some) q p (m.quotient a b)
        (ap (λ o. lower_quotient a.lower o) top_b.is ∙ ap (or_zero {g = g}) (divided_is (units a.lower) (units y) some_y))
        (ap (λ o. upper_quotient o b.lower) top_a.is ∙ divided_up (units x) (units b.lower) some))
        pl)
        ph

    smaller_ends : Ends m (value a.lower ⊓ value b.lower) (h ⊓ k) (m.smaller a b)
    smaller_ends =
        let x = top_a.end in
        let y = top_b.end in
        record {
          top = value (smaller_end x y);
          is = ap (λ o. bound (smaller_upper o b.upper)) top_a.is ∙ ap (λ o. bound (smaller_upper (Some x) o)) top_b.is;
          low = smaller_same a.lower b.lower;
          high = subst (λ (f : Fraction). Same (value (smaller_end x y)) f) (by_tops ◌⊓◌) (smaller_same x y);
        }

    larger_ends : Ends m (value a.lower ⊔ value b.lower) (h ⊔ k) (m.larger a b)
    larger_ends =
        let x = top_a.end in
        let y = top_b.end in
        record {
          top = value (larger_end x y);
          is = ap (λ o. bound (larger_upper o b.upper)) top_a.is ∙ ap (λ o. bound (larger_upper (Some x) o)) top_b.is;
          low = larger_same a.lower b.lower;
          high = subst (λ (f : Fraction). Same (value (larger_end x y)) f) (by_tops ◌⊔◌) (larger_same x y);
        }

  pub sound_of : Sound m
  sound_of =
      record {
        least_fineness = g.lawful.1.0;
        most_fineness = let w = wider g.lawful in let l = g.lawful.1.1 in omega arith;
        ordered = λ e. enclosure_ordered e.lower e.upper (is_ordered e);
        whole_in = whole_in;
        whole_fine = whole_fine;
        sum_in = λ a b x y p q. record {
          low = le_trans (exact_below g (value a.lower ⊕ value b.lower) _ 1 one (sum_is a.lower b.lower)) (plus_le p.low q.low);
          high = sum_high a.upper b.upper x y p.high q.high;
        };
        sum_fine = λ a b h k p q. sum_fine a b h k p q;
        product_in = λ a b x y p q. record {
          low = le_trans (exact_below g (value a.lower ⊗ value b.lower) _ (g.BASE ^ g.BIAS) (power_pos g.lawful g.BIAS) (product_is a.lower b.lower)) (times_le p.low q.low);
          high = product_high a.upper b.upper x y p.high q.high;
        };
        product_fine = λ a b h k p q. product_fine a b h k p q;
        quotient_in = λ a b x y pos p q. record {
          low = quotient_low a.lower b.upper x y pos p.low q.high;
          high = quotient_high a.upper b.lower x y p.high q.low;
        };
        quotient_fine = λ a b h k pos p q. quotient_fine a b h k p q pos;
        excess_in = λ a b x y p q. record {
          low = excess_low a.lower b.upper x y p.low q.high;
          high = excess_high a.upper b.lower x y p.high q.low;
        };
        excess_fine = excess_fine;
        smaller_in = λ a b x y p q. record {
          low = le_trans (smaller_low a.lower b.lower) (smaller_mono p.low q.low);
          high = smaller_high a.upper b.upper x y p.high q.high;
        };
        smaller_ends = smaller_ends;
        larger_in = λ a b x y p q. record {
          low = le_trans (larger_same a.lower b.lower).to (larger_mono p.low q.low);
          high = larger_top a.upper b.upper x y p.high q.high;
        };
        larger_ends = larger_ends;
      }
