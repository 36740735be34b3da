-- The ends of a result are in order where those of the operands are.
use Rattle.std.proofs.Common.{◌≡◌, ℕ, ◌-◌, ◌*◌, ◌^◌, min, max, Bool, cond, T, Some, None, Option, sym, ap, ◌∙◌, subst, le_refl, mul-le-mul_right, mul-le-mul, lt_of_not-le, arith, le→leb, leb→le, eq-eqb, ne_eqb, le-leb}
use mathlib.Core.Logic.{dite}
use native.Mathlib.Decide.{dec_le}
use borrow.Author.Tests.{lt-leb}
use Rattle.rounding.specs.Rounded.{units, rounded, divided, zero_end, or_zero, Ordered, in_order}
use Rattle.rounding.specs.Pairs.{lower_whole, upper_whole, lower_sum, upper_sum, lower_product, upper_product, lower_quotient, upper_quotient, lower_excess, upper_excess, smaller_end, larger_end, smaller_upper, larger_upper}
use Rattle.rounding.specs.declared.rounding.Rounding.TheVariants.{Down, Up}
use Rattle.rounding.specs.declared.end.End.{End}
use Rattle.rounding.proofs.Ends.{power_pos, zero_units}
use Rattle.rounding.proofs.Laws.{rounded_ordered}
use Rattle.rounding.specs.declared.radix.Radix.{Ghosts}

module _ {R : Type 0} {g : Ghosts R} where
  pub smaller_units : (a b : End R g) → units (smaller_end a b) ≡ min (units a) (units b)
  smaller_units a b =
      dite (dec_le (units a) (units b))
      (λ h. ap (λ x. units (cond x a b)) (le-leb _ _ h) ∙ omega arith)
      (λ h. let l = lt_of_not-le h in ap (λ x. units (cond x a b)) (lt-leb _ _ l) ∙ omega arith)

  pub larger_units : (a b : End R g) → units (larger_end a b) ≡ max (units a) (units b)
  larger_units a b =
      dite (dec_le (units a) (units b))
      (λ h. ap (λ x. units (cond x b a)) (le-leb _ _ h) ∙ omega arith)
      (λ h. let l = lt_of_not-le h in ap (λ x. units (cond x b a)) (lt-leb _ _ l) ∙ omega arith)

  -- the test and what it says
  pub tested : (l : End R g) (h : Option (End R g)) → Ordered l h → T (in_order l h)
  tested l (Some h) o = le→leb _ _ o
  tested l None o = tt

  pub told : (l : End R g) (h : Option (End R g)) → T (in_order l h) → Ordered l h
  told l (Some h) t = leb→le _ _ t
  told l None t = tt

module _ {R : Type 0} (g : Ghosts R) where
  zero_ordered : (o : Option (End R g)) → Ordered (zero_end {g = g}) o
  zero_ordered (Some h) = omega (arith, zero_units g)
  zero_ordered None = tt

  pub whole_ordered : (n : ℕ) → Ordered (lower_whole {g = g} n) (upper_whole {g = g} n)
  whole_ordered n =
      dite (dec_le n (2 ^ 62))
      (λ h. subst (λ (x : Bool). Ordered (or_zero {g = g} (cond x (rounded {g = g} Down (n * g.BASE ^ g.BIAS) 1) None)) (cond x (rounded {g = g} Up (n * g.BASE ^ g.BIAS) 1) None)) (sym (le-leb _ _ h)) (rounded_ordered g _ 1 _ 1 (omega arith) (omega arith) (le_refl _)))
      (λ h. subst (λ (x : Bool). Ordered (or_zero {g = g} (cond x (rounded {g = g} Down (n * g.BASE ^ g.BIAS) 1) None)) (cond x (rounded {g = g} Up (n * g.BASE ^ g.BIAS) 1) None)) (sym (lt-leb _ _ (lt_of_not-le h))) tt)

  module _ (a b : End R g) where
    pub sum_ordered : (h k : Option (End R g)) → Ordered a h → Ordered b k → Ordered (lower_sum a b) (upper_sum h k)
    sum_ordered (Some x) (Some y) p q = rounded_ordered g _ 1 _ 1 (omega arith) (omega arith) (omega arith)
    sum_ordered (Some x) None p q = tt
    sum_ordered None k p q = tt

    pub product_ordered : (h k : Option (End R g)) → Ordered a h → Ordered b k → Ordered (lower_product a b) (upper_product h k)
    product_ordered (Some x) (Some y) p q = rounded_ordered g _ _ _ _ (power_pos g.lawful g.BIAS) (power_pos g.lawful g.BIAS) (mul-le-mul_right (g.BASE ^ g.BIAS) (mul-le-mul p q))
    product_ordered (Some x) None p q = tt
    product_ordered None k p q = tt

    pub excess_ordered : (h k : Option (End R g)) → Ordered a h → Ordered b k → Ordered (lower_excess a k) (upper_excess h b)
    excess_ordered (Some x) (Some y) p q = rounded_ordered g _ 1 _ 1 (omega arith) (omega arith) (omega arith)
    excess_ordered (Some x) None p q = zero_ordered (rounded {g = g} Up (units x - units b) 1)
    excess_ordered None k p q = tt

    pub quotient_ordered : (h k : Option (End R g)) → Ordered a h → Ordered b k → Ordered (lower_quotient a k) (upper_quotient h b)
    quotient_ordered (Some x) (Some y) p q =
        dite (dec_le 1 (units b))
        (λ some.
        subst (λ (t : Bool). Ordered (or_zero (divided {g = g} Down (units a) (units y))) (cond t None (rounded {g = g} Up (units x * g.BASE ^ g.BIAS) (units b)))) (sym (ne_eqb (units b) 0 (λ e. omega arith)))
        (subst (λ (t : Bool). Ordered (or_zero {g = g} (cond t None (rounded {g = g} Down (units a * g.BASE ^ g.BIAS) (units y)))) (rounded {g = g} Up (units x * g.BASE ^ g.BIAS) (units b))) (sym (ne_eqb (units y) 0 (λ e. omega arith)))
        (rounded_ordered g _ _ _ _ (omega arith) some (mul-le-mul (mul-le-mul_right (g.BASE ^ g.BIAS) p) q))))
        (λ none.
        subst (λ (t : Bool). Ordered (or_zero (divided {g = g} Down (units a) (units y))) (cond t None (rounded {g = g} Up (units x * g.BASE ^ g.BIAS) (units b)))) (sym (eq-eqb (units b) 0 (let l = lt_of_not-le none in omega arith))) tt)
    quotient_ordered (Some x) None p q = zero_ordered (upper_quotient (Some x) b)
    quotient_ordered None k p q = tt

module _ {R : Type 0} {g : Ghosts R} (a b : End R g) where
  pub smaller_ordered : (h k : Option (End R g)) → Ordered a h → Ordered b k → Ordered (smaller_end a b) (smaller_upper h k)
  smaller_ordered (Some x) (Some y) p q = omega (arith, smaller_units a b, smaller_units x y)
  smaller_ordered (Some x) None p q = omega (arith, smaller_units a b)
  smaller_ordered None (Some y) p q = omega (arith, smaller_units a b)
  smaller_ordered None None p q = tt

  pub larger_ordered : (h k : Option (End R g)) → Ordered a h → Ordered b k → Ordered (larger_end a b) (larger_upper h k)
  larger_ordered (Some x) (Some y) p q = omega (arith, larger_units a b, larger_units x y)
  larger_ordered (Some x) None p q = tt
  larger_ordered None k p q = tt
