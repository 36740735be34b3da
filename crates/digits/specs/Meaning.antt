-- What an enclosure means, and what its operations give.
use Rattle.std.specs.Prelude.{ℕ, ◌^◌, Some, None, Option}
use Rattle.fraction.specs.Fraction.{Fraction}
use Rattle.enclosure.specs.Model.{Model, Upper, at, unbounded}
use Rattle.rounding.specs.declared.radix.Radix.{Ghosts}
use Rattle.rounding.specs.Rounded.{units, Ordered}
use Rattle.rounding.specs.Pairs.{lower_whole, upper_whole, lower_sum, upper_sum, lower_product, upper_product, lower_quotient, upper_quotient, lower_excess, upper_excess, smaller_end, larger_end, smaller_upper, larger_upper}
use Rattle.rounding.specs.declared.end.End.{End}
use Rattle.rounding.proofs.Ends.{power_pos}
use Rattle.rounding.proofs.Orders.{tested, told, whole_ordered, sum_ordered, product_ordered, quotient_ordered, excess_ordered, smaller_ordered, larger_ordered}
use Rattle.digits.specs.declared.span.Enclosure.{Enclosure}

module _ {R : Type 0} {g : Ghosts R} where
  -- the fraction that an end stands for
  abbrev pub value : End R g → Fraction
  value e = record { num = units e; den = g.BASE ^ g.BIAS; pos = power_pos g.lawful g.BIAS }

  -- none is no bound
  abbrev pub bound : Option (End R g) → Upper
  bound (Some e) = at (value e)
  bound None = unbounded

  -- two ends in order
  abbrev pub spanning : (l : End R g) (h : Option (End R g)) → Ordered l h → Enclosure R g
  spanning l h o = record { lower = l; upper = h; ordered = tested l h o }

  abbrev pub is_ordered : (e : Enclosure R g) → Ordered e.lower e.upper
  is_ordered e = told e.lower e.upper e.ordered

  abbrev pub whole_of : ℕ → Enclosure R g
  whole_of n = spanning (lower_whole n) (upper_whole n) (whole_ordered g n)

  module _ (a b : Enclosure R g) where
    abbrev pub sum_of : Enclosure R g
    sum_of = spanning (lower_sum a.lower b.lower) (upper_sum a.upper b.upper) (sum_ordered g a.lower b.lower a.upper b.upper (is_ordered a) (is_ordered b))

    abbrev pub product_of : Enclosure R g
    product_of = spanning (lower_product a.lower b.lower) (upper_product a.upper b.upper) (product_ordered g a.lower b.lower a.upper b.upper (is_ordered a) (is_ordered b))

    abbrev pub quotient_of : Enclosure R g
    quotient_of = spanning (lower_quotient a.lower b.upper) (upper_quotient a.upper b.lower) (quotient_ordered g a.lower b.lower a.upper b.upper (is_ordered a) (is_ordered b))

    abbrev pub excess_of : Enclosure R g
    excess_of = spanning (lower_excess a.lower b.upper) (upper_excess a.upper b.lower) (excess_ordered g a.lower b.lower a.upper b.upper (is_ordered a) (is_ordered b))

  module _ (a b : Enclosure R g) where
    abbrev pub smaller_of : Enclosure R g
    smaller_of = spanning (smaller_end a.lower b.lower) (smaller_upper a.upper b.upper) (smaller_ordered a.lower b.lower a.upper b.upper (is_ordered a) (is_ordered b))

    abbrev pub larger_of : Enclosure R g
    larger_of = spanning (larger_end a.lower b.lower) (larger_upper a.upper b.upper) (larger_ordered a.lower b.lower a.upper b.upper (is_ordered a) (is_ordered b))

  -- the arithmetic of a radix
  abbrev pub model_of : Model (Enclosure R g)
  model_of =
      record {
        fineness = g.FULL;
        lower = λ e. value e.lower;
        upper = λ e. bound e.upper;
        from_whole = whole_of;
        sum = sum_of;
        product = product_of;
        quotient = quotient_of;
        excess = excess_of;
        smaller = smaller_of;
        larger = larger_of;
      }
