-- The ends of a result, from those of two operands: the lower one rounded down, the upper one up; an upper end that
-- is none is no bound.
use Rattle.std.specs.Prelude.{ℕ, ◌+◌, ◌-◌, ◌*◌, ◌^◌, cond, Some, None, Option, nat_le}
use Rattle.rounding.specs.declared.radix.Radix.{Ghosts}
use Rattle.rounding.specs.Rounded.{units, rounded, divided, whole_end, or_zero, zero_end}
use Rattle.rounding.specs.declared.rounding.Rounding.TheVariants.{Down, Up}
use Rattle.rounding.specs.declared.end.End.{End}

module _ {R : Type 0} {g : Ghosts R} where
  -- a whole number
  abbrev pub lower_whole : ℕ → End R g
  lower_whole n = or_zero (whole_end Down n)

  abbrev pub upper_whole : ℕ → Option (End R g)
  upper_whole n = whole_end Up n

  -- the sum
  abbrev pub lower_sum : End R g → End R g → End R g
  lower_sum a b = or_zero (rounded Down (units a + units b) 1)

  abbrev pub upper_sum : Option (End R g) → Option (End R g) → Option (End R g)
  upper_sum (Some a) (Some b) = rounded Up (units a + units b) 1
  upper_sum (Some a) None = None
  upper_sum None b = None

  -- the product
  abbrev pub lower_product : End R g → End R g → End R g
  lower_product a b = or_zero (rounded Down (units a * units b) (g.BASE ^ g.BIAS))

  abbrev pub upper_product : Option (End R g) → Option (End R g) → Option (End R g)
  upper_product (Some a) (Some b) = rounded Up (units a * units b) (g.BASE ^ g.BIAS)
  upper_product (Some a) None = None
  upper_product None b = None

  -- the quotient: the lower end by the divisor's upper one, the upper by its lower one
  abbrev pub lower_quotient : End R g → Option (End R g) → End R g
  lower_quotient a (Some b) = or_zero (divided Down (units a) (units b))
  lower_quotient a None = zero_end

  abbrev pub upper_quotient : Option (End R g) → End R g → Option (End R g)
  upper_quotient (Some a) b = divided Up (units a) (units b)
  upper_quotient None b = None

  -- the excess, likewise
  abbrev pub lower_excess : End R g → Option (End R g) → End R g
  lower_excess a (Some b) = or_zero (rounded Down (units a - units b) 1)
  lower_excess a None = zero_end

  abbrev pub upper_excess : Option (End R g) → End R g → Option (End R g)
  upper_excess (Some a) b = rounded Up (units a - units b) 1
  upper_excess None b = None

  -- the smaller and the larger
  abbrev pub smaller_end : (a b : End R g) → End R g
  smaller_end a b = cond (nat_le (units a) (units b)) a b

  abbrev pub larger_end : (a b : End R g) → End R g
  larger_end a b = cond (nat_le (units a) (units b)) b a

  abbrev pub smaller_upper : (a b : Option (End R g)) → Option (End R g)
  smaller_upper (Some a) (Some b) = Some (smaller_end a b)
  smaller_upper (Some a) None = Some a
  smaller_upper None b = b

  abbrev pub larger_upper : (a b : Option (End R g)) → Option (End R g)
  larger_upper (Some a) (Some b) = Some (larger_end a b)
  larger_upper (Some a) None = None
  larger_upper None b = None
