-- What comparing two enclosures answers.
use Rattle.std.specs.Prelude.{◌*◌, Bool, false, cond, nat_le, nat_lt}
use Rattle.fraction.specs.Fraction.{Fraction}
use Rattle.enclosure.specs.Model.{Model, Upper, at, unbounded}
use Rattle.enclosure.specs.declared.Comparison.{Comparison}
use Rattle.enclosure.specs.declared.Comparison.TheVariants.{Yes, No, Unknown}

-- whether an upper end is at most y, and whether it is below y
abbrev pub ends_by : Upper → Fraction → Bool
ends_by (at h) y = nat_le (h.num * y.den) (y.num * h.den)
ends_by unbounded y = false

abbrev pub ends_below : Upper → Fraction → Bool
ends_below (at h) y = nat_lt (h.num * y.den) (y.num * h.den)
ends_below unbounded y = false

-- "a is at most b" is answered yes exactly if a's upper end is at most b's lower end, no exactly if a's lower end
-- is above b's upper end, and otherwise unknown
abbrev pub compared : {E : Type 0} → Model E → E → E → Comparison
compared m a b = cond (ends_by (m.upper a) (m.lower b)) Yes (cond (ends_below (m.upper b) (m.lower a)) No Unknown)
