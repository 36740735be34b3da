-- Enclosures with equal ends are equal.
use Rattle.std.proofs.Common.{◌≡◌, ◌^◌, Some, None, Option, refl, ap, le_antisymm, le_of_mul-le-mul_right}
use Rattle.fraction.specs.Fraction.{Same}
use Rattle.rounding.specs.declared.radix.Radix.{Ghosts}
use Rattle.rounding.specs.declared.end.End.{End}
use Rattle.rounding.proofs.Ends.{power_pos, units_tell}
use Rattle.digits.specs.Canonical.{SameUpper, EndsDecide}
use Rattle.digits.specs.Meaning.{value, bound}
use Rattle.digits.proofs.Spans.{same_span}

module _ {R : Type 0} {g : Ghosts R} where
  same_ends : (a b : End R g) → Same (value a) (value b) → a ≡ b
  same_ends a b s =
      let pos = power_pos g.lawful g.BIAS in
      units_tell a b (le_antisymm (le_of_mul-le-mul_right {k = g.BASE ^ g.BIAS} s.to.cross pos) (le_of_mul-le-mul_right {k = g.BASE ^ g.BIAS} s.from.cross pos))

  same_uppers : (h k : Option (End R g)) → SameUpper (bound h) (bound k) → h ≡ k
  same_uppers (Some h) (Some k) s = ap Some (same_ends h k s)
  same_uppers (Some h) None s = absurd s
  same_uppers None (Some k) s = absurd s
  same_uppers None None s = refl

pub ends_decide : {R : Type 0} (g : Ghosts R) → EndsDecide g
ends_decide g a b l u = same_span a b (same_ends a.lower b.lower l) (same_uppers a.upper b.upper u)
