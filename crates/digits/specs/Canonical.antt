-- Ends are canonical.
use Rattle.std.specs.Prelude.{◌≡◌}
use Rattle.fraction.specs.Fraction.{Same}
use Rattle.enclosure.specs.Model.{Upper, at, unbounded}
use Rattle.rounding.specs.declared.radix.Radix.{Ghosts}
use Rattle.digits.specs.Meaning.{value, bound}
use Rattle.digits.specs.declared.span.Enclosure.{Enclosure}

-- two upper ends are one number, or both no bound
abbrev pub SameUpper : Upper → Upper → Type 0
SameUpper (at x) (at y) = Same x y
SameUpper (at x) unbounded = ⊥
SameUpper unbounded (at y) = ⊥
SameUpper unbounded unbounded = Unit {0}

-- enclosures with equal ends are equal, over every radix
abbrev pub EndsDecide : {R : Type 0} → Ghosts R → Type 0
EndsDecide {R} g =
    (a b : Enclosure R g) → Same (value a.lower) (value b.lower) → SameUpper (bound a.upper) (bound b.upper) → a ≡ b
