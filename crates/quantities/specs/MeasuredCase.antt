-- A case beside its measures.
use Rattle.enclosure.specs.declared.Arithmetic
use Rattle.equations.specs.Design.{Design}
use Rattle.quantities.specs.Case.{design_of}
use Rattle.quantities.specs.declared.measured.MeasuredCase.{MeasuredCase}

-- the case's design
abbrev pub design : {E : Type 0} {g : Arithmetic.Ghosts E} → MeasuredCase E g → Design
design c = design_of c.given.now
