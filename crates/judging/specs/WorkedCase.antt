-- A case beside its quantities.
use Rattle.enclosure.specs.Model.{Model}
use Rattle.equations.specs.Design.{Design}
use Rattle.quantities.specs.Case.{design_of}
use Rattle.quantities.specs.Worked.{WorkedKnown}
use Rattle.judging.specs.declared.worked_case.WorkedCase.{WorkedCase}

-- the case's design
abbrev pub design : {E : Type 0} → WorkedCase E → Design
design c = design_of c.given.now

-- the quantities are those of the case
abbrev pub IsWorkedOut : {E : Type 0} → Model E → WorkedCase E → Type 0
IsWorkedOut m c = WorkedKnown m (design c) c.worked
