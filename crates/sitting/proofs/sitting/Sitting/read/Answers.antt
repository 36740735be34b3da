use Rattle.quantities.specs.Case.{design_of}
use Rattle.sitting.proofs.sitting.Sitting.read.Goals as goal

pub returns-clause-figure : goal.returns-clause-figure
returns-clause-figure g c =
    record {
      design = design_of c.in_ok-case.case;
      stands = c.in_ok-case.ensures.stands;
      figure = c.in_ok-asked.asked;
      numbered = c.in_ok-asked.ensures.number;
      read = c.figure.ensures;
    }
