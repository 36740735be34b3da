use Rattle.quantities.specs.Case.{design_of}
use Rattle.sitting.proofs.sitting.Sitting.judge.Goals as goal

pub returns-clause-sheet : goal.returns-clause-sheet
returns-clause-sheet g c =
    record { design = design_of c.in_ok-case.case; stands = c.in_ok-case.ensures.stands; judged = c.judge.ensures.states; means = c.judge.ensures.verdict }
