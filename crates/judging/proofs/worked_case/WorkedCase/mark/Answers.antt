use Rattle.equations.specs.Figures.{figure_millionths}
use Rattle.judging.specs.WorkedCase.{design}
use Rattle.judging.proofs.Marks.{marked_by}
use Rattle.judging.proofs.worked_case.WorkedCase.mark.Goals as goal

pub returns : goal.returns
returns g c =
    marked_by g.met.A.Arithmetic.sound c.args.claim.value (figure_millionths c.args.figure (design c.args.self.now)) c.millionths-value.result c.parts-low.result c.parts-high.result c.at_most-above.result c.at_most-below.result c.marked.result c.args.claim.some c.args.claim.most c.millionths-value.ensures c.parts-low.ensures c.parts-high.ensures c.at_most-above.ensures c.at_most-below.ensures c.marked.ensures
