use Rattle.judging.specs.WorkedCase.{design}
use Rattle.judging.proofs.Marks.{millionths_known}
use Rattle.judging.proofs.worked_case.WorkedCase.millionths.Goals as goal

pub returns : goal.returns
returns g c =
    millionths_known g.met.A.Arithmetic.sound (design c.args.self.now) c.args.figure c.whole.result c.mul.result c.chosen.ensures c.whole.ensures c.mul.ensures
