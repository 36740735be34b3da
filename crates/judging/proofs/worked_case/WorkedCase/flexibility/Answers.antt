use Rattle.judging.specs.WorkedCase.{design}
use Rattle.judging.proofs.Compared.{flexibility_side}
use Rattle.judging.proofs.worked_case.WorkedCase.flexibility.Goals as goal

pub returns : goal.returns
returns g c =
    flexibility_side g.met.A.Arithmetic.sound (design c.args.self.now) c.args.self.now.worked c.requires c.state.result c.flexibility-give.result c.parts-allowed.result c.flexibility-give.ensures c.parts-allowed.ensures c.state.ensures
