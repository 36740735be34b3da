use Rattle.judging.specs.WorkedCase.{design}
use Rattle.judging.proofs.Compared.{thrust_side}
use Rattle.judging.proofs.worked_case.WorkedCase.thrust.Goals as goal

pub returns : goal.returns
returns g c =
    thrust_side g.met.A.Arithmetic.sound (design c.args.self.now) c.args.self.now.worked c.requires c.state.result c.parts-allowed.result c.parts-allowed.ensures c.state.ensures
