use Rattle.judging.specs.WorkedCase.{design}
use Rattle.judging.proofs.Compared.{deflection_side}
use Rattle.judging.proofs.worked_case.WorkedCase.deflection.Goals as goal

pub returns : goal.returns
returns g c =
    deflection_side g.met.A.Arithmetic.sound (design c.args.self.now) c.args.self.now.worked c.requires c.state.result c.parts-share.result c.mul-allowed.result c.parts-share.ensures c.mul-allowed.ensures c.state.ensures
