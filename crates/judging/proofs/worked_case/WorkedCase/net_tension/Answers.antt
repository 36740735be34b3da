use Rattle.judging.specs.WorkedCase.{design}
use Rattle.judging.proofs.Compared.{tension_side}
use Rattle.judging.proofs.worked_case.WorkedCase.net_tension.Goals as goal

pub returns : goal.returns
returns g c =
    tension_side g.met.A.Arithmetic.sound (design c.args.self.now) c.args.self.now.worked c.requires c.state.result c.bending_strain-bent.result c.parts-limit.result c.tension_allowed-allowed.result c.bending_strain-bent.ensures c.parts-limit.ensures c.tension_allowed-allowed.ensures c.state.ensures
