use Rattle.judging.specs.WorkedCase.{design}
use Rattle.judging.proofs.Compared.{buoyancy_side, asked}
use Rattle.judging.proofs.worked_case.WorkedCase.buoyancy.Goals as goal

pub returns : goal.returns
returns g c =
    asked (design c.args.self.now) _ c.state.result c.if-self-eq0.false
    (buoyancy_side g.met.A.Arithmetic.sound (design c.args.self.now) c.args.self.now.worked c.requires c.state.result c.uplift-lift.result c.hold_down-held.result c.uplift-lift.ensures c.hold_down-held.ensures c.state.ensures)
