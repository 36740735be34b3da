use Rattle.judging.specs.WorkedCase.{design}
use Rattle.judging.proofs.Compared.{buckling_side}
use Rattle.judging.proofs.worked_case.WorkedCase.buckling.Goals as goal

pub returns : goal.returns
returns g c =
    buckling_side g.met.A.Arithmetic.sound (design c.args.self.now) c.args.self.now.worked c.requires c.state.result c.cube-strain.result c.buckling_cube-allowed.result c.cube-strain.ensures c.buckling_cube-allowed.ensures c.state.ensures
