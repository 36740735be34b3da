use Rattle.judging.specs.WorkedCase.{design}
use Rattle.judging.proofs.Compared.{combined_side}
use Rattle.judging.proofs.worked_case.WorkedCase.combined.Goals as goal

pub returns : goal.returns
returns g c =
    combined_side g.met.A.Arithmetic.sound (design c.args.self.now) c.args.self.now.worked c.requires c.state.result c.bending_strain-bent.result c.add-pressed.result c.parts-limit.result c.compression_allowed-allowed.result c.bending_strain-bent.ensures c.add-pressed.ensures c.parts-limit.ensures c.compression_allowed-allowed.ensures c.state.ensures
