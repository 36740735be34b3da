use Rattle.judging.specs.WorkedCase.{design}
use Rattle.judging.proofs.Marks.{figure_at}
use Rattle.judging.proofs.worked_case.WorkedCase.chosen.Goals as goal

pub returns-in-PrismPressure : goal.returns-in-PrismPressure
returns-in-PrismPressure g c = figure_at g.met.A.Arithmetic.sound (design c.args.self.now) c.in-PrismPressure.is c.requires.prism tt

pub returns-in-SoilModulus : goal.returns-in-SoilModulus
returns-in-SoilModulus g c = figure_at g.met.A.Arithmetic.sound (design c.args.self.now) c.in-SoilModulus.is c.requires.modulus tt

pub returns-in-HoopStiffness : goal.returns-in-HoopStiffness
returns-in-HoopStiffness g c = figure_at g.met.A.Arithmetic.sound (design c.args.self.now) c.in-HoopStiffness.is c.requires.hoop tt

pub returns-in-VerticalArching : goal.returns-in-VerticalArching
returns-in-VerticalArching g c = figure_at g.met.A.Arithmetic.sound (design c.args.self.now) c.in-VerticalArching.is c.requires.arching tt

pub returns-in-DesignThrust : goal.returns-in-DesignThrust
returns-in-DesignThrust g c = figure_at g.met.A.Arithmetic.sound (design c.args.self.now) c.in-DesignThrust.is c.requires.design tt

pub returns-in-ThrustStrain : goal.returns-in-ThrustStrain
returns-in-ThrustStrain g c = figure_at g.met.A.Arithmetic.sound (design c.args.self.now) c.in-ThrustStrain.is c.requires.thrust tt

pub returns-in-ServiceStrain : goal.returns-in-ServiceStrain
returns-in-ServiceStrain g c = figure_at g.met.A.Arithmetic.sound (design c.args.self.now) c.in-ServiceStrain.is c.requires.service tt

pub returns-in-Deflection : goal.returns-in-Deflection
returns-in-Deflection g c = figure_at g.met.A.Arithmetic.sound (design c.args.self.now) c.in-Deflection.is c.requires.deflection tt
