use Rattle.equations.proofs.Arching.{arching_law}
use Rattle.equations.proofs.arching_solves_its_equation.Goals as goal

pub returns : goal.returns
returns c = arching_law
