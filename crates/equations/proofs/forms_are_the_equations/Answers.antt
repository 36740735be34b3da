use Rattle.equations.proofs.Forms.{all_regroup}
use Rattle.equations.proofs.forms_are_the_equations.Goals as goal

pub returns : goal.returns
returns c = all_regroup
