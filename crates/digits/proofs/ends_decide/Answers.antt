use Rattle.digits.proofs.Decides.{ends_decide}
use Rattle.digits.proofs.ends_decide.Goals as goal

pub returns : goal.returns
returns g c = ends_decide _
