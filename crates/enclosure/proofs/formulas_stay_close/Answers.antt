use Rattle.enclosure.proofs.Formulas.{formulas_close}
use Rattle.enclosure.proofs.formulas_stay_close.Goals as goal

pub returns : goal.returns
returns g c = formulas_close _
