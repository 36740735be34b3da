use Rattle.enclosure.proofs.ReadOuts.{readings_bound}
use Rattle.enclosure.proofs.readings_bound.Goals as goal

pub returns : goal.returns
returns g c = readings_bound
