use Rattle.enclosure.proofs.Comparisons.{comparisons_tell}
use Rattle.enclosure.proofs.comparisons_tell.Goals as goal

pub returns : goal.returns
returns g c = comparisons_tell _
