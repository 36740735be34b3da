use Rattle.enclosure.proofs.WideNumbers.{wide_numbers_hold}
use Rattle.enclosure.proofs.wide_numbers_hold.Goals as goal

pub returns : goal.returns
returns g c = wide_numbers_hold _
