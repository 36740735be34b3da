use Rattle.equations.proofs.Table.{tabulated}
use Rattle.equations.proofs.tabulated_values_hold.Goals as goal

pub returns : goal.returns
returns c = tabulated
