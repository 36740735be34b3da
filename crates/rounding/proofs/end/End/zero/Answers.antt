use Rattle.std.proofs.Common.{refl}
use Rattle.rounding.proofs.Ends.{is_zero}
use Rattle.rounding.proofs.end.End.zero.Goals as goal

pub returns : goal.returns
returns g c = is_zero _ refl
