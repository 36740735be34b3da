use Rattle.std.proofs.Common.{Some, sym, refl, ap, ◌∙◌, arith}
use Rattle.rounding.proofs.Ends.{is_full}
use Rattle.rounding.proofs.Rounds.{stands_full, stands_past}
use Rattle.rounding.proofs.end.End.at.Goals as goal

pub returns-then-e-BIAS : goal.returns-then-e-BIAS
returns-then-e-BIAS g c t N u s = sym (stands_past g.R.Radix t N u _ _ s c.requires.few (omega arith))

pub returns : goal.returns
returns g c t N u s = ap Some (is_full _ _ _ refl refl c.requires.full) ∙ sym (stands_full g.R.Radix t N u _ _ s c.requires.few (omega arith))
