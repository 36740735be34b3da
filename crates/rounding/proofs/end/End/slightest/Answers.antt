use Rattle.std.proofs.Common.{Some, sym, refl, ap, ◌∙◌, le_refl, le_of_lt}
use Rattle.rounding.specs.Rounded.{rounded}
use Rattle.rounding.proofs.Ends.{is_full}
use Rattle.rounding.proofs.Rounds.{rounded_slight_down, rounded_slight_up}
use Rattle.rounding.proofs.end.End.slightest.Goals as goal

pub returns-in-Down : goal.returns-in-Down
returns-in-Down g c N u pu pn h =
    ap Some c.zero.ensures ∙ sym (rounded_slight_down g.R.Radix N u pu h) ∙ ap (λ t. rounded t N u) (sym c.in-Down.is)

pub returns : goal.returns
returns g c N u pu pn h =
    ap Some (is_full _ _ _ c.FULL.ensures refl (le_refl _)) ∙ sym (rounded_slight_up g.R.Radix N u pu pn (le_of_lt h)) ∙ ap (λ t. rounded t N u) (sym c.in_default.is)
