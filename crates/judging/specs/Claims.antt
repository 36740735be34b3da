-- What becomes of a list of claims.
use Rattle.std.specs.Prelude.{◌≡◌, ℕ, Bool, true, false, ◌&&◌, List, Some, Option, nat_le}
use Rattle.std.specs.List.{AllZip}
use Rattle.enclosure.specs.Model.{Model}
use Rattle.equations.specs.Design.{Design}
use Rattle.equations.specs.Figures.{figure_numbered, figure_millionths}
use Rattle.equations.specs.declared.figure.Figure.{Figure}
use Rattle.judging.specs.Claim.{claimable}
use Rattle.judging.specs.Judged.{Marked}
use Rattle.judging.specs.declared.answer.Mark.{Mark}
use Rattle.judging.specs.declared.claim.Claim.{Claim}

-- the number of a figure
abbrev pub on_figure : Claim → Bool
on_figure c = nat_le 1 c.figure && nat_le c.figure 8

-- a value that can be claimed
abbrev pub in_range : Claim → Bool
in_range c = claimable c.value

-- the mark that a claim of this value on the figure of this number earns, and that stands beside it
pub record Earned {E : Type 0} (m : Model E) (d : Design) (number value : ℕ) (beside : Option Mark) : Type 0 where
  pub figure : Figure
  pub numbered : figure_numbered number ≡ Some figure
  pub mark : Mark
  pub written : beside ≡ Some mark
  pub earned : Marked m value (figure_millionths figure d) mark

-- a claim keeps its figure and its value, and where it can be marked, it is
pub record ClaimMarked {E : Type 0} (m : Model E) (d : Design) (before after : Claim) : Type 0 where
  pub figure : after.figure ≡ before.figure
  pub value : after.value ≡ before.value
  pub marked : (on_figure before && in_range before) ≡ true → Earned m d before.figure before.value after.mark
  pub left : (on_figure before && in_range before) ≡ false → after.mark ≡ before.mark

-- each claim in its place
abbrev pub ClaimsMarked : {E : Type 0} → Model E → Design → List Claim → List Claim → Type 0
ClaimsMarked m d before after = AllZip (ClaimMarked m d) before after
