-- What a sitting answers.
use Rattle.std.specs.Prelude.{◌≡◌, ℕ, List, length, Some, Option}
use Rattle.std.specs.List.{AllZip}
use Rattle.book.specs.Register.{Register}
use Rattle.book.specs.Shelves.{register_of}
use Rattle.calls.specs.declared.answer.Tallies.{Tallies}
use Rattle.calls.specs.declared.call.CasePlaces.{CasePlaces}
use Rattle.calls.specs.declared.call.Reading.{Reading}
use Rattle.enclosure.specs.Model.{Model}
use Rattle.equations.specs.Design.{Design}
use Rattle.equations.specs.Figures.{figure_millionths, figure_numbered}
use Rattle.equations.specs.declared.figure.Figure.{Figure}
use Rattle.judging.specs.Claims.{Earned}
use Rattle.judging.specs.Judged.{SheetJudged, Means, ReadOutOf}
use Rattle.judging.specs.declared.claim.Claim.{Claim}
use Rattle.judging.specs.declared.sheet.Sheet.{Sheet}
use Rattle.records.specs.Cause.{Refusal, first}
use Rattle.sitting.specs.Cases.{Stands, places_refusal, vacancy, misfit, no_case}
use Rattle.sitting.specs.Claims.{count_refusal, figure_refusal, claims_refusal, room_refusal}
use Rattle.sitting.specs.declared.sitting.Sitting.{Sitting}

-- the records that stand in a sitting
abbrev pub held : Sitting → Register
held s = register_of s.book

-- why a figure is not read: no case, or no such figure
abbrev pub reading_refusal : Register → Reading → Option Refusal
reading_refusal g r = first (no_case g r.case) (figure_refusal 6 r.figure)

-- why claims are not marked: places, the count of claims, the case, claim by claim, the tallies
abbrev pub marking_refusal : Register → Tallies → CasePlaces → List Claim → Option Refusal
marking_refusal g t p cs =
    first (places_refusal p) (first (count_refusal (length cs)) (first (first (vacancy g p) (misfit g p))
    (first (claims_refusal 6 cs) (room_refusal t (length cs)))))

-- the sheet of the case that stands at the places
pub record SheetOf {E : Type 0} (m : Model E) (g : Register) (p : CasePlaces) (s : Sheet) : Type 0 where
  pub design : Design
  pub stands : Stands g p design
  pub judged : SheetJudged m design s
  pub means : Means m.fineness design s.verdict

-- a figure of the case that stands at the places, in millionths, between two whole numbers
pub record FigureOf {E : Type 0} (m : Model E) (g : Register) (r : Reading) (below above : ℕ) : Type 0 where
  pub design : Design
  pub stands : Stands g r.case design
  pub figure : Figure
  pub numbered : figure_numbered r.figure ≡ Some figure
  pub read : ReadOutOf m.fineness (figure_millionths figure design) below above

-- each claim keeps its figure and its value, and the mark that it earns stands beside it
abbrev pub AllEarned : {E : Type 0} → Model E → Design → List Claim → List Claim → Type 0
AllEarned m d before after =
    AllZip (λ x y. (y.figure ≡ x.figure) × (y.value ≡ x.value) × Earned m d x.figure x.value y.mark) before after

-- claims on the case that stands at the places, before and after they are marked
pub record ClaimsOf {E : Type 0} (m : Model E) (g : Register) (p : CasePlaces) (before after : List Claim) : Type 0 where
  pub design : Design
  pub stands : Stands g p design
  pub earned : AllEarned m design before after
