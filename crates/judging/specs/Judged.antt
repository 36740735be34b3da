-- What judging and marking promise.
use Rattle.std.specs.Prelude.{◌≡◌, ℕ, ◌*◌, Bool, true, false, ◌⊎◌}
use Rattle.fraction.specs.Fraction.{Fraction, whole, ◌⊕◌, ◌⊗◌, ◌⊘◌, ◌≼◌, ◌≺◌}
use Rattle.fraction.specs.Graded.{Band}
use Rattle.enclosure.specs.Model.{Model, Encloses}
use Rattle.enclosure.specs.Answer.{compared}
use Rattle.enclosure.specs.Formula.{Made}
use Rattle.enclosure.specs.declared.Comparison.{Comparison}
use Rattle.enclosure.specs.declared.Comparison.TheVariants.{Yes, No}
use Rattle.equations.specs.Units.{hundredths}
use Rattle.equations.specs.Design.{Design}
use Rattle.equations.specs.Limits.{left, right, buoyant}
use Rattle.equations.specs.declared.limit_state.LimitState.{LimitState}
use Rattle.equations.specs.declared.limit_state.LimitState.TheVariants.{Thrust, NetTension, Combined, Deflection, Buckling, Flexibility, Buoyancy}
use Rattle.judging.specs.Answers.{state_of, limit_states, verdict_of}
use Rattle.judging.specs.declared.answer.Mark.{Mark}
use Rattle.judging.specs.declared.answer.Mark.TheVariants.{Right, Wrong, Unmarked}
use Rattle.judging.specs.declared.answer.State.{State}
use Rattle.judging.specs.declared.answer.State.TheVariants.{Holds, Fails, Undecided, NotApplied}
use Rattle.judging.specs.declared.answer.Verdict.{Verdict}
use Rattle.judging.specs.declared.answer.Verdict.TheVariants.{Accepted, Rejected, Undecided as NoVerdict}
use Rattle.judging.specs.declared.sheet.Sheet.{Sheet}

-- an enclosure of x that the arithmetic's own operations made from whole numbers
pub record Enclosure {E : Type 0} (m : Model E) (x : Fraction) : Type 0 where
  pub it : E
  pub made : Made m it
  pub contains : Encloses m it x

-- a limit state with the exact sides x and y: its state is the arithmetic's own comparison of two enclosures of the
-- sides, and tells how the sides compare
pub record Judged {E : Type 0} (m : Model E) (x y : Fraction) (s : State) : Type 0 where
  pub first : Enclosure m x
  pub second : Enclosure m y
  pub is : s ≡ state_of (compared m first.it second.it)
  pub holds : s ≡ Holds → x ≼ y
  pub fails : s ≡ Fails → y ≺ x
  pub undecided : s ≡ Undecided → Band m.fineness 10000 x y

-- and so one of the seven
abbrev pub LimitJudged : {E : Type 0} → Model E → LimitState → Design → State → Type 0
LimitJudged m l d s = Judged m (left l d) (right l d) s

-- buoyancy is judged with water, and else not applied
abbrev pub Asked : Bool → Type 0 → State → Type 0
Asked true judged s = judged
Asked false judged s = s ≡ NotApplied

pub record SheetJudged {E : Type 0} (m : Model E) (d : Design) (s : Sheet) : Type 0 where
  pub thrust : LimitJudged m Thrust d s.thrust
  pub net_tension : LimitJudged m NetTension d s.net_tension
  pub combined : LimitJudged m Combined d s.combined
  pub deflection : LimitJudged m Deflection d s.deflection
  pub buckling : LimitJudged m Buckling d s.buckling
  pub flexibility : LimitJudged m Flexibility d s.flexibility
  pub buoyancy : Asked (buoyant d) (LimitJudged m Buoyancy d s.buoyancy) s.buoyancy
  pub verdict : s.verdict ≡ verdict_of (limit_states s)

-- accepted: every inequality that applies is met
pub record Met (d : Design) : Type 0 where
  pub thrust : left Thrust d ≼ right Thrust d
  pub net_tension : left NetTension d ≼ right NetTension d
  pub combined : left Combined d ≼ right Combined d
  pub deflection : left Deflection d ≼ right Deflection d
  pub buckling : left Buckling d ≼ right Buckling d
  pub flexibility : left Flexibility d ≼ right Flexibility d
  pub buoyancy : buoyant d ≡ true → left Buoyancy d ≼ right Buoyancy d

-- what a verdict means: accepted, every inequality is met; rejected, the one that it names is broken; undecided, the
-- sides of one are within 10000 / w of the larger
pub record Means (w : ℕ) (d : Design) (v : Verdict) : Type 0 where
  pub accepted : v ≡ Accepted → Met d
  pub rejected : (l : LimitState) → v ≡ Rejected l → right l d ≺ left l d
  pub undecided : v ≡ NoVerdict → (l : LimitState) × Band w 10000 (left l d) (right l d)

-- the edges of a claim of c millionths: 99 c / 100 and 101 c / 100
abbrev pub low_edge : ℕ → Fraction
low_edge c = hundredths (99 * c)

abbrev pub high_edge : ℕ → Fraction
high_edge c = hundredths (101 * c)

-- right if both comparisons answer yes, wrong if one answers no, otherwise unmarked
abbrev pub mark_of : Comparison → Comparison → Mark
mark_of Yes Yes = Right
mark_of No b = Wrong
mark_of a No = Wrong
mark_of a b = Unmarked

-- a claim of c millionths on the exact figure x, in millionths
pub record Marked {E : Type 0} (m : Model E) (c : ℕ) (x : Fraction) (k : Mark) : Type 0 where
  pub figure : Enclosure m x
  pub low : Enclosure m (low_edge c)
  pub high : Enclosure m (high_edge c)
  pub is : k ≡ mark_of (compared m low.it figure.it) (compared m figure.it high.it)
  pub right : k ≡ Right → (low_edge c ≼ x) × (x ≼ high_edge c)
  pub wrong : k ≡ Wrong → (x ≺ low_edge c) ⊎ (high_edge c ≺ x)
  pub unmarked : k ≡ Unmarked → Band m.fineness 10000 (low_edge c) x ⊎ Band m.fineness 10000 x (high_edge c)

-- whole numbers a and b on either side of the exact figure x, apart by at most 10000 / W of it, and two
pub record ReadOutOf (w : ℕ) (x : Fraction) (a b : ℕ) : Type 0 where
  pub below : whole a ≼ x
  pub above : x ≼ whole b
  pub near : whole b ≼ whole a ⊕ whole 10000 ⊘ whole w ⊗ x ⊕ whole 2
