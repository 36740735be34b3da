-- The numbers of the answers, and the values that they carry.
use Rattle.std.specs.Prelude.{ℕ, Bool, true, false, cond, List, [], ◌∷◌, map, Some, None, Option}
use Rattle.std.specs.List.{find, list_any}
use Rattle.std.specs.Option.{option_map}
use Rattle.enclosure.specs.declared.Comparison.{Comparison}
use Rattle.enclosure.specs.declared.Comparison.TheVariants.{Yes, No, Unknown}
use Rattle.equations.specs.Limits.{limit_number}
use Rattle.equations.specs.declared.limit_state.LimitState.{LimitState}
use Rattle.equations.specs.declared.limit_state.LimitState.TheVariants.{Thrust, NetTension, Combined, Deflection, Buckling, Flexibility, Buoyancy}
use Rattle.judging.specs.declared.answer.Mark.{Mark}
use Rattle.judging.specs.declared.answer.Mark.TheVariants.{Right, Wrong, Unmarked}
use Rattle.judging.specs.declared.answer.State.{State}
use Rattle.judging.specs.declared.answer.State.TheVariants.{Holds, Fails, Undecided, NotApplied}
use Rattle.judging.specs.declared.answer.Verdict.{Verdict}
use Rattle.judging.specs.declared.answer.Verdict.TheVariants.{Accepted, Rejected, Undecided as NoVerdict}
use Rattle.judging.specs.declared.sheet.Sheet.{Sheet}

abbrev pub state_number : State → ℕ
state_number Holds = 1
state_number Fails = 2
state_number Undecided = 3
state_number NotApplied = 4

-- how a limit state stands by the answer on its sides
abbrev pub state_of : Comparison → State
state_of Yes = Holds
state_of No = Fails
state_of Unknown = Undecided

-- the verdict's number, and the number of the limit state that it names, 0 where it names none
abbrev pub verdict_number : Verdict → ℕ × ℕ
verdict_number Accepted = (1, 0)
verdict_number (Rejected l) = (2, limit_number l)
verdict_number NoVerdict = (3, 0)

abbrev pub mark_number : Mark → ℕ
mark_number Right = 1
mark_number Wrong = 2
mark_number Unmarked = 3

-- the limit states in order, each with its state on a sheet, and the states alone
abbrev pub limit_states : Sheet → List (LimitState × State)
limit_states s =
    (Thrust, s.thrust) ∷ (NetTension, s.net_tension) ∷ (Combined, s.combined) ∷ (Deflection, s.deflection) ∷ (Buckling, s.buckling)
    ∷ (Flexibility, s.flexibility) ∷ (Buoyancy, s.buoyancy) ∷ []

abbrev pub states : Sheet → List State
states s = map (λ p. p.1) (limit_states s)

abbrev pub failing : State → Bool
failing Holds = false
failing Fails = true
failing Undecided = false
failing NotApplied = false

abbrev pub unsettled : State → Bool
unsettled Holds = false
unsettled Fails = false
unsettled Undecided = true
unsettled NotApplied = false

abbrev pub first_failing : List (LimitState × State) → Option LimitState
first_failing ps = option_map (λ p. p.0) (find (λ p. failing p.1) ps)

abbrev pub any_unsettled : List (LimitState × State) → Bool
any_unsettled ps = list_any (λ p. unsettled p.1) ps

abbrev pub decided : Option LimitState → Bool → Verdict
decided (Some l) b = Rejected l
decided None b = cond b NoVerdict Accepted

-- rejected naming the first that fails, else undecided if one is, else accepted
abbrev pub verdict_of : List (LimitState × State) → Verdict
verdict_of ps = decided (first_failing ps) (any_unsettled ps)
