-- The answers: each has a number, and values.
use Rattle.std.specs.Prelude.{ℕ, List, [], ◌∷◌, map}
use Rattle.calls.specs.declared.answer.Answer.{Answer}
use Rattle.calls.specs.declared.answer.Answer.TheVariants.{Done, Judged, Read, Marked, Tallied, Refused}
use Rattle.judging.specs.Answers.{state_number, verdict_number, states}
use Rattle.judging.specs.declared.sheet.Sheet.{Sheet}
use Rattle.records.specs.Cause.{Refusal, stated}

-- an answer as numbers
pub record Numbered : Type 0 where
  pub number : ℕ
  pub values : List ℕ

-- done, without more
abbrev pub done : Numbered
done = record { number = 1; values = [] }

-- a sheet: the verdict with the limit state that it names, and the states
abbrev pub judged : Sheet → Numbered
judged s = record { number = 2; values = (verdict_number s.verdict).0 ∷ (verdict_number s.verdict).1 ∷ map state_number (states s) }

-- a figure between two whole numbers
abbrev pub figured : ℕ → ℕ → Numbered
figured below above = record { number = 3; values = below ∷ above ∷ [] }

-- the marks stand beside their claims
abbrev pub marked : Numbered
marked = record { number = 4; values = [] }

-- the tallies: right, wrong, unmarked
abbrev pub tallied : ℕ → ℕ → ℕ → Numbered
tallied right wrong unmarked = record { number = 5; values = right ∷ wrong ∷ unmarked ∷ [] }

-- a refusal: the number of its cause, and the field
abbrev pub refusing : Refusal → Numbered
refusing e = record { number = 6; values = e.cause ∷ e.field ∷ [] }

-- the number and the values of each answer
abbrev pub answer : Answer → Numbered
answer Done = done
answer (Judged s) = judged s
answer (Read below above) = figured below above
answer Marked = marked
answer (Tallied t) = tallied t.right t.wrong t.unmarked
answer (Refused f) = refusing (stated f)
