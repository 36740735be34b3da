-- The claims of a marking: why they are refused, and how many have each mark.
use Rattle.std.specs.Prelude.{ℕ, ◌+◌, Bool, false, cond, ◌&&◌, List, [], ◌∷◌, Some, None, Option, ◌==◌, nat_le, count_by}
use Rattle.calls.specs.declared.answer.Tallies.{Tallies}
use Rattle.judging.specs.Answers.{mark_number}
use Rattle.judging.specs.Claims.{in_range}
use Rattle.judging.specs.declared.answer.Mark.{Mark}
use Rattle.judging.specs.declared.answer.Mark.TheVariants.{Right, Wrong, Unmarked}
use Rattle.judging.specs.declared.claim.Claim.{Claim}
use Rattle.records.specs.Cause.{Refusal, refusal, first}
use Rattle.records.specs.declared.fault.Cause.TheVariants.{Range, Figure, Claim as ClaimCause, Tally}

-- from 1 to 8 claims
abbrev pub count_refusal : ℕ → Option Refusal
count_refusal n = cond (nat_le 1 n && nat_le n 8) None (Some (refusal Range 0))

-- no figure of the number in field f
abbrev pub figure_refusal : ℕ → ℕ → Option Refusal
figure_refusal f n = cond (nat_le 1 n && nat_le n 8) None (Some (refusal Figure f))

-- a claim whose figure is in field f, and its value in the next
abbrev pub claim_refusal : ℕ → Claim → Option Refusal
claim_refusal f c = first (figure_refusal f c.figure) (cond (in_range c) None (Some (refusal ClaimCause (f + 1))))

-- claim by claim, from field f on
abbrev pub claims_refusal : ℕ → List Claim → Option Refusal
claims_refusal f [] = None
claims_refusal f (c ∷ cs) = first (claim_refusal f c) (claims_refusal (f + 2) cs)

-- how many claims were marked
abbrev pub total : Tallies → ℕ
total t = t.right + t.wrong + t.unmarked

-- at most 60,000 claims in a sitting
abbrev pub room_refusal : Tallies → ℕ → Option Refusal
room_refusal t n = cond (nat_le (total t + n) 60000) None (Some (refusal Tally 0))

abbrev pub no_tallies : Tallies
no_tallies = record { right = 0; wrong = 0; unmarked = 0 }

-- whether this mark stands beside a claim
abbrev pub tells : Mark → Option Mark → Bool
tells k None = false
tells k (Some m) = mark_number m == mark_number k

-- how many claims have this mark beside them
abbrev pub counts : Mark → List Claim → ℕ
counts k cs = count_by (λ c. tells k c.mark) cs

-- with the marks beside some claims
abbrev pub counted : Tallies → List Claim → Tallies
counted t cs = record { right = t.right + counts Right cs; wrong = t.wrong + counts Wrong cs; unmarked = t.unmarked + counts Unmarked cs }
