-- What a call asks, apart from how its lists are kept.
use Rattle.std.specs.Prelude.{ℕ, List, vec_items}
use Rattle.book.specs.declared.kind.Kind.{Kind}
use Rattle.calls.specs.declared.call.Call.{Call}
use Rattle.calls.specs.declared.call.Call.TheVariants.{Enter, Withdraw, Open, Judge, Read, Mark, Tallies, Close}
use Rattle.calls.specs.declared.call.CasePlaces.{CasePlaces}
use Rattle.judging.specs.declared.claim.Claim.{Claim}

pub data Asked (R : Type 0) : Type 0 where
  -- the kind of a record, its place and its fields
  entry : Kind → ℕ → List ℕ → Asked R
  -- the number of a kind, and a place of it
  withdrawal : ℕ → ℕ → Asked R
  opening : Asked R
  judgement : CasePlaces → Asked R
  reading : R → Asked R
  marking : CasePlaces → List Claim → Asked R
  tallies : Asked R
  closing : Asked R

abbrev pub asked : {R : Type 0} → Call R → Asked R
asked (Enter kind place fields) = entry kind place (vec_items fields)
asked (Withdraw kind place) = withdrawal kind place
asked Open = opening
asked (Judge case) = judgement case
asked (Read r) = reading r
asked (Mark case claims) = marking case (vec_items claims)
asked Tallies = tallies
asked Close = closing
