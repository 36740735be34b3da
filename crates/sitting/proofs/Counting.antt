-- Claims refused one by one, and marks counted.
use Rattle.std.proofs.Common.{◌≡◌, ℕ, ◌+◌, ◌<◌, ◌≤◌, Bool, true, false, cond, ◌&&◌, List, [], ◌∷◌, length, get_or, drop, Some, None, Option, refl, arith}
use Rattle.std.proofs.lemmas.List.{drop_more}
use Rattle.std.proofs.lemmas.List.Sums.{sum_by-cons}
use Rattle.std.proofs.lemmas.Bool.{true≢false}
use Rattle.enclosure.specs.Model.{Model}
use Rattle.equations.specs.Design.{Design}
use Rattle.judging.specs.Claims.{on_figure, in_range, ClaimsMarked}
use Rattle.judging.specs.declared.answer.Mark.TheVariants.{Right, Wrong, Unmarked}
use Rattle.judging.specs.declared.answer.Mark.{Mark}
use Rattle.judging.specs.declared.claim.Claim.{Claim}
use Rattle.records.specs.Cause.{Refusal, first}
use Rattle.sitting.specs.Claims.{claim_refusal, claims_refusal, tells, counts}
use Rattle.sitting.specs.Sittings.{AllEarned}

-- the claims from one on, of which that one comes first
pub claims_from : (f g : ℕ) (all : List Claim) (i : ℕ) (c : Claim) → i < length all → g ≡ f + 2
    → claims_refusal f (drop i all) ≡ first (claim_refusal f (get_or all i c)) (claims_refusal g (drop (i + 1) all))
claims_from f g all i c h e = rw (drop_more all i c h, e) refl

-- a claim bears one mark at most
one_mark : (m : Option Mark) → cond (tells Right m) 1 0 + cond (tells Wrong m) 1 0 + cond (tells Unmarked m) 1 0 ≤ 1
one_mark None = omega arith
one_mark (Some Right) = omega arith
one_mark (Some Wrong) = omega arith
one_mark (Some Unmarked) = omega arith

pub at_most_all : (cs : List Claim) → counts Right cs + counts Wrong cs + counts Unmarked cs ≤ length cs
at_most_all [] = omega arith
at_most_all (c ∷ cs) =
    let more : (k : Mark) → counts k (c ∷ cs) ≡ cond (tells k c.mark) 1 0 + counts k cs = λ k. sum_by-cons (λ x. cond (tells k x.mark) 1 0) c cs in
    omega (arith, more Right, more Wrong, more Unmarked, one_mark c.mark, at_most_all cs)

-- a claim that is not refused can be marked
unrefused : (f : ℕ) (x : Claim) (o : Option Refusal) → None ≡ first (claim_refusal f x) o → ((on_figure x && in_range x) ≡ true) × (None ≡ o)
unrefused f x o h = tested (on_figure x) (in_range x) _ _ o h
  where
    tested : (a b : Bool) (r s : Refusal) (o : Option Refusal) → None ≡ first (first (cond a None (Some s)) (cond b None (Some r))) o → ((a && b) ≡ true) × (None ≡ o)
    tested true true r s o h = (refl, h)
    tested true false r s o h = absurd (true≢false (cc))
    tested false b r s o h = absurd (true≢false (cc))

-- what is not refused can be marked
pub all_earned : {E : Type 0} (m : Model E) (d : Design) (f : ℕ) (xs ys : List Claim) → None ≡ claims_refusal f xs → ClaimsMarked m d xs ys → AllEarned m d xs ys
all_earned m d f [] [] h l = tt
all_earned m d f [] (y ∷ ys) h l = absurd l
all_earned m d f (x ∷ xs) [] h l = absurd l
all_earned m d f (x ∷ xs) (y ∷ ys) h l =
    let p = unrefused f x (claims_refusal (f + 2) xs) h in
    ((l.0.figure, l.0.value, l.0.marked p.0), all_earned m d (f + 2) xs ys p.1 l.1)
