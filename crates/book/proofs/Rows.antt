-- Reading and writing a place of a row.
use Rattle.std.proofs.Common.{◌≡◌, ℕ, zero, suc, ◌-◌, ◌<◌, ◌≤◌, Bool, true, false, cond, eqb, ◌≢◌, ◌⊎◌, List, [], ◌∷◌, length, get_or, set, is_some, Some, None, Ok, Option, Result, sym, refl, ap, ◌∙◌, inl, inr, arith}
use lib.Seq.{map-set}
use Rattle.std.proofs.lemmas.List.{get_or_past, get_or-set_same, get_or-set_other, length-map}
use Rattle.std.proofs.lemmas.Bool.{ne_eqb, cases_eq}
use Rattle.std.specs.Option.{option_map}
use Rattle.book.specs.Register.{Row, in_place, place_refusal, empty_refusal}
use Rattle.book.specs.Shelves.{lines}
use Rattle.records.specs.Cause.{Refusal, refusal, first, unless}
use Rattle.records.specs.declared.fault.Cause.TheVariants.{Place}

getD_lines : {R : Type 0} (line : R → List ℕ) (l : List (Option R)) (i : ℕ) → get_or (lines line l) i None ≡ option_map line (get_or l i None)
getD_lines line [] i = refl
getD_lines line (o ∷ l) zero = refl
getD_lines line (o ∷ l) (suc i) = getD_lines line l i

mapped_cond : {R : Type 0} (line : R → List ℕ) (b : Bool) (o : Option R) → option_map line (cond b None o) ≡ cond b None (option_map line o)
mapped_cond line true o = refl
mapped_cond line false o = refl

-- the line of what stands at a place
pub line_in_place : {R : Type 0} (line : R → List ℕ) (l : List (Option R)) (place : ℕ) → option_map line (in_place l place) ≡ in_place (lines line l) place
line_in_place line l place =
    mapped_cond line (eqb place 0) (get_or l (place - 1) None) ∙ ap (λ (o : Option (List ℕ)). cond (eqb place 0) None o) (sym (getD_lines line l (place - 1)))

-- nothing stands outside the places
pub outside : {R : Type 0} (l : List (Option R)) (place : ℕ) → (place ≡ 0) ⊎ ((place ≡ 0 → ⊥) × (length l < place)) → None ≡ in_place l place
outside l place (inl h) = rw h
outside l place (inr h) =
    let k : length l ≤ place - 1 = omega (arith, h.1) in
    rw (ne_eqb place 0 h.0) (sym (get_or_past l (place - 1) None k))

-- what a write to a shelf does to its lines
pub lines_set : {R : Type 0} (line : R → List ℕ) (l : List (Option R)) (i : ℕ) (o : Option R) → lines line (set l i o) ≡ set (lines line l) i (option_map line o)
lines_set line l i o = map-set (option_map line) l i o

-- what was put at a place stands there
pub stands : {R : Type 0} (line : R → List ℕ) (l : List (Option R)) (place : ℕ) (o : Option R) → 1 ≤ place → place ≤ length l
    → in_place (lines line (set l (place - 1) o)) place ≡ option_map line o
stands line l place o p n =
    let ne : place ≡ 0 → ⊥ = λ z. omega arith in
    let h : place - 1 < length (lines line l) = let q = length-map l (option_map line) in omega arith in
    rw (lines_set line l (place - 1) o, ne_eqb place 0 ne) (get_or-set_same (lines line l) (place - 1) (option_map line o) None h)

-- at every other place stands what stood there
pub others : (l : Row) (place other : ℕ) (held : Option (List ℕ)) → 1 ≤ place → (other ≡ place → ⊥)
    → in_place (set l (place - 1) held) other ≡ in_place l other
others l place other held p h =
    elim (cases_eq other 0) [
      | inl z ↦ rw z
      | inr z ↦
          let ne : other - 1 ≢ place - 1 = λ e. h (omega arith) in
          rw (ne_eqb other 0 z) (get_or-set_other l (place - 1) (other - 1) held None ne)
    ]

-- a place that is not refused
pub from_one : (f n place : ℕ) → None ≡ place_refusal f n place → 1 ≤ place
from_one f n place e = elim (cases_eq place 0) [ inl z ↦ let q : ◌≡◌ {A = ℕ} 0 1 = let r : None ≡ Some (refusal Place f) = rw z at e in cc in absurd (omega arith) | inr z ↦ omega arith ]

-- neither of two refusals
pub neither : (a b : Option Refusal) → None ≡ a → None ≡ b → None ≡ first a b
neither None b e f = f
neither (Some r) b e f = e

-- what was read is there
pub there : {R S : Type 0} (f : ℕ) (line : R → List ℕ) (look : S → R) (o : Option S) (held : Option (List ℕ))
    → is_some o ≡ true → option_map line (option_map look o) ≡ held → None ≡ empty_refusal f held
there f line look None held h e = cc
there f line look (Some x) held h e = ap (empty_refusal f) e

-- what was made has the fields
pub made_of : (o : Option Refusal) (made fields : List ℕ) → ◌≡◌ {A = Result (List ℕ) Refusal} (Ok made) (unless o fields) → (None ≡ o) × (made ≡ fields)
made_of None made fields e = (refl, cc)
made_of (Some r) made fields e = (cc, cc)
