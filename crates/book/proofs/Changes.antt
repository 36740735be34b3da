-- The law of places follows from what a call leaves.
use Rattle.std.proofs.Common.{◌≡◌, ℕ, ◌-◌, ◌≤◌, ◌⊎◌, List, set, IfOk, Some, None, Ok, Err, Option, Result, refl, ap, ◌∙◌, inl, inr, MatchResult}
use Rattle.book.proofs.Rows.{others, from_one}
use Rattle.book.specs.Law.{Changed}
use Rattle.book.specs.Register.{Register, Row, row, with_row, in_place, standing, placed, places, place_refusal}
use Rattle.book.specs.Shelves.{register_of}
use Rattle.book.specs.declared.book.Book.{Book}
use Rattle.book.specs.declared.kind.Kind.{Kind}
use Rattle.book.specs.declared.kind.Kind.TheVariants.{Section, Embedment, Shape, Grid, Site}
use Rattle.records.specs.Cause.{Refusal, refused, first}
use Rattle.records.specs.declared.fault.Fault.{Fault}

abbrev Kept : Kind → Kind → Row → Register → Type 0
Kept kind k l g = (k ≡ kind) ⊎ (row k (with_row kind l g) ≡ row k g)

kept : (kind k : Kind) (l : Row) (g : Register) → Kept kind k l g
kept Section Section l g = inl refl
kept Section _ l g = inr refl
kept Embedment Embedment l g = inl refl
kept Embedment _ l g = inr refl
kept Shape Shape l g = inl refl
kept Shape _ l g = inr refl
kept Grid Grid l g = inl refl
kept Grid _ l g = inr refl
kept Site Site l g = inl refl
kept Site _ l g = inr refl

same_row : (kind : Kind) (l : Row) (g : Register) → row kind (with_row kind l g) ≡ l
same_row Section l g = refl
same_row Embedment l g = refl
same_row Shape l g = refl
same_row Grid l g = refl
same_row Site l g = refl

pub elsewhere : (g : Register) (kind : Kind) (place : ℕ) (held : Option (List ℕ)) → 1 ≤ place
    → (k : Kind) (p : ℕ) → ((k ≡ kind) × (p ≡ place) → ⊥) → standing (placed kind place held g) k p ≡ standing g k p
elsewhere g kind place held h k p apart =
    let l : Row = set (row kind g) (place - 1) held in
    elim (kept kind k l g) [
      | inl e ↦
          let other : p ≡ place → ⊥ = λ q. apart (e, q) in
          rw (e, same_row kind l g) (others (row kind g) place p held h other)
      | inr e ↦ ap (λ (r : Row). in_place r p) e
    ]

changed : (before after : Register) (kind : Kind) (place : ℕ) (held : Option (List ℕ)) → 1 ≤ place
    → after ≡ placed kind place held before → standing after kind place ≡ held → Changed before after kind place held
changed before after kind place held h e s = record {
  here = s;
  elsewhere = λ k p apart. ap (λ (g : Register). standing g k p) e ∙ elsewhere before kind place held h k p apart;
}

not_the_first : (a b : Option Refusal) → None ≡ first a b → None ≡ a
not_the_first None b e = refl
not_the_first (Some r) b e = e

-- of a call that puts `held` at a place, or refuses
pub changes : {A : Type 0} (r : Result A Fault) (b a : Book) (kind : Kind) (place : ℕ) (held : Option (List ℕ)) (f : ℕ) (rest : Option Refusal)
    → refused r ≡ first (place_refusal f (places kind) place) rest → MatchResult r (λ _. register_of a ≡ placed kind place held (register_of b)) (λ _. a ≡ b)
    → IfOk r (λ _. standing (register_of a) kind place ≡ held) → IfOk r (λ _. Changed (register_of b) (register_of a) kind place held)
changes (Ok x) b a kind place held f rest answer put here =
    changed (register_of b) (register_of a) kind place held (from_one f (places kind) place (not_the_first _ _ answer)) put here
changes (Err e) b a kind place held f rest answer put here = tt
