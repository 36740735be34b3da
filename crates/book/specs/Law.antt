-- The law of places: a call changes what stands at one place, and no other.
use Rattle.std.specs.Prelude.{◌≡◌, ℕ, List, Some, None, Option}
use Rattle.book.specs.Register.{Register, standing}
use Rattle.book.specs.declared.kind.Kind.{Kind}

-- `held` stands at the place afterwards, and at every other place of every kind what stood there before
pub record Changed (before after : Register) (kind : Kind) (place : ℕ) (held : Option (List ℕ)) : Type 0 where
  pub here : standing after kind place ≡ held
  pub elsewhere : (k : Kind) (p : ℕ) → ((k ≡ kind) × (p ≡ place) → ⊥) → standing after k p ≡ standing before k p

-- there is such a kind, and the place is empty afterwards
abbrev pub Emptied : Option Kind → ℕ → Register → Register → Type 0
Emptied None place before after = ⊥
Emptied (Some kind) place before after = Changed before after kind place None
