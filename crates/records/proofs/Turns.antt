-- What a number is held against, in turn, round and round.
use Rattle.std.proofs.Common.{◌≡◌, ℕ, suc, ◌+◌, ◌-◌, ◌%◌, ◌<◌, ◌≤◌, List, [], ◌∷◌, length, get_or, drop, sym, refl, ap, ◌∙◌, arith, Iter, Option, Some, None, get_or-drop, drop-drop}
use mathlib.Core.Logic.{◌⊎◌, inl, inr}
use Rattle.std.proofs.Math.Nat.{mod-eq_of_lt, mod_self}
use Rattle.std.proofs.lemmas.List.{nil_from_length}
use Rattle.std.proofs.iter.Yields.{fronts}
use Rattle.std.specs.Iterator.Adapters.{cycle_steps, cycle_source, cycle_start}
use Rattle.std.specs.Slice.Iter.{iter_rest}
use Rattle.std.specs.declared.iter.Cycle.{Cycle}
use Rattle.std.specs.Option.{MatchOption}
use denote.Bor.{Bor}
use Rattle.records.specs.declared.fields.Allowed.{Allowed}
use Rattle.records.specs.declared.fields.Allowed.TheVariants.{Between}

-- the place of the next, where `rest` is left of the round
abbrev pub turn : List Allowed → List Allowed → ℕ
turn all rest = (length all - length rest) % length all

-- what the rest of a round is
pub record Round (all rest : List Allowed) : Type 0 where
  pub within : length rest ≤ length all
  pub ends : rest ≡ drop (length all - length rest) all

-- a turn takes the next of the round, or the first of a new one
pub record Turned (all rest later : List Allowed) (a : Allowed) : Type 0 where
  pub taken : a ≡ get_or all (turn all rest) (Between 0 0)
  pub next : turn all later ≡ (turn all rest + 1) % length all
  pub round : Round all later

later_round : (all later : List Allowed) (a : Allowed) (k : ℕ) → a ∷ later ≡ drop k all → k + suc (length later) ≡ length all → Round all later
later_round all later a k e l =
    let s : length all - length later ≡ k + 1 = omega (arith, l) in
    record { within = omega (arith, l); ends = rw s (ap (drop 1) e ∙ drop-drop 1 k all) }

pub turned : (all rest later : List Allowed) (a : Allowed) → 0 < length all → Round all rest → (rest ≡ a ∷ later) ⊎ ((rest ≡ []) × (all ≡ a ∷ later)) → Turned all rest later a
turned all rest later a h r (inl e) =
    let k = length all - length rest in
    let n : length rest ≡ suc (length later) = ap length e in
    let l : k + suc (length later) ≡ length all = omega (arith, n, r.within) in
    let d : a ∷ later ≡ drop k all = sym e ∙ r.ends in
    let t : turn all rest ≡ k = mod-eq_of_lt (omega (arith, l)) in
    let s : length all - length later ≡ k + 1 = omega (arith, l) in
    record {
      taken = rw t (ap (λ (xs : List Allowed). get_or xs 0 (Between 0 0)) d ∙ get_or-drop k all 0 (Between 0 0) ∙ ap (λ (i : ℕ). get_or all i (Between 0 0)) (omega arith));
      next = rw (t, s) refl;
      round = later_round all later a k d l;
    }
turned all rest later a h r (inr (e, f)) =
    let n : length all ≡ suc (length later) = ap length f in
    let k : length all - length rest ≡ length all = omega (arith, ap length e) in
    let t : turn all rest ≡ 0 = rw k (mod_self (length all)) in
    let s : length all - length later ≡ 1 = omega (arith, n) in
    record {
      taken = rw t (ap (λ (xs : List Allowed). get_or xs 0 (Between 0 0)) (sym f));
      next = rw (t, s) refl;
      round = later_round all later a 0 (sym f) (omega (arith, n));
    }

-- what a step of the cycle over all says of its rounds
pub cycle_turn : (all : List Allowed) (s t : Cycle (Iter Allowed)) (x : Bor Allowed) → iter_rest (cycle_start s) ≡ all → cycle_steps fronts (λ s r. iter_rest r ≡ iter_rest s) s (Some x) t → (iter_rest (cycle_source s) ≡ x.now ∷ iter_rest (cycle_source t)) ⊎ ((iter_rest (cycle_source s) ≡ []) × (all ≡ x.now ∷ iter_rest (cycle_source t)))
cycle_turn all s t x a (b, (o, u, f, m)) = by o u f m
  where
    by : (o : Option (Bor Allowed)) (u : Iter Allowed) → fronts (cycle_source s) o u → MatchOption o ((j : Iter Allowed) × (iter_rest j ≡ iter_rest (cycle_start s)) × fronts j (Some x) (cycle_source t)) (λ y. (Some x ≡ Some y) × (cycle_source t ≡ u)) → (iter_rest (cycle_source s) ≡ x.now ∷ iter_rest (cycle_source t)) ⊎ ((iter_rest (cycle_source s) ≡ []) × (all ≡ x.now ∷ iter_rest (cycle_source t)))
    by None u f (j, e, g) = inr (nil_from_length _ f.0, sym a ∙ sym e ∙ g)
    by (Some y) u f m = let p : y ≡ x = cc in inl (f ∙ rw (p, m.1) refl)
