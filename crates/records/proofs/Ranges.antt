-- A line's fields: the test against what they may hold, place by place.
use Rattle.std.proofs.Common.{◌≡◌, ℕ, zero, suc, ◌+◌, ◌%◌, ◌<◌, ◌≤◌, Bool, true, false, cond, T, List, [], ◌∷◌, length, get_or, drop, Some, None, Option, sym, refl, ap, ◌∙◌, le_of_suc-le-suc, not-suc-le-zero, arith, drop_of_length-le, drop-cons}
use Rattle.std.proofs.Math.Nat.{mod-eq_of_lt}
use Rattle.std.proofs.lemmas.Bool.Decides.{nat_tests}
use Rattle.records.specs.declared.fault.Cause.TheVariants.{Range}
use Rattle.records.specs.declared.fields.Allowed.{Allowed}
use Rattle.records.specs.declared.fields.Allowed.TheVariants.{Between, Among}
use Rattle.records.specs.Cause.{Refusal, refusal, first, none}
use Rattle.records.specs.Fields.{allows, outside_from, outside}

-- a number that is not allowed is found, and one that is allowed is passed
module _ (all : List Allowed) (k f n : ℕ) (ns rest : List ℕ) (whole : Option Refusal) (r : rest ≡ n ∷ ns) (e : whole ≡ outside_from all k f rest) where
  pub outside_found : false ≡ allows (get_or all k (Between 0 0)) n → Some (refusal Range f) ≡ whole
  outside_found t = sym (e ∙ rw (r, ← t) refl)

  pub outside_passed : true ≡ allows (get_or all k (Between 0 0)) n → whole ≡ outside_from all ((k + 1) % length all) (f + 1) ns
  outside_passed t = e ∙ rw (r, ← t) refl

pub cond_none : (b : Bool) (o : Option Refusal) (x : Refusal) → None ≡ cond b o (Some x) → (true ≡ b) × (None ≡ o)
cond_none true o x e = (refl, e)
cond_none false o x e = let z : ◌≡◌ {A = ℕ} 0 1 = cc in absurd (omega arith)

pub first_none : (a b : Option Refusal) → None ≡ first a b → (None ≡ a) × (None ≡ b)
first_none None b e = (refl, e)
first_none (Some x) b e = let z : ◌≡◌ {A = ℕ} 0 1 = cc in absurd (omega arith)

pub none_found : (o : Option Refusal) → T (none o) → None ≡ o
none_found None t = refl
none_found (Some x) t = absurd t

pub between : (a b n : ℕ) → true ≡ allows (Between a b) n → (a ≤ n) × (n ≤ b)
between a b n e = (grind (arith, nat_tests), grind (arith, nat_tests))

-- what a number that is allowed keeps
abbrev pub Keeps : Allowed → ℕ → Type 0
Keeps (Between a b) n = (a ≤ n) × (n ≤ b)
Keeps (Among a b c) n = true ≡ allows (Among a b c) n

keeps : (a : Allowed) (n : ℕ) → true ≡ allows a n → Keeps a n
keeps (Between a b) n e = between a b n e
keeps (Among a b c) n e = e

-- which of n the i-th number after the k-th is held against
abbrev pub turned : ℕ → ℕ → ℕ → ℕ
turned n k zero = k
turned n k (suc i) = turned n ((k + 1) % n) i

-- where nothing is outside, each number is allowed
pub allowed_at : (all : List Allowed) (k f : ℕ) (ns : List ℕ) → None ≡ outside_from all k f ns → (i : ℕ) → i < length ns → true ≡ allows (get_or all (turned (length all) k i) (Between 0 0)) (get_or ns i 0)
allowed_at all k f [] e i h = absurd (not-suc-le-zero h)
allowed_at all k f (n ∷ ns) e zero h = (cond_none _ _ _ e).0
allowed_at all k f (n ∷ ns) e (suc i) h = allowed_at all ((k + 1) % length all) (f + 1) ns (cond_none _ _ _ e).1 i (le_of_suc-le-suc h)

turned_straight : (n k i : ℕ) → k + i < n → turned n k i ≡ k + i
turned_straight n k zero h = omega arith
turned_straight n k (suc i) h =
    let e : (k + 1) % n ≡ k + 1 = mod-eq_of_lt (omega (arith, h)) in
    rw e (turned_straight n (k + 1) i (omega (arith, h)) ∙ omega arith)

-- where there are as many numbers as what is allowed, each keeps its own
pub each_keeps : (all : List Allowed) (f : ℕ) (ns : List ℕ) → length ns ≡ length all → None ≡ outside all f ns → (i : ℕ) → i < length all → Keeps (get_or all i (Between 0 0)) (get_or ns i 0)
each_keeps all f ns l e i h =
    let s : turned (length all) 0 i ≡ i = turned_straight (length all) 0 i (omega (arith, h)) ∙ omega arith in
    keeps (get_or all i (Between 0 0)) (get_or ns i 0) (rw s at (allowed_at all 0 f ns e i (omega (arith, h, l))))

pub each_between : (a b f : ℕ) (ns : List ℕ) → None ≡ outside (Between a b ∷ []) f ns → (k : ℕ) → k < length ns → (a ≤ get_or ns k 0) × (get_or ns k 0 ≤ b)
each_between a b f [] e k h = absurd (not-suc-le-zero h)
each_between a b f (n ∷ ns) e zero h = between a b n (cond_none _ _ _ e).0
each_between a b f (n ∷ ns) e (suc k) h = each_between a b (f + 1) ns (cond_none _ _ _ e).1 k (le_of_suc-le-suc h)

-- a list is its numbers one by one
abbrev pub spell : ℕ → ℕ → List ℕ → List ℕ
spell i zero ns = []
spell i (suc n) ns = get_or ns i 0 ∷ spell (suc i) n ns

pub spelled : (i n : ℕ) (ns : List ℕ) → length ns ≡ i + n → drop i ns ≡ spell i n ns
spelled i zero ns e = drop_of_length-le ns (omega arith)
spelled i (suc n) ns e = drop-cons ns i 0 (omega arith) ∙ ap (λ (l : List ℕ). get_or ns i 0 ∷ l) (spelled (suc i) n ns (omega arith))
