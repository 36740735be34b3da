-- Enclosures are equal where their ends are, whatever proof that the radix is one.
use Rattle.std.proofs.Common.{◌≡◌, ℕ, ◌*◌, ◌<◌, Bool, true, false, not, T, ltb, leb, Some, None, Option, sym, refl, ap, ◌∙◌, subst, mul-le-mul_right, mul-lt-mul_of_pos_right, lt_of_not-le, le-ltb, lt-ltb, le-leb}
use Rattle.std.specs.Option.{MatchOption, option_zip}
use mathlib.Core.HLevel.{is_prop→PathP}
use native.Mathlib.Decide.{dec_le}
use mathlib.Core.Logic.{dite}
use borrow.Author.Tests.{lt-leb}
use Rattle.rounding.specs.declared.radix.Radix.{Ghosts}
use Rattle.enclosure.specs.Answer.{ends_by, ends_below}
use Rattle.rounding.specs.Rounded.{units, Ordered, in_order}
use Rattle.rounding.proofs.Ends.{power_pos}
use Rattle.digits.specs.Meaning.{bound, value}
use Rattle.rounding.specs.declared.end.End.{End}
use Rattle.digits.specs.declared.span.Enclosure.{Enclosure}

T_prop : (b : Bool) → IsProp (T b)
T_prop true x y = refl
T_prop false x y = absurd x

module _ {R : Type 0} {g : Ghosts R} where
  pub same_span : (a b : Enclosure R g) → a.lower ≡ b.lower → a.upper ≡ b.upper → a ≡ b
  same_span a b p q = λ i.
      record {
        lower = p i;
        upper = q i;
        ordered = is_prop→PathP (λ i. T (in_order (p i) (q i))) (λ i. T_prop (in_order (p i) (q i))) a.ordered b.ordered i;
      }

  -- ends that are in order, by equal ones that are
  pub ordered_by : {l m : End R g} {h k : Option (End R g)} → Ordered m k → l ≡ m → h ≡ k → Ordered l h
  ordered_by {l} {m} {h} {k} o p q = subst (λ (x : End R g). Ordered x h) (sym p) (subst (λ (x : Option (End R g)). Ordered m x) (sym q) o)

-- by what is known where there is a value, and where there is none
pub matched : {A N : Type 0} {P : A → Type 0} (Q : Option A → Type 0) → (N → Q None) → ((x : A) → P x → Q (Some x)) → (o : Option A) → MatchOption o N P → Q o
matched Q n s (Some x) m = s x m
matched Q n s None m = n m

-- and of two values at once
pub zipped : {A N : Type 0} (P : A × A → Type 0) (Q : Option A → Option A → Type 0) → ((k : Option A) → N → Q None k) → ((x : A) → N → Q (Some x) None) → ((x y : A) → P (x, y) → Q (Some x) (Some y)) → (h k : Option A) {z : Option (A × A)} → z ≡ option_zip h k → MatchOption z N P → Q h k
zipped {N = N} P Q n m s (Some x) (Some y) e w = s x y (subst (λ z. MatchOption z N P) e w)
zipped {N = N} P Q n m s (Some x) None e w = m x (subst (λ z. MatchOption z N P) e w)
zipped {N = N} P Q n m s None k e w = n k (subst (λ z. MatchOption z N P) e w)

-- a common factor does not tell
pub leb_scaled : (a b k : ℕ) → 0 < k → leb (a * k) (b * k) ≡ leb a b
leb_scaled a b k pos =
    dite (dec_le a b)
    (λ h. le-leb _ _ (mul-le-mul_right k h) ∙ sym (le-leb _ _ h))
    (λ h. let l = lt_of_not-le h in lt-leb _ _ (mul-lt-mul_of_pos_right l pos) ∙ sym (lt-leb _ _ l))

pub ltb_scaled : (a b k : ℕ) → 0 < k → ltb (a * k) (b * k) ≡ not (leb b a)
ltb_scaled a b k pos =
    dite (dec_le b a)
    (λ h. le-ltb _ _ (mul-le-mul_right k h) ∙ sym (ap not (le-leb _ _ h)))
    (λ h. let l = lt_of_not-le h in lt-ltb _ _ (mul-lt-mul_of_pos_right l pos) ∙ sym (ap not (lt-leb _ _ l)))

-- whether an upper end is at most a lower one, and below it, as a test at the end tells
module _ {R : Type 0} {g : Ghosts R} (o : Option (End R g)) (l : End R g) {r : Bool} {P : End R g → Type 0} where
  pub ends_by_told : ((x : End R g) → P x → r ≡ leb (units x) (units l)) → MatchOption o (r ≡ false) P → r ≡ ends_by (bound o) (value l)
  ends_by_told f = matched (λ h. r ≡ ends_by (bound h) (value l)) (λ e. e) (λ x p. f x p ∙ sym (leb_scaled (units x) (units l) _ (power_pos g.lawful g.BIAS))) o

  pub ends_below_told : ((x : End R g) → P x → r ≡ not (leb (units l) (units x))) → MatchOption o (r ≡ false) P → r ≡ ends_below (bound o) (value l)
  ends_below_told f = matched (λ h. r ≡ ends_below (bound h) (value l)) (λ e. e) (λ x p. f x p ∙ sym (ltb_scaled (units x) (units l) _ (power_pos g.lawful g.BIAS))) o
