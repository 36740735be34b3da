-- What the answer on two close enclosures says of the exact fractions.
use Rattle.std.proofs.Common.{◌≡◌, ℕ, ◌+◌, ◌*◌, ◌≤◌, Bool, true, false, cond, ltb, leb, sym, refl, ap, ◌∙◌, arith, ltb-false, ltb-true, leb-false, leb-true}
use Rattle.std.proofs.lemmas.Bool.{true≢false}
use Rattle.fraction.specs.Fraction.{Fraction, ◌≼◌, ◌≺◌}
use Rattle.fraction.specs.Graded.{Band}
use Rattle.fraction.proofs.Order.{le_trans, le_lt, lt_le, le_of_lt}
use Rattle.fraction.proofs.Graded as graded
use Rattle.enclosure.specs.Model.{Model, Sound, Upper}
use Rattle.enclosure.specs.Answer.{ends_by, ends_below, compared}
use Rattle.enclosure.specs.Close.{Close}
use Rattle.enclosure.specs.Theorems.{ComparisonsTell}
use Rattle.enclosure.specs.declared.Comparison.{Comparison}
use Rattle.enclosure.specs.declared.Comparison.TheVariants.{Yes, No, Unknown}
use Rattle.enclosure.proofs.Closeness.{fine_positive}

-- which tests an answer comes from
abbrev answer_of : Bool → Bool → Comparison
answer_of a b = cond a Yes (cond b No Unknown)

first_of : (a b : Bool) → answer_of a b ≡ Yes → a ≡ true
first_of true b h = refl
first_of false true h = absurd (true≢false (cc))
first_of false false h = absurd (true≢false (cc))

second_of : (a b : Bool) → answer_of a b ≡ No → b ≡ true
second_of true b h = absurd (true≢false (cc))
second_of false true h = refl
second_of false false h = absurd (true≢false (cc))

neither_of : (a b : Bool) → answer_of a b ≡ Unknown → (a ≡ false) × (b ≡ false)
neither_of true b h = absurd (true≢false (cc))
neither_of false true h = absurd (true≢false (cc))
neither_of false false h = (refl, refl)

module _ {E : Type 0} (m : Model E) (sound : Sound m) (n k : ℕ) (x y : Fraction) (e f : E) (c : Close m n x e) (d : Close m k y f) where
  by : Bool
  by = ends_by (m.upper e) (m.lower f)

  below : Bool
  below = ends_below (m.upper f) (m.lower e)

  -- the tests on the ends that are there
  by_is : by ≡ leb (c.top.num * (m.lower f).den) ((m.lower f).num * c.top.den)
  unfolding by
  by_is = ap (λ (u : Upper). ends_by u (m.lower f)) c.is

  below_is : below ≡ ltb (d.top.num * (m.lower e).den) ((m.lower e).num * d.top.den)
  unfolding below
  below_is = ap (λ (u : Upper). ends_below u (m.lower e)) d.is

  pub said_yes : compared m e f ≡ Yes → x ≼ y
  unfolding by below
  said_yes h =
      let ends : c.top ≼ m.lower f = record { cross = leb-true (c.top.num * (m.lower f).den) ((m.lower f).num * c.top.den) (sym by_is ∙ first_of by below h) } in
      le_trans c.high (le_trans ends d.low)

  pub said_no : compared m e f ≡ No → y ≺ x
  unfolding by below
  said_no h =
      let ends : d.top ≺ m.lower e = record { cross = ltb-true (d.top.num * (m.lower e).den) ((m.lower e).num * d.top.den) (sym below_is ∙ second_of by below h) } in
      le_lt d.high (lt_le ends c.low)

  pub said_unknown : n + k ≤ 10000 → compared m e f ≡ Unknown → Band m.fineness 10000 x y
  unfolding by below
  said_unknown le h =
      let pos = fine_positive sound in
      let tests = neither_of by below h in
      let over : m.lower f ≺ c.top = record { cross = leb-false (c.top.num * (m.lower f).den) ((m.lower f).num * c.top.den) (sym by_is ∙ tests.0) } in
      let back : m.lower e ≼ d.top = record { cross = ltb-false (d.top.num * (m.lower e).den) ((m.lower e).num * d.top.den) (sym below_is ∙ tests.1) } in
      let xy = graded.trans pos c.near (graded.after pos back d.far) in
      let yx = graded.trans pos d.near (graded.after pos (le_of_lt over) c.far) in
      graded.band {j = n + k} 10000 le xy (graded.wider (n + k) (omega arith) yx)

pub comparisons_tell : (E : Type 0) → ComparisonsTell E
comparisons_tell E m sound n k x y e f c d le =
    record {
      yes = said_yes m sound n k x y e f c d;
      no = said_no m sound n k x y e f c d;
      unknown = said_unknown m sound n k x y e f c d le;
    }
