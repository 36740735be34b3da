use Rattle.std.proofs.Common.{◌≡◌, ℕ, suc, Bool, true, false, cond, ltb, leb, ◌==◌, Less, Equal, Greater, Some, sym, refl, ap, ◌∙◌, le_of_lt, lt_of_not-le, arith, le-ltb, lt-ltb, le-leb, eq-eqb, ne_eqb}
use Rattle.std.specs.Ordering.{is_le, is_some_and, partial_ordering_then}
use mathlib.Core.Logic.{dite}
use native.Mathlib.Decide.{dec_le}
use borrow.Author.Tests.{lt-leb}
use Rattle.rounding.proofs.Ends.{exponents_tell, digits_tell, digits_apart}
use Rattle.rounding.proofs.end.End.at_most.Goals as goal

-- the order of pairs, by the tests of their parts
pairs : (s t u v : Bool) → is_some_and is_le (partial_ordering_then (Some (cond s Less (cond t Equal Greater))) (Some (cond u Less (cond v Equal Greater)))) ≡ cond s true (cond t (cond u true v) false)
pairs true t u v = refl
pairs false true true v = refl
pairs false true false true = refl
pairs false true false false = refl
pairs false false u v = refl

at_most : (d h : ℕ) → cond (ltb d h) true (d == h) ≡ leb d h
at_most d h =
    dite (dec_le (suc d) h)
    (λ l. ap (λ t. cond t true (d == h)) (lt-ltb d h l) ∙ sym (le-leb d h (le_of_lt l)))
    (λ n. let l = lt_of_not-le n in
    ap (λ t. cond t true (d == h)) (le-ltb d h (omega arith))
    ∙ dite (dec_le d h)
    (λ e. eq-eqb d h (omega arith) ∙ sym (le-leb d h e))
    (λ m. let k = lt_of_not-le m in ne_eqb d h (λ e. absurd (omega arith)) ∙ sym (lt-leb d h k)))

pub returns : goal.returns
returns g c =
    let a = c.args.self in
    let b = c.args.other in
    c.le.ensures ∙ pairs (ltb a.exponent b.exponent) (a.exponent == b.exponent) (ltb a.digits b.digits) (a.digits == b.digits)
    ∙ ap (λ t. cond (ltb a.exponent b.exponent) true (cond (a.exponent == b.exponent) t false)) (at_most a.digits b.digits)
    ∙ dite (dec_le (suc a.exponent) b.exponent)
    (λ h. ap (λ t. cond t true (cond (a.exponent == b.exponent) (leb a.digits b.digits) false)) (lt-ltb _ _ h) ∙ sym (le-leb _ _ (le_of_lt (exponents_tell a b h))))
    (λ n. let k = lt_of_not-le n in
    ap (λ t. cond t true (cond (a.exponent == b.exponent) (leb a.digits b.digits) false)) (le-ltb _ _ (omega arith))
    ∙ dite (dec_le (suc b.exponent) a.exponent)
    (λ h. ap (λ t. cond t (leb a.digits b.digits) false) (ne_eqb _ _ (λ e. absurd (omega arith))) ∙ sym (lt-leb _ _ (exponents_tell b a h)))
    (λ m. let l = lt_of_not-le m in
    let e : a.exponent ≡ b.exponent = omega arith in
    ap (λ t. cond t (leb a.digits b.digits) false) (eq-eqb _ _ e)
    ∙ dite (dec_le a.digits b.digits)
    (λ h. le-leb _ _ h ∙ sym (le-leb _ _ (digits_tell a b e h)))
    (λ h. let d = lt_of_not-le h in lt-leb _ _ d ∙ sym (lt-leb _ _ (digits_apart b a (sym e) d)))))
