use Rattle.std.proofs.Common.{◌≡◌, None, sym, refl, ap, ◌∙◌, rules, tests}
use Rattle.std.specs.List.{find}
use Rattle.std.specs.Option.{option_map}
use Rattle.std.proofs.lemmas.Iterator.{YieldsList-from_slice}
use Rattle.std.proofs.lemmas.Iterator.Search.{find_from_yields_List, any_from_yields_List}
use Rattle.judging.specs.Answers.{failing, unsettled}
use Rattle.judging.proofs.ClaimLists.{none_of}
use Rattle.judging.proofs.verdicts.verdict.Goals.{In_default}
use Rattle.judging.proofs.verdicts.verdict.Goals as goal

pub returns-in-Some : goal.returns-in-Some
returns-in-Some c =
    let h = find_from_yields_List (λ p. failing p.1) _ _ c.find.result c.find.ensures.ran (YieldsList-from_slice c.args.states.now cc) (λ x b q k. search (rules, tests)) in
    rw (← h, c.in-Some.is) refl

none_fails : (c : In_default) → find (λ p. failing p.1) c.args.states.now ≡ None
none_fails c =
    let h = find_from_yields_List (λ p. failing p.1) _ _ c.find.result c.find.ensures.ran (YieldsList-from_slice c.args.states.now cc) (λ x b q k. search (rules, tests)) in
    sym (ap (option_map (λ x. x.now)) (none_of _ c.in_default.not-Some) ∙ h)

pub returns-then-any : goal.returns-then-any
returns-then-any c =
    let k = any_from_yields_List (λ p. unsettled p.1) _ _ c.any.result c.any.ensures.ran (YieldsList-from_slice c.args.states.now cc) (λ x b q k. search (rules, tests)) in
    rw (none_fails (goal.at.returns-then-any c).In_default, ← k, c.if-any.true) refl

pub returns : goal.returns
returns c =
    let k = any_from_yields_List (λ p. unsettled p.1) _ _ c.any.result c.any.ensures.ran (YieldsList-from_slice c.args.states.now cc) (λ x b q k. search (rules, tests)) in
    rw (none_fails (goal.at.returns c).In_default, ← k, c.if-any.false) refl
