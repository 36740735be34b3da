-- What the verdict on a judged sheet means.
use Rattle.std.proofs.Common.{◌≡◌, Bool, true, false, List, [], ◌∷◌, Some, None, Option, sym, refl, ◌∙◌, subst}
use Rattle.std.proofs.lemmas.Bool.{true≢false}
use Rattle.std.specs.List.{find}
use Rattle.std.specs.Option.{option_map}
use Rattle.fraction.specs.Fraction.{◌≼◌, ◌≺◌}
use Rattle.fraction.specs.Graded.{Band}
use Rattle.enclosure.specs.Model.{Model}
use Rattle.enclosure.specs.declared.Comparison.{Comparison}
use Rattle.enclosure.specs.declared.Comparison.TheVariants.{Yes, No, Unknown}
use Rattle.equations.specs.Design.{Design}
use Rattle.equations.specs.Limits.{left, right, buoyant}
use Rattle.judging.specs.Answers.{state_of, failing, any_unsettled, decided, verdict_of, limit_states}
use Rattle.judging.specs.Judged.{LimitJudged, Asked, SheetJudged, Means}
use Rattle.equations.specs.declared.limit_state.LimitState.{LimitState}
use Rattle.equations.specs.declared.limit_state.LimitState.TheVariants.{Thrust, NetTension, Combined, Deflection, Buckling, Flexibility, Buoyancy}
use Rattle.judging.specs.declared.answer.State.{State}
use Rattle.judging.specs.declared.answer.State.TheVariants.{Holds, Fails, Undecided, NotApplied}
use Rattle.judging.specs.declared.answer.Verdict.{Verdict}
use Rattle.judging.specs.declared.answer.Verdict.TheVariants.{Accepted, Rejected, Undecided as NoVerdict}
use Rattle.judging.specs.declared.sheet.Sheet.{Sheet}

-- what is judged is never out of question
answered : (a : Comparison) → NotApplied ≡ state_of a → ⊥
answered Yes h = true≢false (cc)
answered No h = true≢false (cc)
answered Unknown h = true≢false (cc)

module _ {E : Type 0} (m : Model E) (d : Design) where
  -- whether a limit state is asked of the case, and what is known of it beside its state
  abbrev asks : LimitState → Bool
  asks Thrust = true
  asks NetTension = true
  asks Combined = true
  asks Deflection = true
  asks Buckling = true
  asks Flexibility = true
  asks Buoyancy = buoyant d

  abbrev Known : LimitState × State → Type 0
  Known p = Asked (asks p.0) (LimitJudged m p.0 d p.1) p.1

  -- what its state says
  abbrev Kept : LimitState → Type 0
  Kept l = asks l ≡ true → left l d ≼ right l d

  abbrev Broken : LimitState → Type 0
  Broken l = right l d ≺ left l d

  abbrev Open : LimitState → Type 0
  Open l = Band m.fineness 10000 (left l d) (right l d)

  abbrev Says : LimitState → State → Type 0
  Says l Holds = Kept l
  Says l Fails = Broken l
  Says l Undecided = Open l
  Says l NotApplied = Kept l

  says : (l : LimitState) (s : State) → Known (l, s) → Says l s
  says l s k = by (asks l) refl s k
    where
      by : (b : Bool) → asks l ≡ b → (s : State) → Asked b (LimitJudged m l d s) s → Says l s
      by true e Holds j = λ h. j.holds refl
      by true e Fails j = j.fails refl
      by true e Undecided j = j.undecided refl
      by true e NotApplied j = absurd (answered _ j.is)
      by false e Holds j = absurd (true≢false (cc))
      by false e Fails j = absurd (true≢false (cc))
      by false e Undecided j = absurd (true≢false (cc))
      by false e NotApplied j = λ h. absurd (true≢false (sym h ∙ e))

  abbrev AllSay : List (LimitState × State) → Type 0
  AllSay [] = Unit {0}
  AllSay (p ∷ ps) = Says p.0 p.1 × AllSay ps

  abbrev AllKept : List (LimitState × State) → Type 0
  AllKept [] = Unit {0}
  AllKept (p ∷ ps) = Kept p.0 × AllKept ps

  all_kept : (ps : List (LimitState × State)) → AllSay ps → find (λ p. failing p.1) ps ≡ None → any_unsettled ps ≡ false → AllKept ps
  all_kept [] w h k = tt
  all_kept ((l, Holds) ∷ ps) w h k = (w.0, all_kept ps w.1 h k)
  all_kept ((l, Fails) ∷ ps) w h k = absurd (true≢false (cc))
  all_kept ((l, Undecided) ∷ ps) w h k = absurd (true≢false k)
  all_kept ((l, NotApplied) ∷ ps) w h k = (w.0, all_kept ps w.1 h k)

  one_broken : (ps : List (LimitState × State)) → AllSay ps → (p : LimitState × State) → find (λ p. failing p.1) ps ≡ Some p → Broken p.0
  one_broken [] w p h = absurd (true≢false (cc))
  one_broken ((l, Holds) ∷ ps) w p h = one_broken ps w.1 p h
  one_broken ((l, Fails) ∷ ps) w p h = subst Broken (cc) w.0
  one_broken ((l, Undecided) ∷ ps) w p h = one_broken ps w.1 p h
  one_broken ((l, NotApplied) ∷ ps) w p h = one_broken ps w.1 p h

  one_open : (ps : List (LimitState × State)) → AllSay ps → any_unsettled ps ≡ true → (l : LimitState) × Open l
  one_open [] w h = absurd (true≢false (sym h))
  one_open ((l, Holds) ∷ ps) w h = one_open ps w.1 h
  one_open ((l, Fails) ∷ ps) w h = one_open ps w.1 h
  one_open ((l, Undecided) ∷ ps) w h = (l, w.0)
  one_open ((l, NotApplied) ∷ ps) w h = one_open ps w.1 h

  -- the verdict on some limit states
  abbrev Meant : List (LimitState × State) → Verdict → Type 0
  Meant ps Accepted = AllKept ps
  Meant ps (Rejected l) = Broken l
  Meant ps NoVerdict = (l : LimitState) × Open l

  meant : (ps : List (LimitState × State)) → AllSay ps → Meant ps (verdict_of ps)
  meant ps w = by (find (λ p. failing p.1) ps) (any_unsettled ps) refl refl
    where
      by : (o : Option (LimitState × State)) (b : Bool) → find (λ p. failing p.1) ps ≡ o → any_unsettled ps ≡ b → Meant ps (decided (option_map (λ p. p.0) o) b)
      by (Some p) b h k = one_broken ps w p h
      by None true h k = one_open ps w k
      by None false h k = all_kept ps w h k

  pub means : (s : Sheet) → SheetJudged m d s → Means m.fineness d s.verdict
  means s j =
      record {
        accepted = λ h.
            let k = verdict Accepted h in
            record {
              thrust = k.0 refl;
              net_tension = k.1.0 refl;
              combined = k.1.1.0 refl;
              deflection = k.1.1.1.0 refl;
              buckling = k.1.1.1.1.0 refl;
              flexibility = k.1.1.1.1.1.0 refl;
              buoyancy = k.1.1.1.1.1.1.0;
            };
        rejected = λ l h. verdict (Rejected l) h;
        undecided = λ h. verdict NoVerdict h;
      }
    where
      all_say : AllSay (limit_states s)
      all_say = (
        says Thrust s.thrust j.thrust,
        (
          says NetTension s.net_tension j.net_tension,
          (
            says Combined s.combined j.combined,
            (
              says Deflection s.deflection j.deflection,
              (
                says Buckling s.buckling j.buckling,
                (
                  says Flexibility s.flexibility j.flexibility,
                  (
                    says Buoyancy s.buoyancy j.buoyancy,
                    tt,
                  ),
                ),
              ),
            ),
          ),
        ),
      )

      verdict : (v : Verdict) → s.verdict ≡ v → Meant (limit_states s) v
      verdict v h = subst (Meant (limit_states s)) (sym j.verdict ∙ h) (meant (limit_states s) all_say)
