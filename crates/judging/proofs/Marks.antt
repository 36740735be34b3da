-- What marking a claim tells, and the figures.
use Rattle.std.proofs.Common.{◌≡◌, ℕ, ◌*◌, ◌^◌, ◌≤◌, ◌⊎◌, T, sym, refl, ap, ◌∙◌, subst, inl, inr, arith, lit≤}
use Rattle.std.proofs.Math.Logic.{⊎_map}
use Rattle.fraction.specs.Fraction.{Fraction, whole, ◌⊘◌}
use Rattle.enclosure.specs.Model.{Model, Sound}
use Rattle.enclosure.specs.Answer.{compared}
use Rattle.enclosure.specs.Formula.{computed}
use Rattle.enclosure.specs.Close.{Close}
use Rattle.enclosure.specs.declared.Comparison.{Comparison}
use Rattle.enclosure.specs.declared.Comparison.TheVariants.{Yes, No, Unknown}
use Rattle.enclosure.proofs.Comparisons.{said_yes, said_no, said_unknown}
use Rattle.enclosure.proofs.Trees.{as_tree, field, closed}
use Rattle.equations.specs.Design.{Design}
use Rattle.equations.specs.Figures.{figure}
use Rattle.quantities.specs.Formulas.{parts_of}
use Rattle.judging.specs.Judged.{Marked, mark_of, low_edge, high_edge}
use Rattle.quantities.specs.Known.{Known}
use Rattle.judging.specs.Figured.{FigureKnown, MillionthsKnown}
use Rattle.equations.specs.declared.figure.Figure.{Figure}
use Rattle.judging.specs.declared.answer.Mark.{Mark}
use Rattle.judging.specs.declared.answer.Mark.TheVariants.{Right, Wrong, Unmarked}
use Rattle.quantities.proofs.Known.{leaf, known, meets}
use Rattle.judging.proofs.Compared.{enclosure_of}

-- the answers that a mark comes from
abbrev Told : Mark → Comparison → Comparison → Type 0
Told Right u v = (u ≡ Yes) × (v ≡ Yes)
Told Wrong u v = (u ≡ No) ⊎ (v ≡ No)
Told Unmarked u v = (u ≡ Unknown) ⊎ (v ≡ Unknown)

told : (u v : Comparison) → Told (mark_of u v) u v
told Yes Yes = (refl, refl)
told Yes No = inr refl
told Yes Unknown = inr refl
told No v = inl refl
told Unknown Yes = inl refl
told Unknown No = inr refl
told Unknown Unknown = inl refl

module _ {E : Type 0} {m : Model E} (s : Sound m) where
  edge_close : (n : ℕ) → 1 ≤ n → n ≤ 10 ^ 16 → Close m 3 (whole n ⊘ whole 100) (parts_of (computed m) n 100)
  edge_close n h l = closed s ((as_tree m).div (field 1 (10 ^ 16) n h l) ((as_tree m).num 100)) tt

  pub marked_by : (c : ℕ) (x : Fraction) (e l h : E) (u v : Comparison) (k : Mark) → 1 ≤ c → c ≤ 10 ^ 13 → Known m 302 1 (10 ^ 4) (10 ^ 15) 1 x e → l ≡ parts_of (computed m) (99 * c) 100 → h ≡ parts_of (computed m) (101 * c) 100 → u ≡ compared m l e → v ≡ compared m e h → k ≡ mark_of u v → Marked m c x k
  marked_by c x e l h u v k some most p i j a b is =
      let q = p.close in
      let by : (j : Mark) → k ≡ j → Told j u v = λ j r. subst (λ j. Told j u v) (sym is ∙ r) (told u v) in
      let low : Close m 3 (low_edge c) l = subst (λ f. Close m 3 (low_edge c) f) (sym i) (edge_close (99 * c) (omega arith) (omega arith)) in
      let high : Close m 3 (high_edge c) h = subst (λ f. Close m 3 (high_edge c) f) (sym j) (edge_close (101 * c) (omega arith) (omega arith)) in
      record {
        figure = enclosure_of q;
        low = enclosure_of low;
        high = enclosure_of high;
        is = is ∙ (ap (λ n. mark_of n v) a ∙ ap (mark_of (compared m l e)) b);
        right = λ r.
            let t = by Right r in
            (said_yes m s 3 302 (low_edge c) x l e low q (sym a ∙ t.0), said_yes m s 302 3 x (high_edge c) e h q high (sym b ∙ t.1));
        wrong = λ r. ⊎_map (λ t. said_no m s 3 302 (low_edge c) x l e low q (sym a ∙ t)) (λ t. said_no m s 302 3 x (high_edge c) e h q high (sym b ∙ t)) (by Wrong r);
        unmarked = λ r. ⊎_map (λ t. said_unknown m s 3 302 (low_edge c) x l e low q (lit≤ tt) (sym a ∙ t)) (λ t. said_unknown m s 302 3 x (high_edge c) e h q high (lit≤ tt) (sym b ∙ t)) (by Unmarked r);
      }

  -- a quantity as a figure
  pub figure_at : (d : Design) {n a b c k : ℕ} {f g : Figure} {e : E} → f ≡ g → (p : Known m n a b c k (figure g d) e) → T (meets (leaf p) 300 1 (10 ^ 10) (10 ^ 9) 1) → FigureKnown m d f e
  figure_at d {f} {g} {e} h p t = subst (λ j. FigureKnown m d j e) (sym h) (known s (leaf p) 300 1 (10 ^ 10) (10 ^ 9) 1 t)

  pub millionths_known : (d : Design) (f : Figure) {e : E} (t r : E) → FigureKnown m d f e → t ≡ m.from_whole 1000000 → r ≡ m.product e t → MillionthsKnown m d f r
  millionths_known d f t r p i j = rw (j, i) (known s ((as_tree m).mul (leaf p) ((as_tree m).num 1000000)) 302 1 (10 ^ 4) (10 ^ 15) 1 tt)
