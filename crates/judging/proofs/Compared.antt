-- What comparing the sides of each limit state tells.
use Rattle.std.proofs.Common.{◌≡◌, ℕ, ◌+◌, ◌≤◌, Bool, not, T, leb, sym, refl, ap, ◌∙◌, subst, arith, leb→le, ne_eqb}
use Rattle.fraction.specs.Fraction.{Fraction, whole, ◌⊕◌, ◌⊗◌, ◌⊘◌}
use Rattle.enclosure.specs.Model.{Model, Sound}
use Rattle.enclosure.specs.Answer.{compared}
use Rattle.enclosure.specs.Formula.{computed}
use Rattle.enclosure.specs.Close.{Close}
use Rattle.enclosure.specs.declared.Comparison.{Comparison}
use Rattle.enclosure.specs.declared.Comparison.TheVariants.{Yes, No, Unknown}
use Rattle.enclosure.proofs.Closeness.{encloses}
use Rattle.enclosure.proofs.Comparisons.{said_yes, said_no, said_unknown}
use Rattle.enclosure.proofs.Trees.{Tree, as_tree, exact, value, grade, ok, closed}
use Rattle.equations.specs.Units.{tenths}
use Rattle.equations.specs.Design.{Design, centroid_diameter, fill_depth}
use Rattle.equations.specs.Limits.{bending_strain, tension_allowed, compression_allowed, buckling_cube, flexibility, uplift, hold_down, buoyant}
use Rattle.equations.specs.declared.limit_state.LimitState.TheVariants.{Thrust, NetTension, Combined, Deflection, Buckling, Flexibility, Buoyancy}
use Rattle.equations.proofs.Forms.{all_regroup}
use Rattle.judging.specs.Answers.{state_of}
use Rattle.quantities.specs.Formulas.{parts_of, cube_of, square_of}
use Rattle.judging.specs.Sides.{bending_strain_of, tension_allowed_of, compression_allowed_of, buckling_cube_of, flexibility_of, uplift_of, hold_down_of}
use Rattle.judging.specs.Judged.{Judged, LimitJudged, Enclosure, Asked}
use Rattle.quantities.specs.Known.{Known}
use Rattle.quantities.specs.Worked.{WorkedKnown}
use Rattle.judging.specs.declared.answer.State.{State}
use Rattle.judging.specs.declared.answer.State.TheVariants.{Holds, Fails, Undecided, NotApplied}
use Rattle.quantities.specs.declared.worked.Worked.{Worked}
use Rattle.quantities.proofs.Known.{leaf, known, known_along}
use Rattle.quantities.proofs.Ranges.{limit_known}

-- the answer that a state comes from
abbrev answer_of : State → Comparison
answer_of Holds = Yes
answer_of Fails = No
answer_of Undecided = Unknown
answer_of NotApplied = Unknown

answered : (a : Comparison) → a ≡ answer_of (state_of a)
answered Yes = refl
answered No = refl
answered Unknown = refl

module _ {E : Type 0} {m : Model E} where
  abbrev pub enclosure_of : {n : ℕ} {x : Fraction} {e : E} → Close m n x e → Enclosure m x
  enclosure_of {n} {x} {e} c = record { it = e; made = c.made; contains = encloses c }

  module _ (s : Sound m) where
    pub judged : {n k : ℕ} {x y : Fraction} {e f : E} → Close m n x e → Close m k y f → n + k ≤ 10000 → (st : State) → st ≡ state_of (compared m e f) → Judged m x y st
    judged {n} {k} {x} {y} {e} {f} c d le st h =
        record {
          first = enclosure_of c;
          second = enclosure_of d;
          is = h;
          holds = λ i. said_yes m s n k x y e f c d (answered _ ∙ ap answer_of (sym h ∙ i));
          fails = λ i. said_no m s n k x y e f c d (answered _ ∙ ap answer_of (sym h ∙ i));
          undecided = λ i. said_unknown m s n k x y e f c d le (answered _ ∙ ap answer_of (sym h ∙ i));
        }

    -- of two formulas
    pub compare : (f g : Tree m) → T (ok f) → T (ok g) → T (leb (grade f + grade g) 10000) → (st : State) → st ≡ state_of (compared m (value f) (value g)) → Judged m (exact f) (exact g) st
    compare f g a b le st h = judged (closed s f a) (closed s g b) (leb→le (grade f + grade g) 10000 le) st h

    module _ (d : Design) (w : Worked E) (q : WorkedKnown m d w) (st : State) where
      pub thrust_side : (a : E) → a ≡ parts_of (computed m) d.section.compression_limit 10000 → st ≡ state_of (compared m w.thrust_strain a) → LimitJudged m Thrust d st
      thrust_side a i h =
          let limit = limit_known s d d.section.compression_limit (omega (arith, d.section.limits)) (omega (arith, d.section.limits)) in
          compare (leaf q.thrust) (leaf limit) tt tt tt st (subst (λ e. st ≡ state_of (compared m w.thrust_strain e)) i h)

      pub tension_side : (b l a : E) → b ≡ bending_strain_of (computed m) w.bending w.measures.inside w.measures.centroid → l ≡ parts_of (computed m) d.section.tension_limit 10000 → a ≡ tension_allowed_of (computed m) l w.least_strain w.bending w.service_strain → st ≡ state_of (compared m b a) → LimitJudged m NetTension d st
      unfolding bending_strain tension_allowed
      tension_side b l a i j u h =
          let limit = limit_known s d d.section.tension_limit (omega (arith, d.section.limits)) (omega (arith, d.section.limits)) in
          compare (bending_strain_of (as_tree m) (leaf q.bending) (leaf q.measures.inside) (leaf q.measures.centroid)) (tension_allowed_of (as_tree m) (leaf limit) (leaf q.least) (leaf q.bending) (leaf q.service)) tt tt tt st (rw (i, u, j) at h)

      pub combined_side : (b c l a : E) → b ≡ bending_strain_of (computed m) w.bending w.measures.inside w.measures.centroid → c ≡ m.sum b w.thrust_strain → l ≡ parts_of (computed m) d.section.compression_limit 10000 → a ≡ compression_allowed_of (computed m) l w.bending w.service_strain → st ≡ state_of (compared m c a) → LimitJudged m Combined d st
      unfolding bending_strain compression_allowed
      combined_side b c l a i v j u h =
          let limit = limit_known s d d.section.compression_limit (omega (arith, d.section.limits)) (omega (arith, d.section.limits)) in
          compare ((as_tree m).add (bending_strain_of (as_tree m) (leaf q.bending) (leaf q.measures.inside) (leaf q.measures.centroid)) (leaf q.thrust)) (compression_allowed_of (as_tree m) (leaf limit) (leaf q.bending) (leaf q.service)) tt tt tt st (rw (v, i, u, j) at h)

      pub deflection_side : (f a : E) → f ≡ parts_of (computed m) 5 100 → a ≡ m.product f w.measures.inside → st ≡ state_of (compared m w.deflection a) → LimitJudged m Deflection d st
      deflection_side f a i j h =
          compare (leaf q.deflection) ((as_tree m).mul (parts_of (as_tree m) 5 100) (leaf q.measures.inside)) tt tt tt st (rw (j, i) at h)

      depth_known : Known m 20 1 2 2 1 (tenths 114 ⊗ fill_depth d ⊘ (whole 11 ⊗ fill_depth d ⊕ centroid_diameter d)) (m.quotient (parts_of (computed m) 114 10) (m.sum (m.from_whole 11) (m.quotient w.measures.centroid w.measures.fill)))
      depth_known =
          known_along s (all_regroup d).depth (known s ((as_tree m).div (parts_of (as_tree m) 114 10) ((as_tree m).add ((as_tree m).num 11) ((as_tree m).div (leaf q.measures.centroid) (leaf q.measures.fill)))) 20 1 2 2 1 tt)

      pub buckling_side : (c a : E) → c ≡ cube_of (computed m) w.thrust_strain → a ≡ buckling_cube_of (computed m) w.measures.moment w.measures.effective_area w.measures.long_modulus w.modulus w.measures.fill w.measures.centroid → st ≡ state_of (compared m c a) → LimitJudged m Buckling d st
      unfolding buckling_cube
      buckling_side c a i j h =
          let o = as_tree m in
          let wall = o.div (leaf q.measures.moment) (o.mul (cube_of o (leaf q.measures.effective)) (square_of o (leaf q.measures.long))) in
          let soil = o.mul (o.mul (parts_of o 9 10) (leaf q.modulus)) (o.div (parts_of o 4 10) (parts_of o 49 100)) in
          compare (cube_of o (leaf q.thrust)) (o.mul (o.mul (o.mul (cube_of o (parts_of o 462 1000)) wall) (square_of o soil)) (cube_of o (leaf depth_known))) tt tt tt st (rw (i, j) at h)

      pub flexibility_side : (c a : E) → c ≡ flexibility_of (computed m) w.measures.centroid w.measures.short_modulus w.measures.moment → a ≡ parts_of (computed m) 95 1000 → st ≡ state_of (compared m c a) → LimitJudged m Flexibility d st
      unfolding flexibility
      flexibility_side c a i j h =
          compare (flexibility_of (as_tree m) (leaf q.measures.centroid) (leaf q.measures.short) (leaf q.measures.moment)) (parts_of (as_tree m) 95 1000) tt tt tt st (rw (i, j) at h)

      pub buoyancy_side : (c a : E) → c ≡ uplift_of (computed m) w.measures.outside → a ≡ hold_down_of (computed m) w.prism w.measures.outside → st ≡ state_of (compared m c a) → LimitJudged m Buoyancy d st
      unfolding uplift hold_down
      buoyancy_side c a i j h =
          compare (uplift_of (as_tree m) (leaf q.measures.outside)) (hold_down_of (as_tree m) (leaf q.prism) (leaf q.measures.outside)) tt tt tt st (rw (i, j) at h)

-- buoyancy is asked where there is water
pub asked : (d : Design) (J : Type 0) (st : State) → (d.site.water ≡ 0 → ⊥) → J → Asked (buoyant d) J st
asked d J st some j = subst (λ (b : Bool). Asked b J st) (sym (ap not (ne_eqb d.site.water 0 some))) j
