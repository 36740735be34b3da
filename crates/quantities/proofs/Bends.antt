-- What is known of the bending factor.
use Rattle.std.proofs.Common.{◌≡◌, ◌*◌, ◌^◌, ◌<◌, ◌≤◌, map, arith, lit<, eq-eqb, ne_eqb}
use Rattle.fraction.specs.Fraction.{Fraction, whole, Same}
use Rattle.fraction.specs.Ratio.{value}
use Rattle.fraction.specs.declared.ratio.Ratio.{Ratio}
use Rattle.fraction.proofs.Sames as same
use Rattle.enclosure.specs.Model.{Model, Sound}
use Rattle.enclosure.specs.Formula.{computed}
use Rattle.enclosure.proofs.Trees.{as_tree, field, long, closed}
use Rattle.lookups.specs.Lookup.{shape_at}
use Rattle.lookups.proofs.Cells.{line_cong}
use Rattle.equations.specs.Design.{Design}
use Rattle.equations.specs.Bending.{pipe_stiffness, shape_factor, farther_face}
use Rattle.equations.specs.Regrouped.{face_units, centroid_cube}
use Rattle.equations.proofs.Forms.{all_regroup}
use Rattle.quantities.specs.Known.{Known}
use Rattle.quantities.specs.Formulas.{parts_of, long_parts_of, bending_factor_of}
use Rattle.quantities.specs.Measured.{Measured}
use Rattle.quantities.specs.Quantities.{Bending, LoadFactor}
use Rattle.quantities.specs.declared.measures.Measures.{Measures}
use Rattle.quantities.proofs.Known.{known, known_at, known_along}
use Rattle.quantities.proofs.Quantities.{bending_known}
use Rattle.quantities.proofs.Supports.{pair_same, at_least_pair, at_most_pair}

module _ (d : Design) where
  pub given_same : (pos : 0 < 100 * 1) → (d.section.stiffness ≡ 0 → ⊥) → Same (record { num = d.section.stiffness; den = 100 * 1; pos = pos }) (pipe_stiffness d)
  unfolding pipe_stiffness
  given_same pos some = rw (ne_eqb d.section.stiffness 0 some) (same.sym (pair_same d.section.stiffness 100 pos))

  pub computed_same : (pos : 0 < 100 * (149 * centroid_cube d)) → d.section.stiffness ≡ 0 → Same (record { num = 800000000 * d.section.short_modulus * d.section.moment; den = 100 * (149 * centroid_cube d); pos = pos }) (pipe_stiffness d)
  unfolding pipe_stiffness
  computed_same pos none =
      rw (eq-eqb d.section.stiffness 0 none) (same.trans (same.sym (pair_same (800000000 * d.section.short_modulus * d.section.moment) (100 * (149 * centroid_cube d)) pos)) (all_regroup d).ring)

  -- the shape factor at the stiffness
  pub shape_same : (f : Ratio) (x : Fraction) → Same x (pipe_stiffness d) → Same (value f) (shape_at d.shape x) → Same (value f) (shape_factor d)
  unfolding shape_factor
  shape_same f x here found =
      same.trans found (same.over_one (whole 100) (line_cong (map (λ q. q.x) d.shape) (map (λ q. whole q.y) d.shape) (same.times here (same.refl (whole 100)))))

  module _ {E : Type 0} {m : Model E} (s : Sound m) where
    shape_known : (f : Ratio) → f.den ≤ f.num → f.num ≤ 10 * f.den → f.den ≤ 10 ^ 25 → Same (value f) (shape_factor d) → Known m 9 1 1 10 1 (shape_factor d) (long_parts_of (computed m) f.num f.den)
    shape_known f least most fits is =
        let n = f.num in
        let k = f.den in
        known_along s (same.trans (pair_same n k f.positive) is)
        (record {
          close = closed s ((as_tree m).div (long 1 (10 ^ 26) n (omega (arith, f.positive)) (omega arith)) (long 1 (10 ^ 25) k f.positive fits)) tt;
          least = lit< tt;
          most = lit< tt;
          above = at_least_pair 1 1 n k (lit< tt) f.positive (omega arith);
          below = at_most_pair 10 1 n k (lit< tt) f.positive (omega arith);
        })

    face_known : Known m 3 1 1000 120 1 (farther_face d) (parts_of (computed m) (face_units d) 1000)
    face_known =
        known_along s (all_regroup d).face (known s ((as_tree m).div (field 1 120000 (face_units d) (omega (arith, d.section.diameters)) (omega (arith, d.section.diameters))) ((as_tree m).num 1000)) 3 1 1000 120 1 tt)

    pub bending_steps : (p : Measures E) (f : Ratio) (load shape face e : E) → Measured m d p → LoadFactor m d load → f.den ≤ f.num → f.num ≤ 10 * f.den → f.den ≤ 10 ^ 25 → Same (value f) (shape_factor d) → shape ≡ long_parts_of (computed m) f.num f.den → face ≡ parts_of (computed m) (face_units d) 1000 → e ≡ bending_factor_of (computed m) load shape face p.centroid → Bending m d e
    bending_steps p f load shape face e k g least most fits is a b c =
        known_at c (bending_known s d g (known_at a (shape_known f least most fits is)) (known_at b face_known) k.centroid)
