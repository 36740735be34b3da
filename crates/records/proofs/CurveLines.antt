-- The ways through a curve's line, and what a lawful curve keeps.
use Rattle.std.proofs.Common.{◌≡◌, ℕ, zero, suc, ◌+◌, ◌-◌, ◌*◌, ◌<◌, ◌≤◌, true, false, T, List, [], ◌∷◌, length, get_or, take, drop, Some, None, Ok, Err, Option, sym, refl, ap, subst, le_of_suc-le-suc, not-suc-le-zero, arith, length-drop, take_all, eqb-true}
use Rattle.records.specs.declared.fault.Cause.TheVariants.{Range, Order, Steep}
use Rattle.records.specs.declared.fields.Allowed.{Allowed}
use Rattle.records.specs.declared.fields.Allowed.TheVariants.{Between}
use Rattle.records.specs.declared.point.CurveRules.{CurveRules}
use Rattle.records.specs.declared.point.Point.{Point}
use Rattle.records.specs.declared.point.Rule.TheVariants.{Gentle}
use Rattle.records.specs.Cause.{Refusal, refusal, none, unless}
use Rattle.records.specs.Curve.{holds, chained, curve_complete, curve_line, curve_refusal, lawful_points, flat, paired}
use Rattle.records.specs.Fields.{allows, outside}
use Rattle.records.proofs.Pairs.{flat_paired, paired_length}
use Rattle.records.proofs.Ranges.{cond_none, first_none, none_found, between}

abbrev ranges : CurveRules → List Allowed
ranges r = Between 1 r.reach ∷ Between r.least r.most ∷ []

-- the fields after the count, as the code cuts them out
abbrev rest : List ℕ → List ℕ
rest ns = take (length ns - 1) (drop 1 ns)

rest_is : (ns : List ℕ) → rest ns ≡ drop 1 ns
rest_is ns = take_all (length ns - 1) (drop 1 ns) (omega (arith, length-drop 1 ns))

line_back : (ns : List ℕ) → true ≡ curve_complete ns → curve_line (paired (drop 1 ns)) ≡ ns
line_back [] h = absurd (omega (arith, eqb-true 0 1 (sym h)))
line_back (n ∷ ns) h =
    let e : length ns ≡ 2 * n = omega (arith, eqb-true (length (n ∷ ns)) (1 + 2 * n) (sym h)) in
    rw (flat_paired n ns e, paired_length n ns (omega arith) (omega arith))

-- why a complete line of a lawful count is refused
module _ (r : CurveRules) (ns : List ℕ) (complete : true ≡ curve_complete ns) (count : None ≡ outside (Between 1 8 ∷ []) 2 (take 1 ns)) where
  pub field_refused : (e : Refusal) → Some e ≡ outside (ranges r) 3 (rest ns) → Err e ≡ unless (curve_refusal r ns) ns
  field_refused e h = let k = rw (rest_is ns) at h in rw (← complete, ← count, ← k)

  module _ (fields : None ≡ outside (ranges r) 3 (rest ns)) where
    pub order_broken : false ≡ chained (holds r.trend) (paired (rest ns)) → Err (refusal Order 0) ≡ unless (curve_refusal r ns) ns
    order_broken h = let k = rw (rest_is ns) at h in let f = rw (rest_is ns) at fields in rw (← complete, ← count, ← f, ← k)

    pub steep : true ≡ chained (holds r.trend) (paired (rest ns)) → false ≡ chained (holds Gentle) (paired (rest ns)) → Err (refusal Steep 0) ≡ unless (curve_refusal r ns) ns
    steep h g = let k = rw (rest_is ns) at h in let l = rw (rest_is ns) at g in let f = rw (rest_is ns) at fields in rw (← complete, ← count, ← f, ← k, ← l)

-- what is answered for a line is lawful
pub line_lawful : (r : CurveRules) (ps : List Point) (ns : List ℕ) → Ok (curve_line ps) ≡ unless (curve_refusal r ns) ns → T (lawful_points r ps)
line_lawful r ps ns e = by (curve_refusal r ns) refl e
  where
    by : (o : Option Refusal) → curve_refusal r ns ≡ o → Ok (curve_line ps) ≡ unless o ns → T (lawful_points r ps)
    by None h e = let k : ns ≡ curve_line ps = cc in subst (λ (m : List ℕ). T (none (curve_refusal r m))) k (rw h tt)
    by (Some x) h e = let z : ◌≡◌ {A = ℕ} 0 1 = cc in absurd (omega arith)

-- a line that has passed the tests makes a lawful curve, and states it
pub curve_made : (r rules : CurveRules) (ns : List ℕ) (ps xs ys : List Point) → r ≡ rules → true ≡ curve_complete ns → None ≡ outside (Between 1 8 ∷ []) 2 (take 1 ns) → None ≡ outside (ranges r) 3 (rest ns) → ps ≡ paired (rest ns) → xs ≡ ps → true ≡ chained (holds r.trend) xs → ys ≡ ps → true ≡ chained (holds Gentle) ys → (Ok (curve_line ps) ≡ unless (curve_refusal rules ns) ns) × T (lawful_points rules ps)
curve_made r rules ns ps xs ys q complete count fields p x h y g = (e, line_lawful rules ps ns e)
  where
    d : paired (rest ns) ≡ paired (drop 1 ns)
    d = ap paired (rest_is ns)

    e : Ok (curve_line ps) ≡ unless (curve_refusal rules ns) ns
    e =
        let k = rw (x, p, d, q) at h in
        let l = rw (y, p, d) at g in
        let f = rw (rest_is ns, q) at fields in
        rw (p, d, ← complete, ← count, ← f, ← k, ← l) (ap (λ (m : List ℕ). Ok m) (line_back ns complete))

abbrev pub nil : Point
nil = record { x = 0; y = 0 }

-- a point in its ranges
abbrev Inside : CurveRules → Point → Type 0
Inside r p = (1 ≤ p.x) × (p.x ≤ r.reach) × (r.least ≤ p.y) × (p.y ≤ r.most)

-- what a curve keeps, for those who read it
pub record Kept (r : CurveRules) (ps : List Point) : Type 0 where
  pub count : (1 ≤ length ps) × (length ps ≤ 8)
  pub inside : (k : ℕ) → k < length ps → Inside r (get_or ps k nil)

one_inside : (r : CurveRules) (f : ℕ) (p : Point) (ps : List Point) → None ≡ outside (ranges r) f (flat (p ∷ ps)) → Inside r p × (None ≡ outside (ranges r) (f + 1 + 1) (flat ps))
one_inside r f p ps e =
    let a = cond_none (allows (Between 1 r.reach) p.x) _ (refusal Range f) e in
    let b = cond_none (allows (Between r.least r.most) p.y) _ (refusal Range (f + 1)) a.1 in
    let x = between 1 r.reach p.x a.0 in
    let y = between r.least r.most p.y b.0 in
    ((x.0, x.1, y.0, y.1), b.1)

inside_at : (r : CurveRules) (f : ℕ) (ps : List Point) → None ≡ outside (ranges r) f (flat ps) → (k : ℕ) → k < length ps → Inside r (get_or ps k nil)
inside_at r f [] e k h = absurd (not-suc-le-zero h)
inside_at r f (p ∷ ps) e zero h = (one_inside r f p ps e).0
inside_at r f (p ∷ ps) e (suc k) h = inside_at r (f + 1 + 1) ps (one_inside r f p ps e).1 k (le_of_suc-le-suc h)

pub points_kept : (r : CurveRules) (ps : List Point) → T (lawful_points r ps) → Kept r ps
points_kept r ps t =
    let a = cond_none _ _ _ (none_found (curve_refusal r (curve_line ps)) t) in
    let b = first_none _ _ a.1 in
    let c = first_none _ _ b.1 in
    record { count = between 1 8 (length ps) (cond_none _ _ _ b.0).0; inside = inside_at r 3 ps c.0 }
