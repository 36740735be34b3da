-- What makes the points of a curve lawful.
use Rattle.std.specs.Prelude.{ℕ, ◌+◌, ◌-◌, ◌*◌, min, Bool, true, cond, not, ◌&&◌, List, [], ◌∷◌, length, take, drop, Some, None, Option, ◌==◌, nat_le, nat_lt, slice_index}
use Rattle.records.specs.declared.fault.Cause.TheVariants.{Order, Steep, Writing}
use Rattle.records.specs.declared.fields.Allowed.TheVariants.{Between}
use Rattle.records.specs.declared.point.Point.{Point}
use Rattle.records.specs.declared.point.Rule.{Rule}
use Rattle.records.specs.declared.point.Rule.TheVariants.{NeverFalling, NeverRising, Gentle}
use Rattle.records.specs.declared.point.CurveRules.{CurveRules}
use Rattle.records.specs.Cause.{Refusal, refusal, first, none}
use Rattle.records.specs.Fields.{outside}

-- pressure: hundredths of psi, up to 20,000; modulus: psi, from 50 to 50,000
abbrev pub embedment_rules : CurveRules
embedment_rules = record { reach = 20000; least = 50; most = 50000; trend = NeverFalling }

-- stiffness: hundredths of psi, up to 100,000; factor: hundredths, from 100 to 1,000
abbrev pub shape_rules : CurveRules
shape_rules = record { reach = 100000; least = 100; most = 1000; trend = NeverRising }

-- |y2 - y1| x2 > 4 min(y1, y2) (x2 - x1)
abbrev pub too_steep : Point → Point → Bool
too_steep p q = nat_lt (4 * min p.y q.y * (q.x - p.x)) (((p.y - q.y) + (q.y - p.y)) * q.x)

-- what is asked of a point and the next
abbrev pub holds : Rule → Point → Point → Bool
holds NeverFalling p q = nat_lt p.x q.x && nat_le p.y q.y
holds NeverRising p q = nat_lt p.x q.x && nat_le q.y p.y
holds Gentle p q = not (too_steep p q)

-- a test passes for x and the first of the items, and for each of them and the next
abbrev pub linked : {X : Type 0} → (X → X → Bool) → X → List X → Bool
linked test x [] = true
linked test x (y ∷ ys) = test x y && linked test y ys

-- a test passes for each item and the next
abbrev pub chained : {X : Type 0} → (X → X → Bool) → List X → Bool
chained test [] = true
chained test (x ∷ xs) = linked test x xs

-- the fields of points
abbrev pub flat : List Point → List ℕ
flat [] = []
flat (p ∷ ps) = p.x ∷ p.y ∷ flat ps

-- the points of fields, two by two
abbrev pub paired : List ℕ → List Point
paired [] = []
paired (x ∷ []) = []
paired (x ∷ (y ∷ ns)) = record { x = x; y = y } ∷ paired ns

-- a curve's fields after the place: a count, and as many points
abbrev pub curve_line : List Point → List ℕ
curve_line ps = length ps ∷ flat ps

-- there are as many fields as the count asks for; a missing count asks for none
abbrev pub curve_complete : List ℕ → Bool
curve_complete ns = length ns == 1 + 2 * slice_index ns 0

-- why the numbers make no curve of these rules: the count is field 2, and the points' fields go on from 3
abbrev pub curve_refusal : CurveRules → List ℕ → Option Refusal
curve_refusal r ns =
    cond (curve_complete ns)
    (first (outside (Between 1 8 ∷ []) 2 (take 1 ns))
    (first (outside (Between 1 r.reach ∷ Between r.least r.most ∷ []) 3 (drop 1 ns))
    (cond (chained (holds r.trend) (paired (drop 1 ns))) (cond (chained (holds Gentle) (paired (drop 1 ns))) None (Some (refusal Steep 0))) (Some (refusal Order 0)))))
    (Some (refusal Writing 0))

-- nothing is refused in the line that states the points
abbrev pub lawful_points : CurveRules → List Point → Bool
lawful_points r ps = none (curve_refusal r (curve_line ps))
