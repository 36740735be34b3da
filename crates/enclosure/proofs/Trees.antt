-- Formulas as trees of which every node's bounds are known: one theorem for all that the test accepts.
use Rattle.std.proofs.Common.{ℕ, ◌*◌, ◌^◌, ◌<◌, ◌≤◌, Bool, true, ◌&&◌, T, leb, arith, lit<, leb→le}
use lib.Ieee.Fits.{and_l, and_r}
use Rattle.fraction.specs.Fraction.{Fraction, ratio, whole, ◌≼◌}
use Rattle.fraction.proofs.Order.{le_trans, whole_le}
use Rattle.enclosure.specs.Model.{Model, Sound}
use Rattle.enclosure.specs.Formula.{Ops, exactly, computed, wide_of}
use Rattle.enclosure.specs.Close.{Close, in_range}
use Rattle.enclosure.proofs.Closeness.{close_whole}
use Rattle.enclosure.proofs.Narrow.{IsInRange, ranged, least_positive, tame_between, tame_positive}
use Rattle.enclosure.proofs.Operations.{Operation, sum, product, quotient, smaller, larger, apply, grade_by, close_node, reckoned, facing, bound_below, bound_above}
use Rattle.enclosure.proofs.WideNumbers.{close_wide}

-- A leaf is an enclosure that is close to a fraction between two numerals (its own, or better ones for what a tree
-- computed), a whole number up to 2 ^ 62 between two numerals, or one up to 10 ^ 35, which is computed in parts
pub data Tree {E : Type 0} (m : Model E) : Type 0 where
  given : {n : ℕ} {x : Fraction} {e : E} (low_num low_den high_num high_den : ℕ) (p : 0 < low_den) (q : 0 < high_den) → Close m n x e → ratio low_num low_den p ≼ x → x ≼ ratio high_num high_den q → Tree m
  field : (low high k : ℕ) → low ≤ k → k ≤ high → Tree m
  long : (low high k : ℕ) → low ≤ k → k ≤ high → Tree m
  node : Operation → Tree m → Tree m → Tree m

-- a formula read as a tree
abbrev pub as_tree : {E : Type 0} (m : Model E) → Ops (Tree m)
as_tree m =
    record {
      num = λ k. field k k k (omega arith) (omega arith);
      add = node sum;
      mul = node product;
      div = node quotient;
      smaller = node smaller;
      larger = node larger;
    }

abbrev numeral : (n d : ℕ) → 0 < d → Fraction
numeral n d h = record { num = n; den = d; pos = h }

module _ {E : Type 0} {m : Model E} where
  abbrev pub exact : Tree m → Fraction
  exact (given {x} a b c d p q h l u) = x
  exact (field a b k h l) = whole k
  exact (long a b k h l) = whole k
  exact (node o f g) = apply exactly o (exact f) (exact g)

  abbrev pub value : Tree m → E
  value (given {e} a b c d p q h l u) = e
  value (field a b k h l) = m.from_whole k
  value (long a b k h l) = wide_of (computed m) k
  value (node o f g) = apply (computed m) o (value f) (value g)

  abbrev pub grade : Tree m → ℕ
  grade (given {n} a b c d p q h l u) = n
  grade (field a b k h l) = 1
  grade (long a b k h l) = 4
  grade (node o f g) = grade_by o (grade f) (grade g)

  abbrev mutual
    pub low : Tree m → Fraction
    low (given a b c d p q h l u) = numeral a b p
    low (field a b k h l) = numeral a 1 (lit< tt)
    low (long a b k h l) = numeral a 1 (lit< tt)
    low (node o f g) = reckoned o (low f) (facing o (low g) (high g))

    pub high : Tree m → Fraction
    high (given a b c d p q h l u) = numeral c d q
    high (field a b k h l) = numeral b 1 (lit< tt)
    high (long a b k h l) = numeral b 1 (lit< tt)
    high (node o f g) = reckoned o (high f) (facing o (high g) (low g))

  -- at each node the grade and the bounds are in range
  abbrev fits : Tree m → Bool
  fits f = in_range (grade f) (low f) (high f)

  abbrev parts_ok : Tree m → Bool
  parts_ok (given a b c d p q h l u) = true
  parts_ok (field a b k h l) = leb b (2 ^ 62)
  parts_ok (long a b k h l) = true
  parts_ok (node o f g) = (fits f && parts_ok f) && (fits g && parts_ok g)

  abbrev pub ok : Tree m → Bool
  ok f = fits f && parts_ok f

  -- what the test shows of a node
  pub record Closed (f : Tree m) : Type 0 where
    pub close : Close m (grade f) (exact f) (value f)
    pub above : low f ≼ exact f
    pub below : exact f ≼ high f

  fitting : (f : Tree m) → T (fits f) → IsInRange (grade f) (low f) (high f)
  fitting f t = ranged (grade f) (low f) (high f) t

  module _ (s : Sound m) where
    closed_node : (o : Operation) (f g : Tree m) → IsInRange (grade (node o f g)) (low (node o f g)) (high (node o f g)) → IsInRange (grade g) (low g) (high g) → Closed f → Closed g → Closed (node o f g)
    closed_node o f g here other a b =
        let pos = least_positive other.least in
        let some = tame_positive b.close.tame in
        let above = bound_below a.above a.below b.above b.below pos some o in
        let below = bound_above a.above a.below b.above b.below pos some o in
        record {
          close = close_node s o a.close b.close here.narrow (tame_between here above below);
          above = above;
          below = below;
        }

    closed_by : (f : Tree m) → T (fits f) → T (parts_ok f) → Closed f
    unfolding ratio whole
    closed_by (given a b c d p q h l u) t r = record { close = h; above = record { cross = l.cross }; below = record { cross = u.cross } }
    closed_by (field a b k h l) t r =
        let fit = fitting (field a b k h l) t in
        let up = leb→le b (2 ^ 62) r in
        record {
          close = close_whole s k (omega (arith, fit.least.cross)) (omega arith);
          above = record { cross = (whole_le h).cross };
          below = record { cross = (whole_le l).cross };
        }
    closed_by (long a b k h l) t r =
        let fit = fitting (long a b k h l) t in
        record {
          close = close_wide s k (omega (arith, fit.least.cross)) (omega (arith, fit.most.cross));
          above = record { cross = (whole_le h).cross };
          below = record { cross = (whole_le l).cross };
        }
    closed_by (node o f g) t r =
        let u = and_l (fits f && parts_ok f) (fits g && parts_ok g) r in
        let v = and_r (fits f && parts_ok f) (fits g && parts_ok g) r in
        closed_node o f g (fitting (node o f g) t) (fitting g (and_l (fits g) (parts_ok g) v))
        (closed_by f (and_l (fits f) (parts_ok f) u) (and_r (fits f) (parts_ok f) u))
        (closed_by g (and_l (fits g) (parts_ok g) v) (and_r (fits g) (parts_ok g) v))

    -- the one theorem
    pub closed_all : (f : Tree m) → T (ok f) → Closed f
    closed_all f t = closed_by f (and_l (fits f) (parts_ok f) t) (and_r (fits f) (parts_ok f) t)

    pub closed : (f : Tree m) → T (ok f) → Close m (grade f) (exact f) (value f)
    closed f t = (closed_all f t).close

    -- and the bounds of the exact fraction, in numerals
    pub at_least : (n d : ℕ) (p : 0 < d) (f : Tree m) → T (ok f) → T (leb (n * (low f).den) ((low f).num * d)) → ratio n d p ≼ exact f
    unfolding ratio
    at_least n d p f t h =
        let first : numeral n d p ≼ low f = record { cross = leb→le (n * (low f).den) ((low f).num * d) h } in le_trans first (closed_all f t).above

    pub at_most : (n d : ℕ) (p : 0 < d) (f : Tree m) → T (ok f) → T (leb ((high f).num * d) (n * (high f).den)) → exact f ≼ ratio n d p
    unfolding ratio
    at_most n d p f t h =
        let last : high f ≼ numeral n d p = record { cross = leb→le ((high f).num * d) (n * (high f).den) h } in le_trans (closed_all f t).below last
