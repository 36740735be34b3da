-- What an arithmetic computes from whole numbers is close to the exact fraction.
use Rattle.std.proofs.Common.{◌^◌, Bool, ◌&&◌, T, leb, leb→le}
use lib.Ieee.Fits.{and_l, and_r}
use Rattle.fraction.proofs.Order.{le_refl}
use Rattle.enclosure.specs.Model.{Model, Sound}
use Rattle.enclosure.specs.Formula.{Steps, number, plus, times, over, least, most, exactly, computed, made_by, exact_of}
use Rattle.enclosure.specs.Close.{Close}
use Rattle.enclosure.specs.Theorems.{grade_of, tame_here, tame_steps, FormulasClose}
use Rattle.enclosure.proofs.Closeness.{close_whole}
use Rattle.enclosure.proofs.Narrow.{IsInRange, ranged, tame_between}
use Rattle.enclosure.proofs.Operations.{Operation, sum, product, quotient, smaller, larger, apply, grade_by, close_node}

range : (s : Steps) → T (tame_here s) → IsInRange (grade_of s) (exact_of s) (exact_of s)
range s t = ranged (grade_of s) (exact_of s) (exact_of s) t

module _ {E : Type 0} {m : Model E} (sound : Sound m) where
  -- one step more, where its own test and those of its operands hold
  step : (o : Operation) (here : Bool) (a b : Steps) → (T here → IsInRange (grade_by o (grade_of a) (grade_of b)) (apply exactly o (exact_of a) (exact_of b)) (apply exactly o (exact_of a) (exact_of b))) → (T (tame_steps a) → Close m (grade_of a) (exact_of a) (made_by m a)) → (T (tame_steps b) → Close m (grade_of b) (exact_of b) (made_by m b)) → T (here && (tame_steps a && tame_steps b)) → Close m (grade_by o (grade_of a) (grade_of b)) (apply exactly o (exact_of a) (exact_of b)) (apply (computed m) o (made_by m a) (made_by m b))
  step o here a b range_of c d t =
      let x = apply exactly o (exact_of a) (exact_of b) in
      let i = range_of (and_l here (tame_steps a && tame_steps b) t) in
      let r = and_r here (tame_steps a && tame_steps b) t in
      close_node sound o (c (and_l (tame_steps a) (tame_steps b) r)) (d (and_r (tame_steps a) (tame_steps b) r)) i.narrow (tame_between i (le_refl x) (le_refl x))

  pub steps_close : (s : Steps) → T (tame_steps s) → Close m (grade_of s) (exact_of s) (made_by m s)
  steps_close (number n) t =
      close_whole sound n (leb→le 1 n (and_l (leb 1 n) (leb n (2 ^ 62)) t)) (leb→le n (2 ^ 62) (and_r (leb 1 n) (leb n (2 ^ 62)) t))
  steps_close (plus a b) t =
      step sum (tame_here (plus a b)) a b (range (plus a b)) (steps_close a) (steps_close b) t
  steps_close (times a b) t =
      step product (tame_here (times a b)) a b (range (times a b)) (steps_close a) (steps_close b) t
  steps_close (over a b) t =
      step quotient (tame_here (over a b)) a b (range (over a b)) (steps_close a) (steps_close b) t
  steps_close (least a b) t =
      step smaller (tame_here (least a b)) a b (range (least a b)) (steps_close a) (steps_close b) t
  steps_close (most a b) t =
      step larger (tame_here (most a b)) a b (range (most a b)) (steps_close a) (steps_close b) t

pub formulas_close : (E : Type 0) → FormulasClose E
formulas_close E m sound s t = steps_close sound s t
