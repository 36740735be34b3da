-- The five operations under one name: what each does, the grade and the bounds of its result.
use Rattle.std.proofs.Common.{ℕ, ◌+◌, ◌*◌, ◌<◌, ◌≤◌, min, max, mul-pos, arith}
use Rattle.fraction.specs.Fraction.{Fraction, ◌⊕◌, ◌⊗◌, ◌⊘◌, ◌⊔◌, ◌⊓◌, ◌≼◌}
use Rattle.fraction.proofs.Order.{plus_le, times_le, over_le}
use Rattle.fraction.proofs.Lattice.{smaller_mono, larger_mono}
use Rattle.enclosure.specs.Model.{Model, Sound}
use Rattle.enclosure.specs.Formula.{Ops, exactly, computed}
use Rattle.enclosure.specs.Close.{Close, Tame}
use Rattle.enclosure.proofs.Closeness.{close_plus, close_times, close_over, close_smaller, close_larger}

pub data Operation : Type 0 where
  sum : Operation
  product : Operation
  quotient : Operation
  smaller : Operation
  larger : Operation

abbrev pub apply : {T : Type 0} → Ops T → Operation → T → T → T
apply o sum x y = o.add x y
apply o product x y = o.mul x y
apply o quotient x y = o.div x y
apply o smaller x y = o.smaller x y
apply o larger x y = o.larger x y

abbrev pub grade_by : Operation → ℕ → ℕ → ℕ
grade_by sum n k = max n k + 1
grade_by product n k = n + k + 1
grade_by quotient n k = n + k + 1
grade_by smaller n k = max n k
grade_by larger n k = max n k

module _ {E : Type 0} {m : Model E} (sound : Sound m) where
  pub close_node : (o : Operation) {n k : ℕ} {x y : Fraction} {e f : E} → Close m n x e → Close m k y f → grade_by o n k ≤ 100000 → Tame (apply exactly o x y) → Close m (grade_by o n k) (apply exactly o x y) (apply (computed m) o e f)
  close_node sum c d le t = close_plus sound c d (omega arith) t
  close_node product c d le t = close_times sound c d (omega arith) t
  close_node quotient c d le t = close_over sound c d (omega arith) t
  close_node smaller c d le t = close_smaller sound c d le
  close_node larger c d le t = close_larger sound c d le

-- the operations of fractions, open to computing at numerals
abbrev pub reckoned : Operation → Fraction → Fraction → Fraction
reckoned sum x y = record { num = x.num * y.den + y.num * x.den; den = x.den * y.den; pos = mul-pos x.pos y.pos }
reckoned product x y = record { num = x.num * y.num; den = x.den * y.den; pos = mul-pos x.pos y.pos }
reckoned quotient x y = record { num = x.num * y.den; den = x.den * max 1 y.num; pos = mul-pos x.pos (omega arith) }
reckoned smaller x y = record { num = min (x.num * y.den) (y.num * x.den); den = x.den * y.den; pos = mul-pos x.pos y.pos }
reckoned larger x y = record { num = max (x.num * y.den) (y.num * x.den); den = x.den * y.den; pos = mul-pos x.pos y.pos }

-- which end of the second operand bounds the result on the side of the first's end `near`
abbrev pub facing : Operation → (near far : Fraction) → Fraction
facing sum near far = near
facing product near far = near
facing quotient near far = far
facing smaller near far = near
facing larger near far = near

-- the bounds hold where the second operand's lower bound is above 0
module _ {x y l h p q : Fraction} (xl : l ≼ x) (xh : x ≼ h) (yl : p ≼ y) (yh : y ≼ q) (pos : 0 < p.num) (some : 0 < y.num) where
  pub bound_below : (o : Operation) → reckoned o l (facing o p q) ≼ apply exactly o x y
  unfolding ◌⊕◌ ◌⊗◌ ◌⊘◌ ◌⊓◌ ◌⊔◌
  bound_below sum = record { cross = (plus_le xl yl).cross }
  bound_below product = record { cross = (times_le xl yl).cross }
  bound_below quotient = record { cross = (over_le some xl yh).cross }
  bound_below smaller = record { cross = (smaller_mono xl yl).cross }
  bound_below larger = record { cross = (larger_mono xl yl).cross }

  pub bound_above : (o : Operation) → apply exactly o x y ≼ reckoned o h (facing o q p)
  unfolding ◌⊕◌ ◌⊗◌ ◌⊘◌ ◌⊓◌ ◌⊔◌
  bound_above sum = record { cross = (plus_le xh yh).cross }
  bound_above product = record { cross = (times_le xh yh).cross }
  bound_above quotient = record { cross = (over_le pos xh yl).cross }
  bound_above smaller = record { cross = (smaller_mono xh yh).cross }
  bound_above larger = record { cross = (larger_mono xh yh).cross }
