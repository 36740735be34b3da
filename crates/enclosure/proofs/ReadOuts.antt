-- What is read out bounds what is enclosed.
use Rattle.std.proofs.Common.{ℕ, ◌+◌, ◌-◌, ◌/◌, Bool, true, false, cond, Some, None, div-mul-le_self, arith}
use native.Mathlib.Nat.{lt-div-mul-add}
use Rattle.fraction.specs.Fraction.{Fraction, whole, ◌≼◌}
use Rattle.fraction.proofs.Order.{le_trans}
use Rattle.enclosure.specs.Model.{Upper, at, unbounded, Below}
use Rattle.enclosure.specs.Readings.{read_above, Under, Over}
use Rattle.enclosure.specs.Theorems.{ReadingsBound}

floor_le : (x : Fraction) → whole (x.num / x.den) ≼ x
unfolding whole
floor_le x = record { cross = let h = div-mul-le_self x.num x.den in omega arith }

le_ceiling : (x : Fraction) → x ≼ whole ((x.num + (x.den - 1)) / x.den)
unfolding whole
le_ceiling x = record { cross = let h = lt-div-mul-add {a = x.num + (x.den - 1)} x.pos in omega (arith, x.pos) }

under_by : (t : Bool) (n : ℕ) (x : Fraction) → whole n ≼ x → Under (cond t (Some n) None) x
under_by true n x h = h
under_by false n x h = tt

over_by : (t : Bool) (n : ℕ) (x : Fraction) → x ≼ whole n → Over (cond t (Some n) None) x
over_by true n x h = h
over_by false n x h = tt

over : (t : Upper) (x : Fraction) → Below x t → Over (read_above t) x
over (at h) x p = over_by _ ((h.num + (h.den - 1)) / h.den) x (le_trans p (le_ceiling h))
over unbounded x p = tt

pub readings_bound : {E : Type 0} → ReadingsBound E
readings_bound m e x c =
    record {
      below = under_by _ ((m.lower e).num / (m.lower e).den) x (le_trans (floor_le (m.lower e)) c.low);
      above = over (m.upper e) x c.high;
    }
