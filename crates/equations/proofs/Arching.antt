-- The arching factor, without its difference.
use mathlib.Core.Path.{◌≡◌}
use Prim.Native.Nat.{ℕ, ◌+◌, ◌-◌, ◌*◌, ◌<◌}
use native.Mathlib.Omega.{arith}
use Rattle.fraction.specs.Fraction.{Fraction, whole, ◌⊕◌, ◌⊗◌, ◌⊘◌, ◌⊖◌, Same}
use Rattle.fraction.proofs.Order as order
use Rattle.fraction.proofs.Sames as same
use Rattle.equations.specs.Units.{hundredths, ten_thousandths}
use Rattle.equations.specs.Regrouped.{ArchingLaw}
use Rattle.equations.specs.Thrust.{arching}

taken_cross : (zn zd yn yd : ℕ) → ((zn * yd + yn * zd) * yd - yn * (zd * yd)) * zd ≡ zn * (zd * yd * yd)
taken_cross zn zd yn yd =
    let e : (zn * yd + yn * zd) * yd - yn * (zd * yd) ≡ zn * yd * yd = omega arith in rw e (omega arith)

pub taken : (z y : Fraction) → Same (z ⊕ y ⊖ y) z
unfolding ◌⊕◌ ◌⊖◌
taken z y = same.by_parts (taken_cross z.num z.den y.num y.den)

-- a difference is what makes up for it
pub difference : (x y z : Fraction) → Same (z ⊕ y) x → Same (x ⊖ y) z
difference x y z h = same.trans (same.excess (same.sym h) (same.refl y)) (taken z y)

-- a quotient's parts
pub over_plus : (x y z : Fraction) → 0 < y.num → Same ((x ⊗ y ⊕ z) ⊘ y) (x ⊕ z ⊘ y)
unfolding ◌⊕◌ ◌⊗◌ ◌⊘◌
over_plus x y z pos = same.by_parts (rw (order.one_max y.num pos) (omega arith))

module _ (sh : Fraction) where
  divisor_positive : 0 < (sh ⊕ hundredths 292).num
  unfolding ◌⊕◌ ◌⊘◌ whole
  divisor_positive = omega (arith, sh.pos)

  -- 0.05 (SH + 2.92) + 2.9039 + 0.71 SH = 0.76 (SH + 2.92) + 0.71 1.17
  made_up : Same (hundredths 5 ⊗ (sh ⊕ hundredths 292) ⊕ ten_thousandths 29039 ⊕ hundredths 71 ⊗ sh) (hundredths 76 ⊗ (sh ⊕ hundredths 292) ⊕ hundredths 71 ⊗ hundredths 117)
  unfolding ◌⊕◌ ◌⊗◌ ◌⊘◌ whole
  made_up = same.by_parts (omega arith)

  less : Same (hundredths 76 ⊗ (sh ⊕ hundredths 292) ⊕ hundredths 71 ⊗ hundredths 117 ⊖ hundredths 71 ⊗ sh) (hundredths 5 ⊗ (sh ⊕ hundredths 292) ⊕ ten_thousandths 29039)
  less = difference (hundredths 76 ⊗ (sh ⊕ hundredths 292) ⊕ hundredths 71 ⊗ hundredths 117) (hundredths 71 ⊗ sh) (hundredths 5 ⊗ (sh ⊕ hundredths 292) ⊕ ten_thousandths 29039) made_up

  pub arching_parts : Same (hundredths 5 ⊕ ten_thousandths 29039 ⊘ (sh ⊕ hundredths 292)) (arching sh)
  unfolding arching
  arching_parts =
      same.sym (same.trans (same.over divisor_positive less (same.refl (sh ⊕ hundredths 292))) (over_plus (hundredths 5) (sh ⊕ hundredths 292) (ten_thousandths 29039) divisor_positive))

  pub solved : Same (arching sh ⊗ (sh ⊕ hundredths 292) ⊕ hundredths 71 ⊗ sh) (hundredths 76 ⊗ (sh ⊕ hundredths 292) ⊕ hundredths 71 ⊗ hundredths 117)
  unfolding arching
  solved =
      let share = hundredths 76 ⊗ (sh ⊕ hundredths 292) ⊕ hundredths 71 ⊗ hundredths 117 ⊖ hundredths 71 ⊗ sh in
      let back = same.trans (same.over_times share (sh ⊕ hundredths 292) divisor_positive) less in
      same.trans (same.plus back (same.refl (hundredths 71 ⊗ sh))) made_up

pub arching_law : ArchingLaw
arching_law sh = solved sh
