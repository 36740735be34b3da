-- The ratios that the code computes with, as fractions.
use Rattle.std.specs.Prelude.{ℕ, zero, suc, ◌*◌, Bool, Some, None, Option, nat_le}
use Rattle.std.proofs.Common.{arith}
use Rattle.std.specs.Ordering.{nat_cmp}
use Rattle.std.specs.declared.cmp.Ordering.{Ordering}
use Rattle.fraction.specs.Fraction.{Fraction}
use Rattle.fraction.specs.declared.ratio.Ratio.{Ratio}

-- the fraction that a ratio stands for
abbrev pub value : Ratio → Fraction
value r = record { num = r.num; den = r.den; pos = r.positive }

-- n over d, or nothing over 0
abbrev pub ratio_of : (n d : ℕ) → Option Ratio
ratio_of n zero = None
ratio_of n (suc d) = Some (record { num = n; den = suc d; positive = omega arith })

-- whether x is at most y
abbrev pub at_most : Fraction → Fraction → Bool
at_most x y = nat_le (x.num * y.den) (y.num * x.den)

-- how x compares with y
abbrev pub order : Fraction → Fraction → Ordering
order x y = nat_cmp (x.num * y.den) (y.num * x.den)
