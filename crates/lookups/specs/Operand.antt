-- What the operands of a lookup stand for.
use Rattle.std.specs.Prelude.{◌*◌}
use Rattle.std.proofs.Common.{mul-pos, lit<}
use Rattle.fraction.specs.Fraction.{Fraction}
use Rattle.lookups.specs.declared.operand.Modulus.{Modulus}
use Rattle.lookups.specs.declared.operand.Pressure.{Pressure}
use Rattle.lookups.specs.declared.operand.Stiffness.{Stiffness}

-- psi
abbrev pub pressure_of : Pressure → Fraction
pressure_of p = record { num = p.num; den = p.den; pos = p.positive }

-- psi, of what is stated in hundredths
abbrev pub stiffness_of : Stiffness → Fraction
stiffness_of s = record { num = s.num; den = 100 * s.den; pos = mul-pos (lit< tt) s.positive }

-- psi
abbrev pub modulus_of : Modulus → Fraction
modulus_of m = record { num = m.num; den = m.den; pos = m.positive }
