-- The two radices: base, digits after the first, fineness, exponent of one.
use Rattle.std.specs.Prelude.{refl}
use Rattle.std.proofs.Common.{lit≤}
use Rattle.rounding.specs.Radix.{Radix}

-- thirty-one binary digits
abbrev pub binary : Radix 2 30 1073741824 180
binary = ((lit≤ tt, lit≤ tt, refl), (lit≤ tt, lit≤ tt, lit≤ tt), (lit≤ tt, lit≤ tt))

-- nine decimal digits
abbrev pub decimal : Radix 10 8 100000000 52
decimal = ((lit≤ tt, lit≤ tt, refl), (lit≤ tt, lit≤ tt, lit≤ tt), (lit≤ tt, lit≤ tt))
