-- What reading out an enclosure gives.
use Rattle.std.specs.Prelude.{ℕ, ◌+◌, ◌-◌, ◌/◌, ◌^◌, cond, Some, None, Option, nat_le}
use Rattle.fraction.specs.Fraction.{Fraction, whole, ◌≼◌}
use Rattle.enclosure.specs.Model.{Upper, at, unbounded}

-- n, or none past 10 ^ 18
abbrev pub readable : ℕ → Option ℕ
readable n = cond (nat_le n (10 ^ 18)) (Some n) None

-- the whole number below a lower end: its floor
abbrev pub read_below : Fraction → Option ℕ
read_below x = readable (x.num / x.den)

-- the whole number above an upper end: its ceiling
abbrev pub read_above : Upper → Option ℕ
read_above (at x) = readable ((x.num + (x.den - 1)) / x.den)
read_above unbounded = None

-- a reading, if there is one, is not above x; or not below it
abbrev pub Under : Option ℕ → Fraction → Type 0
Under (Some n) x = whole n ≼ x
Under None x = Unit {0}

abbrev pub Over : Option ℕ → Fraction → Type 0
Over (Some n) x = x ≼ whole n
Over None x = Unit {0}
