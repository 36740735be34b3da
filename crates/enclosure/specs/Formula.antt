-- A formula once, over any numbers: the exact fractions, or the enclosures of an arithmetic.
use Rattle.std.specs.Prelude.{◌≡◌, ℕ, ◌+◌, ◌-◌, ◌/◌, ◌%◌, ◌^◌, cond, nat_le}
use Rattle.fraction.specs.Fraction.{Fraction, whole, ◌⊕◌, ◌⊗◌, ◌⊘◌, ◌⊔◌, ◌⊓◌}
use Rattle.enclosure.specs.Model.{Model}

-- the operations that formulas are made of
pub record Ops (T : Type 0) : Type 0 where
  pub num : ℕ → T
  pub add : T → T → T
  pub mul : T → T → T
  pub div : T → T → T
  pub smaller : T → T → T
  pub larger : T → T → T

-- a formula read in exact fractions
abbrev pub exactly : Ops Fraction
exactly = record { num = whole; add = ◌⊕◌; mul = ◌⊗◌; div = ◌⊘◌; smaller = ◌⊓◌; larger = ◌⊔◌ }

-- a formula read in an arithmetic
abbrev pub computed : {E : Type 0} → Model E → Ops E
computed m = record { num = m.from_whole; add = m.sum; mul = m.product; div = m.quotient; smaller = m.smaller; larger = m.larger }

-- a computation from whole numbers
pub data Steps : Type 0 where
  number : ℕ → Steps
  plus : Steps → Steps → Steps
  times : Steps → Steps → Steps
  over : Steps → Steps → Steps
  least : Steps → Steps → Steps
  most : Steps → Steps → Steps

-- what it comes to over some numbers
abbrev pub read : {T : Type 0} → Ops T → Steps → T
read o (number n) = o.num n
read o (plus s t) = o.add (read o s) (read o t)
read o (times s t) = o.mul (read o s) (read o t)
read o (over s t) = o.div (read o s) (read o t)
read o (least s t) = o.smaller (read o s) (read o t)
read o (most s t) = o.larger (read o s) (read o t)

-- what an arithmetic makes of it, and the exact fraction that it stands for
abbrev pub made_by : {E : Type 0} → Model E → Steps → E
made_by m = read (computed m)

abbrev pub exact_of : Steps → Fraction
exact_of = read exactly

-- e is what the arithmetic's own operations make of whole numbers
pub record Made {E : Type 0} (m : Model E) (e : E) : Type 0 where
  pub steps : Steps
  pub is : made_by m steps ≡ e

-- n itself up to 2 ^ 62, and past that n = high 2 ^ 61 + low, with low from 1 to 2 ^ 61
abbrev pub parted : {T : Type 0} → Ops T → (ℕ → T) → ℕ → T
parted o above n =
    cond (nat_le n (2 ^ 62)) (o.num n) (o.add (o.mul (above ((n - 1) / 2 ^ 61)) (o.num (2 ^ 61))) (o.num ((n - 1) % 2 ^ 61 + 1)))

-- a whole number of up to 128 bits; past 2 ^ 123 its high part is parted in turn
abbrev pub wide_of : {T : Type 0} → Ops T → ℕ → T
wide_of o = parted o (parted o o.num)
