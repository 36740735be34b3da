-- Why the console refuses: each cause by its number, and a refusal as it is printed.
use Rattle.std.specs.Prelude.{ℕ, ◌++◌, List, Bool, true, false, Some, None, Ok, Err, Option, Result, codes, decimal}
use Rattle.records.specs.declared.fault.Cause.{Cause}
use Rattle.records.specs.declared.fault.Cause.TheVariants.{Place, Range, Order, Steep, Empty, Trench, Water, Figure, Claim, Tally, Writing, Part, Trailer, Length}
use Rattle.records.specs.declared.fault.Fault.{Fault}

-- the number that a cause is printed under
abbrev pub number : Cause → ℕ
number Place = 1
number Range = 2
number Order = 3
number Steep = 4
number Empty = 5
number Trench = 6
number Water = 7
number Figure = 8
number Claim = 9
number Tally = 10
number Writing = 11
number Part = 12
number Trailer = 13
number Length = 14

-- the cause's number, and the number of the field at fault, 0 where it lies in no one field
pub record Refusal : Type 0 where
  pub cause : ℕ
  pub field : ℕ

-- the refusal of a cause at a field
abbrev pub refusal : Cause → ℕ → Refusal
refusal c f = record { cause = number c; field = f }

-- a fault as it is printed
abbrev pub stated : Fault → Refusal
stated f = refusal f.cause f.field

-- a fault in words: the number of its cause, and that of its field
abbrev pub fault_text : Fault → List ℕ
fault_text f = codes "cause " ++ decimal (number f.cause) ++ codes " in field " ++ decimal f.field

-- the first of two refusals
abbrev pub first : Option Refusal → Option Refusal → Option Refusal
first None o = o
first (Some e) o = Some e

-- nothing is refused
abbrev pub none : Option Refusal → Bool
none None = true
none (Some e) = false

-- the refusal that a test answers
abbrev pub refused : {R : Type 0} → Result R Fault → Option Refusal
refused (Ok r) = None
refused (Err f) = Some (stated f)

-- what a maker answers: what it made, as it is told, or the refusal
abbrev pub answered : {R S : Type 0} → (R → S) → Result R Fault → Result S Refusal
answered told (Ok r) = Ok (told r)
answered told (Err f) = Err (stated f)

-- this, where nothing is refused
abbrev pub unless : {S : Type 0} → Option Refusal → S → Result S Refusal
unless None s = Ok s
unless (Some e) s = Err e
