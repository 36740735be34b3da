-- The fields of a record's line after the place, which is field 1: what each may hold.
use Rattle.std.specs.Prelude.{ℕ, ◌+◌, ◌%◌, Bool, cond, ◌&&◌, ◌||◌, List, [], ◌∷◌, length, Some, None, Option, ◌==◌, nat_le, slice_index_or}
use Rattle.records.specs.declared.fault.Cause.TheVariants.{Range}
use Rattle.records.specs.declared.fields.Allowed.{Allowed}
use Rattle.records.specs.declared.fields.Allowed.TheVariants.{Between, Among}
use Rattle.records.specs.Cause.{Refusal, refusal}

-- whether n is allowed: from a to b, or one of three
abbrev pub allows : Allowed → ℕ → Bool
allows (Between a b) n = nat_le a n && nat_le n b
allows (Among a b c) n = n == a || (n == b || n == c)

-- the first number that is not allowed, the numbers being fields f, f + 1 and so on; what is allowed is taken from
-- the list in turn, from its k-th on, and again from its first after its last
abbrev pub outside_from : List Allowed → ℕ → ℕ → List ℕ → Option Refusal
outside_from all k f [] = None
outside_from all k f (n ∷ ns) =
    cond (allows (slice_index_or all k (Between 0 0)) n) (outside_from all ((k + 1) % length all) (f + 1) ns) (Some (refusal Range f))

-- the same, from the first of what is allowed
abbrev pub outside : List Allowed → ℕ → List ℕ → Option Refusal
outside all f ns = outside_from all 0 f ns
