-- What makes a pipe section lawful.
use Rattle.std.specs.Prelude.{ℕ, Bool, cond, ◌&&◌, List, [], ◌∷◌, length, Some, None, Option, ◌==◌, nat_le, nat_lt, slice_index}
use Rattle.records.specs.declared.fault.Cause.TheVariants.{Order, Writing}
use Rattle.records.specs.declared.fields.Allowed.{Allowed}
use Rattle.records.specs.declared.fields.Allowed.TheVariants.{Between}
use Rattle.records.specs.Cause.{Refusal, refusal, first}
use Rattle.records.specs.Fields.{outside}

-- what each of the eleven fields may hold
abbrev pub section_ranges : List Allowed
section_ranges =
    -- inside, centroid and outside diameter: mil
    Between 3000 120000 ∷ Between 3000 120000 ∷ Between 3000 120000
    -- gross and effective area: ten-thousandths of in²/in
    ∷ Between 100 100000 ∷ Between 100 100000
    -- moment of inertia: millionths of in⁴/in
    ∷ Between 100 100000000
    -- short- and long-term modulus: psi
    ∷ Between 1000 1000000 ∷ Between 1000 1000000
    -- compression and tension strain limit: parts in 10,000
    ∷ Between 1 2000 ∷ Between 1 2000
    -- stiffness: hundredths of psi, 0 where it is not given
    ∷ Between 0 100000 ∷ []

-- inside < centroid < outside diameter; the effective area is at most the gross one, the long-term modulus at most
-- the short-term one
abbrev pub section_ordered : List ℕ → Bool
section_ordered ns =
    nat_lt (slice_index ns 0) (slice_index ns 1) && (nat_lt (slice_index ns 1) (slice_index ns 2) && (nat_le (slice_index ns 4) (slice_index ns 3) && nat_le (slice_index ns 7) (slice_index ns 6)))

-- why the numbers make no section
abbrev pub section_refusal : List ℕ → Option Refusal
section_refusal ns =
    cond (length ns == 11)
    (first (outside section_ranges 2 ns) (cond (section_ordered ns) None (Some (refusal Order 0))))
    (Some (refusal Writing 0))
