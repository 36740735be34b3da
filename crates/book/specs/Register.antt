-- The register: what stands at each place of each kind of record, as calls with these arguments leave it.
use Rattle.std.specs.Prelude.{ℕ, ◌-◌, cond, ◌&&◌, List, replicate, Some, None, Option, ◌==◌, nat_le, slice_index_or, slice_set}
use Rattle.book.specs.declared.kind.Kind.{Kind}
use Rattle.book.specs.declared.kind.Kind.TheVariants.{Section, Embedment, Shape, Grid, Site}
use Rattle.records.specs.Cause.{Refusal, refusal, first}
use Rattle.records.specs.Curve.{curve_refusal, embedment_rules, shape_rules}
use Rattle.records.specs.Grid.{grid_refusal}
use Rattle.records.specs.Section.{section_refusal}
use Rattle.records.specs.Site.{site_refusal}
use Rattle.records.specs.declared.fault.Cause.TheVariants.{Place, Empty}

-- a record is the fields of its line after the place, which determine it; at a place stands a record or nothing
abbrev pub Row : Type 0
Row = List (Option (List ℕ))

pub record Register : Type 0 where
  pub sections : Row
  pub embedments : Row
  pub shapes : Row
  pub grids : Row
  pub sites : Row

-- how many places a kind has
abbrev pub places : Kind → ℕ
places Section = 24
places Embedment = 24
places Shape = 24
places Grid = 4
places Site = 96

-- the kind of a number
abbrev pub numbered : ℕ → Option Kind
numbered n =
    cond (n == 1) (Some Section) (cond (n == 2) (Some Embedment) (cond (n == 3) (Some Shape)
    (cond (n == 4) (Some Grid) (cond (n == 5) (Some Site) None))))

-- the places of a kind
abbrev pub row : Kind → Register → Row
row Section g = g.sections
row Embedment g = g.embedments
row Shape g = g.shapes
row Grid g = g.grids
row Site g = g.sites

-- with other places of a kind
abbrev pub with_row : Kind → Row → Register → Register
with_row Section l g = record g { sections = l }
with_row Embedment l g = record g { embedments = l }
with_row Shape l g = record g { shapes = l }
with_row Grid l g = record g { grids = l }
with_row Site l g = record g { sites = l }

-- what stands at a place of a row; places are counted from 1
abbrev pub in_place : {R : Type 0} → List (Option R) → ℕ → Option R
in_place l place = cond (place == 0) None (slice_index_or l (place - 1) None)

-- what stands at a place of a kind
abbrev pub standing : Register → Kind → ℕ → Option (List ℕ)
standing g kind place = in_place (row kind g) place

-- nothing anywhere
abbrev pub fresh : Register
fresh = record {
  sections = replicate 24 None;
  embedments = replicate 24 None;
  shapes = replicate 24 None;
  grids = replicate 4 None;
  sites = replicate 96 None;
}

-- with something else at a place
abbrev pub placed : Kind → ℕ → Option (List ℕ) → Register → Register
placed kind place held g = with_row kind (slice_set (row kind g) (place - 1) held) g

-- after the entry of a record
abbrev pub entered : Kind → ℕ → List ℕ → Register → Register
entered kind place fields g = placed kind place (Some fields) g

-- after a withdrawal
abbrev pub withdrawn : Kind → ℕ → Register → Register
withdrawn kind place g = placed kind place None g

-- the same, of what may be the number of a kind
abbrev pub after_withdrawal : Option Kind → ℕ → Register → Register
after_withdrawal None place g = g
after_withdrawal (Some kind) place g = withdrawn kind place g

-- a place, in field f of the call, outside its count
abbrev pub place_refusal : ℕ → ℕ → ℕ → Option Refusal
place_refusal f count place = cond (nat_le 1 place && nat_le place count) None (Some (refusal Place f))

-- nothing stands at the place in field f
abbrev pub empty_refusal : ℕ → Option (List ℕ) → Option Refusal
empty_refusal f None = Some (refusal Empty f)
empty_refusal f (Some fields) = None

-- why the fields make no record of the kind
abbrev pub record_refusal : Kind → List ℕ → Option Refusal
record_refusal Section fields = section_refusal fields
record_refusal Embedment fields = curve_refusal embedment_rules fields
record_refusal Shape fields = curve_refusal shape_rules fields
record_refusal Grid fields = grid_refusal fields
record_refusal Site fields = site_refusal fields

-- why an entry is refused
abbrev pub entry_refusal : Kind → ℕ → List ℕ → Option Refusal
entry_refusal kind place fields = first (place_refusal 1 (places kind) place) (record_refusal kind fields)

-- why a withdrawal is refused, of a kind
abbrev pub removal_refusal : Kind → ℕ → Register → Option Refusal
removal_refusal kind place g = first (place_refusal 2 (places kind) place) (empty_refusal 2 (standing g kind place))

-- the same, of what may be the number of a kind
abbrev pub withdrawal_refusal : Option Kind → ℕ → Register → Option Refusal
withdrawal_refusal None place g = Some (refusal Place 1)
withdrawal_refusal (Some kind) place g = removal_refusal kind place g
