-- The case at five places of a register: its records, or why there is none.
use Rattle.std.specs.Prelude.{◌≡◌, ℕ, List, Some, None, Option, slice_index}
use Rattle.book.specs.Register.{Register, standing, places, place_refusal, empty_refusal}
use Rattle.book.specs.declared.kind.Kind.TheVariants.{Section, Embedment, Shape, Grid, Site}
use Rattle.calls.specs.declared.call.CasePlaces.{CasePlaces}
use Rattle.equations.specs.Design.{Design}
use Rattle.quantities.specs.Case.{fit_refusal}
use Rattle.records.specs.Cause.{Refusal, first}
use Rattle.records.specs.Curve.{curve_line}
use Rattle.records.specs.Grid.{lists_line}
use Rattle.records.specs.Lines.{section_line, site_line}

-- the design's records stand at the places
pub record Stands (g : Register) (p : CasePlaces) (d : Design) : Type 0 where
  pub section : standing g Section p.section ≡ Some (section_line d.section)
  pub embedment : standing g Embedment p.embedment ≡ Some (curve_line d.embedment)
  pub shape : standing g Shape p.shape ≡ Some (curve_line d.shape)
  pub grid : standing g Grid p.grid ≡ Some (lists_line d.widths d.ratios d.factors)
  pub site : standing g Site p.site ≡ Some (site_line d.site)

-- the first place outside its count
abbrev pub places_refusal : CasePlaces → Option Refusal
places_refusal p =
    first (place_refusal 1 (places Section) p.section) (first (place_refusal 2 (places Embedment) p.embedment)
    (first (place_refusal 3 (places Shape) p.shape) (first (place_refusal 4 (places Grid) p.grid)
    (place_refusal 5 (places Site) p.site))))

-- the first place where nothing stands
abbrev pub vacancy : Register → CasePlaces → Option Refusal
vacancy g p =
    first (empty_refusal 1 (standing g Section p.section)) (first (empty_refusal 2 (standing g Embedment p.embedment))
    (first (empty_refusal 3 (standing g Shape p.shape)) (first (empty_refusal 4 (standing g Grid p.grid))
    (empty_refusal 5 (standing g Site p.site)))))

-- the same of a section's fields, Do the third, and a site's, H, Bd and Hw the first three
abbrev pub fields_refusal : Option (List ℕ) → Option (List ℕ) → Option Refusal
fields_refusal None site = None
fields_refusal (Some section) None = None
fields_refusal (Some section) (Some site) = fit_refusal (slice_index section 2) (slice_index site 0) (slice_index site 1) (slice_index site 2)

-- why the records that stand do not fit together
abbrev pub misfit : Register → CasePlaces → Option Refusal
misfit g p = fields_refusal (standing g Section p.section) (standing g Site p.site)

-- why there is no case at the places
abbrev pub no_case : Register → CasePlaces → Option Refusal
no_case g p = first (places_refusal p) (first (vacancy g p) (misfit g p))
