-- What a register's fields tell: no two records have the same line.
use Rattle.std.specs.Prelude.{◌≡◌, ℕ, List}
use Rattle.records.specs.Curve.{curve_line}
use Rattle.records.specs.Grid.{lists_line}
use Rattle.records.specs.Lines.{section_line, site_line}
use Rattle.records.specs.declared.point.Point.{Point}
use Rattle.records.specs.declared.section.Section.{Section}
use Rattle.records.specs.declared.site.Site.{Site}

-- curves are their points in use, and grids their widths, modulus ratios and factors in use
pub record Told : Type 0 where
  pub section : (s t : Section) → section_line s ≡ section_line t → s ≡ t
  pub site : (s t : Site) → site_line s ≡ site_line t → s ≡ t
  pub curve : (ps qs : List Point) → curve_line ps ≡ curve_line qs → ps ≡ qs
  pub grid : (widths ratios factors widths' ratios' factors' : List ℕ)
      → lists_line widths ratios factors ≡ lists_line widths' ratios' factors'
      → (widths ≡ widths') × (ratios ≡ ratios') × (factors ≡ factors')
