-- The fields of each record, as its line has them after the place.
use Rattle.std.specs.Prelude.{ℕ, Bool, true, false, List, [], ◌∷◌}
use Rattle.records.specs.declared.curve.Curve.{Curve}
use Rattle.records.specs.declared.curve.CurveKind.{Ghosts}
use Rattle.records.specs.declared.curve.Embedment.{Embedment}
use Rattle.records.specs.declared.curve.Shape.{Shape}
use Rattle.records.specs.declared.grid.SupportGrid.{SupportGrid}
use Rattle.records.specs.declared.point.Point.{Point}
use Rattle.records.specs.declared.section.Section.{Section}
use Rattle.records.specs.declared.site.LiveLoad.{LiveLoad}
use Rattle.records.specs.declared.site.LiveLoad.TheVariants.{None, Truck}
use Rattle.records.specs.declared.site.Site.{Site}
use Rattle.records.specs.Curve.{curve_line, embedment_rules, shape_rules}
use Rattle.records.specs.Grid.{lists_line}
use Rattle.records.specs.ShortList.{in_use}

-- from the inside diameter to the stiffness
abbrev pub section_line : Section → List ℕ
section_line s =
    s.inside ∷ s.centroid ∷ s.outside ∷ s.gross_area ∷ s.effective_area ∷ s.moment ∷ s.short_modulus
    ∷ s.long_modulus ∷ s.compression_limit ∷ s.tension_limit ∷ s.stiffness ∷ []

-- 1 where the walls are stable
abbrev pub walls_number : Bool → ℕ
walls_number true = 1
walls_number false = 0

-- the kinds of live load
abbrev pub live_load_number : LiveLoad → ℕ
live_load_number None = 0
live_load_number Truck = 1

-- from the fill to the live load
abbrev pub site_line : Site → List ℕ
site_line s =
    s.fill ∷ s.trench ∷ s.water ∷ s.moist_weight ∷ s.saturated_weight ∷ s.water_factor ∷ s.installation_factor
    ∷ s.native_modulus ∷ walls_number s.stable_walls ∷ live_load_number s.live_load ∷ []

-- a curve's points
abbrev pub points_of : {K : Type 0} {g : Ghosts K} → Curve K g → List Point
points_of c = in_use c.points

-- a count, and the points
abbrev pub line_of : {K : Type 0} {g : Ghosts K} → Curve K g → List ℕ
line_of c = curve_line (points_of c)

-- the kinds of curve, since antt has no name for an alias
abbrev pub EmbedmentCurve : Type 0
EmbedmentCurve = Curve Embedment (record { rules = embedment_rules })

abbrev pub ShapeCurve : Type 0
ShapeCurve = Curve Shape (record { rules = shape_rules })

-- pressure in hundredths of psi, modulus in psi
abbrev pub embedment_points : EmbedmentCurve → List Point
embedment_points c = points_of c

-- stiffness in hundredths of psi, factor in hundredths
abbrev pub shape_points : ShapeCurve → List Point
shape_points c = points_of c

abbrev pub embedment_line : EmbedmentCurve → List ℕ
embedment_line c = line_of c

abbrev pub shape_line : ShapeCurve → List ℕ
shape_line c = line_of c

-- the width ratios, hundredths
abbrev pub grid_widths : SupportGrid → List ℕ
grid_widths g = in_use g.widths

-- the modulus ratios, thousandths
abbrev pub grid_ratios : SupportGrid → List ℕ
grid_ratios g = in_use g.ratios

-- the factors, thousandths, a row for each modulus ratio
abbrev pub grid_factors : SupportGrid → List ℕ
grid_factors g = in_use g.factors

-- two counts, widths, modulus ratios and factors
abbrev pub grid_line : SupportGrid → List ℕ
grid_line g = lists_line (grid_widths g) (grid_ratios g) (grid_factors g)
