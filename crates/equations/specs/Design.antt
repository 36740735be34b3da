-- A pipe laid at a site: what every quantity is defined from, with its symbol and its unit.
use Rattle.std.specs.Prelude.{List, ℕ}
use Rattle.fraction.specs.Fraction.{Fraction, whole}
use Rattle.records.specs.declared.point.Point.{Point}
use Rattle.records.specs.declared.section.Section.{Section}
use Rattle.records.specs.declared.site.Site.{Site}
use Rattle.equations.specs.Units.{tenths, hundredths, thousandths, ten_thousandths, millionths}

-- the pipe's section and its site, the points of the embedment curve and of the shape curve, and the width ratios,
-- modulus ratios and factors of the support grid
pub record Design : Type 0 where
  pub section : Section
  pub embedment : List Point
  pub shape : List Point
  pub widths : List ℕ
  pub ratios : List ℕ
  pub factors : List ℕ
  pub site : Site

-- Di, D and Do, in: diameters to the inside, the wall's centroid and the outside
abbrev pub inside_diameter : Design → Fraction
inside_diameter d = thousandths d.section.inside

abbrev pub centroid_diameter : Design → Fraction
centroid_diameter d = thousandths d.section.centroid

abbrev pub outside_diameter : Design → Fraction
outside_diameter d = thousandths d.section.outside

-- Ag and Aeff, in²/in: gross and effective area of the wall
abbrev pub gross_area : Design → Fraction
gross_area d = ten_thousandths d.section.gross_area

abbrev pub effective_area : Design → Fraction
effective_area d = ten_thousandths d.section.effective_area

-- Ip, in⁴/in: moment of inertia of the wall
abbrev pub wall_moment : Design → Fraction
wall_moment d = millionths d.section.moment

-- Est and Elt, psi: short- and long-term modulus
abbrev pub short_modulus : Design → Fraction
short_modulus d = whole d.section.short_modulus

abbrev pub long_modulus : Design → Fraction
long_modulus d = whole d.section.long_modulus

-- εyc and εyt: compression and tension strain limit
abbrev pub compression_limit : Design → Fraction
compression_limit d = ten_thousandths d.section.compression_limit

abbrev pub tension_limit : Design → Fraction
tension_limit d = ten_thousandths d.section.tension_limit

-- H, Bd and Hw, in: fill over the crown, width of the trench, water above the springline
abbrev pub fill_depth : Design → Fraction
fill_depth d = thousandths d.site.fill

abbrev pub trench_width : Design → Fraction
trench_width d = thousandths d.site.trench

abbrev pub water_depth : Design → Fraction
water_depth d = thousandths d.site.water

-- γs and γsat, pcf: weight of the soil, moist and saturated
abbrev pub moist_weight : Design → Fraction
moist_weight d = tenths d.site.moist_weight

abbrev pub saturated_weight : Design → Fraction
saturated_weight d = tenths d.site.saturated_weight

-- Kw: factor on the depth of the water
abbrev pub water_factor : Design → Fraction
water_factor d = hundredths d.site.water_factor

-- KγE: installation factor on the earth load
abbrev pub installation_factor : Design → Fraction
installation_factor d = hundredths d.site.installation_factor

-- Msn, psi: modulus of the native soil
abbrev pub native_modulus : Design → Fraction
native_modulus d = whole d.site.native_modulus
