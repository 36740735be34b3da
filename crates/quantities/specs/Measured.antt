-- The fields of a design's records, as enclosures.
use Rattle.enclosure.specs.Formula.{Ops}
use Rattle.enclosure.specs.Model.{Model}
use Rattle.equations.specs.Design.{Design, inside_diameter, centroid_diameter, outside_diameter, gross_area, effective_area, short_modulus, long_modulus}
use Rattle.quantities.specs.Formulas.{parts_of}
use Rattle.quantities.specs.Quantities.{Diameter, Area, Modulus, Moment, Fill}
use Rattle.quantities.specs.declared.measures.Measures.{Measures}

pub record Measured {E : Type 0} (m : Model E) (d : Design) (p : Measures E) : Type 0 where
  pub inside : Diameter m d (inside_diameter d) p.inside
  pub centroid : Diameter m d (centroid_diameter d) p.centroid
  pub outside : Diameter m d (outside_diameter d) p.outside
  pub gross : Area m d (gross_area d) p.gross_area
  pub effective : Area m d (effective_area d) p.effective_area
  pub moment : Moment m d p.moment
  pub short : Modulus m d (short_modulus d) p.short_modulus
  pub long : Modulus m d (long_modulus d) p.long_modulus
  pub fill : Fill m d p.fill

-- the same fields over any numbers, as they are computed
abbrev pub measures_of : {T : Type 0} → Ops T → Design → Measures T
measures_of o d =
    record {
      inside = parts_of o d.section.inside 1000;
      centroid = parts_of o d.section.centroid 1000;
      outside = parts_of o d.section.outside 1000;
      gross_area = parts_of o d.section.gross_area 10000;
      effective_area = parts_of o d.section.effective_area 10000;
      moment = parts_of o d.section.moment 1000000;
      short_modulus = o.num d.section.short_modulus;
      long_modulus = o.num d.section.long_modulus;
      fill = parts_of o d.site.fill 1000;
    }
