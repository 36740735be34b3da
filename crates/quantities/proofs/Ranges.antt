-- What is known of the records' fields.
use Rattle.std.proofs.Common.{◌≡◌, ℕ, ◌≤◌, arith}
use Rattle.enclosure.specs.Model.{Model, Sound}
use Rattle.enclosure.specs.Formula.{computed}
use Rattle.enclosure.proofs.Trees.{as_tree, field}
use Rattle.equations.specs.Units.{thousandths, ten_thousandths}
use Rattle.equations.specs.Design.{Design, installation_factor}
use Rattle.fraction.specs.Fraction.{whole}
use Rattle.quantities.specs.Known.{Known}
use Rattle.quantities.specs.Measured.{Measured, measures_of}
use Rattle.quantities.specs.Formulas.{parts_of}
use Rattle.quantities.specs.Quantities.{Diameter, Area, Modulus, Limit, Moment, Fill}
use Rattle.quantities.specs.declared.measures.Measures.{Measures}
use Rattle.quantities.proofs.Known.{known}

module _ {E : Type 0} {m : Model E} (s : Sound m) (d : Design) where
  pub diameter_known : (n : ℕ) → 3000 ≤ n → n ≤ 120000 → Diameter m d (thousandths n) (parts_of (computed m) n 1000)
  diameter_known n h l = known s ((as_tree m).div (field 3000 120000 n h l) ((as_tree m).num 1000)) 3 3 1 120 1 tt

  pub area_known : (n : ℕ) → 100 ≤ n → n ≤ 100000 → Area m d (ten_thousandths n) (parts_of (computed m) n 10000)
  area_known n h l = known s ((as_tree m).div (field 100 100000 n h l) ((as_tree m).num 10000)) 3 1 100 10 1 tt

  pub modulus_known : (n : ℕ) → 1000 ≤ n → n ≤ 1000000 → Modulus m d (whole n) (m.from_whole n)
  modulus_known n h l = known s (field 1000 1000000 n h l) 1 1000 1 1000000 1 tt

  pub limit_known : (n : ℕ) → 1 ≤ n → n ≤ 2000 → Limit m d (ten_thousandths n) (parts_of (computed m) n 10000)
  limit_known n h l = known s ((as_tree m).div (field 1 2000 n h l) ((as_tree m).num 10000)) 3 1 10000 1 5 tt

  pub moment_known : Moment m d (parts_of (computed m) d.section.moment 1000000)
  moment_known = known s ((as_tree m).div (field 100 100000000 d.section.moment (omega (arith, d.section.moments)) (omega (arith, d.section.moments))) ((as_tree m).num 1000000)) 3 1 10000 100 1 tt

  pub fill_known : Fill m d (parts_of (computed m) d.site.fill 1000)
  fill_known = known s ((as_tree m).div (field 12001 1200000 d.site.fill (omega (arith, d.site.fills)) (omega (arith, d.site.fills))) ((as_tree m).num 1000)) 3 12 1 1200 1 tt

  pub installation_known : Known m 3 115 100 150 100 (installation_factor d) (parts_of (computed m) d.site.installation_factor 100)
  installation_known =
      known s ((as_tree m).div (field 115 150 d.site.installation_factor (omega (arith, d.site.installations.0)) (omega (arith, d.site.installations.1))) ((as_tree m).num 100)) 3 115 100 150 100 tt

  -- the measures of a design are its fields
  pub measured : (p : Measures E) → p ≡ measures_of (computed m) d → Measured m d p
  measured p e =
      let n = d.section in
      rw e
      (record {
        inside = diameter_known n.inside (omega (arith, n.diameters)) (omega (arith, n.diameters));
        centroid = diameter_known n.centroid (omega (arith, n.diameters)) (omega (arith, n.diameters));
        outside = diameter_known n.outside (omega (arith, n.diameters)) (omega (arith, n.diameters));
        gross = area_known n.gross_area (omega (arith, n.areas)) (omega (arith, n.areas));
        effective = area_known n.effective_area (omega (arith, n.areas)) (omega (arith, n.areas));
        moment = moment_known;
        short = modulus_known n.short_modulus (omega (arith, n.moduli)) (omega (arith, n.moduli));
        long = modulus_known n.long_modulus (omega (arith, n.moduli)) (omega (arith, n.moduli));
        fill = fill_known;
      })
