-- Values worked by hand, which the equations meet.
use Rattle.std.specs.Prelude.{◌≡◌, refl, true, false, [], ◌∷◌, ◌*◌}
use Rattle.std.proofs.Common.{lit≤, lit<}
use Rattle.fraction.specs.Fraction.{whole, ◌⊗◌, ◌⊘◌, Same}
use Rattle.lookups.specs.Lookup.{modulus_at, shape_at, support_at}
use Rattle.records.specs.declared.section.Section.{Section}
use Rattle.records.specs.declared.site.LiveLoad.TheVariants.{Truck}
use Rattle.records.specs.declared.site.Site.{Site}
use Rattle.equations.specs.Units.{tenths, hundredths, thousandths, ten_thousandths}
use Rattle.equations.specs.Design.{Design}
use Rattle.equations.specs.Pressures.{prism_pressure, water_pressure}
use Rattle.equations.specs.LiveLoad.{wheels_pair}
use Rattle.equations.specs.Soil.{support_factor}
use Rattle.equations.specs.Thrust.{arching}

-- a pipe of 36 inches under 15 feet of fill, with water to 8 feet above the springline and a truck on the ground
abbrev pub worked_section : Section
worked_section =
    record {
      inside = 36000;
      centroid = 38500;
      outside = 41000;
      gross_area = 6500;
      effective_area = 5400;
      moment = 1520000;
      short_modulus = 175000;
      long_modulus = 28000;
      compression_limit = 370;
      tension_limit = 250;
      stiffness = 4000;
      diameters = (lit≤ tt, lit< tt, lit< tt, lit≤ tt);
      areas = (lit≤ tt, lit≤ tt, lit≤ tt);
      moments = (lit≤ tt, lit≤ tt);
      moduli = (lit≤ tt, lit≤ tt, lit≤ tt);
      limits = (lit≤ tt, lit≤ tt, lit≤ tt, lit≤ tt);
      stiffnesses = lit≤ tt;
    }

abbrev pub worked_site : Site
worked_site =
    record {
      fill = 180000;
      trench = 78000;
      water = 96000;
      moist_weight = 1200;
      saturated_weight = 1360;
      water_factor = 130;
      installation_factor = 150;
      native_modulus = 1500;
      stable_walls = false;
      live_load = Truck;
      fills = (lit≤ tt, lit≤ tt);
      trenches = (lit≤ tt, lit≤ tt);
      waters = lit≤ tt;
      weights = (lit≤ tt, lit≤ tt, lit≤ tt, lit≤ tt);
      factors = (lit≤ tt, lit≤ tt);
      installations = (lit≤ tt, lit≤ tt, refl);
      natives = (lit≤ tt, lit≤ tt);
    }

abbrev pub worked : Design
worked =
    record {
      section = worked_section;
      embedment = record { x = 1000; y = 1625 } ∷ record { x = 2000; y = 1800 } ∷ [];
      shape = record { x = 3600; y = 350 } ∷ record { x = 7200; y = 280 } ∷ [];
      widths = 175 ∷ 200 ∷ [];
      ratios = 800 ∷ 1000 ∷ [];
      factors = 900 ∷ 930 ∷ 1000 ∷ 1000 ∷ [];
      site = worked_site;
    }

pub record Tabulated : Type 0 where
  -- pressures of soil and water, psi
  pub prism : Same (prism_pressure worked) (thousandths 18428736 ⊘ whole 1728)
  pub water : Same (water_pressure worked) (tenths 624 ⊗ tenths 1248 ⊘ whole 1728)
  -- modulus at 15 and at 60 psi, shape factor at 40 psi, support factor at the ratios 1.875 and 0.9
  pub modulus : Same (modulus_at worked.embedment (whole 15)) (tenths 17125)
  pub modulus_beyond : Same (modulus_at worked.embedment (whole 60)) (whole 1800)
  pub shape : Same (shape_at worked.shape (whole 40)) (whole 154 ⊘ whole 45)
  pub support : Same (support_at worked.widths worked.ratios worked.factors (thousandths 1875) (tenths 9)) (ten_thousandths 9575)
  -- the arching factor at SH 1.17
  pub arch : Same (arching (hundredths 117)) (hundredths 76)
  -- an inside diameter of 36 inches: one wheel at 43.339 inches of fill, two at 43.340
  pub one_wheel : (d : Design) → d.section.inside ≡ 36000 → d.site.fill ≡ 43339 → wheels_pair d ≡ false
  pub two_wheels : (d : Design) → d.section.inside ≡ 36000 → d.site.fill ≡ 43340 → wheels_pair d ≡ true
  -- a trench of three diameters supports in full
  pub wide_trench : (d : Design) → d.site.trench ≡ 3 * d.section.outside → support_factor d ≡ whole 1
