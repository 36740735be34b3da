-- What is known of the quantities of a case, step by step as they are computed.
use Rattle.std.proofs.Common.{◌≡◌, ◌^◌, Option}
use Rattle.std.specs.Option.{option_map}
use Rattle.fraction.specs.Fraction.{◌⊘◌}
use Rattle.enclosure.specs.Model.{Model, Sound}
use Rattle.enclosure.specs.Formula.{computed}
use Rattle.equations.specs.Design.{Design, long_modulus}
use Rattle.equations.specs.LiveLoad.{live_modulus}
use Rattle.equations.specs.Thrust.{live_thrust, design_thrust, least_thrust, service_thrust}
use Rattle.equations.specs.Strains.{live_part, thrust_strain, least_strain, service_strain}
use Rattle.quantities.specs.Known.{Perhaps}
use Rattle.quantities.specs.Formulas.{parts_of, live_length_of, hoop_stiffness_of, load_factor_of, length_share_of, spread_factor_of, hoop_factor_of, live_thrust_of, design_thrust_of, least_thrust_of, service_thrust_of, live_part_of, strain_of, deflection_of}
use Rattle.quantities.specs.Measured.{Measured}
use Rattle.quantities.specs.Quantities.{Prism, Water, Soil, Hoop, Arching, LoadFactor, Thrust, LiveThrust, LivePart, Strain, Deflects, Live as LivePressure}
use Rattle.quantities.specs.Worked.{LiveKnown}
use Rattle.quantities.specs.declared.measures.Measures.{Measures}
use Rattle.quantities.specs.declared.worked.Live.{Live}
use Rattle.quantities.proofs.Known.{known_at, perhaps_at}
use Rattle.quantities.proofs.Quantities as quantities
use Rattle.quantities.proofs.Ranges.{installation_known}

module _ {E : Type 0} {m : Model E} (s : Sound m) (d : Design) (p : Measures E) (k : Measured m d p) where
  pub hoop_step : (ms e : E) → e ≡ hoop_stiffness_of (computed m) ms p.centroid p.long_modulus p.gross_area → Soil m d ms → Hoop m d e
  hoop_step ms e h soil = known_at h (quantities.hoop_known s d soil k.centroid k.long k.gross)

  pub load_step : (i e : E) → i ≡ parts_of (computed m) d.site.installation_factor 100 → e ≡ load_factor_of (computed m) i → LoadFactor m d e
  load_step i e a h = known_at h (quantities.load_known s d (known_at a (installation_known s d)))

  pub live_steps : (len share hoop : E) (pressure thrust : Option E) → len ≡ live_length_of (computed m) p.fill → share ≡ length_share_of (computed m) len p.outside → thrust ≡ option_map (λ q. live_thrust_of (computed m) share (spread_factor_of (computed m) len p.outside p.inside) (hoop_factor_of (computed m) hoop) q p.outside) pressure → Hoop m d hoop → LivePressure m d pressure → LiveKnown m d (record { share = share; pressure = pressure; thrust = thrust })
  live_steps len share hoop pressure thrust a b c h q =
      let l = known_at a (quantities.length_known s d k.fill) in
      let cl = known_at b (quantities.share_known s d l k.outside) in
      record {
        share = cl;
        pressure = q;
        thrust = perhaps_at m 150 1 (10 ^ 10) (10 ^ 5) 1 (live_thrust d) c (quantities.live_thrust_known s d pressure l k.outside k.inside h cl q);
      }

  module _ (prism arching : E) (water : Option E) (psp : Prism m d prism) (vaf : Arching m d arching) (pw : Water m d water) where
    pub design_step : (load e : E) → e ≡ design_thrust_of (computed m) load arching prism water p.outside → LoadFactor m d load → Thrust m d (design_thrust d) e
    design_step load e h g = known_at h (quantities.design_thrust_known s d water g vaf psp pw k.outside)

    pub least_step : (e : E) → e ≡ least_thrust_of (computed m) arching prism water p.outside → Thrust m d (least_thrust d) e
    least_step e h = known_at h (quantities.least_thrust_known s d water vaf psp pw k.outside)

    pub service_step : (e : E) → e ≡ service_thrust_of (computed m) arching prism water p.outside → Thrust m d (service_thrust d) e
    service_step e h = known_at h (quantities.service_thrust_known s d water vaf psp pw k.outside)

  module _ (thrust : Option E) (q : LiveThrust m d thrust) where
    pub factored_step : (o : Option E) → o ≡ option_map (λ t. live_part_of (computed m) t p.short_modulus) thrust → LivePart m d o
    factored_step o h = perhaps_at m 160 1 (10 ^ 16) 1000 1 (live_part d) h (quantities.live_part_known s d thrust k.short q)

    pub plain_step : (o : Option E) → o ≡ option_map (λ t. m.quotient t p.short_modulus) thrust → Perhaps m 160 1 (10 ^ 16) 1000 1 (live_thrust d ⊘ live_modulus d) o
    plain_step o h = perhaps_at m 160 1 (10 ^ 16) 1000 1 (live_thrust d ⊘ live_modulus d) h (quantities.service_part_known s d thrust k.short q)

  pub thrust_strain_step : (t e : E) (o : Option E) → e ≡ strain_of (computed m) t p.long_modulus o p.effective_area → Thrust m d (design_thrust d) t → LivePart m d o → Strain m d (thrust_strain d) e
  thrust_strain_step t e o h x y = known_at h (quantities.thrust_strain_known s d o x k.long y k.effective)

  pub least_strain_step : (t e : E) (o : Option E) → e ≡ strain_of (computed m) t p.long_modulus o p.effective_area → Thrust m d (least_thrust d) t → LivePart m d o → Strain m d (least_strain d) e
  least_strain_step t e o h x y = known_at h (quantities.least_strain_known s d o x k.long y k.effective)

  pub service_strain_step : (t e : E) (o : Option E) → e ≡ strain_of (computed m) t p.long_modulus o p.gross_area → Thrust m d (service_thrust d) t → Perhaps m 160 1 (10 ^ 16) 1000 1 (live_thrust d ⊘ live_modulus d) o → Strain m d (service_strain d) e
  service_strain_step t e o h x y = known_at h (quantities.service_strain_known s d o x k.long y k.gross)

  pub deflection_step : (prism soil service e : E) (live : Live E) → e ≡ deflection_of (computed m) p prism soil live service → Prism m d prism → Soil m d soil → LiveKnown m d live → Strain m d (service_strain d) service → Deflects m d e
  deflection_step prism soil service e live h psp ms l es =
      let long = quantities.resistance_known s d (long_modulus d) k.long k.moment k.centroid ms in
      let short = quantities.resistance_known s d (live_modulus d) k.short k.moment k.centroid ms in
      let under = quantities.soil_deflection_known s d psp k.outside long in
      let more = quantities.live_deflection_known s d live.pressure l.share l.pressure k.outside short in
      known_at h (quantities.deflection_known s d _ under more k.centroid es)
