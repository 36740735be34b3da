-- What is known of each quantity, from what is known of those that it is computed from.
use Rattle.std.proofs.Common.{◌≡◌, ℕ, ◌*◌, ◌^◌, T, Some, None, Option, arith}
use Rattle.std.specs.Option.{option_map}
use Rattle.fraction.specs.Fraction.{Fraction, whole, ◌⊕◌, ◌⊗◌, ◌⊘◌, Same}
use Rattle.enclosure.specs.Model.{Model, Sound}
use Rattle.enclosure.specs.Formula.{computed}
use Rattle.enclosure.proofs.Operations.{sum}
use Rattle.enclosure.proofs.Trees.{as_tree, node}
use Rattle.equations.specs.Units.{tenths, hundredths}
use Rattle.equations.specs.Design.{Design, inside_diameter, centroid_diameter, outside_diameter, gross_area, effective_area, long_modulus, installation_factor}
use Rattle.equations.specs.Pressures.{water_pressure}
use Rattle.equations.specs.LiveLoad.{live_length, live_pressure, live_modulus}
use Rattle.equations.specs.Thrust.{hoop_stiffness, vertical_arching, load_factor, length_share, spread_factor, hoop_factor, live_thrust, design_thrust, least_thrust, service_thrust}
use Rattle.equations.specs.Strains.{live_part, thrust_strain, least_strain, service_strain}
use Rattle.equations.specs.Bending.{shape_factor, farther_face, bending_factor}
use Rattle.equations.specs.Deflection.{resistance, soil_deflection, live_deflection, deflection}
use Rattle.equations.proofs.Arching.{arching_parts}
use Rattle.quantities.specs.Known.{Known, Perhaps}
use Rattle.quantities.specs.Quantities.{Diameter, Area, Modulus, Moment, Fill, Prism, Water, Live, LiveLength, Soil, Hoop, Arching, LoadFactor, Thrust, LengthShare, LiveThrust, LivePart, Strain, Bending, Deflects}
use Rattle.quantities.specs.Formulas.{parts_of, plus_of, live_length_of, hoop_stiffness_of, arching_of, load_factor_of, length_share_of, spread_factor_of, hoop_factor_of, live_thrust_of, factored_thrust_of, thrust_of, design_thrust_of, least_thrust_of, service_thrust_of, live_part_of, strain_of, bending_factor_of, resistance_of, soil_deflection_of, live_deflection_of}
use Rattle.quantities.proofs.Known.{leaf, known, known_along, meets}

-- what is 0 adds nothing
pub plus_zero : (x y : Fraction) → y.num ≡ 0 → Same x (x ⊕ y)
unfolding ◌⊕◌
plus_zero x y e = record { to = record { cross = rw e (omega arith) }; from = record { cross = rw e (omega arith) } }

pub times_zero : (x y : Fraction) → y.num ≡ 0 → (x ⊗ y).num ≡ 0
unfolding ◌⊗◌
times_zero x y e = rw e (omega arith)

pub zero_times : (x y : Fraction) → x.num ≡ 0 → (x ⊗ y).num ≡ 0
unfolding ◌⊗◌
zero_times x y e = rw e (omega arith)

pub zero_over : (x y : Fraction) → x.num ≡ 0 → (x ⊘ y).num ≡ 0
unfolding ◌⊘◌
zero_over x y e = rw e (omega arith)

module _ {E : Type 0} {m : Model E} (s : Sound m) where
  -- a sum whose second part may be absent
  pub plus_known : {n a b c d k e f g h : ℕ} {x : Fraction} {u : E} (N A B C D : ℕ) (y : Fraction) (v : Option E) (p : Known m n a b c d x u) → Perhaps m k e f g h y v → ((w : E) (q : Known m k e f g h y w) → T (meets (node sum (leaf p) (leaf q)) N A B C D)) → T (meets (leaf p) N A B C D) → Known m N A B C D (x ⊕ y) (plus_of (computed m) u v)
  plus_known N A B C D y (Some w) p q some none = known s (node sum (leaf p) (leaf q)) N A B C D (some w q)
  plus_known {x} N A B C D y None p q some none = known_along s (plus_zero x y q) (known s (leaf p) N A B C D none)

  module _ (d : Design) where
    pub length_known : {H : E} → Fill m d H → LiveLength m d (live_length_of (computed m) H)
    unfolding live_length
    length_known H = known s (live_length_of (as_tree m) (leaf H)) 10 23 1 1400 1 tt

    pub hoop_known : {ms D elt ag : E} → Soil m d ms → Diameter m d (centroid_diameter d) D → Modulus m d (long_modulus d) elt → Area m d (gross_area d) ag → Hoop m d (hoop_stiffness_of (computed m) ms D elt ag)
    unfolding hoop_stiffness
    hoop_known ms D elt ag = known s (hoop_stiffness_of (as_tree m) (leaf ms) (leaf D) (leaf elt) (leaf ag)) 30 1 (10 ^ 9) (10 ^ 6) 1 tt

    pub arching_known : {sh : E} → Hoop m d sh → Arching m d (arching_of (computed m) sh)
    unfolding vertical_arching
    arching_known sh = known_along s (arching_parts (hoop_stiffness d)) (known s (arching_of (as_tree m) (leaf sh)) 40 1 20 21 20 tt)

    pub load_known : {k : E} → Known m 3 115 100 150 100 (installation_factor d) k → LoadFactor m d (load_factor_of (computed m) k)
    unfolding load_factor
    load_known k = known s (load_factor_of (as_tree m) (leaf k)) 10 1 1 2 1 tt

    pub share_known : {l Do : E} → LiveLength m d l → Diameter m d (outside_diameter d) Do → LengthShare m d (length_share_of (computed m) l Do)
    unfolding length_share
    share_known l Do = known s (length_share_of (as_tree m) (leaf l) (leaf Do)) 15 1 10 1 1 tt

    -- thrusts
    pub live_thrust_known : {l Do Di sh cl : E} (pl : Option E) → LiveLength m d l → Diameter m d (outside_diameter d) Do → Diameter m d (inside_diameter d) Di → Hoop m d sh → LengthShare m d cl → Live m d pl → LiveThrust m d (option_map (λ p. live_thrust_of (computed m) cl (spread_factor_of (computed m) l Do Di) (hoop_factor_of (computed m) sh) p Do) pl)
    unfolding live_thrust spread_factor hoop_factor
    live_thrust_known (Some p) l Do Di sh cl pl =
        known s (live_thrust_of (as_tree m) (leaf cl) (spread_factor_of (as_tree m) (leaf l) (leaf Do) (leaf Di)) (hoop_factor_of (as_tree m) (leaf sh)) (leaf pl) (leaf Do)) 150 1 (10 ^ 10) (10 ^ 5) 1 tt
    live_thrust_known None l Do Di sh cl pl =
        zero_over (length_share d ⊗ spread_factor d ⊗ hoop_factor d ⊗ live_pressure d ⊗ outside_diameter d) (whole 2) (zero_times (length_share d ⊗ spread_factor d ⊗ hoop_factor d ⊗ live_pressure d) (outside_diameter d) (times_zero (length_share d ⊗ spread_factor d ⊗ hoop_factor d) (live_pressure d) pl))

    pub design_thrust_known : {g vaf psp Do : E} (pw : Option E) → LoadFactor m d g → Arching m d vaf → Prism m d psp → Water m d pw → Diameter m d (outside_diameter d) Do → Thrust m d (design_thrust d) (design_thrust_of (computed m) g vaf psp pw Do)
    unfolding design_thrust
    design_thrust_known pw g vaf psp w Do =
        let earth = known s ((as_tree m).mul ((as_tree m).mul (leaf g) (leaf vaf)) (leaf psp)) 60 1 200 900 1 tt in
        let all = plus_known {k = 20} {e = 1} {f = 100000} {g = 100} {h = 1} 61 1 200 1000 1 (water_pressure d) pw earth w (λ v q. tt) tt in
        known s (factored_thrust_of (as_tree m) (leaf all) (leaf Do)) 80 1 1000 (10 ^ 5) 1 tt

    pub least_thrust_known : {vaf psp Do : E} (pw : Option E) → Arching m d vaf → Prism m d psp → Water m d pw → Diameter m d (outside_diameter d) Do → Thrust m d (least_thrust d) (least_thrust_of (computed m) vaf psp pw Do)
    unfolding least_thrust
    least_thrust_known pw vaf psp w Do =
        let earth = known s ((as_tree m).mul ((as_tree m).mul (parts_of (as_tree m) 54 100) (leaf vaf)) (leaf psp)) 60 1 500 900 1 tt in
        let all = plus_known {k = 20} {e = 1} {f = 100000} {g = 100} {h = 1} 61 1 500 1000 1 (water_pressure d) pw earth w (λ v q. tt) tt in
        known s (thrust_of (as_tree m) (leaf all) (leaf Do)) 80 1 1000 (10 ^ 5) 1 tt

    pub service_thrust_known : {vaf psp Do : E} (pw : Option E) → Arching m d vaf → Prism m d psp → Water m d pw → Diameter m d (outside_diameter d) Do → Thrust m d (service_thrust d) (service_thrust_of (computed m) vaf psp pw Do)
    unfolding service_thrust
    service_thrust_known pw vaf psp w Do =
        let earth = known s ((as_tree m).mul (leaf vaf) (leaf psp)) 60 1 200 900 1 tt in
        let all = plus_known {k = 20} {e = 1} {f = 100000} {g = 100} {h = 1} 61 1 200 1000 1 (water_pressure d) pw earth w (λ v q. tt) tt in
        known s (thrust_of (as_tree m) (leaf all) (leaf Do)) 80 1 1000 (10 ^ 5) 1 tt

    -- strains
    pub live_part_known : {ev : E} (q : Option E) → Modulus m d (live_modulus d) ev → LiveThrust m d q → LivePart m d (option_map (λ t. live_part_of (computed m) t ev) q)
    unfolding live_part
    live_part_known (Some q) ev t = known s (live_part_of (as_tree m) (leaf t) (leaf ev)) 160 1 (10 ^ 16) 1000 1 tt
    live_part_known None ev t = zero_over (hundredths 175 ⊗ live_thrust d) (live_modulus d) (times_zero (hundredths 175) (live_thrust d) t)

    pub strain_known : {t elt area : E} (x y A : Fraction) (p : Option E) → Thrust m d x t → Modulus m d (long_modulus d) elt → Perhaps m 160 1 (10 ^ 16) 1000 1 y p → Area m d A area → Strain m d ((x ⊘ long_modulus d ⊕ y) ⊘ A) (strain_of (computed m) t elt p area)
    strain_known x y A p t elt lp area =
        let earth = known s ((as_tree m).div (leaf t) (leaf elt)) 90 1 (10 ^ 9) 100 1 tt in
        let all = plus_known {k = 160} {e = 1} {f = 10 ^ 16} {g = 1000} {h = 1} 161 1 (10 ^ 9) 1100 1 y p earth lp (λ v q. tt) tt in
        known s ((as_tree m).div (leaf all) (leaf area)) 200 1 (10 ^ 10) (10 ^ 6) 1 tt

    pub service_part_known : {ev : E} (q : Option E) → Modulus m d (live_modulus d) ev → LiveThrust m d q → Perhaps m 160 1 (10 ^ 16) 1000 1 (live_thrust d ⊘ live_modulus d) (option_map (λ t. (computed m).div t ev) q)
    service_part_known (Some q) ev t = known s ((as_tree m).div (leaf t) (leaf ev)) 160 1 (10 ^ 16) 1000 1 tt
    service_part_known None ev t = zero_over (live_thrust d) (live_modulus d) t

    -- bending
    pub bending_known : {g df face D : E} → LoadFactor m d g → Known m 9 1 1 10 1 (shape_factor d) df → Known m 3 1 1000 120 1 (farther_face d) face → Diameter m d (centroid_diameter d) D → Bending m d (bending_factor_of (computed m) g df face D)
    unfolding bending_factor
    bending_known g df face D = known s (bending_factor_of (as_tree m) (leaf g) (leaf df) (leaf face) (leaf D)) 40 1 (10 ^ 6) 1000 1 tt

    -- deflection
    pub resistance_known : {e ip D ms : E} (x : Fraction) → Modulus m d x e → Moment m d ip → Diameter m d (centroid_diameter d) D → Soil m d ms → Known m 40 1 1000 (10 ^ 9) 1 (resistance d x) (resistance_of (computed m) e ip D ms)
    unfolding resistance
    resistance_known x e ip D ms = known s (resistance_of (as_tree m) (leaf e) (leaf ip) (leaf D) (leaf ms)) 40 1 1000 (10 ^ 9) 1 tt

    pub soil_deflection_known : {psp Do r : E} → Prism m d psp → Diameter m d (outside_diameter d) Do → Known m 40 1 1000 (10 ^ 9) 1 (resistance d (long_modulus d)) r → Known m 60 1 (10 ^ 11) (10 ^ 8) 1 (soil_deflection d) (soil_deflection_of (computed m) psp Do r)
    unfolding soil_deflection
    soil_deflection_known psp Do r = known s (soil_deflection_of (as_tree m) (leaf psp) (leaf Do) (leaf r)) 60 1 (10 ^ 11) (10 ^ 8) 1 tt

    pub live_deflection_known : {cl Do r : E} (pl : Option E) → LengthShare m d cl → Live m d pl → Diameter m d (outside_diameter d) Do → Known m 40 1 1000 (10 ^ 9) 1 (resistance d (live_modulus d)) r → Perhaps m 120 1 (10 ^ 15) (10 ^ 8) 1 (live_deflection d) (option_map (λ p. live_deflection_of (computed m) cl p Do r) pl)
    unfolding live_deflection
    live_deflection_known (Some p) cl pl Do r = known s (live_deflection_of (as_tree m) (leaf cl) (leaf pl) (leaf Do) (leaf r)) 120 1 (10 ^ 15) (10 ^ 8) 1 tt
    live_deflection_known None cl pl Do r =
        zero_over (tenths 1 ⊗ length_share d ⊗ live_pressure d ⊗ outside_diameter d) (resistance d (live_modulus d)) (zero_times (tenths 1 ⊗ length_share d ⊗ live_pressure d) (outside_diameter d) (times_zero (tenths 1 ⊗ length_share d) (live_pressure d) pl))

    pub deflection_known : {ds D es : E} (dl : Option E) → Known m 60 1 (10 ^ 11) (10 ^ 8) 1 (soil_deflection d) ds → Perhaps m 120 1 (10 ^ 15) (10 ^ 8) 1 (live_deflection d) dl → Diameter m d (centroid_diameter d) D → Strain m d (service_strain d) es → Deflects m d ((computed m).add (plus_of (computed m) ds dl) ((computed m).mul D es))
    unfolding deflection
    deflection_known dl ds l D es =
        let both = plus_known {k = 120} {e = 1} {f = 10 ^ 15} {g = 10 ^ 8} {h = 1} 121 1 (10 ^ 11) (2 * 10 ^ 8) 1 (live_deflection d) dl ds l (λ v q. tt) tt in
        known s ((as_tree m).add (leaf both) ((as_tree m).mul (leaf D) (leaf es))) 300 1 (10 ^ 10) (10 ^ 9) 1 tt

    pub thrust_strain_known : {t elt area : E} (p : Option E) → Thrust m d (design_thrust d) t → Modulus m d (long_modulus d) elt → LivePart m d p → Area m d (effective_area d) area → Strain m d (thrust_strain d) (strain_of (computed m) t elt p area)
    unfolding thrust_strain
    thrust_strain_known p t elt lp area = strain_known (design_thrust d) (live_part d) (effective_area d) p t elt lp area

    pub least_strain_known : {t elt area : E} (p : Option E) → Thrust m d (least_thrust d) t → Modulus m d (long_modulus d) elt → LivePart m d p → Area m d (effective_area d) area → Strain m d (least_strain d) (strain_of (computed m) t elt p area)
    unfolding least_strain
    least_strain_known p t elt lp area = strain_known (least_thrust d) (live_part d) (effective_area d) p t elt lp area

    pub service_strain_known : {t elt area : E} (p : Option E) → Thrust m d (service_thrust d) t → Modulus m d (long_modulus d) elt → Perhaps m 160 1 (10 ^ 16) 1000 1 (live_thrust d ⊘ live_modulus d) p → Area m d (gross_area d) area → Strain m d (service_strain d) (strain_of (computed m) t elt p area)
    unfolding service_strain
    service_strain_known p t elt lp area = strain_known (service_thrust d) (live_thrust d ⊘ live_modulus d) (gross_area d) p t elt lp area
