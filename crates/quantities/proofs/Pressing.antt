-- What is known of the pressures.
use Rattle.std.proofs.Common.{◌≡◌, ℕ, ◌+◌, ◌-◌, ◌*◌, ◌<◌, ◌≤◌, true, false, Some, None, Option, ◌∙◌, le_refl, mul-le-mul, arith, le-leb}
use borrow.Author.Tests.{lt-leb}
use Rattle.fraction.specs.Fraction.{Fraction, whole, ◌⊕◌, ◌⊗◌, ◌⊘◌, ◌⊓◌}
use Rattle.fraction.specs.Ratio.{at_most}
use Rattle.enclosure.specs.Model.{Model, Sound}
use Rattle.enclosure.specs.Formula.{computed}
use Rattle.enclosure.proofs.Trees.{as_tree, field}
use Rattle.records.specs.declared.site.LiveLoad.TheVariants.{None as NoLoad, Truck}
use Rattle.equations.specs.Units.{tenths}
use Rattle.equations.specs.Design.{Design, inside_diameter, outside_diameter, fill_depth, water_depth, water_factor}
use Rattle.equations.specs.Pressures.{water_pressure}
use Rattle.equations.specs.LiveLoad.{live_length, live_width, live_pressure, wheel_width, wheels_pair, wheel_load, truck_pressure, impact}
use Rattle.equations.specs.Regrouped.{Drained, wet_units, prism_units, wheel_units, impact_units}
use Rattle.equations.proofs.Prism.{prism_same}
use Rattle.equations.proofs.Forms.{all_regroup}
use Rattle.quantities.specs.Known.{Known}
use Rattle.quantities.specs.Quantities.{Diameter, Fill, Prism}
use Rattle.quantities.specs.Formulas.{parts_of, plus_of, water_pressure_of, live_length_of, wheel_width_of, truck_pressure_of}
use Rattle.quantities.proofs.Known.{leaf, known, known_along, known_is}
use Rattle.quantities.proofs.Quantities.{times_zero, zero_over}

-- the prism's units are not few
least_parts : (e t g v : ℕ) → 24002 ≤ e + t → 176 ≤ g → 176 ≤ v → 400000000 ≤ 100 * e * g + 100 * t * v
least_parts e t g v h k l =
    let p : e * 176 ≤ e * g = mul-le-mul (le_refl e) k in
    let q : t * 176 ≤ t * v = mul-le-mul (le_refl t) l in
    omega (arith, p, q)

pub wet_least : (h o t g s : ℕ) → 12001 ≤ h → t ≤ 2 * h → 500 ≤ g → 800 ≤ s → 400000000 ≤ wet_units h o t g s
wet_least h o t g s a b c e =
    let r = least_parts (2 * h - t) t g (s - 624) (omega arith) (omega arith) (omega arith) in
    omega (arith, r)

smaller_zero : (x y : Fraction) → x.num ≡ 0 → (x ⊓ y).num ≡ 0
unfolding ◌⊓◌
smaller_zero x y e = rw e (omega arith)

nothing : (n k : ℕ) → n ≡ 0 → (whole n ⊘ whole k).num ≡ 0
unfolding ◌⊘◌ whole
nothing n k e = rw e

module _ {E : Type 0} {m : Model E} (s : Sound m) (d : Design) where
  pub prism_known : (n : ℕ) → Drained d → n ≡ prism_units d → 400000000 ≤ n → n ≤ 1300000000000 → Prism m d (parts_of (computed m) n 3456000000)
  prism_known n drained is h l =
      known_along s (rw is (prism_same d drained)) (known s ((as_tree m).div (field 400000000 1300000000000 n h l) ((as_tree m).num 3456000000)) 3 1 10 400 1 tt)

  pub no_water : d.site.water ≡ 0 → (water_pressure d).num ≡ 0
  unfolding water_pressure
  no_water e =
      let depth = water_factor d ⊗ water_depth d in
      let ground = fill_depth d ⊕ outside_diameter d ⊘ whole 2 in
      zero_over (tenths 624 ⊗ (depth ⊓ ground)) (whole 1728) (times_zero (tenths 624) (depth ⊓ ground) (smaller_zero depth ground (times_zero (water_factor d) (water_depth d) (nothing d.site.water 1000 e))))

  pub water_known : {H Do : E} → Fill m d H → Diameter m d (outside_diameter d) Do → 1 ≤ d.site.water → Known m 20 1 100000 100 1 (water_pressure d) (water_pressure_of (computed m) (parts_of (computed m) d.site.water_factor 100) (parts_of (computed m) d.site.water 1000) H Do)
  unfolding water_pressure
  water_known H Do some =
      let factor = (as_tree m).div (field 100 130 d.site.water_factor (omega (arith, d.site.factors)) (omega (arith, d.site.factors))) ((as_tree m).num 100) in
      let depth = (as_tree m).div (field 1 1260000 d.site.water some (omega (arith, d.site.waters))) ((as_tree m).num 1000) in
      known s (water_pressure_of (as_tree m) factor depth (leaf H) (leaf Do)) 20 1 100000 100 1 tt

  -- no load counts without one, nor under more than 96 inches
  pub no_load : d.site.live_load ≡ NoLoad → (live_pressure d).num ≡ 0
  unfolding live_pressure whole
  no_load e = rw e

  deep : 96000 < d.site.fill → at_most (fill_depth d) (whole 96) ≡ false
  deep h = (all_regroup d).shallow ∙ lt-leb d.site.fill 96000 h

  pub too_deep : d.site.live_load ≡ Truck → 96000 < d.site.fill → (live_pressure d).num ≡ 0
  unfolding live_pressure whole
  too_deep e h = rw (e, deep h)

  counted : d.site.live_load ≡ Truck → d.site.fill ≤ 96000 → truck_pressure d ≡ live_pressure d
  unfolding live_pressure
  counted e h = let shallow : at_most (fill_depth d) (whole 96) ≡ true = (all_regroup d).shallow ∙ le-leb d.site.fill 96000 h in rw (e, shallow)

  two_wheels : wheels_pair d ≡ true → tenths 12 ⊗ impact d ⊗ (whole 32000 ⊘ (live_length d ⊗ (wheel_width d ⊕ whole 72))) ≡ truck_pressure d
  unfolding truck_pressure wheel_load live_width
  two_wheels e = rw e

  one_wheel : wheels_pair d ≡ false → tenths 12 ⊗ impact d ⊗ (whole 16000 ⊘ (live_length d ⊗ wheel_width d)) ≡ truck_pressure d
  unfolding truck_pressure wheel_load live_width
  one_wheel e = rw e

  rolling : (le : d.site.fill ≤ 96000) → Known m 3 1 1 13 10 (impact d) (parts_of (computed m) (impact_units d) 9600000)
  rolling le =
      known_along s ((all_regroup d).rolling le) (known s ((as_tree m).div (field 9600000 12400000 (impact_units d) (omega arith) (omega (arith, d.site.fills))) ((as_tree m).num 9600000)) 3 1 1 13 10 tt)

  pub paired_known : {H Di : E} → Fill m d H → Diameter m d (inside_diameter d) Di → d.site.live_load ≡ Truck → d.site.fill ≤ 96000 → 5200000 ≤ wheel_units d → Known m 50 1 1000 100 1 (live_pressure d) (truck_pressure_of (computed m) (parts_of (computed m) (impact_units d) 9600000) (m.from_whole 32000) (live_length_of (computed m) H) (m.sum (wheel_width_of (computed m) H Di) (m.from_whole 72)))
  unfolding live_length wheel_width
  paired_known H Di truck le wide =
      let pair = (all_regroup d).pair ∙ le-leb 5200000 (wheel_units d) wide in
      known_is (two_wheels pair ∙ counted truck le)
      (known s (truck_pressure_of (as_tree m) (leaf (rolling le)) ((as_tree m).num 32000) (live_length_of (as_tree m) (leaf H)) ((as_tree m).add (wheel_width_of (as_tree m) (leaf H) (leaf Di)) ((as_tree m).num 72))) 50 1 1000 100 1 tt)

  pub single_known : {H Di : E} → Fill m d H → Diameter m d (inside_diameter d) Di → d.site.live_load ≡ Truck → d.site.fill ≤ 96000 → wheel_units d < 5200000 → Known m 50 1 1000 100 1 (live_pressure d) (truck_pressure_of (computed m) (parts_of (computed m) (impact_units d) 9600000) (m.from_whole 16000) (live_length_of (computed m) H) (wheel_width_of (computed m) H Di))
  unfolding live_length wheel_width
  single_known H Di truck le narrow =
      let pair = (all_regroup d).pair ∙ lt-leb 5200000 (wheel_units d) narrow in
      known_is (one_wheel pair ∙ counted truck le)
      (known s (truck_pressure_of (as_tree m) (leaf (rolling le)) ((as_tree m).num 16000) (live_length_of (as_tree m) (leaf H)) (wheel_width_of (as_tree m) (leaf H) (leaf Di))) 50 1 1000 100 1 tt)

  -- and of what was computed step by step
  pub water_steps : {H Do : E} (factor depth e : E) → factor ≡ parts_of (computed m) d.site.water_factor 100 → depth ≡ parts_of (computed m) d.site.water 1000 → e ≡ water_pressure_of (computed m) factor depth H Do → Fill m d H → Diameter m d (outside_diameter d) Do → 1 ≤ d.site.water → Known m 20 1 100000 100 1 (water_pressure d) e
  water_steps factor depth e a b c H Do some = rw (c, a, b) (water_known H Do some)

  pub paired_steps : {H Di : E} (one more width e : E) (under : ℕ × Option E) → one ≡ wheel_width_of (computed m) H Di → more ≡ m.from_whole 72 → under ≡ (32000, Some more) → width ≡ plus_of (computed m) one under.1 → e ≡ truck_pressure_of (computed m) (parts_of (computed m) (impact_units d) 9600000) (m.from_whole under.0) (live_length_of (computed m) H) width → Fill m d H → Diameter m d (inside_diameter d) Di → d.site.live_load ≡ Truck → d.site.fill ≤ 96000 → 5200000 ≤ wheel_units d → Known m 50 1 1000 100 1 (live_pressure d) e
  paired_steps one more width e under a b l c i H Di truck le wide = rw (i, c, l, a, b) (paired_known H Di truck le wide)

  pub single_steps : {H Di : E} (one width e : E) (under : ℕ × Option E) → one ≡ wheel_width_of (computed m) H Di → under ≡ (16000, None) → width ≡ plus_of (computed m) one under.1 → e ≡ truck_pressure_of (computed m) (parts_of (computed m) (impact_units d) 9600000) (m.from_whole under.0) (live_length_of (computed m) H) width → Fill m d H → Diameter m d (inside_diameter d) Di → d.site.live_load ≡ Truck → d.site.fill ≤ 96000 → wheel_units d < 5200000 → Known m 50 1 1000 100 1 (live_pressure d) e
  single_steps one width e under a l c i H Di truck le narrow = rw (i, c, l, a) (single_known H Di truck le narrow)
