-- The equations over any numbers, in the order in which they are computed: read in exact fractions they are the
-- equations' own, or proved the same.
use Rattle.std.specs.Prelude.{ℕ, Some, None, Option, option_map}
use Rattle.enclosure.specs.Formula.{Ops, wide_of}
use Rattle.quantities.specs.declared.measures.Measures.{Measures}
use Rattle.quantities.specs.declared.worked.Live.{Live}

module _ {T : Type 0} (o : Ops T) where
  -- n / k, of short and of long whole numbers
  abbrev pub parts_of : ℕ → ℕ → T
  parts_of n k = o.div (o.num n) (o.num k)

  abbrev pub long_parts_of : ℕ → ℕ → T
  long_parts_of n k = o.div (wide_of o n) (wide_of o k)

  abbrev pub half_of : T → T
  half_of x = o.div x (o.num 2)

  abbrev pub square_of : T → T
  square_of x = o.mul x x

  abbrev pub cube_of : T → T
  cube_of x = o.mul (o.mul x x) x

  -- x, and y where there is one
  abbrev pub plus_of : T → Option T → T
  plus_of x (Some y) = o.add x y
  plus_of x None = x

  -- Pw, of Kw, Hw, H and Do
  abbrev pub water_pressure_of : T → T → T → T → T
  water_pressure_of factor water fill outside =
      o.div (o.mul (parts_of 624 10) (o.smaller (o.mul factor water) (o.add fill (half_of outside)))) (o.num 1728)

  -- ℓ, of H
  abbrev pub live_length_of : T → T
  live_length_of fill = o.add (o.num 10) (o.mul (parts_of 115 100) fill)

  -- the width under one wheel, of H and Di
  abbrev pub wheel_width_of : T → T → T
  wheel_width_of fill inside = o.add (o.add (o.num 20) (o.mul (parts_of 115 100) fill)) (o.mul (parts_of 6 100) inside)

  -- PL, of the impact, the load, ℓ and w
  abbrev pub truck_pressure_of : T → T → T → T → T
  truck_pressure_of impact load len width = o.mul (o.mul (parts_of 12 10) impact) (o.div load (o.mul len width))

  -- SH, of Ms, D, Elt and Ag
  abbrev pub hoop_stiffness_of : T → T → T → T → T
  hoop_stiffness_of modulus centroid long gross = o.div (o.mul (o.mul (parts_of 9 10) modulus) (half_of centroid)) (o.mul long gross)

  -- VAF, of SH: 0.05 + 2.9039 / (SH + 2.92)
  abbrev pub arching_of : T → T
  arching_of hoop = o.add (parts_of 5 100) (o.div (parts_of 29039 10000) (o.add hoop (parts_of 292 100)))

  -- γ, of KγE
  abbrev pub load_factor_of : T → T
  load_factor_of installation = o.mul (parts_of 13 10) installation

  -- CL, of ℓ and Do
  abbrev pub length_share_of : T → T → T
  length_share_of len outside = o.smaller (o.div len outside) (o.num 1)

  -- F1, of ℓ, Do and Di
  abbrev pub spread_factor_of : T → T → T → T
  spread_factor_of len outside inside =
      o.larger (o.larger (o.div (o.mul (parts_of 75 100) outside) len) (o.div (o.num 15) inside)) (o.num 1)

  -- F2, of SH
  abbrev pub hoop_factor_of : T → T
  hoop_factor_of hoop = o.div (parts_of 95 100) (o.add (o.num 1) (o.mul (parts_of 6 10) hoop))

  -- Q, of CL, F1, F2, PL and Do
  abbrev pub live_thrust_of : T → T → T → T → T → T
  live_thrust_of share spread hoop pressure outside = half_of (o.mul (o.mul (o.mul (o.mul share spread) hoop) pressure) outside)

  -- 1.05 load Do/2 and load Do/2, of a load and Do
  abbrev pub factored_thrust_of : T → T → T
  factored_thrust_of load outside = half_of (o.mul (o.mul (parts_of 105 100) load) outside)

  abbrev pub thrust_of : T → T → T
  thrust_of load outside = half_of (o.mul load outside)

  -- the design thrust 1.05 (γ VAF Psp + Pw) Do/2, of γ, VAF, Psp, Pw and Do
  abbrev pub design_thrust_of : T → T → T → Option T → T → T
  design_thrust_of load arching prism water outside = factored_thrust_of (plus_of (o.mul (o.mul load arching) prism) water) outside

  -- the least thrust (0.54 VAF Psp + Pw) Do/2, of VAF, Psp, Pw and Do
  abbrev pub least_thrust_of : T → T → Option T → T → T
  least_thrust_of arching prism water outside = thrust_of (plus_of (o.mul (o.mul (parts_of 54 100) arching) prism) water) outside

  -- the service thrust (VAF Psp + Pw) Do/2, of VAF, Psp, Pw and Do
  abbrev pub service_thrust_of : T → T → Option T → T → T
  service_thrust_of arching prism water outside = thrust_of (plus_of (o.mul arching prism) water) outside

  -- γLL Q / Ev, of Q and Ev
  abbrev pub live_part_of : T → T → T
  live_part_of thrust modulus = o.div (o.mul (parts_of 175 100) thrust) modulus

  -- (T / Elt + the live load's part) / A, of T, Elt, that part and the area A
  abbrev pub strain_of : T → T → Option T → T → T
  strain_of thrust modulus live area = o.div (plus_of (o.div thrust modulus) live) area

  -- g, of γ, Df, the farther face and D
  abbrev pub bending_factor_of : T → T → T → T → T
  bending_factor_of load shape face centroid = o.div (o.mul (o.mul load shape) face) centroid

  -- E Ip / (D/2)³ + 0.061 Ms, of E, Ip, D and Ms
  abbrev pub resistance_of : T → T → T → T → T
  resistance_of modulus moment centroid soil = o.add (o.div (o.mul modulus moment) (cube_of (half_of centroid))) (o.mul (parts_of 61 1000) soil)

  -- 0.15 Psp Do / resistance, of Psp, Do and the resistance
  abbrev pub soil_deflection_of : T → T → T → T
  soil_deflection_of prism outside resistance = o.div (o.mul (o.mul (parts_of 15 100) prism) outside) resistance

  -- 0.1 CL PL Do / resistance
  abbrev pub live_deflection_of : T → T → T → T → T
  live_deflection_of share pressure outside resistance = o.div (o.mul (o.mul (o.mul (parts_of 1 10) share) pressure) outside) resistance

  -- the deflection, of the pipe's measures, Psp, Ms, the live load and the service strain: under the soil at the long
  -- modulus, under the live load at the short one, and D times the strain
  abbrev pub deflection_of : Measures T → T → T → Live T → T → T
  deflection_of p prism soil live service =
      let under = soil_deflection_of prism p.outside (resistance_of p.long_modulus p.moment p.centroid soil) in
      let short = resistance_of p.short_modulus p.moment p.centroid soil in
      let more = option_map (λ q. live_deflection_of live.share q p.outside short) live.pressure in
      o.add (plus_of under more) (o.mul p.centroid service)
