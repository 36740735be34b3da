-- What is known of each quantity of a design: how near its enclosure is, and the range that lawful records keep it in.
use Rattle.std.specs.Prelude.{◌^◌, Option}
use Rattle.fraction.specs.Fraction.{Fraction}
use Rattle.enclosure.specs.Model.{Model}
use Rattle.equations.specs.Design.{Design, wall_moment, fill_depth}
use Rattle.equations.specs.Pressures.{prism_pressure, water_pressure}
use Rattle.equations.specs.LiveLoad.{live_length, live_pressure}
use Rattle.equations.specs.Soil.{soil_modulus}
use Rattle.equations.specs.Thrust.{hoop_stiffness, vertical_arching, load_factor, length_share, live_thrust}
use Rattle.equations.specs.Strains.{live_part}
use Rattle.equations.specs.Bending.{bending_factor}
use Rattle.equations.specs.Deflection.{deflection}
use Rattle.quantities.specs.Known.{Known, Perhaps}

module _ {E : Type 0} (m : Model E) (d : Design) where
  -- a diameter, an area, a modulus of the pipe, a strain limit
  abbrev pub Diameter : Fraction → E → Type 0
  Diameter x e = Known m 3 3 1 120 1 x e

  abbrev pub Area : Fraction → E → Type 0
  Area x e = Known m 3 1 100 10 1 x e

  abbrev pub Modulus : Fraction → E → Type 0
  Modulus x e = Known m 1 1000 1 1000000 1 x e

  abbrev pub Limit : Fraction → E → Type 0
  Limit x e = Known m 3 1 10000 1 5 x e

  abbrev pub Moment : E → Type 0
  Moment e = Known m 3 1 10000 100 1 (wall_moment d) e

  abbrev pub Fill : E → Type 0
  Fill e = Known m 3 12 1 1200 1 (fill_depth d) e

  -- pressures
  abbrev pub Prism : E → Type 0
  Prism e = Known m 3 1 10 400 1 (prism_pressure d) e

  abbrev pub Water : Option E → Type 0
  Water e = Perhaps m 20 1 100000 100 1 (water_pressure d) e

  abbrev pub Live : Option E → Type 0
  Live e = Perhaps m 50 1 1000 100 1 (live_pressure d) e

  abbrev pub LiveLength : E → Type 0
  LiveLength e = Known m 10 23 1 1400 1 (live_length d) e

  -- soil
  abbrev pub Soil : E → Type 0
  Soil e = Known m 13 1 20 100000 1 (soil_modulus d) e

  abbrev pub Hoop : E → Type 0
  Hoop e = Known m 30 1 (10 ^ 9) (10 ^ 6) 1 (hoop_stiffness d) e

  abbrev pub Arching : E → Type 0
  Arching e = Known m 40 1 20 21 20 (vertical_arching d) e

  abbrev pub LoadFactor : E → Type 0
  LoadFactor e = Known m 10 1 1 2 1 (load_factor d) e

  -- thrusts, lbf/in
  abbrev pub Thrust : Fraction → E → Type 0
  Thrust x e = Known m 80 1 1000 (10 ^ 5) 1 x e

  abbrev pub LengthShare : E → Type 0
  LengthShare e = Known m 15 1 10 1 1 (length_share d) e

  abbrev pub LiveThrust : Option E → Type 0
  LiveThrust e = Perhaps m 150 1 (10 ^ 10) (10 ^ 5) 1 (live_thrust d) e

  abbrev pub LivePart : Option E → Type 0
  LivePart e = Perhaps m 160 1 (10 ^ 16) 1000 1 (live_part d) e

  -- strains, the bending factor, the deflection
  abbrev pub Strain : Fraction → E → Type 0
  Strain x e = Known m 200 1 (10 ^ 10) (10 ^ 6) 1 x e

  abbrev pub Bending : E → Type 0
  Bending e = Known m 40 1 (10 ^ 6) 1000 1 (bending_factor d) e

  abbrev pub Deflects : E → Type 0
  Deflects e = Known m 300 1 (10 ^ 10) (10 ^ 9) 1 (deflection d) e
