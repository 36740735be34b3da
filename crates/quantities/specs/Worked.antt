-- The quantities of a design, as enclosures.
use Rattle.enclosure.specs.Model.{Model}
use Rattle.equations.specs.Design.{Design}
use Rattle.equations.specs.Thrust.{design_thrust}
use Rattle.equations.specs.Strains.{thrust_strain, least_strain, service_strain}
use Rattle.quantities.specs.Measured.{Measured}
use Rattle.quantities.specs.Quantities.{Prism, Soil, Hoop, Arching, LoadFactor, Thrust, LengthShare, LiveThrust, Strain, Bending, Deflects, Live as LivePressure}
use Rattle.quantities.specs.declared.worked.Live.{Live}
use Rattle.quantities.specs.declared.worked.Worked.{Worked}

pub record LiveKnown {E : Type 0} (m : Model E) (d : Design) (l : Live E) : Type 0 where
  pub share : LengthShare m d l.share
  pub pressure : LivePressure m d l.pressure
  pub thrust : LiveThrust m d l.thrust

pub record WorkedKnown {E : Type 0} (m : Model E) (d : Design) (w : Worked E) : Type 0 where
  pub measures : Measured m d w.measures
  pub prism : Prism m d w.prism
  pub modulus : Soil m d w.modulus
  pub hoop : Hoop m d w.hoop
  pub arching : Arching m d w.arching
  pub load : LoadFactor m d w.load_factor
  pub design : Thrust m d (design_thrust d) w.design_thrust
  pub thrust : Strain m d (thrust_strain d) w.thrust_strain
  pub least : Strain m d (least_strain d) w.least_strain
  pub service : Strain m d (service_strain d) w.service_strain
  pub deflection : Deflects m d w.deflection
  pub bending : Bending m d w.bending
