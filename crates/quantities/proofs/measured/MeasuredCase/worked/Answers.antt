use Rattle.quantities.specs.MeasuredCase.{design}
use Rattle.quantities.specs.Quantities.{Prism, Arching, Hoop, LoadFactor}
use Rattle.quantities.proofs.Known.{known_at}
use Rattle.quantities.proofs.Pressing.{prism_known}
use Rattle.quantities.proofs.Quantities.{arching_known}
use Rattle.quantities.proofs.Ranges.{measured}
use Rattle.quantities.proofs.Working as working
use Rattle.quantities.proofs.measured.MeasuredCase.worked.Goals as goal

pub live-live-requires : goal.live-live-requires
live-live-requires g c =
    let s = g.met.A.Arithmetic.sound in
    let d = design c.args.self.now in
    let p = c.args.self.now.measures in
    working.hoop_step s d p (measured s d p c.args.self.now.measured) c.soil_modulus-modulus.result c.hoop_stiffness-hoop.result c.hoop_stiffness-hoop.ensures c.soil_modulus-modulus.ensures

pub bending-requires : goal.bending-requires
bending-requires g c =
    let s = g.met.A.Arithmetic.sound in
    let d = design c.args.self.now in
    let p = c.args.self.now.measures in
    working.load_step s d p (measured s d p c.args.self.now.measured) c.parts.result c.load_factor-load_factor.result c.parts.ensures c.load_factor-load_factor.ensures

pub returns : goal.returns
returns g c =
    let s = g.met.A.Arithmetic.sound in
    let m = g.A.Arithmetic.model in
    let d = design c.args.self.now in
    let p = c.args.self.now.measures in
    let k = measured s d p c.args.self.now.measured in
    let n = c.prism_units-units.ensures in
    let psp = c.parts-prism.result in
    let vaf = c.arching-arching.result in
    let pw = c.water.result in
    let modulus = c.soil_modulus-modulus.ensures in
    let prism : Prism m d psp = known_at c.parts-prism.ensures (prism_known s d c.prism_units-units.result c.args.self.now.given.now.drained n.value n.least n.most) in
    let hoop : Hoop m d c.hoop_stiffness-hoop.result = working.hoop_step s d p k c.soil_modulus-modulus.result c.hoop_stiffness-hoop.result c.hoop_stiffness-hoop.ensures modulus in
    let arching : Arching m d vaf = known_at c.arching-arching.ensures (arching_known s d hoop) in
    let load : LoadFactor m d c.load_factor-load_factor.result = working.load_step s d p k c.parts.result c.load_factor-load_factor.result c.parts.ensures c.load_factor-load_factor.ensures in
    let water = c.water.ensures in
    let live = c.live-live.ensures in
    let q = c.live-live.result.thrust in
    let design = working.design_step s d p k psp vaf pw prism arching water c.load_factor-load_factor.result c.design_thrust-design_thrust.result c.design_thrust-design_thrust.ensures load in
    let least = working.least_step s d p k psp vaf pw prism arching water c.least_thrust.result c.least_thrust.ensures in
    let service = working.service_step s d p k psp vaf pw prism arching water c.service_thrust.result c.service_thrust.ensures in
    let factored = working.factored_step s d p k q live.thrust c.factored_part-factored.result c.factored_part-factored.ensures in
    let plain = working.plain_step s d p k q live.thrust c.plain_part-plain.result c.plain_part-plain.ensures in
    let shortened = working.service_strain_step s d p k c.service_thrust.result c.strain-service_strain.result c.plain_part-plain.result c.strain-service_strain.ensures service plain in
    record {
      measures = k;
      prism = prism;
      modulus = modulus;
      hoop = hoop;
      arching = arching;
      load = load;
      design = design;
      thrust = working.thrust_strain_step s d p k c.design_thrust-design_thrust.result c.strain.result c.factored_part-factored.result c.strain.ensures design factored;
      least = working.least_strain_step s d p k c.least_thrust.result c.strain-2.result c.factored_part-factored.result c.strain-2.ensures least factored;
      service = shortened;
      deflection = working.deflection_step s d p k psp c.soil_modulus-modulus.result c.strain-service_strain.result c.deflection.result c.live-live.result c.deflection.ensures prism modulus live shortened;
      bending = c.bending.ensures;
    }
