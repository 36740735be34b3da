-- The strains that the thrust gives.
use Rattle.fraction.specs.Fraction.{Fraction, ◌⊕◌, ◌⊗◌, ◌⊘◌}
use Rattle.equations.specs.Design.{Design, gross_area, effective_area, long_modulus}
use Rattle.equations.specs.LiveLoad.{live_factor, live_modulus}
use Rattle.equations.specs.Thrust.{live_thrust, design_thrust, least_thrust, service_thrust}

-- γLL Q / Ev: the live load's part of a factored strain, times the area
unfoldable pub live_part : Design → Fraction
live_part d = live_factor ⊗ live_thrust d ⊘ live_modulus d

-- εc = (TD/Elt + γLL Q/Ev) / Aeff: factored compression strain
unfoldable pub thrust_strain : Design → Fraction
thrust_strain d = (design_thrust d ⊘ long_modulus d ⊕ live_part d) ⊘ effective_area d

-- εmin, likewise of the least thrust
unfoldable pub least_strain : Design → Fraction
least_strain d = (least_thrust d ⊘ long_modulus d ⊕ live_part d) ⊘ effective_area d

-- εs = (TS/Elt + Q/Ev) / Ag: service strain
unfoldable pub service_strain : Design → Fraction
service_strain d = (service_thrust d ⊘ long_modulus d ⊕ live_thrust d ⊘ live_modulus d) ⊘ gross_area d
