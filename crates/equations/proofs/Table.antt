-- The values worked by hand.
use mathlib.Core.Path.{◌≡◌, ◌∙◌}
use mathlib.Core.Bool.{true, false}
use Prim.Native.Nat.{◌*◌}
use native.Mathlib.Omega.{arith}
use borrow.Author.Tests.{le-leb}
use lib.Dec.{lit≤}
use Rattle.fraction.specs.Fraction.{whole, ◌⊕◌, ◌⊗◌, ◌⊘◌, ◌⊖◌, ◌⊓◌}
use Rattle.lookups.specs.Line.{chord}
use Rattle.lookups.specs.Lookup.{support_at}
use Rattle.equations.specs.Design.{Design}
use Rattle.equations.specs.Pressures.{crown_water, wet_prism, prism_pressure, water_pressure}
use Rattle.equations.specs.LiveLoad.{wheels_pair}
use Rattle.equations.specs.Soil.{fully_supported, support_factor}
use Rattle.equations.specs.Thrust.{arching}
use Rattle.equations.specs.Tabulated.{Tabulated}
use Rattle.equations.proofs.Forms.{all_regroup}

one_wheel : (d : Design) → d.section.inside ≡ 36000 → d.site.fill ≡ 43339 → wheels_pair d ≡ false
one_wheel d i h = (all_regroup d).pair ∙ rw (i, h)

two_wheels : (d : Design) → d.section.inside ≡ 36000 → d.site.fill ≡ 43340 → wheels_pair d ≡ true
two_wheels d i h = (all_regroup d).pair ∙ rw (i, h)

wide_trench : (d : Design) → d.site.trench ≡ 3 * d.section.outside → support_factor d ≡ whole 1
unfolding support_factor
wide_trench d e =
    let full : fully_supported d ≡ true = (all_regroup d).full ∙ rw (le-leb (3 * d.section.outside) d.site.trench (omega arith)) in rw full

pub tabulated : Tabulated
unfolding crown_water wet_prism prism_pressure water_pressure support_at arching chord ◌⊕◌ ◌⊗◌ ◌⊘◌ ◌⊖◌ ◌⊓◌ whole
tabulated =
    record {
      prism = record { to = record { cross = lit≤ tt }; from = record { cross = lit≤ tt } };
      water = record { to = record { cross = lit≤ tt }; from = record { cross = lit≤ tt } };
      modulus = record { to = record { cross = lit≤ tt }; from = record { cross = lit≤ tt } };
      modulus_beyond = record { to = record { cross = lit≤ tt }; from = record { cross = lit≤ tt } };
      shape = record { to = record { cross = lit≤ tt }; from = record { cross = lit≤ tt } };
      support = record { to = record { cross = lit≤ tt }; from = record { cross = lit≤ tt } };
      arch = record { to = record { cross = lit≤ tt }; from = record { cross = lit≤ tt } };
      one_wheel = one_wheel;
      two_wheels = two_wheels;
      wide_trench = wide_trench;
    }
