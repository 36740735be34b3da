use mathlib.Core.Path.{refl}
use Rattle.fraction.specs.Fraction.{ratio, whole, ◌⊕◌, ◌⊗◌, ◌⊘◌, ◌⊖◌}
use Rattle.lookups.specs.Line.{chord}
use Rattle.lookups.specs.Lookup.{support_at}
use Rattle.fraction.proofs.Sames as same
use Rattle.lookups.proofs.table.tabulated.Goals as goal

pub returns : goal.returns
unfolding ratio whole ◌⊕◌ ◌⊗◌ ◌⊘◌ ◌⊖◌ chord support_at
returns c =
    record {
      modulus_between = same.by_parts refl;
      modulus_beyond = same.by_parts refl;
      shape_between = same.by_parts refl;
      support_within = same.by_parts refl;
      support_wide = same.by_parts refl;
      support_stiff = same.by_parts refl;
    }
