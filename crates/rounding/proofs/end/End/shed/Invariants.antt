use Rattle.std.proofs.Common.{◌≡◌, ℕ, ◌+◌, ◌*◌, ◌^◌, ◌<◌, ◌≤◌}
use Rattle.rounding.specs.Cut.{cut}
use Rattle.rounding.proofs.end.End.shed.Given as goal

abbrev pub invariant-loop-m : goal.invariant-loop-m
invariant-loop-m g l =
    (l.m ≡ cut l.toward l.n (g.R.Radix.BASE ^ l.k)) × (g.R.Radix.FULL ≤ l.m) × (l.k + l.m ≤ l.n)
    × ((i : ℕ) → i < l.k → g.R.Radix.FULL * g.R.Radix.BASE ≤ cut l.toward l.n (g.R.Radix.BASE ^ i))

abbrev pub decreases-loop-m : goal.decreases-loop-m
decreases-loop-m g l = l.m
