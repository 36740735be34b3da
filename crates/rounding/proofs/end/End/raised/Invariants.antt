use Rattle.std.proofs.Common.{◌≡◌, ◌-◌, ◌*◌, ◌^◌, ◌≤◌}
use Rattle.rounding.proofs.end.End.raised.Given as goal

abbrev pub invariant-loop-n : goal.invariant-loop-n
invariant-loop-n g l = (l.n * g.R.Radix.BASE ^ l.f ≡ l.m * g.R.Radix.BASE ^ l.e) × (l.f ≤ l.e) × (l.n ≤ (g.R.Radix.FULL * g.R.Radix.BASE - 1) * g.R.Radix.BASE)

abbrev pub decreases-loop-n : goal.decreases-loop-n
decreases-loop-n g l = l.f
