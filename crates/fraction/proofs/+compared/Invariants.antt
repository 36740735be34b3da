use Rattle.std.proofs.Common.{◌+◌}
use Rattle.fraction.proofs.+compared.Given as goal

-- the remainders are below what they are remainders by
abbrev pub decreases-compared : goal.decreases-compared
decreases-compared l = l.b + l.d
