use Rattle.std.proofs.Common.{◌≡◌, ◌+◌, ◌*◌, drop}
use Rattle.sitting.specs.Claims.{claims_refusal}
use Rattle.sitting.proofs.claims.check_claims.Given as goal

abbrev pub invariant-loop-i : goal.invariant-loop-i
invariant-loop-i l = claims_refusal 6 l.claims ≡ claims_refusal (6 + 2 * l.i) (drop l.i l.claims)
