use Rattle.std.proofs.Common.{rules}
use Rattle.std.proofs.lemmas.Fn.{always_returns_same}
use Rattle.records.specs.Curve.{holds}
use Rattle.records.proofs.Chains.{chained_is}
use Rattle.records.proofs.point.Rule.holds_along.Goals as goal

pub returns : goal.returns
returns c = chained_is (holds c.args.self) _ _ (c.is_sorted_by.ensures.cases (holds c.args.self) (always_returns_same _ _ _ (λ a r f called. search rules)))
