use Rattle.std.proofs.Common.{rules, nat_lt}
use Rattle.std.proofs.lemmas.List.Sorted.{answers_always}
use Rattle.records.proofs.Chains.{chained_is}
use Rattle.records.proofs.grid.is_rising.Goals as goal

pub returns : goal.returns
returns c = chained_is nat_lt _ _ (c.is_sorted_by.ensures.cases nat_lt (answers_always _ _ _ (λ f a r g called. search rules)))
