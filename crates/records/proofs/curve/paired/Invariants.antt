use Rattle.std.proofs.Common.{◌≡◌, ◌≤◌, ◌+◌, ◌*◌, ◌++◌, length}
use Rattle.std.specs.Slice.Iter.{chunks_exact_rest, chunks_exact_size}
use Rattle.records.specs.Curve.{paired}
use Rattle.records.specs.ShortList.{in_use}
use Rattle.records.proofs.curve.paired.Given as goal

abbrev pub invariant-loop-pair : goal.invariant-loop-pair
invariant-loop-pair l =
    (goal.iterator-loop-pair).can_next l.pair-iterator
    × (goal.iterator-loop-pair).is_finite l.pair-iterator
    × (chunks_exact_size l.pair-iterator ≡ 2)
    × (in_use l.points ++ paired (chunks_exact_rest l.pair-iterator) ≡ paired l.fields)
    × (2 * length (in_use l.points) + length (chunks_exact_rest l.pair-iterator) ≤ 16)
