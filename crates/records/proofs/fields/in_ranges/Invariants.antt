use Rattle.std.proofs.Common.{◌≡◌, ◌+◌, ◌-◌, ◌≤◌, length, drop}
use Rattle.std.specs.Slice.Iter.{iter_rest}
use Rattle.std.specs.Iterator.Adapters.{cycle_source, cycle_start, enumerate_count, enumerate_source, zip_first, zip_second}
use Rattle.records.specs.Fields.{outside, outside_from}
use Rattle.records.proofs.Turns.{turn}
use Rattle.records.proofs.fields.in_ranges.Given as goal

abbrev pub invariant-loop-i : goal.invariant-loop-i
invariant-loop-i l =
    let pairs = enumerate_source l.i-iterator in
    let round = zip_second pairs in
    let rest = iter_rest (cycle_source round) in
    (goal.iterator-loop-i).can_next l.i-iterator
    × (goal.iterator-loop-i).is_finite l.i-iterator
    × (iter_rest (cycle_start round) ≡ l.allowed)
    × (length rest ≤ length l.allowed)
    × (rest ≡ drop (length l.allowed - length rest) l.allowed)
    × (enumerate_count l.i-iterator + length (iter_rest (zip_first pairs)) ≡ length l.numbers)
    × (outside l.allowed l.first l.numbers ≡ outside_from l.allowed (turn l.allowed rest) (l.first + enumerate_count l.i-iterator) (iter_rest (zip_first pairs)))
