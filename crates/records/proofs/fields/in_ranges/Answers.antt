use Rattle.std.proofs.Common.{◌≡◌, ◌∙◌, ap, length, Some, arith, add_assoc}
use Rattle.std.proofs.iter.Yields.{fronts}
use Rattle.std.specs.Iterator.Adapters.{enumerate_steps, zip_steps, cycle_steps}
use Rattle.std.specs.Slice.Iter.{iter_rest}
use Rattle.records.proofs.Ranges.{outside_found, outside_passed}
use Rattle.records.proofs.Turns.{cycle_turn, turned}
use Rattle.records.proofs.fields.in_ranges.Goals as goal

pub returns-then-not-allows : goal.returns-then-not-allows
returns-then-not-allows c =
    let v = c.loop-i.invariant in
    let s : enumerate_steps (zip_steps fronts (cycle_steps fronts (λ s r. iter_rest r ≡ iter_rest s))) c.loop-i.i-iterator (Some (c.in-Some.i, (c.in-Some.n, c.in-Some.range))) c.next.new.self = c.in-Some.ensures.steps in
    let t = turned c.args.allowed.now _ _ _ c.requires.some (record { within = v.3; ends = v.4 }) (cycle_turn c.args.allowed.now _ _ c.in-Some.range v.2 s.0.1) in
    rw s.1 (outside_found _ _ _ _ _ _ _ s.0.0 v.6 (rw t.taken at c.if-not-allows.ensures))

pub loop-i-preserved : goal.loop-i-preserved
loop-i-preserved c =
    let v = c.loop-i.invariant in
    let s : enumerate_steps (zip_steps fronts (cycle_steps fronts (λ s r. iter_rest r ≡ iter_rest s))) c.loop-i.i-iterator (Some (c.in-Some.i, (c.in-Some.n, c.in-Some.range))) c.next.new.self = c.in-Some.ensures.steps in
    let t = turned c.args.allowed.now _ _ _ c.requires.some (record { within = v.3; ends = v.4 }) (cycle_turn c.args.allowed.now _ _ c.in-Some.range v.2 s.0.1) in (
      c.in-Some.ensures.goes.keeps,
      tt,
      ap iter_rest s.0.1.0 ∙ v.2,
      t.round.within,
      t.round.ends,
      omega (arith, v.5, s.2, ap length s.0.0),
      rw (t.next, s.2, ← add_assoc) (outside_passed _ _ _ _ _ _ _ s.0.0 v.6 (rw t.taken at c.if-not-allows.ensures)),
    )
