use Rattle.std.proofs.Common.{rules, tests}
use Rattle.std.proofs.lemmas.Iterator.{YieldsList-from_slice, IsFirst-from_position}
use Rattle.fraction.specs.Ratio.{value}
use Rattle.lookups.specs.Cell.{Passed, Reached}
use Rattle.lookups.proofs.axes.first_reached.Goals as goal

pub returns : goal.returns
returns g c =
    let f = g.P.Placed.spot in
    let x = value c.args.at in
    IsFirst-from_position _ _ _ (Reached f x) (Passed f x) c.position.ensures.ran (YieldsList-from_slice c.args.points.now c.iter.ensures.rest) (λ y q k. search (rules, tests)) (λ y q k. search (rules, tests))
