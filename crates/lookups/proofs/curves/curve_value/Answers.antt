use Rattle.std.proofs.Common.{arith}
use Rattle.fraction.specs.Ratio.{value}
use Rattle.lookups.proofs.Values.{curve_kept, curve_fits, mean_least, mean_most, weights_most, places_at, value_same}
use Rattle.lookups.proofs.curves.curve_value.Goals as goal

pub weigh-sum-requires : goal.weigh-sum-requires
weigh-sum-requires g c =
    let e = c.cell_of-cell.ensures in
    omega (arith, curve_fits c.args.curve.now _ c.points-points.ensures g.met.K.CurveKind.bounded c.cell_of-cell.result e.first e.second _ e.weights c.requires)

pub overflow_add-result : goal.overflow_add-result
overflow_add-result g c =
    let e = c.cell_of-cell.ensures in
    omega (arith, curve_fits c.args.curve.now _ c.points-points.ensures g.met.K.CurveKind.bounded c.cell_of-cell.result e.first e.second _ e.weights c.requires)

pub returns : goal.returns
returns g c =
    let ps = c.points-points.result.now in
    let k = curve_kept c.args.curve.now ps c.points-points.ensures in
    let e = c.cell_of-cell.ensures in
    let r = c.cell_of-cell.result in
    let y = k.inside _ e.first in
    let z = k.inside _ e.second in
    rw c.weigh-sum.ensures
    (record {
      value = rw (← c.points-points.ensures) (value_same ps (value c.args.at) r e.value _);
      least = mean_least _ _ _ r.after r.before y.2 z.2;
      most = mean_most _ _ _ r.after r.before y.3 z.3;
      fits = weights_most _ _ _ _ e.weights (rw (places_at ps r.second) z.1);
    })
