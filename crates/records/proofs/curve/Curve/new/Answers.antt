use Rattle.records.proofs.CurveLines.{curve_made}
use Rattle.records.proofs.curve.Curve.new.Goals as goal

pub invariant_of-result : goal.invariant_of-result
invariant_of-result g c =
    record {
      lawful =
          (curve_made _ _ _ _ _ _ c.rules-rules.ensures c.if-not-curve_complete.ensures c.in_ok-in_ranges.ensures c.in_ok-in_ranges-2.ensures c.paired-points.ensures c.as_slice.ensures c.if-not-holds_along.ensures c.as_slice-2.ensures
          c.if-not-holds_along-2.ensures).1;
    }
