use Rattle.std.proofs.Common.{◌≡◌, ◌*◌, length, drop}
use Rattle.records.specs.Curve.{holds, chained}
use Rattle.records.specs.Grid.{column}
use Rattle.records.proofs.Columns.{after}
use Rattle.records.proofs.grid.Lists.column_holds.Given as goal

abbrev pub invariant-loop-ratio : goal.invariant-loop-ratio
invariant-loop-ratio l =
    let w = length l.self.widths.now in
    let ratios = drop l.ratio-index l.self.ratios.now in
    (after (holds l.rule) l.above (column w l.place ratios l.rows) ≡ chained (holds l.rule) (column w l.place l.self.ratios.now l.self.factors.now))
    × (length l.rows ≡ length ratios * w)
