use Rattle.std.proofs.lemmas.Result.{err_from_is_err_and}
use Rattle.records.proofs.GridLines.{values_refused, grid_made}
use Rattle.records.proofs.grid.SupportGrid.new.Goals as goal

pub returns-in_err-check : goal.returns-in_err-check
returns-in_err-check c =
    let p = err_from_is_err_and c.from_residual-in_err-check.result c.from_residual-in_err-check.ensures.1 in
    rw (p.1, p.2)
    (values_refused c.args.fields.now c.split_at.result.1.now _ _ _ c.if-not-grid_complete.ensures
    c.split_at.ensures.front c.split_at.ensures.back c.split_at-2.ensures.front c.split_at-2.ensures.back
    c.in_ok-in_ranges.ensures _ c.in_err-check.ensures)

pub returns : goal.returns
returns c =
    rw (c.from_slice.ensures, c.from_slice-2.ensures, c.from_slice-3.ensures)
    (grid_made c.args.fields.now c.split_at.result.1.now _ _ _ c.if-not-grid_complete.ensures
    c.split_at.ensures.front c.split_at.ensures.back c.split_at-2.ensures.front c.split_at-2.ensures.back
    c.in_ok-in_ranges.ensures c.in_ok-check.ensures)
