use Rattle.book.proofs.Told.{told}
use Rattle.book.proofs.record.lines_tell_records.Goals as goal

pub returns : goal.returns
returns c = told
