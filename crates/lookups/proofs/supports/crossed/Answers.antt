use Rattle.lookups.proofs.Bilinear.{weighed}
use Rattle.lookups.proofs.supports.crossed.Goals as goal

pub returns-clause-least : goal.returns-clause-least
returns-clause-least c = let l = c.row_sum-low.ensures in let h = c.row_sum-high.ensures in (weighed _ _ _ _ _ _ c.weigh.ensures l.least l.most h.least h.most).0

pub returns-clause-most : goal.returns-clause-most
returns-clause-most c = let l = c.row_sum-low.ensures in let h = c.row_sum-high.ensures in (weighed _ _ _ _ _ _ c.weigh.ensures l.least l.most h.least h.most).1
