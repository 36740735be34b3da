use Rattle.enclosure.proofs.+wide.Given as goal

-- the high part is below the number
abbrev pub decreases-wide : goal.decreases-wide
decreases-wide g l = l.n
