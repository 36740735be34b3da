use Rattle.sitting.proofs.Gathered.{gathered}
use Rattle.sitting.proofs.cases.gather.Goals as goal

pub returns-clause-stands : goal.returns-clause-stands
returns-clause-stands c = gathered _ _ c.new.result _ _ c.new.ensures record {
  section = c.in_ok-section.ensures.stands;
  embedment = c.in_ok-embedment.ensures.stands;
  shape = c.in_ok-shape.ensures.stands;
  grid = c.in_ok-grid.ensures.stands;
  site = c.in_ok-site.ensures.stands;
}
