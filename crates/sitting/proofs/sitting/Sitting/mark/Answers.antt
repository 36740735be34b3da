use Rattle.quantities.specs.Case.{design_of}
use Rattle.sitting.proofs.Counting.{all_earned}
use Rattle.sitting.proofs.sitting.Sitting.mark.Goals as goal

pub returns-clause-marks : goal.returns-clause-marks
returns-clause-marks g c =
    let design = design_of c.in_ok-case.case in
    record { design = design; stands = c.in_ok-case.ensures.stands; earned = all_earned g.A.Arithmetic.model design 6 _ _ c.in_ok-check_claims.ensures c.mark_all.ensures }
