use Rattle.rounding.proofs.Scalings.{scales_some, scales_slight, scales_stands}
use Rattle.rounding.proofs.end.End.scaled.Goals as goal

pub returns-then-from-floor : goal.returns-then-from-floor
returns-then-from-floor g c N u P Q s =
    let z = g.R.Radix.lawful in
    let t = c.args.toward in
    c.slightest.ensures N u s.some (scales_some z t N u P Q _ _ _ s) (scales_slight z t N u P Q _ _ _ s c.if-from-floor.true)

pub returns : goal.returns
returns g c N u P Q s = c.placed.ensures N u (scales_stands g.R.Radix.lawful c.args.toward N u P Q _ _ _ s c.if-from-floor.false)
