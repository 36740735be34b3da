use Rattle.fraction.proofs.Ratios.{made}
use Rattle.fraction.proofs.ratio.Ratio.new.Goals as goal

pub returns : goal.returns
returns c = made c.args.num c.args.den _
