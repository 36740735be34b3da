use Rattle.std.proofs.Common.{ℕ, ◌-◌, ◌^◌, ◌<◌, sym, ap, ◌∙◌, subst}
use Rattle.rounding.specs.Cut.{cut}
use Rattle.rounding.proofs.Ends.{power_pos}
use Rattle.rounding.proofs.Drops.{cut_stage}
use Rattle.rounding.proofs.end.End.stage.Goals as goal

pub cut_off-requires-clause-some : goal.cut_off-requires-clause-some
cut_off-requires-clause-some g c = subst (λ (x : ℕ). 0 < x) (sym c.requires.power) (power_pos g.R.Radix.lawful c.args.step)

pub returns-clause-same : goal.returns-clause-same
returns-clause-same g c =
    let r = g.R.Radix in
    let t = c.args.toward in
    ap (λ x. cut t x (r.BASE ^ (c.args.k - c.args.step))) c.cut_off.ensures ∙ cut_stage r.lawful t c.args.n c.args.k c.args.step c.args.unit c.requires.power c.if-k-step.false
