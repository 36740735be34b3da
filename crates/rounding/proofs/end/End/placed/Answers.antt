use Rattle.std.proofs.Common.{ℕ, ◌+◌, ◌-◌, ◌*◌, sym, ap, ◌∙◌, subst, arith}
use Rattle.rounding.specs.Cut.{cut}
use Rattle.rounding.specs.Placed.{Stands}
use Rattle.rounding.specs.Rounded.{wider}
use Rattle.rounding.proofs.Cuts.{cut_most}
use Rattle.rounding.proofs.Ends.{base_pos}
use Rattle.rounding.proofs.Rounds.{stands_carried}
use Rattle.rounding.proofs.end.End.placed.Goals as goal

pub at-requires-2-clause-few : goal.at-requires-2-clause-few
at-requires-2-clause-few g c =
    let r = g.R.Radix in
    let most = cut_most c.args.toward c.args.m r.BASE (r.FULL * r.BASE - 1) (base_pos r.lawful) c.requires.few in
    omega (arith, r.lawful, wider r.lawful, c.cut_off.ensures ∙ ap (cut c.args.toward c.args.m) c.BASE.ensures)

pub returns : goal.returns
returns g c N u s =
    let r = g.R.Radix in
    let t = c.args.toward in
    c.at-2.ensures t N u
    (subst (λ (x : ℕ). Stands r.BASE r.FULL t N u x (c.args.e + 1)) (sym (c.cut_off.ensures ∙ ap (cut t c.args.m) c.BASE.ensures))
    (stands_carried r.lawful t N u c.args.m c.args.e s (omega arith)))
