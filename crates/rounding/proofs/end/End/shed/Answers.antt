use Rattle.std.proofs.Common.{ℕ, ◌*◌, ◌≤◌, ap, ◌∙◌, subst, arith, below_more}
use Rattle.rounding.specs.Cut.{cut}
use Rattle.rounding.proofs.Cuts.{cut_least, cut_shrinks}
use Rattle.rounding.proofs.Ends.{base_pos}
use Rattle.rounding.proofs.Drops.{cut_next}
use Rattle.rounding.proofs.end.End.shed.Goals as goal

pub loop-m-smaller : goal.loop-m-smaller
loop-m-smaller g c =
    let z = g.R.Radix.lawful in
    let less = cut_shrinks c.args.toward c.loop-m.m g.R.Radix.BASE z.0.0 (omega (arith, z)) in
    omega (arith, c.cut_off-m.ensures ∙ ap (cut c.args.toward c.loop-m.m) c.BASE-base.ensures)

pub loop-m-preserved : goal.loop-m-preserved
loop-m-preserved g c =
    let r = g.R.Radix in
    let z = r.lawful in
    let t = c.args.toward in
    let many : r.FULL * r.BASE ≤ c.loop-m.m = omega arith in
    let less = cut_shrinks t c.loop-m.m r.BASE z.0.0 (omega (arith, z)) in
    let full = cut_least t c.loop-m.m r.BASE r.FULL (base_pos z) many in
    let is = c.cut_off-m.ensures ∙ ap (cut t c.loop-m.m) c.BASE-base.ensures in (
      is ∙ cut_next z t c.args.n c.loop-m.k c.loop-m.m c.loop-m.invariant.0,
      omega arith,
      omega arith,
      below_more _ _ c.loop-m.invariant.3 (subst (λ (x : ℕ). r.FULL * r.BASE ≤ x) c.loop-m.invariant.0 many),
    )
