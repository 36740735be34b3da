use Rattle.std.proofs.Common.{◌≡◌, ◌^◌, sym, ap, ◌∙◌, arith}
use Rattle.rounding.specs.Cut.{cut}
use Rattle.rounding.proofs.Cuts.{cut_none}
use Rattle.rounding.proofs.Drops.{powers, base_power, cut_all}
use Rattle.rounding.proofs.end.End.dropped.Goals as goal

pub returns-then-k-ge32 : goal.returns-then-k-ge32
returns-then-k-ge32 g c =
    c.cut_off.ensures ∙ ap (cut c.args.toward c.args.n) c.limit.ensures ∙ cut_all g.R.Radix.lawful c.args.toward c.args.n c.args.k c.requires c.if-k-ge32.true

pub overflow_mul-b16 : goal.overflow_mul-b16
overflow_mul-b16 g c = let p = powers g.R.Radix.lawful in rw c.BASE-b1.ensures (omega (arith, p.sixteen_fits))

pub stage-n-requires-clause-power : goal.stage-n-requires-clause-power
stage-n-requires-clause-power g c = let p = powers g.R.Radix.lawful in rw c.BASE-b1.ensures p.sixteen

pub stage-n-requires-clause-room : goal.stage-n-requires-clause-room
stage-n-requires-clause-room g c = let p = powers g.R.Radix.lawful in rw c.BASE-b1.ensures (omega (arith, p.sixteen_fits, g.R.Radix.lawful))

pub stage-n-requires-2-clause-power : goal.stage-n-requires-2-clause-power
stage-n-requires-2-clause-power g c = let p = powers g.R.Radix.lawful in rw c.BASE-b1.ensures p.eight

pub stage-n-requires-3-clause-power : goal.stage-n-requires-3-clause-power
stage-n-requires-3-clause-power g c = let p = powers g.R.Radix.lawful in rw c.BASE-b1.ensures p.four

pub stage-n-requires-5-clause-power : goal.stage-n-requires-5-clause-power
stage-n-requires-5-clause-power g c = c.BASE-b1.ensures ∙ base_power g.R.Radix.lawful

pub returns : goal.returns
returns g c =
    let t = c.args.toward in
    let h16 = c.stage-n.ensures.few c.if-k-ge32.false in
    let h8 = c.stage-n-2.ensures.few h16 in
    let h4 = c.stage-n-3.ensures.few h8 in
    let h2 = c.stage-n-4.ensures.few h4 in
    let h1 = c.stage-n-5.ensures.few h2 in
    let none : c.stage-n-5.result.1 ≡ 0 = omega (arith, h1) in
    sym (cut_none t c.stage-n-5.result.0 g.R.Radix.BASE) ∙ ap (λ x. cut t c.stage-n-5.result.0 (g.R.Radix.BASE ^ x)) (sym none)
    ∙ c.stage-n-5.ensures.same ∙ c.stage-n-4.ensures.same ∙ c.stage-n-3.ensures.same ∙ c.stage-n-2.ensures.same ∙ c.stage-n.ensures.same
