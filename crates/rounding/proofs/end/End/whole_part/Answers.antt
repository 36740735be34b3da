use Rattle.std.proofs.Common.{◌-◌, ◌*◌, ◌^◌, sym, ap, ◌∙◌, arith}
use Rattle.enclosure.specs.Readings.{readable}
use Rattle.rounding.specs.Cut.{cut}
use Rattle.rounding.proofs.Drops.{grown_within}
use Rattle.rounding.proofs.Sums.{cut_lower, cut_raised, rest_few}
use Rattle.rounding.proofs.end.End.whole_part.Goals as goal

pub returns-then-exponent-bias : goal.returns-then-exponent-bias
returns-then-exponent-bias g c =
    let r = g.R.Radix in
    let a = c.args.self in
    let t = c.args.toward in
    let few = rest_few a a t (c.BIAS-bias.result - a.exponent) in
    grown_within c.dropped.result (omega (arith, c.dropped.ensures, r.lawful))
    ∙ ap readable
    (c.dropped.ensures ∙ ap (λ x. cut t a.digits (r.BASE ^ (x - a.exponent))) c.BIAS-bias.ensures
    ∙ sym (cut_lower r.lawful t a.digits r.BIAS a.exponent (omega arith)))

pub returns : goal.returns
returns g c =
    let r = g.R.Radix in
    let a = c.args.self in
    c.grown.ensures
    ∙ ap readable
    (ap (λ x. a.digits * r.BASE ^ (a.exponent - x)) c.BIAS-bias.ensures
    ∙ sym (cut_raised r.lawful c.args.toward a.digits a.exponent r.BIAS (omega arith)))
