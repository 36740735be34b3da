use Rattle.std.proofs.Common.{sym, ap, ◌∙◌, arith, ◌-◌, ◌*◌}
use Rattle.std.proofs.lemmas.List.{get_or-map}
use Rattle.fraction.specs.Ratio.{value}
use Rattle.lookups.proofs.Cells.{first_found, last_found, between_found}
use Rattle.lookups.proofs.axes.cell_of.Goals as goal

pub returns-in-None-clause-value : goal.returns-in-None-clause-value
returns-in-None-clause-value g c =
    let e = c.level.ensures in
    last_found g.P.Placed.spot c.args.points.now (value c.args.at) _ c.requires.some c.in-None.ensures e.first e.second e.after e.before

pub returns-in-Some-eq0-clause-value : goal.returns-in-Some-eq0-clause-value
returns-in-Some-eq0-clause-value g c =
    let e = c.level-in-Some-eq0.ensures in
    first_found g.P.Placed.spot c.args.points.now (value c.args.at) _ c.requires.some (rw c.in-Some-eq0.field-0-test at c.in-Some-eq0.ensures.1) e.first e.second e.after e.before

pub returns-in-Some-clause-value : goal.returns-in-Some-clause-value
returns-in-Some-clause-value g c =
    let f = g.P.Placed.spot in
    let ps = c.args.points.now in
    let i = c.in-Some.i in
    let o = c.in-Some.ensures in
    let e = c.between.ensures in
    let low = c.place.ensures ∙ ap f c.index-points-i.is ∙ sym (get_or-map f ps (i - 1) _ 0 (omega (arith, o.0))) in
    let high = c.place-in-Some.ensures ∙ ap f c.index-points-i-in-Some.is ∙ sym (get_or-map f ps i _ 0 o.0) in
    between_found f ps (value c.args.at) i _ _ _ (omega (arith, c.in-Some.i-test)) o.0 o.1 o.2 (ap (λ t. t * c.args.at.den) low) (ap (λ t. t * c.args.at.den) high) e.first e.second e.after e.before
