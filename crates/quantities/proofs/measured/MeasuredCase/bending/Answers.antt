use Rattle.std.proofs.Common.{ap, ◌∙◌, arith}
use Rattle.enclosure.specs.Formula.{computed}
use Rattle.lookups.specs.Operand.{stiffness_of}
use Rattle.quantities.specs.MeasuredCase.{design}
use Rattle.quantities.specs.Formulas.{parts_of}
use Rattle.quantities.proofs.Bends.{shape_same, bending_steps}
use Rattle.quantities.proofs.Ranges.{measured}
use Rattle.quantities.proofs.measured.MeasuredCase.bending.Goals as goal

pub returns : goal.returns
returns g c =
    let s = g.met.A.Arithmetic.sound in
    let d = design c.args.self.now in
    let p = c.args.self.now.measures in
    let f = c.shape_factor-factor.result in
    let e = c.shape_factor-factor.ensures in
    let t = c.stiffness.ensures in
    bending_steps d s p f c.args.load c.long_parts-shape.result c.parts-face.result c.bending_factor.result (measured s d p c.args.self.now.measured) c.requires e.least e.most (omega (arith, e.fits, t.fits))
    (shape_same d f (stiffness_of c.stiffness.result) t.value e.value)
    c.long_parts-shape.ensures
    (c.parts-face.ensures ∙ ap (λ n. parts_of (computed g.A.Arithmetic.model) n 1000) c.max.ensures)
    c.bending_factor.ensures
