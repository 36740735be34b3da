use Rattle.quantities.specs.Case.{design_of}
use Rattle.quantities.proofs.Known.{known_at}
use Rattle.quantities.proofs.Supports.{embedment_same, support_same, full_known, supported_known}
use Rattle.quantities.proofs.soils.soil_modulus.Goals as goal

pub returns-then-is_fully_supported : goal.returns-then-is_fully_supported
returns-then-is_fully_supported g c =
    let d = design_of c.args.case.now in
    let r = c.embedment_modulus-modulus.result in
    let same = embedment_same d c.args.prism _ r c.requires c.args.case.now.drained c.embedment_modulus-modulus.ensures in
    known_at c.parts-embedment.ensures (full_known g.met.A.Arithmetic.sound d r same c.if-is_fully_supported.ensures)

pub returns : goal.returns
returns g c =
    let d = design_of c.args.case.now in
    let r = c.embedment_modulus-modulus.result in
    let f = c.support_factor-factor.result in
    let same = embedment_same d c.args.prism _ r c.requires c.args.case.now.drained c.embedment_modulus-modulus.ensures in
    let e = c.support_factor-factor.ensures in
    supported_known g.met.A.Arithmetic.sound d r f c.parts-embedment.result c.long_parts.result c.mul.result c.parts-embedment.ensures c.long_parts.ensures c.mul.ensures e.least e.most e.fits same
    (support_same d r f same c.if-is_fully_supported.ensures e.value)
