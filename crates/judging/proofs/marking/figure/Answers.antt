use Rattle.std.proofs.Common.{sym, refl, ◌∙◌}
use Rattle.judging.proofs.ReadingOut.{floor_read, ceiling_read, read_out}
use Rattle.judging.proofs.marking.figure.Goals as goal

pub unwrap-below-requires : goal.unwrap-below-requires
unwrap-below-requires g c = rw (c.floor.ensures ∙ floor_read g.met.A.Arithmetic.sound c.millionths-value.ensures) refl

pub unwrap-above-requires : goal.unwrap-above-requires
unwrap-above-requires g c = rw (c.ceiling.ensures ∙ ceiling_read g.met.A.Arithmetic.sound c.millionths-value.ensures) refl

pub returns : goal.returns
returns g c =
    rw (← c.of.ensures.given)
    (read_out g.met.A.Arithmetic.sound c.millionths-value.ensures c.unwrap-below.result c.unwrap-above.result (sym c.unwrap-below.ensures ∙ c.floor.ensures) (sym c.unwrap-above.ensures ∙ c.ceiling.ensures))
