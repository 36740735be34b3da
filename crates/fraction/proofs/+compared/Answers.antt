use Rattle.std.proofs.Common.{◌≡◌, ◌*◌, ◌%◌, ap, ◌∙◌, arith}
use Rattle.fraction.proofs.Ratios.{found_apart, found_level, same_cmp, zero_cmp}
use Rattle.fraction.proofs.+compared.Goals.{then-rest-eq0-via-then-rest-eq0, then-rest-eq0-via-else-rest-eq0+then-over-eq0}
use Rattle.fraction.proofs.+compared.Goals as goal

pub returns-then-is_ne : goal.returns-then-is_ne
returns-then-is_ne t c =
    let x = c.args in
    found_apart x.a x.b x.c x.d c.requires.first c.requires.second _ _ c.cmp-whole.ensures c.is_ne.ensures c.if-is_ne.true

pub returns-then-rest-eq0 : goal.returns-then-rest-eq0
returns-then-rest-eq0 t c =
    let x = c.args in
    let e = found_level x.a x.b x.c x.d c.requires.first c.requires.second _ _ c.cmp-whole.ensures c.is_ne.ensures c.if-is_ne.false in
    let none : x.a % x.b * (x.c % x.d) ≡ 0 =
    elim c.then-rest-eq0.branch [
      | then-rest-eq0-via-then-rest-eq0 w ↦ omega (arith, ap (λ n. n * (x.c % x.d)) w.if-rest-eq0.true)
      | then-rest-eq0-via-else-rest-eq0+then-over-eq0 w ↦ omega (arith, ap (λ n. x.a % x.b * n) w.if-over-eq0.true)
    ] in
    c.cmp.ensures ∙ (zero_cmp (x.a % x.b) (x.c % x.d) x.d x.b c.requires.second c.requires.first none ∙ same_cmp (x.a * x.d) (x.c * x.b) (x.a % x.b * x.d) (x.c % x.d * x.b) e)

pub returns : goal.returns
returns t c =
    let x = c.args in
    let e = found_level x.a x.b x.c x.d c.requires.first c.requires.second _ _ c.cmp-whole.ensures c.is_ne.ensures c.if-is_ne.false in
    c.compared.ensures ∙ same_cmp (x.a * x.d) (x.c * x.b) (x.d * (x.a % x.b)) (x.b * (x.c % x.d)) (omega (arith, e))
