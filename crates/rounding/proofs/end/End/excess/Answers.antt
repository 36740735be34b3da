use Rattle.std.proofs.Common.{◌≡◌, ◌-◌, ◌*◌, ◌^◌, ◌<◌, ◌≤◌, false, leb, Some, sym, ap, ◌∙◌, mul-le-mul_right, mul-le-mul_left, arith, rules, leb-false, leb-true}
use Rattle.rounding.specs.declared.radix.Radix.{Ghosts}
use Rattle.rounding.specs.declared.end.End.{End}
use Rattle.rounding.specs.Rounded.{units}
use Rattle.rounding.proofs.Rounds.{rounded_none}
use Rattle.rounding.proofs.Sums.{not_below, level_difference, next_difference, far_found}
use Rattle.rounding.proofs.end.End.excess.Goals as goal

pub returns-then-at_most : goal.returns-then-at_most
returns-then-at_most g c =
    let a = c.args.self in
    let b = c.args.other in
    let le = leb-true (units a) (units b) (sym c.if-at_most.ensures) in
    ap Some (c.zero.ensures) ∙ sym (rounded_none g.R.Radix _ 1 (omega arith) c.args.toward (omega arith))

above : {R : Type 0} {d : Ghosts R} (a b : End R d) → false ≡ leb (units a) (units b) → units b < units a
above a b e = leb-false (units a) (units b) (sym e)

pub overflow_sub-gap : goal.overflow_sub-gap
overflow_sub-gap g c = not_below c.args.self c.args.other (above c.args.self c.args.other c.if-at_most.ensures)

-- what the two ends are to each other where the exponents are equal, and where they differ by one
level : {R : Type 0} {d : Ghosts R} (a b : End R d) → false ≡ leb (units a) (units b) → a.exponent - b.exponent ≡ 0 → (b.digits < a.digits) × (units a - units b ≡ (a.digits - b.digits) * d.BASE ^ b.exponent)
level a b e h = let l = above a b e in let n = not_below a b l in level_difference a b (omega arith) l

next : {R : Type 0} {d : Ghosts R} (a b : End R d) → false ≡ leb (units a) (units b) → a.exponent - b.exponent ≡ 1 → (b.digits < a.digits * d.BASE) × (units a - units b ≡ (a.digits * d.BASE - b.digits) * d.BASE ^ b.exponent)
next a b e h = next_difference a b (omega arith)

pub overflow_sub-top : goal.overflow_sub-top
overflow_sub-top g c = let l = level c.args.self c.args.other c.if-at_most.ensures c.if-gap-eq0.true in omega arith

pub exact-requires : goal.exact-requires
exact-requires g c =
    let a = c.args.self in
    let b = c.args.other in
    let l = level a b c.if-at_most.ensures c.if-gap-eq0.true in
    let two = mul-le-mul_left (g.R.Radix.FULL * g.R.Radix.BASE - 1) g.R.Radix.lawful.0.0 in
    let some : 0 < a.digits - b.digits = omega arith in
    let few : a.digits - b.digits ≤ (g.R.Radix.FULL * g.R.Radix.BASE - 1) * g.R.Radix.BASE = omega (arith, a.few) in
    search rules

pub returns-then-gap-eq0 : goal.returns-then-gap-eq0
returns-then-gap-eq0 g c =
    let l = level c.args.self c.args.other c.if-at_most.ensures c.if-gap-eq0.true in
    c.exact.ensures _ l.1

pub overflow_sub-top-then-gap-eq1 : goal.overflow_sub-top-then-gap-eq1
overflow_sub-top-then-gap-eq1 g c = let l = next c.args.self c.args.other c.if-at_most.ensures c.if-gap-eq1.true in omega (arith, ap (λ x. c.args.self.digits * x) c.BASE-base.ensures)

pub exact-requires-then-gap-eq1 : goal.exact-requires-then-gap-eq1
exact-requires-then-gap-eq1 g c =
    let a = c.args.self in
    let b = c.args.other in
    let l = next a b c.if-at_most.ensures c.if-gap-eq1.true in
    let most = mul-le-mul_right g.R.Radix.BASE (let m : a.digits ≤ g.R.Radix.FULL * g.R.Radix.BASE - 1 = omega (arith, a.few) in m) in
    let some : 0 < a.digits * g.R.Radix.BASE - b.digits = omega arith in
    let few : a.digits * g.R.Radix.BASE - b.digits ≤ (g.R.Radix.FULL * g.R.Radix.BASE - 1) * g.R.Radix.BASE = omega arith in
    search rules

pub returns-then-gap-eq1 : goal.returns-then-gap-eq1
returns-then-gap-eq1 g c =
    let l = next c.args.self c.args.other c.if-at_most.ensures c.if-gap-eq1.true in
    c.exact-then-gap-eq1.ensures _ (rw c.BASE-base.ensures l.1)

pub overflow_sub-top-2 : goal.overflow_sub-top-2
overflow_sub-top-2 g c =
    (far_found c.args.self c.args.other c.args.toward _ _ _ c.BASE-base.ensures c.opposite.ensures c.dropped-less.ensures c.if-gap-eq0.false c.if-gap-eq1.false).under

pub placed-requires : goal.placed-requires
placed-requires g c =
    let f = far_found c.args.self c.args.other c.args.toward _ _ _ c.BASE-base.ensures c.opposite.ensures c.dropped-less.ensures c.if-gap-eq0.false c.if-gap-eq1.false in
    let full = f.full in
    let few = f.few in
    search rules

pub returns : goal.returns
returns g c =
    c.placed.ensures _ 1
    (far_found c.args.self c.args.other c.args.toward _ _ _ c.BASE-base.ensures c.opposite.ensures c.dropped-less.ensures c.if-gap-eq0.false c.if-gap-eq1.false).stands
