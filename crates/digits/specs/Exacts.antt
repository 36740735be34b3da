-- A rounded quantity, as a fraction: on its side of the exact one, and within 1 / W of it.
use Rattle.std.specs.Prelude.{◌≡◌, ℕ, ◌+◌, ◌*◌, ◌^◌, ◌<◌, ◌≤◌, max, Some, None, Option}
use Rattle.std.proofs.Common.{ap, mul-le-mul_left, mul-le-mul_right, le_of_mul-le-mul_right, arith}
use Rattle.std.proofs.Math.Path.{subst}
use Rattle.fraction.proofs.Lattice.{max_cases}
use Rattle.fraction.specs.Fraction.{Fraction, ratio, whole, ◌⊕◌, ◌⊘◌, ◌≼◌}
use Rattle.fraction.proofs.Order.{le_trans, one_max, plus_first}
use Rattle.enclosure.specs.Model.{Below, Near, huge, tiny}
use Rattle.rounding.specs.declared.radix.Radix.{Ghosts}
use Rattle.rounding.specs.Rounded.{rounded, or_zero}
use Rattle.rounding.specs.declared.rounding.Rounding.TheVariants.{Down, Up}
use Rattle.rounding.specs.declared.end.End.{End}
use Rattle.rounding.proofs.Laws.{Reaches, below, below_near, above, above_near}
use Rattle.digits.specs.Meaning.{value, bound}

-- xn / xd is N / (u U), and g / U the rounded fraction: facts about naturals
under_nat : (xn xd N u U g : ℕ) → 0 < u → xn * (u * U) ≡ N * xd → g * u ≤ N → g * xd ≤ xn * U
under_nat xn xd N u U g pu e h = le_of_mul-le-mul_right {k = u} (omega (arith, mul-le-mul_right xd h)) pu

over_nat : (xn xd N u U g : ℕ) → 0 < u → xn * (u * U) ≡ N * xd → N ≤ g * u → xn * U ≤ g * xd
over_nat xn xd N u U g pu e h = le_of_mul-le-mul_right {k = u} (omega (arith, mul-le-mul_right xd h)) pu

range_nat : (xn xd N u U H : ℕ) → 0 < xd → xn * (u * U) ≡ N * xd → xn * 1 ≤ H * xd → N ≤ H * U * u
range_nat xn xd N u U H pd e h = le_of_mul-le-mul_right {k = xd} (omega (arith, mul-le-mul_right (u * U) h)) pd

-- the error, W Q / W of the scale sn / sd
scale_nat : (xn xd N u U sn sd : ℕ) → 0 < xd → xn * (u * U) ≡ N * xd → xn * sd ≤ sn * xd → N * sd ≤ sn * (u * U)
scale_nat xn xd N u U sn sd pd e h = le_of_mul-le-mul_right {k = xd} (omega (arith, mul-le-mul_right (u * U) h, ap (λ v. v * sd) e)) pd

tiny_nat : (W u U H sn sd : ℕ) → H * W * W ≤ U → 1 * sd ≤ sn * H → W * W * u * sd ≤ sn * (u * U)
tiny_nat W u U H sn sd r h = omega (arith, mul-le-mul_left (W * W * u) h, mul-le-mul_left (sn * u) r)

near_mid : (A B C D : ℕ) → A ≤ B + C → C ≤ D → A ≤ B + D
near_mid A B C D p q = omega arith

near_under : (W xn xd N u U g Q sn sd : ℕ) → 0 < u → xn * (u * U) ≡ N * xd → W * N ≤ W * (g * u) + Q → Q * sd ≤ sn * (u * U) → xn * (U * (sd * W)) ≤ (g * (sd * W) + sn * 1 * U) * xd
near_under W xn xd N u U g Q sn sd pu e h q =
    le_of_mul-le-mul_right {k = u}
    (last (near_mid (W * N * (sd * xd)) (W * (g * u) * (sd * xd)) (Q * (sd * xd)) (sn * (u * U) * xd) (first (mul-le-mul_right (sd * xd) h)) (second (mul-le-mul_right xd q))))
    pu
  where
    first : W * N * (sd * xd) ≤ (W * (g * u) + Q) * (sd * xd) → W * N * (sd * xd) ≤ W * (g * u) * (sd * xd) + Q * (sd * xd)
    first p = omega (arith, p)

    second : Q * sd * xd ≤ sn * (u * U) * xd → Q * (sd * xd) ≤ sn * (u * U) * xd
    second p = omega (arith, p)

    last : W * N * (sd * xd) ≤ W * (g * u) * (sd * xd) + sn * (u * U) * xd → xn * (U * (sd * W)) * u ≤ (g * (sd * W) + sn * 1 * U) * xd * u
    last p = omega (arith, p, ap (λ v. v * (sd * W)) e)

near_over : (W xn xd N u U g Q sn sd : ℕ) → 0 < u → xn * (u * U) ≡ N * xd → W * (g * u) ≤ W * N + Q → Q * sd ≤ sn * (u * U) → g * (xd * (sd * W)) ≤ (xn * (sd * W) + sn * 1 * xd) * U
near_over W xn xd N u U g Q sn sd pu e h q =
    le_of_mul-le-mul_right {k = u}
    (last (near_mid (W * (g * u) * (sd * xd)) (W * N * (sd * xd)) (Q * (sd * xd)) (sn * (u * U) * xd) (first (mul-le-mul_right (sd * xd) h)) (second (mul-le-mul_right xd q))))
    pu
  where
    first : W * (g * u) * (sd * xd) ≤ (W * N + Q) * (sd * xd) → W * (g * u) * (sd * xd) ≤ W * N * (sd * xd) + Q * (sd * xd)
    first p = omega (arith, p)

    second : Q * sd * xd ≤ sn * (u * U) * xd → Q * (sd * xd) ≤ sn * (u * U) * xd
    second p = omega (arith, p)

    last : W * (g * u) * (sd * xd) ≤ W * N * (sd * xd) + sn * (u * U) * xd → g * (xd * (sd * W)) * u ≤ (xn * (sd * W) + sn * 1 * xd) * U * u
    last p = omega (arith, p, ap (λ v. v * (sd * W)) e)

module _ {R : Type 0} (g : Ghosts R) (x : Fraction) (N u : ℕ) (pu : 0 < u) (stands : x.num * (u * g.BASE ^ g.BIAS) ≡ N * x.den) where
  pub exact_below : value (or_zero (rounded {g = g} Down N u)) ≼ x
  exact_below = record { cross = under_nat x.num x.den N u (g.BASE ^ g.BIAS) _ pu stands (below g N u pu) }

  reached : (o : Option (End R g)) → Reaches N u o → Below x (bound o)
  reached (Some h) r = record { cross = over_nat x.num x.den N u (g.BASE ^ g.BIAS) _ pu stands r }
  reached None r = tt

  pub exact_above : Below x (bound (rounded {g = g} Up N u))
  exact_above = reached (rounded {g = g} Up N u) (above g N u pu)

  module _ (s : Fraction) (small : x ≼ huge) (scaled : x ≼ s) (slight : tiny ≼ s) where
    Q : ℕ
    Q = max N (g.FULL * g.FULL * u)

    range : N ≤ 10 ^ 36 * g.BASE ^ g.BIAS * u
    unfolding huge whole
    range = range_nat x.num x.den N u (g.BASE ^ g.BIAS) (10 ^ 36) x.pos stands small.cross

    wide : Q * s.den ≤ s.num * (u * g.BASE ^ g.BIAS)
    unfolding Q tiny ratio
    wide =
        max_cases N (g.FULL * g.FULL * u) s.den _
        (scale_nat x.num x.den N u (g.BASE ^ g.BIAS) s.num s.den x.pos stands scaled.cross)
        (tiny_nat g.FULL u (g.BASE ^ g.BIAS) (10 ^ 36) s.num s.den g.lawful.2.0 slight.cross)

    fine : max 1 g.FULL ≡ g.FULL
    fine = one_max g.FULL (omega arith)

    pub near_below : Near g.FULL s x (value (or_zero (rounded {g = g} Down N u)))
    unfolding Q ◌⊕◌ ◌⊘◌ whole
    near_below =
        record {
          under =
              record {
                cross = rw fine (near_under g.FULL x.num x.den N u (g.BASE ^ g.BIAS) _ Q s.num s.den pu stands (below_near g N u pu Q (omega arith) (omega arith) range) wide);
              };
          over = le_trans exact_below (plus_first x (s ⊘ whole g.FULL));
        }

    -- the upper end is there
    pub record Topped : Type 0 where
      pub end : End R g
      pub is : rounded {g = g} Up N u ≡ Some end
      pub near : Near g.FULL s x (value end)

    pub near_above : Topped
    unfolding Q ◌⊕◌ ◌⊘◌ whole
    near_above =
        let t = above_near g N u pu Q (omega arith) (omega arith) range in
        let reach : Reaches N u (Some t.end) = subst (Reaches N u) t.is (above g N u pu) in
        record {
          end = t.end;
          is = t.is;
          near =
              record {
                under = le_trans (reached (Some t.end) reach) (plus_first (value t.end) (s ⊘ whole g.FULL));
                over = record { cross = rw fine (near_over g.FULL x.num x.den N u (g.BASE ^ g.BIAS) _ Q s.num s.den pu stands t.near wide) };
              };
        }
