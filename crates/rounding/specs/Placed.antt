-- When digits at an exponent are what an exact quantity of N / u units comes to.
use Rattle.std.specs.Prelude.{◌≡◌, ℕ, ◌*◌, ◌^◌, ◌<◌, ◌≤◌}
use Rattle.rounding.specs.Cut.{cut}
use Rattle.rounding.specs.declared.rounding.Rounding.{Rounding}

-- cut at the exponent e the quantity leaves m, and at every lower one more digits than a significand has
pub record Stands (B W : ℕ) (t : Rounding) (N u m e : ℕ) : Type 0 where
  pub some : 0 < u
  pub is : m ≡ cut t N (u * B ^ e)
  pub large : W ≤ cut t N u
  pub fills : (i : ℕ) → i < e → W * B ≤ cut t N (u * B ^ i)

-- the quantity is P / Q at the exponent from, in units of the exponent floor; m is P / Q, rounded, a full significand
pub record Scales (B W : ℕ) (t : Rounding) (N u P Q m from floor : ℕ) : Type 0 where
  pub some : 0 < u
  pub parts : 0 < Q
  pub is : m ≡ cut t P Q
  pub least : W * Q ≤ P
  pub most : P < W * B * Q
  pub same : N * (Q * B ^ floor) ≡ P * B ^ from * u
