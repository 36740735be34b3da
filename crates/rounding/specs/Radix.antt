-- A radix: its base, how many digits follow the first, the fineness that they give, and the exponent of one.
use Rattle.std.specs.Prelude.{◌≡◌, ℕ, ◌*◌, ◌^◌, ◌≤◌}

-- W = B ^ S, so that a full significand lies from W up to W B, which fits 31 bits; and a unit, 1 / B ^ bias, is so
-- small that W of them are within 1 / W of 10 ^ -36
abbrev pub Radix : (B S W bias : ℕ) → Type 0
Radix B S W bias =
    ((2 ≤ B) × (B ≤ 10) × (B ^ S ≡ W)) × ((10 ^ 6 ≤ W) × (W * B ≤ 2 ^ 31) × (S ≤ 30)) × ((10 ^ 36 * W * W ≤ B ^ bias) × (bias ≤ 255))
