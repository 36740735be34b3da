-- What a claim may say.
use Rattle.std.specs.Prelude.{ℕ, ◌^◌, Bool, cond, ◌&&◌, Some, None, Option, nat_le}
use Rattle.judging.specs.declared.claimed.Claimed.{Claimed}

-- from 1 to 10 ^ 13 millionths
abbrev pub claimable : ℕ → Bool
claimable n = nat_le 1 n && nat_le n (10 ^ 13)

-- a number that can be claimed
abbrev pub claimed : ℕ → Option ℕ
claimed n = cond (claimable n) (Some n) None

abbrev pub stated_claim : Option Claimed → Option ℕ
stated_claim (Some c) = Some c.value
stated_claim None = None
