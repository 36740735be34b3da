-- What an enclosure arithmetic is, and what each one must show.
use Rattle.std.specs.Prelude.{◌≡◌, ℕ, ◌^◌, ◌<◌, ◌≤◌}
use Rattle.std.proofs.Common.{lit<}
use Rattle.fraction.specs.Fraction.{Fraction, ratio, whole, ◌⊕◌, ◌⊗◌, ◌⊘◌, ◌⊖◌, ◌⊔◌, ◌⊓◌, ◌≼◌, Same}

-- an upper end: a fraction, or no bound
pub data Upper : Type 0 where
  at : Fraction → Upper
  unbounded : Upper

-- x is not above the upper end
abbrev pub Below : Fraction → Upper → Type 0
Below x (at h) = x ≼ h
Below x unbounded = Unit {0}

-- an arithmetic on enclosures of the type E: its fineness W, the two ends, and what each operation gives. The
-- operations are functions of their operands, so equal operands give equal results
pub record Model (E : Type 0) : Type 0 where
  pub fineness : ℕ
  pub lower : E → Fraction
  pub upper : E → Upper
  pub from_whole : ℕ → E
  pub sum : E → E → E
  pub product : E → E → E
  pub quotient : E → E → E
  pub excess : E → E → E
  pub smaller : E → E → E
  pub larger : E → E → E

-- the enclosure e contains x
pub record Encloses {E : Type 0} (m : Model E) (e : E) (x : Fraction) : Type 0 where
  pub low : m.lower e ≼ x
  pub high : Below x (m.upper e)

-- 10 ^ 36, up to which fineness is owed, and 10 ^ -36, below which it is absolute
unfoldable pub huge : Fraction
huge = whole (10 ^ 36)

unfoldable pub tiny : Fraction
tiny = ratio 1 (10 ^ 36) (lit< tt)

-- the end g is within 1 / w of the exact end x, relative to the scale s
pub record Near (w : ℕ) (s x g : Fraction) : Type 0 where
  pub under : x ≼ g ⊕ s ⊘ whole w
  pub over : g ≼ x ⊕ s ⊘ whole w

-- e has the upper end h, and neither end is above 10 ^ 36
pub record Bounded {E : Type 0} (m : Model E) (e : E) (h : Fraction) : Type 0 where
  pub is : m.upper e ≡ at h
  pub low : m.lower e ≼ huge
  pub high : h ≼ huge

-- the ends of e are within 1 / W of the exact ends l and h, each relative to the largest of it, 10 ^ -36 and s
pub record Fine {E : Type 0} (m : Model E) (s l h : Fraction) (e : E) : Type 0 where
  pub top : Fraction
  pub is : m.upper e ≡ at top
  pub low : Near m.fineness (l ⊔ tiny ⊔ s) l (m.lower e)
  pub high : Near m.fineness (h ⊔ tiny ⊔ s) h top

-- the ends of e are l and h
pub record Ends {E : Type 0} (m : Model E) (l h : Fraction) (e : E) : Type 0 where
  pub top : Fraction
  pub is : m.upper e ≡ at top
  pub low : Same (m.lower e) l
  pub high : Same top h

-- What an arithmetic must show, and no more. Enclosure: a result contains the exact result of every pair of values
-- of its operands (a divisor of 0 has none). Fineness: where the ends of the operands and the exact ends of the
-- result are at most 10 ^ 36, and a divisor's lower end is above 0, the ends of the result are within 1 / W; the
-- smaller and the larger are exact there. Elsewhere zero to no bound will do
pub record Sound {E : Type 0} (m : Model E) : Type 0 where
  pub least_fineness : 10 ^ 6 ≤ m.fineness
  pub most_fineness : m.fineness ≤ 10 ^ 12
  pub ordered : (e : E) → Below (m.lower e) (m.upper e)
  pub whole_in : (n : ℕ) → n ≤ 2 ^ 62 → Encloses m (m.from_whole n) (whole n)
  pub whole_fine : (n : ℕ) → n ≤ 2 ^ 62 → Fine m (whole 0) (whole n) (whole n) (m.from_whole n)
  pub sum_in : (a b : E) (x y : Fraction) → Encloses m a x → Encloses m b y → Encloses m (m.sum a b) (x ⊕ y)
  pub sum_fine : (a b : E) (h k : Fraction) → Bounded m a h → Bounded m b k → m.lower a ⊕ m.lower b ≼ huge → h ⊕ k ≼ huge → Fine m (whole 0) (m.lower a ⊕ m.lower b) (h ⊕ k) (m.sum a b)
  pub product_in : (a b : E) (x y : Fraction) → Encloses m a x → Encloses m b y → Encloses m (m.product a b) (x ⊗ y)
  pub product_fine : (a b : E) (h k : Fraction) → Bounded m a h → Bounded m b k → m.lower a ⊗ m.lower b ≼ huge → h ⊗ k ≼ huge → Fine m (whole 0) (m.lower a ⊗ m.lower b) (h ⊗ k) (m.product a b)
  pub quotient_in : (a b : E) (x y : Fraction) → 0 < y.num → Encloses m a x → Encloses m b y → Encloses m (m.quotient a b) (x ⊘ y)
  pub quotient_fine : (a b : E) (h k : Fraction) → 0 < (m.lower b).num → Bounded m a h → Bounded m b k → m.lower a ⊘ k ≼ huge → h ⊘ m.lower b ≼ huge → Fine m (whole 0) (m.lower a ⊘ k) (h ⊘ m.lower b) (m.quotient a b)
  pub excess_in : (a b : E) (x y : Fraction) → Encloses m a x → Encloses m b y → Encloses m (m.excess a b) (x ⊖ y)
  pub excess_fine : (a b : E) (h k : Fraction) → Bounded m a h → Bounded m b k → Fine m h (m.lower a ⊖ k) (h ⊖ m.lower b) (m.excess a b)
  pub smaller_in : (a b : E) (x y : Fraction) → Encloses m a x → Encloses m b y → Encloses m (m.smaller a b) (x ⊓ y)
  pub smaller_ends : (a b : E) (h k : Fraction) → Bounded m a h → Bounded m b k → Ends m (m.lower a ⊓ m.lower b) (h ⊓ k) (m.smaller a b)
  pub larger_in : (a b : E) (x y : Fraction) → Encloses m a x → Encloses m b y → Encloses m (m.larger a b) (x ⊔ y)
  pub larger_ends : (a b : E) (h k : Fraction) → Bounded m a h → Bounded m b k → Ends m (m.lower a ⊔ m.lower b) (h ⊔ k) (m.larger a b)
