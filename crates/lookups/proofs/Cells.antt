-- The cell of a line.
use mathlib.Core.Path.{◌≡◌, sym, ◌∙◌, ap, subst}
use mathlib.Core.Bool.{Bool, true, false, cond}
use mathlib.Core.List.{List, [], ◌∷◌, map}
use Prim.Native.Nat.{ℕ, zero, suc, ◌+◌, ◌-◌, ◌*◌, ◌≤◌, ◌<◌, max}
use native.Mathlib.Nat.{not-suc-le-zero, le_of_suc-le-suc, mul-le-mul, lt_of_mul-lt-mul_right}
use native.Mathlib.Numerals.{add-one}
use native.Mathlib.Omega.{arith}
use borrow.Author.Tests.{le-leb, lt-leb}
use lib.ListN.{length, get_or, drop, drop_of_length-le, length-map}
use Rattle.std.specs.List.{AllWithin, HoldsAt}
use lib.Seq.{drop-cons}
use Rattle.fraction.specs.Fraction.{Fraction, Same, whole, ◌⊕◌, ◌⊗◌, ◌⊘◌, ◌⊖◌}
use Rattle.fraction.specs.Ratio.{at_most}
use Rattle.fraction.proofs.Sames as same
use Rattle.lookups.specs.Cell.{mix, Finds, Passed, Reached}
use Rattle.lookups.specs.Line.{chord, line_from, line_at}
use Rattle.lookups.specs.declared.cell.Cell.{Cell}

pub same_to : {x y z : Fraction} → Same x y → y ≡ z → Same x z
same_to {x} h e = subst (λ (w : Fraction). Same x w) e h

pub cond_same : (b c : Bool) {u v y z : Fraction} → b ≡ c → Same u y → Same v z → Same (cond b u v) (cond c y z)
cond_same true c e h k = rw (← e) h
cond_same false c e h k = rw (← e) k

-- equal fractions have equal values on a line, so that a cell serves both
chord_cong : (x1 : ℕ) (y1 : Fraction) (x2 : ℕ) (y2 : Fraction) {x y : Fraction} → Same x y → Same (chord x1 y1 x2 y2 x) (chord x1 y1 x2 y2 y)
unfolding chord
chord_cong x1 y1 x2 y2 h =
    same.over_one (whole x2 ⊖ whole x1)
    (same.plus (same.times (same.refl y1) (same.excess (same.refl (whole x2)) h)) (same.times (same.refl y2) (same.excess h (same.refl (whole x1)))))

from_cong : (x1 : ℕ) (y1 : Fraction) (xs : List ℕ) (ys : List Fraction) {x y : Fraction} → Same x y → Same (line_from x1 y1 xs ys x) (line_from x1 y1 xs ys y)
from_cong x1 y1 [] ys h = same.refl y1
from_cong x1 y1 (x2 ∷ xs) [] h = same.refl y1
from_cong x1 y1 (x2 ∷ xs) (y2 ∷ ys) {x} {y} h =
    cond_same (at_most x (whole x2)) (at_most y (whole x2)) (same.test_along (whole x2) h) (chord_cong x1 y1 x2 y2 h) (from_cong x2 y2 xs ys h)

pub line_cong : (xs : List ℕ) (ys : List Fraction) {x y : Fraction} → Same x y → Same (line_at xs ys x) (line_at xs ys y)
line_cong [] ys h = same.refl (whole 0)
line_cong (x1 ∷ xs) [] h = same.refl (whole 0)
line_cong (x1 ∷ xs) (y1 ∷ ys) {x} {y} h =
    cond_same (at_most x (whole x1)) (at_most y (whole x1)) (same.test_along (whole x1) h) (same.refl y1) (from_cong x1 y1 xs ys h)

pub finds_at : (xs : List ℕ) (c : Cell) {x y : Fraction} → Same x y → Finds xs x c → Finds xs y c
finds_at xs c h f ys e = same.trans (f ys e) (line_cong xs ys h)

-- weights in proportion to the distances
chord_nat : (a A b B c e d W : ℕ) → (a * A * (e * 1) + b * B * (c * 1)) * 1 * (c * (1 * d) * (e * (d * 1)) * W) ≡ (a * A * (e * (d * 1)) + b * B * (c * (1 * d))) * (1 * 1) * (c * 1 * (e * 1) * (W * d))
chord_nat a A b B c e d W = omega arith

chord_same : (x1 x2 : ℕ) (y1 y2 x : Fraction) (A B W : ℕ) → x.num + A ≡ x2 * x.den → x1 * x.den + B ≡ x.num → x1 + W ≡ x2 → 0 < W → Same ((y1 ⊗ whole A ⊕ y2 ⊗ whole B) ⊘ whole (A + B)) (chord x1 y1 x2 y2 x)
unfolding chord ◌⊕◌ ◌⊗◌ ◌⊘◌ ◌⊖◌ whole
chord_same x1 x2 y1 y2 x A B W a b w pos =
    let ea : x2 * x.den - x.num * 1 ≡ A = omega arith in
    let eb : x.num * 1 - x1 * x.den ≡ B = omega arith in
    let ew : x2 * 1 - x1 * 1 ≡ W = omega arith in
    let em : max 1 W ≡ W = omega arith in
    let ed : 1 ≤ W * x.den = mul-le-mul pos x.pos in
    let es : max 1 (A + B) ≡ W * x.den = sum_is ed in
    same.by_parts (rw (ea, eb, ew, em, es) (chord_nat y1.num A y2.num B y1.den y2.den x.den W))
  where
    sum_is : 1 ≤ W * x.den → max 1 (A + B) ≡ W * x.den
    sum_is h =
        let k : A + B ≡ W * x.den = omega (arith, ap (λ (t : ℕ). t * x.den) w) in
        omega arith

-- a cell at one point has its value
pub level_mix : (k : ℕ) (c : Cell) → c.first ≡ k → c.second ≡ k → c.after ≡ 1 → c.before ≡ 0 → (ys : List Fraction) → Same (mix c ys) (get_or ys k (whole 0))
unfolding mix ◌⊕◌ ◌⊗◌ ◌⊘◌ whole
level_mix k c f s a b ys = same.by_parts (rw (f, s, a, b) (omega arith))

-- between x1 and x2, the products standing in variables
pub cell_found : (x1 x2 i : ℕ) (x : Fraction) (low high : ℕ) (c : Cell) → low ≡ x1 * x.den → high ≡ x2 * x.den → low < x.num → x.num ≤ high → c.first ≡ i - 1 → c.second ≡ i → c.after ≡ high - x.num → c.before ≡ x.num - low → (ys : List Fraction) → Same (mix c ys) (chord x1 (get_or ys (i - 1) (whole 0)) x2 (get_or ys i (whole 0)) x)
unfolding mix
cell_found x1 x2 i x low high c l u lt le f s a b ys =
    let w : x1 < x2 = lt_of_mul-lt-mul_right x.den (omega arith) in
    rw (f, s, a, b)
    (chord_same x1 x2 (get_or ys (i - 1) (whole 0)) (get_or ys i (whole 0)) x (high - x.num) (x.num - low) (x2 - x1) (omega arith) (omega arith) (omega arith) (omega arith))

pub line_first : (xs : List ℕ) (ys : List Fraction) (x : Fraction) → 1 ≤ length xs → length ys ≡ length xs → x.num ≤ get_or xs 0 0 * x.den → get_or ys 0 (whole 0) ≡ line_at xs ys x
unfolding whole
line_first [] ys x h e t = absurd (not-suc-le-zero h)
line_first (a ∷ xs) [] x h e t = absurd (omega (arith, e))
line_first (a ∷ xs) (b ∷ ys) x h e t = rw (le-leb (x.num * 1) (a * x.den) (omega arith))

pub line_past_first : (xs : List ℕ) (ys : List Fraction) (x : Fraction) → 1 ≤ length xs → length ys ≡ length xs → get_or xs 0 0 * x.den < x.num → line_at xs ys x ≡ line_from (get_or xs 0 0) (get_or ys 0 (whole 0)) (drop 1 xs) (drop 1 ys) x
unfolding whole
line_past_first [] ys x h e t = absurd (not-suc-le-zero h)
line_past_first (a ∷ xs) [] x h e t = absurd (omega (arith, e))
line_past_first (a ∷ xs) (b ∷ ys) x h e t = rw (lt-leb (x.num * 1) (a * x.den) (omega arith))

-- one step along the points
module _ (xs : List ℕ) (ys : List Fraction) (x : Fraction) (a : ℕ) (b : Fraction) (i : ℕ) (all : Fraction) where
  step : i < length xs → i < length ys → line_from a b (drop i xs) (drop i ys) x ≡ cond (at_most x (whole (get_or xs i 0))) (chord a b (get_or xs i 0) (get_or ys i (whole 0)) x) (line_from (get_or xs i 0) (get_or ys i (whole 0)) (drop (i + 1) xs) (drop (i + 1) ys) x)
  step h k = rw (add-one, drop-cons xs i 0, drop-cons ys i (whole 0))

  pub line_in : i < length xs → i < length ys → all ≡ line_from a b (drop i xs) (drop i ys) x → x.num ≤ get_or xs i 0 * x.den → chord a b (get_or xs i 0) (get_or ys i (whole 0)) x ≡ all
  unfolding whole
  line_in h k e t = sym (e ∙ step h k ∙ rw (le-leb (x.num * 1) (get_or xs i 0 * x.den) (omega arith)))

  pub line_on : i < length xs → i < length ys → all ≡ line_from a b (drop i xs) (drop i ys) x → get_or xs i 0 * x.den < x.num → all ≡ line_from (get_or xs i 0) (get_or ys i (whole 0)) (drop (i + 1) xs) (drop (i + 1) ys) x
  unfolding whole
  line_on h k e t = e ∙ step h k ∙ rw (lt-leb (x.num * 1) (get_or xs i 0 * x.den) (omega arith))

  line_end : length xs ≤ i → all ≡ line_from a b (drop i xs) (drop i ys) x → b ≡ all
  line_end h e = sym (e ∙ ap (λ (l : List ℕ). line_from a b l (drop i ys) x) (drop_of_length-le xs h))

pub line_last : (xs : List ℕ) (ys : List Fraction) (x : Fraction) (i : ℕ) (all : Fraction) → length xs ≤ i → i ≤ length xs → all ≡ line_from (get_or xs (i - 1) 0) (get_or ys (i - 1) (whole 0)) (drop i xs) (drop i ys) x → get_or ys (length xs - 1) (whole 0) ≡ all
line_last xs ys x i all h k e =
    let r : length xs - 1 ≡ i - 1 = omega arith in
    ap (λ (n : ℕ). get_or ys n (whole 0)) r ∙ line_end xs ys x (get_or xs (i - 1) 0) (get_or ys (i - 1) (whole 0)) i all h e

-- x lies past the points up to the k-th, and what follows is the line from there
past : (xs : List ℕ) (ys : List Fraction) (x : Fraction) → length ys ≡ length xs → (k : ℕ) → k < length xs → ((j : ℕ) → j ≤ k → get_or xs j 0 * x.den < x.num) → line_at xs ys x ≡ line_from (get_or xs k 0) (get_or ys k (whole 0)) (drop (k + 1) xs) (drop (k + 1) ys) x
past xs ys x n zero h a = line_past_first xs ys x h n (a 0 (omega arith))
past xs ys x n (suc k) h a =
    line_on xs ys x (get_or xs k 0) (get_or ys k (whole 0)) (suc k) (line_at xs ys x) h (omega (arith, n, h))
    (rw add-one at (past xs ys x n k (omega (arith, h)) (λ j l. a j (omega (arith, l))))) (a (suc k) (omega arith))

-- what is read at a place of the points
pub map_at : {A : Type 0} (f : A → ℕ) (xs : List A) (i : ℕ) (x : A) (n : ℕ) → i < length xs → x ≡ get_or xs i x → n ≡ f x → n ≡ get_or (map f xs) i 0
map_at f [] i x n h e k = absurd (not-suc-le-zero h)
map_at f (y ∷ xs) zero x n h e k = k ∙ ap f e
map_at f (y ∷ xs) (suc i) x n h e k = map_at f xs i x n (le_of_suc-le-suc h) e k

-- what holds of the place of the point k, holds of the k-th place
placed : {A : Type 0} (spot : A → ℕ) (P : ℕ → Type 0) (ps : List A) (k : ℕ) → k < length ps → ((d : A) → P (spot (get_or ps k d))) → P (get_or (map spot ps) k 0)
placed spot P [] k h a = absurd (not-suc-le-zero h)
placed spot P (p ∷ ps) zero h a = a p
placed spot P (p ∷ ps) (suc k) h a = placed spot P ps k (le_of_suc-le-suc h) a

-- the cells that serve the line at x, by the first point that is not passed
module _ {A : Type 0} (spot : A → ℕ) (ps : List A) (x : Fraction) where
  abbrev places : List ℕ
  places = map spot ps

  passed_up : (i : ℕ) → i ≤ length ps → AllWithin (Passed spot x) ps 0 i → (k : ℕ) → k + 1 ≤ i → (j : ℕ) → j ≤ k → get_or places j 0 * x.den < x.num
  passed_up i h a k l j m = placed spot (λ n. n * x.den < x.num) ps j (omega (arith, h, l, m)) (λ d. a j d (omega arith) (omega (arith, l, m)))

  pub first_found : (c : Cell) → 1 ≤ length ps → HoldsAt (Reached spot x) ps 0 → c.first ≡ 0 → c.second ≡ 0 → c.after ≡ 1 → c.before ≡ 0 → Finds places x c
  first_found c h t f s a b ys k =
      same_to (level_mix 0 c f s a b ys)
      (line_first places ys x (omega (arith, h, length-map ps spot)) k (placed spot (λ n. x.num ≤ n * x.den) ps 0 h t))

  pub last_found : (c : Cell) → 1 ≤ length ps → AllWithin (Passed spot x) ps 0 (length ps) → c.first ≡ length ps - 1 → c.second ≡ length ps - 1 → c.after ≡ 1 → c.before ≡ 0 → Finds places x c
  last_found c h t f s a b ys k =
      let last = length ps - 1 in
      let e = past places ys x k last (omega (arith, h, length-map ps spot)) (passed_up (length ps) (omega arith) t last (omega (arith, h))) in
      same_to (level_mix last c f s a b ys)
      (line_end places ys x (get_or places last 0) (get_or ys last (whole 0)) (last + 1) (line_at places ys x) (omega (arith, h, length-map ps spot)) e)

  pub between_found : (i low high : ℕ) (c : Cell) → 1 ≤ i → i < length ps → HoldsAt (Reached spot x) ps i → AllWithin (Passed spot x) ps 0 i → low ≡ get_or places (i - 1) 0 * x.den → high ≡ get_or places i 0 * x.den → c.first ≡ i - 1 → c.second ≡ i → c.after ≡ high - x.num → c.before ≡ x.num - low → Finds places x c
  between_found i low high c h l r t a b f g m n ys k =
      let s : i - 1 + 1 ≡ i = omega (arith, h) in
      let u = passed_up i (omega (arith, l)) t (i - 1) (omega (arith, h)) in
      let v = placed spot (λ n. x.num ≤ n * x.den) ps i l r in
      let e = rw s at (past places ys x k (i - 1) (omega (arith, l, length-map ps spot)) u) in
      same_to (cell_found _ _ i x low high c a b (rw a (u (i - 1) (omega arith))) (rw b v) f g m n ys)
      (line_in places ys x _ _ i (line_at places ys x) (omega (arith, l, length-map ps spot)) (omega (arith, l, k, length-map ps spot)) e v)
