-- The laws of a whole part, rounded either way.
use Rattle.std.proofs.Common.{◌≡◌, ℕ, zero, suc, ◌+◌, ◌-◌, ◌*◌, ◌^◌, ◌<◌, ◌≤◌, sym, ap, ◌∙◌, mul-le-mul_left, mul-le-mul_right, lt_of_mul-lt-mul_right, mul-lt-mul_of_pos_right, mul-pos, div-mul-le_self, le_of_mul-le-mul_right, arith}
use native.Mathlib.Nat.{pow-zero, div-eq_of_lt-le, lt-div-mul-add}
use Rattle.rounding.specs.Cut.{cut, turned}
use Rattle.rounding.specs.declared.rounding.Rounding.{Rounding}
use Rattle.rounding.specs.declared.rounding.Rounding.TheVariants.{Down, Up}

-- q is n / d, rounded: the bounds by which it is known
abbrev pub Cuts : Rounding → (n d q : ℕ) → Type 0
Cuts Down n d q = (q * d ≤ n) × (n < q * d + d)
Cuts Up n d q = (n ≤ q * d) × (q * d < n + d)

pub cut_is : (t : Rounding) (n d q : ℕ) → 0 < d → Cuts t n d q → cut t n d ≡ q
cut_is Down n d q pos h = div-eq_of_lt-le d h.0 (omega arith)
cut_is Up n d q pos h = div-eq_of_lt-le d (omega arith) (omega arith)

pub cuts : (t : Rounding) (n d : ℕ) → 0 < d → Cuts t n d (cut t n d)
cuts Down n d pos = (div-mul-le_self n d, lt-div-mul-add pos)
cuts Up n d pos =
    let l = div-mul-le_self (n + (d - 1)) d in
    let h = lt-div-mul-add {a = n + (d - 1)} pos in
    (omega arith, omega arith)

-- the same parts of parts
pub cut_cut : (t : Rounding) (n a b : ℕ) → 0 < a → 0 < b → cut t (cut t n a) b ≡ cut t n (a * b)
cut_cut t n a b pa pb = sym (cut_is t n (a * b) _ (mul-pos pa pb) (by t (cut t n a) (cut t (cut t n a) b) (cuts t n a pa) (cuts t (cut t n a) b pb)))
  where
    by : (t : Rounding) (q p : ℕ) → Cuts t n a q → Cuts t q b p → Cuts t n (a * b) p
    by Down q p x y = (omega (arith, mul-le-mul_right a y.0), omega (arith, mul-le-mul_right a y.1))
    by Up q p x y = (omega (arith, mul-le-mul_right a y.0), omega (arith, mul-le-mul_right a y.1))

-- a ratio may be written in any terms
pub cut_terms : (t : Rounding) (n a p q : ℕ) → 0 < a → 0 < q → n * q ≡ p * a → cut t n a ≡ cut t p q
cut_terms t n a p q pa pq e = cut_is t n a _ pa (by t (cut t p q) (cuts t p q pq))
  where
    by : (t : Rounding) (r : ℕ) → Cuts t p q r → Cuts t n a r
    by Down r x = (
      le_of_mul-le-mul_right {k = q} (omega (arith, mul-le-mul_right a x.0)) pq,
      lt_of_mul-lt-mul_right q (omega (arith, mul-lt-mul_of_pos_right x.1 pa)),
    )
    by Up r x = (
      le_of_mul-le-mul_right {k = q} (omega (arith, mul-le-mul_right a x.0)) pq,
      lt_of_mul-lt-mul_right q (omega (arith, mul-lt-mul_of_pos_right x.1 pa)),
    )

-- whole parts come out unrounded
pub cut_plus : (t : Rounding) (x n a : ℕ) → 0 < a → cut t (x * a + n) a ≡ x + cut t n a
cut_plus t x n a pa = cut_is t (x * a + n) a _ pa (by t (cut t n a) (cuts t n a pa))
  where
    by : (t : Rounding) (q : ℕ) → Cuts t n a q → Cuts t (x * a + n) a (x + q)
    by Down q c = (omega arith, omega arith)
    by Up q c = (omega arith, omega arith)

pub cut_exact : (t : Rounding) (x a : ℕ) → 0 < a → cut t (x * a) a ≡ x
cut_exact t x a pa = cut_is t (x * a) a x pa (by t)
  where
    by : (t : Rounding) → Cuts t (x * a) a x
    by Down = (omega arith, omega arith)
    by Up = (omega arith, omega arith)

pub cut_one : (t : Rounding) (n : ℕ) → cut t n 1 ≡ n
cut_one t n = cut_is t n 1 n (omega arith) (by t)
  where
    by : (t : Rounding) → Cuts t n 1 n
    by Down = (omega arith, omega arith)
    by Up = (omega arith, omega arith)

pub cut_none : (t : Rounding) (n B : ℕ) → cut t n (B ^ 0) ≡ n
cut_none t n B = ap (λ x. cut t n x) (pow-zero B) ∙ cut_one t n

-- taking away turns the rounding round
pub cut_minus : (t : Rounding) (x n a : ℕ) → 0 < a → n ≤ x * a → cut t (x * a - n) a ≡ x - cut (turned t) n a
cut_minus t x n a pa le = cut_is t (x * a - n) a _ pa (by t (cut (turned t) n a) (cuts (turned t) n a pa))
  where
    below : (q : ℕ) → q * a < n + a → q < x + 1
    below q h = lt_of_mul-lt-mul_right a (omega arith)

    split : (q : ℕ) → q * a < n + a → (x - q) * a + q * a ≡ x * a
    split q h = let l = below q h in let e : (x - q) + q ≡ x = omega arith in omega (arith, ap (λ y. y * a) e)

    by : (t : Rounding) (q : ℕ) → Cuts (turned t) n a q → Cuts t (x * a - n) a (x - q)
    by Down q c = let s = split q c.1 in (omega arith, omega arith)
    by Up q c = let s = split q (omega arith) in (omega arith, omega arith)

-- a bound of the ratio is one of the whole part
pub cut_least : (t : Rounding) (n a k : ℕ) → 0 < a → k * a ≤ n → k ≤ cut t n a
cut_least t n a k pa h = by t (cut t n a) (cuts t n a pa)
  where
    by : (t : Rounding) (q : ℕ) → Cuts t n a q → k ≤ q
    by Down q c = let l : k < q + 1 = lt_of_mul-lt-mul_right a (omega arith) in omega arith
    by Up q c = le_of_mul-le-mul_right {k = a} (omega arith) pa

pub cut_most : (t : Rounding) (n a k : ℕ) → 0 < a → n ≤ k * a → cut t n a ≤ k
cut_most t n a k pa h = by t (cut t n a) (cuts t n a pa)
  where
    by : (t : Rounding) (q : ℕ) → Cuts t n a q → q ≤ k
    by Down q c = le_of_mul-le-mul_right {k = a} (omega arith) pa
    by Up q c = let l : q < k + 1 = lt_of_mul-lt-mul_right a (omega arith) in omega arith

-- cutting a digit off leaves less
pub cut_shrinks : (t : Rounding) (n a : ℕ) → 2 ≤ a → 2 ≤ n → cut t n a < n
cut_shrinks t n a b h =
    let room : n ≤ (n - 1) * a = omega (arith, mul-le-mul_left (n - 1) b) in
    let p = cut_most t n a (n - 1) (omega arith) room in
    omega arith

pub cut_below : (n a k : ℕ) → 0 < a → n < k * a → cut Down n a < k
cut_below n a k pa h = let c = cuts Down n a pa in lt_of_mul-lt-mul_right a (omega arith)

pub cut_some : (n a : ℕ) → 0 < a → 0 < n → 0 < cut Up n a
cut_some n a pa h = by (cut Up n a) (cuts Up n a pa)
  where
    by : (q : ℕ) → Cuts Up n a q → 0 < q
    by zero c = omega arith
    by (suc q) c = omega arith
