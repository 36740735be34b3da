-- What a test between neighbours has answered.
use Rattle.std.proofs.Common.{◌≡◌, ℕ, zero, suc, ◌+◌, ◌<◌, ◌≤◌, Bool, true, false, ◌&&◌, List, [], ◌∷◌, length, get_or, drop, refl, not-suc-le-zero, arith}
use Rattle.std.specs.List.{IsAllAdjacentAnswer}
use Rattle.records.specs.Curve.{linked, chained}

module _ {X : Type 0} (test : X → X → Bool) where
  -- the k-th and the next give b
  abbrev Answers : Bool → List X → ℕ → Type 0
  Answers b xs k = (d : X) → b ≡ test (get_or xs k d) (get_or xs (k + 1) d)

  next : (b : Bool) (x : X) (xs : List X) (k : ℕ) → Answers b (x ∷ xs) (suc k) → Answers b xs k
  next b x xs k a d = let e : suc k + 1 ≡ suc (k + 1) = omega arith in rw e at (a d)

  all_linked : (x : X) (xs : List X) → ((k : ℕ) → k + 1 < length (x ∷ xs) → Answers true (x ∷ xs) k) → true ≡ linked test x xs
  all_linked x [] a = refl
  all_linked x (y ∷ ys) a = rw (← a 0 (omega arith) x) (all_linked y ys (λ k h. next true x (y ∷ ys) k (a (suc k) (omega (arith, h)))))

  one_broken : (x : X) (xs : List X) (k : ℕ) → k + 1 < length (x ∷ xs) → Answers false (x ∷ xs) k → false ≡ linked test x xs
  one_broken x [] k h a = absurd (omega (arith, h))
  one_broken x (y ∷ ys) zero h a = rw (← a x) refl
  one_broken x (y ∷ ys) (suc k) h a = both_false (test x y) (linked test y ys) (one_broken y ys k (omega (arith, h)) (next false x (y ∷ ys) k a))
    where
      both_false : (a b : Bool) → false ≡ b → false ≡ (a && b)
      both_false true b e = e
      both_false false b e = refl

  -- of one item or more, the test along all is the test along the first and the rest
  pub chained_first : (d : X) (xs : List X) → 1 ≤ length xs → chained test xs ≡ linked test (get_or xs 0 d) (drop 1 xs)
  chained_first d [] h = absurd (not-suc-le-zero h)
  chained_first d (x ∷ xs) h = refl

  -- what `is_sorted_by` answers, given the test that its closure computes
  pub chained_is : (xs : List X) (r : Bool) → IsAllAdjacentAnswer (λ x y b. b ≡ test x y) xs r → r ≡ chained test xs
  chained_is [] true a = refl
  chained_is [] false (k, h, a) = absurd (omega (arith, h))
  chained_is (x ∷ xs) true a = all_linked x xs (λ k h d. a k d h)
  chained_is (x ∷ xs) false (k, h, a) = one_broken x xs k h a
