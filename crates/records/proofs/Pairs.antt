-- Points and their fields.
use Rattle.std.proofs.Common.{◌≡◌, ℕ, zero, suc, ◌+◌, ◌*◌, ◌<◌, ◌≤◌, List, [], ◌∷◌, length, get_or, refl, ap, not-suc-le-zero, arith}
use Rattle.records.specs.declared.point.Point.{Point}
use Rattle.records.specs.Curve.{flat, paired}

pub paired_flat : (ps : List Point) → paired (flat ps) ≡ ps
paired_flat [] = refl
paired_flat (p ∷ ps) = ap (λ (l : List Point). p ∷ l) (paired_flat ps)

pub flat_paired : (n : ℕ) (ns : List ℕ) → length ns ≡ 2 * n → flat (paired ns) ≡ ns
flat_paired n [] e = refl
flat_paired n (x ∷ []) e = absurd (omega (arith, e))
flat_paired zero (x ∷ (y ∷ ns)) e = absurd (omega (arith, e))
flat_paired (suc n) (x ∷ (y ∷ ns)) e = ap (λ (l : List ℕ). x ∷ y ∷ l) (flat_paired n ns (omega (arith, e)))

pub paired_length : (n : ℕ) (ns : List ℕ) → 2 * n ≤ length ns → length ns < 2 * n + 2 → length (paired ns) ≡ n
paired_length n [] h k = omega (arith, h)
paired_length n (x ∷ []) h k = omega (arith, h)
paired_length zero (x ∷ (y ∷ ns)) h k = absurd (omega (arith, k))
paired_length (suc n) (x ∷ (y ∷ ns)) h k = ap suc (paired_length n ns (omega (arith, h)) (omega (arith, k)))

pub paired_at : (d : Point) (ns : List ℕ) (i : ℕ) → 2 * i + 1 < length ns → get_or (paired ns) i d ≡ record { x = get_or ns (2 * i) 0; y = get_or ns (2 * i + 1) 0 }
paired_at d [] i h = absurd (not-suc-le-zero h)
paired_at d (x ∷ []) i h = absurd (omega (arith, h))
paired_at d (x ∷ (y ∷ ns)) zero h = refl
paired_at d (x ∷ (y ∷ ns)) (suc i) h =
    let a : 2 * suc i ≡ suc (suc (2 * i)) = omega arith in
    let b : suc (suc (2 * i)) + 1 ≡ suc (suc (2 * i + 1)) = omega arith in
    rw (a, b) (paired_at d ns i (omega (arith, h)))
