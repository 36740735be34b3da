-- The laws can be met: the exact fractions meet them.
use Rattle.std.proofs.Common.{◌≡◌, ◌^◌, refl, lit≤}
use Rattle.fraction.specs.Fraction.{Fraction, whole, ◌⊕◌, ◌⊗◌, ◌⊘◌, ◌⊖◌, ◌⊔◌, ◌⊓◌, ◌≼◌}
use Rattle.fraction.proofs.Order.{le_refl, plus_le, times_le, over_le, excess_le, above_zero, plus_first}
use Rattle.fraction.proofs.Lattice.{smaller_mono, larger_mono}
use Rattle.fraction.proofs.Sames as same
use Rattle.enclosure.specs.Model.{at, Encloses, Near, Fine, Ends}
use Rattle.enclosure.specs.Theorems.{exact_model, LawsCanBeMet}

held : {x e : Fraction} → e ≼ x → x ≼ e → Encloses exact_model e x
held h k = record { low = h; high = k }

near_self : (s x : Fraction) → Near (10 ^ 6) s x x
near_self s x = record { under = plus_first x (s ⊘ whole (10 ^ 6)); over = plus_first x (s ⊘ whole (10 ^ 6)) }

-- the two ends of an exact fraction are one, so what it computes has exact ends
fine_self : (s x l h : Fraction) → l ≡ x → h ≡ x → Fine exact_model s l h x
fine_self s x l h i j = rw (i, j) (record { top = x; is = refl; low = near_self _ x; high = near_self _ x })

ends_self : (x l h : Fraction) → l ≡ x → h ≡ x → Ends exact_model l h x
ends_self x l h i j = rw (i, j) (record { top = x; is = refl; low = same.refl x; high = same.refl x })

one_end : {a b : Fraction} → at a ≡ at b → b ≡ a
one_end e = cc

pub laws_met : LawsCanBeMet
laws_met =
    record {
      least_fineness = lit≤ tt;
      most_fineness = lit≤ tt;
      ordered = le_refl;
      whole_in = λ n h. held (le_refl (whole n)) (le_refl (whole n));
      whole_fine = λ n h. fine_self (whole 0) (whole n) (whole n) (whole n) refl refl;
      sum_in = λ a b x y u v. held (plus_le u.low v.low) (plus_le u.high v.high);
      sum_fine = λ a b h k u v p q. fine_self (whole 0) (a ⊕ b) (a ⊕ b) (h ⊕ k) refl (rw (one_end u.is, one_end v.is));
      product_in = λ a b x y u v. held (times_le u.low v.low) (times_le u.high v.high);
      product_fine = λ a b h k u v p q. fine_self (whole 0) (a ⊗ b) (a ⊗ b) (h ⊗ k) refl (rw (one_end u.is, one_end v.is));
      quotient_in = λ a b x y pos u v. held (over_le pos u.low v.high) (over_le (above_zero pos v.high) u.high v.low);
      quotient_fine = λ a b h k pos u v p q. fine_self (whole 0) (a ⊘ b) (a ⊘ k) (h ⊘ b) (rw (one_end v.is)) (rw (one_end u.is));
      excess_in = λ a b x y u v. held (excess_le u.low v.high) (excess_le u.high v.low);
      excess_fine = λ a b h k u v. fine_self h (a ⊖ b) (a ⊖ k) (h ⊖ b) (rw (one_end v.is)) (rw (one_end u.is));
      smaller_in = λ a b x y u v. held (smaller_mono u.low v.low) (smaller_mono u.high v.high);
      smaller_ends = λ a b h k u v. ends_self (a ⊓ b) (a ⊓ b) (h ⊓ k) refl (rw (one_end u.is, one_end v.is));
      larger_in = λ a b x y u v. held (larger_mono u.low v.low) (larger_mono u.high v.high);
      larger_ends = λ a b h k u v. ends_self (a ⊔ b) (a ⊔ b) (h ⊔ k) refl (rw (one_end u.is, one_end v.is));
    }
