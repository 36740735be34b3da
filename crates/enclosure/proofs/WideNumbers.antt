-- Whole numbers of more than 62 bits are close to what they are made of.
use Rattle.std.proofs.Common.{◌≡◌, ℕ, ◌+◌, ◌-◌, ◌*◌, ◌/◌, ◌%◌, ◌^◌, ◌<◌, ◌≤◌, sym, ap, ◌∙◌, subst, mod-lt, lt_of_not-le, arith, lit<, lit≤, le-leb}
use mathlib.Core.Logic.{dite}
use native.Mathlib.Decide.{dec_le}
use native.Mathlib.Nat.{div-add-mod}
use borrow.Author.Tests.{lt-leb}
use Rattle.fraction.specs.Fraction.{whole, ◌⊕◌, ◌⊗◌, Same}
use Rattle.fraction.proofs.Sames as same
use Rattle.enclosure.specs.Model.{Model, Sound, Encloses}
use Rattle.enclosure.specs.Formula.{Ops, computed, parted, wide_of}
use Rattle.enclosure.specs.Close.{Close}
use Rattle.enclosure.specs.Theorems.{WideNumbersHold}
use Rattle.enclosure.proofs.Closeness.{close_whole, close_times, close_plus, close_along, loosen, encloses_along, tame_whole, tame_along}

-- n above 0 is high 2 ^ 61 + low
pub parts : (n : ℕ) → 1 ≤ n → (n - 1) / 2 ^ 61 * 2 ^ 61 + ((n - 1) % 2 ^ 61 + 1) ≡ n
parts n h = omega (arith, div-add-mod (n - 1) (2 ^ 61))

pub low_part : (n : ℕ) → (n - 1) % 2 ^ 61 + 1 ≤ 2 ^ 61
low_part n = let some : 0 < 2 ^ 61 = lit< tt in omega (arith, mod-lt (n - 1) some)

same_parts : (n : ℕ) → 1 ≤ n → Same (whole ((n - 1) / 2 ^ 61) ⊗ whole (2 ^ 61) ⊕ whole ((n - 1) % 2 ^ 61 + 1)) (whole n)
same_parts n h =
    subst (λ (k : ℕ). Same (whole ((n - 1) / 2 ^ 61) ⊗ whole (2 ^ 61) ⊕ whole ((n - 1) % 2 ^ 61 + 1)) (whole k)) (parts n h)
    (same.trans (same.plus (same.whole_times ((n - 1) / 2 ^ 61) (2 ^ 61)) (same.refl (whole ((n - 1) % 2 ^ 61 + 1)))) (same.whole_plus ((n - 1) / 2 ^ 61 * 2 ^ 61) ((n - 1) % 2 ^ 61 + 1)))

-- up to 2 ^ 62 nothing is parted, and past it one part is taken off
pub short : {T : Type 0} (o : Ops T) (above : ℕ → T) (n : ℕ) → n ≤ 2 ^ 62 → parted o above n ≡ o.num n
short o above n h = rw (le-leb n (2 ^ 62) h)

pub long : {T : Type 0} (o : Ops T) (above : ℕ → T) (n : ℕ) → 2 ^ 62 < n → parted o above n ≡ o.add (o.mul (above ((n - 1) / 2 ^ 61)) (o.num (2 ^ 61))) (o.num ((n - 1) % 2 ^ 61 + 1))
long o above n h = rw (lt-leb n (2 ^ 62) h)

-- so in 128 bits no more than two parts are taken off
module _ {T : Type 0} (o : Ops T) where
  deeper : (n : ℕ) → n < 2 ^ 67 → parted o o.num n ≡ wide_of o n
  deeper n bound =
      dite (dec_le n (2 ^ 62))
      (λ le. short o o.num n le ∙ sym (short o (parted o o.num) n le))
      (λ gt.
      let past : 2 ^ 62 < n = lt_of_not-le gt in
      let pos : 1 ≤ n = omega arith in
      let e = parts n pos in
      long o o.num n past ∙ sym (long o (parted o o.num) n past ∙ rw (short o o.num ((n - 1) / 2 ^ 61) (omega arith))))

  pub wide_short : (n : ℕ) → n ≤ 2 ^ 62 → wide_of o n ≡ o.num n
  wide_short n h = short o (parted o o.num) n h

  pub wide_step : (n : ℕ) → 2 ^ 62 < n → n < 2 ^ 128 → wide_of o n ≡ o.add (o.mul (wide_of o ((n - 1) / 2 ^ 61)) (o.num (2 ^ 61))) (o.num ((n - 1) % 2 ^ 61 + 1))
  wide_step n past bound =
      let pos : 1 ≤ n = omega arith in
      let e = parts n pos in
      long o (parted o o.num) n past ∙ ap (λ (t : T). o.add (o.mul t (o.num (2 ^ 61))) (o.num ((n - 1) % 2 ^ 61 + 1))) (deeper ((n - 1) / 2 ^ 61) (omega arith))

module _ {E : Type 0} {m : Model E} (sound : Sound m) where
  parted_in : (above : ℕ → E) (n : ℕ) → (2 ^ 62 < n → Encloses m (above ((n - 1) / 2 ^ 61)) (whole ((n - 1) / 2 ^ 61))) → Encloses m (parted (computed m) above n) (whole n)
  parted_in above n higher =
      let o = computed m in
      dite (dec_le n (2 ^ 62))
      (λ le. rw (short o above n le) (sound.whole_in n le))
      (λ gt.
      let past : 2 ^ 62 < n = lt_of_not-le gt in
      let pos : 1 ≤ n = omega arith in
      let b = low_part n in
      let k = (n - 1) / 2 ^ 61 in
      let r = (n - 1) % 2 ^ 61 + 1 in
      let unit = m.from_whole (2 ^ 61) in
      let upper = sound.product_in (above k) unit (whole k) (whole (2 ^ 61)) (higher past) (sound.whole_in (2 ^ 61) (lit≤ tt)) in
      rw (long o above n past)
      (encloses_along (same_parts n pos) (sound.sum_in (m.product (above k) unit) (m.from_whole r) (whole k ⊗ whole (2 ^ 61)) (whole r) upper (sound.whole_in r (omega arith)))))

  pub wide_in : (n : ℕ) → n < 2 ^ 128 → Encloses m (wide_of (computed m) n) (whole n)
  wide_in n bound =
      parted_in (parted (computed m) m.from_whole) n
      (λ past.
      let k = (n - 1) / 2 ^ 61 in
      let pos : 1 ≤ n = omega arith in
      let e = parts n pos in
      parted_in m.from_whole k
      (λ past_again.
      let some : 1 ≤ k = omega arith in
      let i = parts k some in
      sound.whole_in ((k - 1) / 2 ^ 61) (omega arith)))

  -- n past 2 ^ 62 by its parts
  close_parts : (n : ℕ) → 2 ^ 62 < n → n ≤ 10 ^ 35 → Close m 4 (whole n) (m.sum (m.product (m.from_whole ((n - 1) / 2 ^ 61)) (m.from_whole (2 ^ 61))) (m.from_whole ((n - 1) % 2 ^ 61 + 1)))
  close_parts n past l =
      let pos : 1 ≤ n = omega arith in
      let e = parts n pos in
      let b = low_part n in
      let k = (n - 1) / 2 ^ 61 in
      let high = close_whole sound k (omega arith) (omega arith) in
      let unit = close_whole sound (2 ^ 61) (lit≤ tt) (lit≤ tt) in
      let low = close_whole sound ((n - 1) % 2 ^ 61 + 1) (omega arith) (omega arith) in
      let upper = close_times sound high unit (lit≤ tt) (tame_along (same.sym (same.whole_times k (2 ^ 61))) (tame_whole (k * 2 ^ 61) (omega arith) (omega arith))) in
      close_along sound (same_parts n pos) (close_plus sound upper low (lit≤ tt) (tame_along (same.sym (same_parts n pos)) (tame_whole n pos l)))

  pub close_wide : (n : ℕ) → 1 ≤ n → n ≤ 10 ^ 35 → Close m 4 (whole n) (wide_of (computed m) n)
  close_wide n h l =
      let o = computed m in
      dite (dec_le n (2 ^ 62))
      (λ le. rw (wide_short o n le) (loosen 4 (lit≤ tt) (close_whole sound n h le)))
      (λ gt.
      let past : 2 ^ 62 < n = lt_of_not-le gt in
      let e = parts n h in
      rw (long o (parted o m.from_whole) n past, short o m.from_whole ((n - 1) / 2 ^ 61) (omega arith)) (close_parts n past l))

pub wide_numbers_hold : (E : Type 0) → WideNumbersHold E
wide_numbers_hold E m sound n bound = record { contained = wide_in sound n bound; close = close_wide sound n }
