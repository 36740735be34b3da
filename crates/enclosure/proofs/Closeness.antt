-- How closeness passes through the operations of every sound arithmetic.
use Rattle.std.proofs.Common.{◌≡◌, ℕ, ◌+◌, ◌*◌, ◌^◌, ◌<◌, ◌≤◌, max, sym, refl, subst, add_comm, arith, lit≤}
use Rattle.fraction.specs.Fraction.{Fraction, ratio, whole, ◌⊕◌, ◌⊗◌, ◌⊘◌, ◌⊔◌, ◌⊓◌, Same}
use Rattle.fraction.specs.Graded.{Within}
use Rattle.fraction.proofs.Order.{le_trans}
use Rattle.fraction.proofs.Graded as graded
use Rattle.fraction.proofs.Lattice as lattice
use Rattle.enclosure.specs.Model.{Model, Sound, Upper, at, unbounded, Below, Encloses, Bounded, Fine, Ends}
use Rattle.enclosure.specs.Formula.{Made, number, plus, times, over, least, most}
use Rattle.enclosure.specs.Close.{Tame, Close}
use Rattle.enclosure.proofs.Narrow.{Around, around_self, around_plus, around_times, around_over, around_smaller, around_larger, inside, near_grade, far_grade, tame_positive, tiny_positive}

-- of equal numbers, both are tame
pub tame_along : {x y : Fraction} → Same x y → Tame x → Tame y
tame_along h t = record { low = le_trans t.low h.to; high = le_trans h.from t.high }

pub tame_whole : (k : ℕ) → 1 ≤ k → k ≤ 10 ^ 35 → Tame (whole k)
unfolding ratio whole
tame_whole k h l = record { low = record { cross = omega arith }; high = record { cross = omega arith } }

pub tame_smaller : {x y : Fraction} → Tame x → Tame y → Tame (x ⊓ y)
tame_smaller {x} {y} t u = record { low = lattice.le_smaller t.low u.low; high = le_trans (lattice.smaller_first x y) t.high }

pub tame_larger : {x y : Fraction} → Tame x → Tame y → Tame (x ⊔ y)
tame_larger {x} {y} t u = record { low = le_trans t.low (lattice.larger_first x y); high = lattice.larger_le t.high u.high }

module _ {E : Type 0} {m : Model E} where
  -- what is close is contained
  pub encloses : {n : ℕ} {x : Fraction} {e : E} → Close m n x e → Encloses m e x
  encloses {n} {x} {e} c = record { low = c.low; high = subst (Below x) (sym c.is) c.high }

  pub encloses_along : {x y : Fraction} {e : E} → Same x y → Encloses m e x → Encloses m e y
  encloses_along {x} {y} {e} h c = record { low = le_trans c.low h.to; high = past (m.upper e) c.high }
    where
      past : (u : Upper) → Below x u → Below y u
      past (at t) k = le_trans h.from k
      past unbounded k = tt

  pub loosen : {n : ℕ} (k : ℕ) {x : Fraction} {e : E} → n ≤ k → Close m n x e → Close m k x e
  loosen k le c =
      record {
        top = c.top;
        is = c.is;
        low = c.low;
        high = c.high;
        near = graded.wider k le c.near;
        far = graded.wider k le c.far;
        tame = c.tame;
        made = c.made;
      }

  between : {n : ℕ} {x t : Fraction} {r : E} → Tame x → Made m r → Encloses m r x → m.upper r ≡ at t → Within m.fineness n x (m.lower r) → Within m.fineness n t x → Close m n x r
  between {n} {x} {t} {r} tame made within is near far =
      record { top = t; is = is; low = within.low; high = subst (Below x) is within.high; near = near; far = far; tame = tame; made = made }

  around : {n : ℕ} {x : Fraction} {e : E} (c : Close m n x e) → Around m.fineness n x (m.lower e) c.top
  around c = record { low = c.low; high = c.high; near = c.near; far = c.far }

  module _ (sound : Sound m) where
    pub fine_positive : 0 < m.fineness
    fine_positive = omega (arith, sound.least_fineness)

    half : (n : ℕ) → n ≤ 100000 → 2 * n ≤ m.fineness
    half n h = omega (arith, sound.least_fineness)

    -- of one number, in another form
    pub close_along : {n : ℕ} {x y : Fraction} {e : E} → Same x y → Close m n x e → Close m n y e
    close_along h c =
        record {
          top = c.top;
          is = c.is;
          low = le_trans c.low h.to;
          high = le_trans h.from c.high;
          near = graded.after fine_positive h.from c.near;
          far = graded.before fine_positive c.far h.to;
          tame = tame_along h c.tame;
          made = c.made;
        }

    -- the ends of what is close are where fineness is owed
    bounded : {n : ℕ} {x : Fraction} {e : E} → n ≤ 100000 → (c : Close m n x e) → Bounded m e c.top
    bounded {n} le c =
        let i = inside fine_positive (half n le) c.tame (around c) in
        record { is = c.is; low = i.low_huge; high = i.high_huge }

    -- one rounding of ends that are narrow around x
    rounded : {n : ℕ} {x l h : Fraction} {r : E} → n ≤ 100000 → Tame x → Around m.fineness n x l h → Encloses m r x → Fine m (whole 0) l h r → Made m r → Close m (n + 1) x r
    rounded {n} le tame a within fine made =
        let i = inside fine_positive (half n le) tame a in
        between tame made within fine.is
        (graded.trans fine_positive a.near (near_grade fine_positive i.low_tiny fine.low))
        (rw (add_comm n 1) (graded.trans fine_positive (far_grade fine_positive i.high_tiny fine.high) a.far))

    -- and none
    unrounded : {n : ℕ} {x l h : Fraction} {r : E} → Tame x → Around m.fineness n x l h → Encloses m r x → Ends m l h r → Made m r → Close m n x r
    unrounded tame a within ends made =
        between tame made within ends.is (graded.before fine_positive a.near ends.low.from) (graded.after fine_positive ends.high.to a.far)

    -- a whole number from 1 to 2 ^ 62
    pub close_whole : (k : ℕ) → 1 ≤ k → k ≤ 2 ^ 62 → Close m 1 (whole k) (m.from_whole k)
    close_whole k h l =
        rounded {n = 0} (lit≤ tt) (tame_whole k h (omega arith)) (around_self (whole k)) (sound.whole_in k l) (sound.whole_fine k l) (record { steps = number k; is = refl })

    module _ {n1 n2 : ℕ} {x y : Fraction} {e f : E} (c : Close m n1 x e) (d : Close m n2 y f) where
      pub close_plus : max n1 n2 ≤ 100000 → Tame (x ⊕ y) → Close m (max n1 n2 + 1) (x ⊕ y) (m.sum e f)
      close_plus le tame =
          let a = around_plus fine_positive (around c) (around d) in
          let i = inside fine_positive (half (max n1 n2) le) tame a in
          rounded le tame a
          (sound.sum_in e f x y (encloses c) (encloses d))
          (sound.sum_fine e f c.top d.top (bounded (omega arith) c) (bounded (omega arith) d) i.low_huge i.high_huge)
          (record { steps = plus c.made.steps d.made.steps; is = cc (c.made.is, d.made.is) })

      pub close_times : n1 + n2 ≤ 100000 → Tame (x ⊗ y) → Close m (n1 + n2 + 1) (x ⊗ y) (m.product e f)
      close_times le tame =
          let a = around_times fine_positive (around c) (around d) in
          let i = inside fine_positive (half (n1 + n2) le) tame a in
          rounded le tame a
          (sound.product_in e f x y (encloses c) (encloses d))
          (sound.product_fine e f c.top d.top (bounded (omega arith) c) (bounded (omega arith) d) i.low_huge i.high_huge)
          (record { steps = times c.made.steps d.made.steps; is = cc (c.made.is, d.made.is) })

      pub close_over : n1 + n2 ≤ 100000 → Tame (x ⊘ y) → Close m (n1 + n2 + 1) (x ⊘ y) (m.quotient e f)
      close_over le tame =
          let narrow : n2 ≤ 100000 = omega arith in
          let least = (inside fine_positive (half n2 narrow) d.tame (around d)).low_tiny in
          let pos = tiny_positive least in
          let a = around_over fine_positive (around c) (around d) pos in
          let i = inside fine_positive (half (n1 + n2) le) tame a in
          rounded le tame a
          (sound.quotient_in e f x y (tame_positive d.tame) (encloses c) (encloses d))
          (sound.quotient_fine e f c.top d.top pos (bounded (omega arith) c) (bounded narrow d) i.low_huge i.high_huge)
          (record { steps = over c.made.steps d.made.steps; is = cc (c.made.is, d.made.is) })

      pub close_smaller : max n1 n2 ≤ 100000 → Close m (max n1 n2) (x ⊓ y) (m.smaller e f)
      close_smaller le =
          unrounded (tame_smaller c.tame d.tame) (around_smaller fine_positive (around c) (around d))
          (sound.smaller_in e f x y (encloses c) (encloses d))
          (sound.smaller_ends e f c.top d.top (bounded (omega arith) c) (bounded (omega arith) d))
          (record { steps = least c.made.steps d.made.steps; is = cc (c.made.is, d.made.is) })

      pub close_larger : max n1 n2 ≤ 100000 → Close m (max n1 n2) (x ⊔ y) (m.larger e f)
      close_larger le =
          unrounded (tame_larger c.tame d.tame) (around_larger fine_positive (around c) (around d))
          (sound.larger_in e f x y (encloses c) (encloses d))
          (sound.larger_ends e f c.top d.top (bounded (omega arith) c) (bounded (omega arith) d))
          (record { steps = most c.made.steps d.made.steps; is = cc (c.made.is, d.made.is) })
