-- What is known of a formula, by one test on its tree.
use Rattle.std.proofs.Common.{◌≡◌, ℕ, ◌*◌, Bool, ◌&&◌, T, leb, Option, sym, subst, leb→le}
use lib.Ieee.Fits.{and_l, and_r}
use Rattle.fraction.specs.Fraction.{Fraction, Same}
use Rattle.fraction.proofs.Order as order
use Rattle.enclosure.specs.Model.{Model, Sound}
use Rattle.enclosure.proofs.Closeness.{close_along, loosen}
use Rattle.enclosure.proofs.Trees.{Tree, given, exact, value, grade, low, high, ok, closed_all, at_least, at_most}
use Rattle.quantities.specs.Known.{Known, Perhaps}

module _ {E : Type 0} {m : Model E} where
  -- what is known, as a leaf
  abbrev pub leaf : {n a b c d : ℕ} {x : Fraction} {e : E} → Known m n a b c d x e → Tree m
  leaf {n} {a} {b} {c} {d} {x} {e} k = given {n = n} {x = x} {e = e} a b c d k.least k.most k.close k.above k.below

  abbrev pub in_bounds : Tree m → (a b c d : ℕ) → Bool
  in_bounds f a b c d = leb (a * (low f).den) ((low f).num * b) && leb ((high f).num * d) (c * (high f).den)

  abbrev pub meets : Tree m → (n a b c d : ℕ) → Bool
  meets f n a b c d = ok f && (leb (grade f) n && (in_bounds f a b c d && (leb 1 b && leb 1 d)))

  module _ (s : Sound m) where
    pub known : (f : Tree m) (n a b c d : ℕ) → T (meets f n a b c d) → Known m n a b c d (exact f) (value f)
    known f n a b c d t =
        let fits = and_l (ok f) (leb (grade f) n && (in_bounds f a b c d && (leb 1 b && leb 1 d))) t in
        let r = and_r (ok f) (leb (grade f) n && (in_bounds f a b c d && (leb 1 b && leb 1 d))) t in
        let q = and_r (leb (grade f) n) (in_bounds f a b c d && (leb 1 b && leb 1 d)) r in
        let bounds = and_l (in_bounds f a b c d) (leb 1 b && leb 1 d) q in
        let wholes = and_r (in_bounds f a b c d) (leb 1 b && leb 1 d) q in
        let p = leb→le 1 b (and_l (leb 1 b) (leb 1 d) wholes) in
        let h = leb→le 1 d (and_r (leb 1 b) (leb 1 d) wholes) in
        let under = and_l (leb (a * (low f).den) ((low f).num * b)) (leb ((high f).num * d) (c * (high f).den)) bounds in
        let over = and_r (leb (a * (low f).den) ((low f).num * b)) (leb ((high f).num * d) (c * (high f).den)) bounds in
        record {
          close = loosen n (leb→le (grade f) n (and_l (leb (grade f) n) (in_bounds f a b c d && (leb 1 b && leb 1 d)) r)) (closed_all s f fits).close;
          least = p;
          most = h;
          above = at_least s a b p f fits under;
          below = at_most s c d h f fits over;
        }

    -- of one number, in another form
    pub known_along : {n a b c d : ℕ} {x y : Fraction} {e : E} → Same x y → Known m n a b c d x e → Known m n a b c d y e
    known_along h k =
        record {
          close = close_along s h k.close;
          least = k.least;
          most = k.most;
          above = order.le_trans k.above h.to;
          below = order.le_trans h.from k.below;
        }

-- of one enclosure, under another name
pub known_at : {E : Type 0} {m : Model E} {n a b c d : ℕ} {x : Fraction} {e f : E} → e ≡ f → Known m n a b c d x f → Known m n a b c d x e
known_at {m} {n} {a} {b} {c} {d} {x} h k = subst (λ e. Known m n a b c d x e) (sym h) k

pub known_is : {E : Type 0} {m : Model E} {n a b c d : ℕ} {x y : Fraction} {e : E} → x ≡ y → Known m n a b c d x e → Known m n a b c d y e
known_is {m} {n} {a} {b} {c} {d} {e} h k = subst (λ x. Known m n a b c d x e) h k

pub perhaps_at : {E : Type 0} (m : Model E) (n a b c d : ℕ) (x : Fraction) {o p : Option E} → o ≡ p → Perhaps m n a b c d x p → Perhaps m n a b c d x o
perhaps_at m n a b c d x h k = subst (λ o. Perhaps m n a b c d x o) (sym h) k
