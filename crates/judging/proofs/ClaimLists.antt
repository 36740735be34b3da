-- Which claims can be marked, and one claim more in a loop that marks.
use Rattle.std.proofs.Common.{◌≡◌, ℕ, ◌+◌, ◌<◌, ◌≤◌, Bool, true, false, cond, ◌&&◌, leb, List, [], ◌∷◌, ◌++◌, length, get_or, take, drop, set, Some, None, Option, sym, refl, ◌∙◌, inl, inr, arith}
use Rattle.std.proofs.lemmas.List.{take_more, take_more_set, drop_more, take_all, drop-set-lt}
use Rattle.std.proofs.lemmas.Bool.{cases_eq, cases_Bool, ne_eqb, eq-eqb, leb-true, and_parts, and_from, and_left, and_right, true≢false}
use Rattle.enclosure.specs.Model.{Model}
use Rattle.equations.specs.Design.{Design}
use Rattle.equations.specs.Figures.{figure_millionths, figure_number, figure_list, numbered_in, figure_numbered}
use Rattle.judging.specs.Claim.{claimed, stated_claim}
use Rattle.judging.specs.Claims.{on_figure, in_range, ClaimMarked, ClaimsMarked}
use Rattle.judging.specs.Judged.{Marked}
use Rattle.equations.specs.declared.figure.Figure.{Figure}
use Rattle.equations.specs.declared.figure.Figure.TheVariants.{PrismPressure, SoilModulus, HoopStiffness, VerticalArching, DesignThrust, ThrustStrain, ServiceStrain, Deflection}
use Rattle.judging.specs.declared.answer.Mark.{Mark}
use Rattle.judging.specs.declared.claimed.Claimed.{Claimed}
use Rattle.judging.specs.declared.claim.Claim.{Claim}

numbered_found : (n : ℕ) (fs : List Figure) (f : Figure) → Some f ≡ numbered_in n fs → n ≡ figure_number f
numbered_found n [] f h = absurd (true≢false (cc))
numbered_found n (g ∷ fs) f h =
    elim (cases_eq n (figure_number g)) [
      | inl e ↦ let k : Some f ≡ Some g = rw (eq-eqb n (figure_number g) e) at h in let i : f ≡ g = cc in rw i e
      | inr e ↦ numbered_found n fs f (rw (ne_eqb n (figure_number g) e) at h)
    ]

abbrev Differs : ℕ → List Figure → Type 0
Differs n [] = Unit {0}
Differs n (g ∷ fs) = (n ≡ figure_number g → ⊥) × Differs n fs

numbered_none : (n : ℕ) (fs : List Figure) → None ≡ numbered_in n fs → Differs n fs
numbered_none n [] h = tt
numbered_none n (g ∷ fs) h =
    elim (cases_eq n (figure_number g)) [
      | inl e ↦ absurd (let k : None ≡ Some g = rw (eq-eqb n (figure_number g) e) at h in true≢false (cc))
      | inr e ↦ (e, numbered_none n fs (rw (ne_eqb n (figure_number g) e) at h))
    ]

-- the numbers that are no figure's
pub no_figure : (n : ℕ) → None ≡ figure_numbered n → (leb 1 n && leb n 8) ≡ false
no_figure n h =
    elim (cases_Bool (leb 1 n && leb n 8)) [
      | inl t ↦
          let d = numbered_none n figure_list h in
          let p = and_parts (leb 1 n) (leb n 8) t in
          let a = leb-true 1 n p.0 in
          let b = leb-true n 8 p.1 in
          absurd (none_between n a b d.0 d.1.0 d.1.1.0 d.1.1.1.0 d.1.1.1.1.0 d.1.1.1.1.1.0 d.1.1.1.1.1.1.0 d.1.1.1.1.1.1.1.0)
      | inr t ↦ t
    ]
  where
    none_between : (n : ℕ) → 1 ≤ n → n ≤ 8 → (n ≡ 1 → ⊥) → (n ≡ 2 → ⊥) → (n ≡ 3 → ⊥) → (n ≡ 4 → ⊥) → (n ≡ 5 → ⊥) → (n ≡ 6 → ⊥) → (n ≡ 7 → ⊥) → (n ≡ 8 → ⊥) → ⊥
    none_between n a b c d e f g h i j = omega (arith, a, b, c, d, e, f, g, h, i, j)

within_eight : (f : Figure) → (leb 1 (figure_number f) && leb (figure_number f) 8) ≡ true
within_eight PrismPressure = refl
within_eight SoilModulus = refl
within_eight HoopStiffness = refl
within_eight VerticalArching = refl
within_eight DesignThrust = refl
within_eight ThrustStrain = refl
within_eight ServiceStrain = refl
within_eight Deflection = refl

-- the figure of a number has that number, from 1 to 8
pub figure_found : (n : ℕ) (f : Figure) → Some f ≡ figure_numbered n → (n ≡ figure_number f) × ((leb 1 n && leb n 8) ≡ true)
figure_found n f h = let e = numbered_found n figure_list f h in (e, rw e (within_eight f))

claim_tested : (b : Bool) (n : ℕ) (v : Claimed) → Some v.value ≡ cond b (Some n) None → (b ≡ true) × (v.value ≡ n)
claim_tested true n v h = (refl, cc)
claim_tested false n v h = absurd (true≢false (cc))

claim_refused : (b : Bool) (n : ℕ) → None ≡ cond b (Some n) None → b ≡ false
claim_refused true n h = absurd (true≢false (cc))
claim_refused false n h = refl

-- what is no case of `Some`
pub none_of : {A : Type 0} (o : Option A) → ((x : A) → o ≡ Some x → ⊥) → None ≡ o
none_of None h = refl
none_of (Some x) h = absurd (h x refl)

pub stated_none : (o : Option Claimed) (n : ℕ) → None ≡ o → stated_claim o ≡ claimed n → None ≡ claimed n
stated_none None n e h = h
stated_none (Some c) n e h = absurd (true≢false (cc))

module _ {E : Type 0} (m : Model E) (d : Design) where
  -- a claim that can be marked, with its mark beside it
  pub one_marked : (x y : Claim) (f : Figure) (v : Claimed) (k : Mark) → Some f ≡ figure_numbered x.figure → Some v.value ≡ claimed x.value
      → y.figure ≡ x.figure → y.value ≡ x.value → y.mark ≡ Some k → Marked m v.value (figure_millionths f d) k → ClaimMarked m d x y
  one_marked x y f v k hf hv ef ev em p =
      let n = figure_found x.figure f hf in
      let t = claim_tested (in_range x) x.value v hv in
      let q : Marked m x.value (figure_millionths f d) k = rw (← t.1) p in
      record {
        figure = ef;
        value = ev;
        marked = λ h. record { figure = f; numbered = sym hf; mark = k; written = em; earned = q };
        left = λ h. absurd (true≢false (sym (and_from (on_figure x) (in_range x) n.1 t.0) ∙ h));
      }

  -- a claim that stays as it is
  pub left_alone : (x : Claim) → (on_figure x && in_range x) ≡ false → ClaimMarked m d x x
  left_alone x h = record { figure = refl; value = refl; marked = λ t. absurd (true≢false (sym t ∙ h)); left = λ t. refl }

  pub no_such_figure : (x : Claim) → None ≡ figure_numbered x.figure → ClaimMarked m d x x
  no_such_figure x h = left_alone x (and_left (on_figure x) (in_range x) (no_figure x.figure h))

  pub no_such_claim : (x : Claim) → None ≡ claimed x.value → ClaimMarked m d x x
  no_such_claim x h = left_alone x (and_right (on_figure x) (in_range x) (claim_refused (in_range x) x.value h))

  push : (xs ys : List Claim) (x y : Claim) → ClaimsMarked m d xs ys → ClaimMarked m d x y → ClaimsMarked m d (xs ++ x ∷ []) (ys ++ y ∷ [])
  push [] [] x y l h = (h, tt)
  push [] (v ∷ ys) x y l h = absurd l
  push (u ∷ xs) [] x y l h = absurd l
  push (u ∷ xs) (v ∷ ys) x y l h = (l.0, push xs ys x y l.1 h)

  -- the claims of the first i places are marked, the others as they were
  pub record SoFar (olds news : List Claim) (i : ℕ) : Type 0 where
    pub front : ClaimsMarked m d (take i olds) (take i news)
    pub back : drop i news ≡ drop i olds

  pub one_more : (olds news : List Claim) (i : ℕ) (x y : Claim) → i < length news → length news ≡ length olds
      → SoFar olds news i → ClaimMarked m d (get_or news i x) y → SoFar olds (set news i y) (i + 1)
  one_more olds news i x y h l s p =
      let h' : i < length olds = omega arith in
      let a = drop_more news i x h in
      let b = drop_more olds i x h' in
      let same : get_or news i x ≡ get_or olds i x = let e = s.back in cc in
      let later : drop (i + 1) news ≡ drop (i + 1) olds = let e = s.back in cc in
      let lt : i < i + 1 = omega arith in
      let kept = drop-set-lt (i + 1) news i y lt in
      record {
        front = rw (take_more_set news i y h, take_more olds i x h') (push (take i olds) (take i news) (get_or olds i x) y s.front (rw same at p));
        back = cc;
      }

  pub at_end : (olds news : List Claim) (i : ℕ) → length news ≤ i → length news ≡ length olds → SoFar olds news i → ClaimsMarked m d olds news
  at_end olds news i h l s =
      let k : length olds ≤ i = omega arith in
      rw (take_all i olds k, take_all i news h) at s.front
