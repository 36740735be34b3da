-- What holds of every sound arithmetic, on whatever type of enclosures, and that there is one.
use Rattle.std.specs.Prelude.{◌≡◌, ℕ, ◌+◌, ◌^◌, ◌<◌, ◌≤◌, max, Bool, ◌&&◌, T, nat_le}
use Rattle.fraction.specs.Fraction.{Fraction, whole, ◌⊕◌, ◌⊗◌, ◌⊘◌, ◌⊖◌, ◌⊔◌, ◌⊓◌, ◌≼◌, ◌≺◌}
use Rattle.fraction.specs.Graded.{Band}
use Rattle.enclosure.specs.Model.{Model, Sound, Encloses, at}
use Rattle.enclosure.specs.Answer.{compared}
use Rattle.enclosure.specs.Readings.{read_below, read_above, Under, Over}
use Rattle.enclosure.specs.Formula.{Steps, number, plus, times, over, least, most, computed, made_by, exact_of, wide_of}
use Rattle.enclosure.specs.Close.{Close, in_range}
use Rattle.enclosure.specs.declared.Comparison.{Comparison}
use Rattle.enclosure.specs.declared.Comparison.TheVariants.{Yes, No, Unknown}

-- the grade of what a computation makes: a rounding adds 1
abbrev pub grade_of : Steps → ℕ
grade_of (number n) = 1
grade_of (plus s t) = max (grade_of s) (grade_of t) + 1
grade_of (times s t) = grade_of s + grade_of t + 1
grade_of (over s t) = grade_of s + grade_of t + 1
grade_of (least s t) = max (grade_of s) (grade_of t)
grade_of (most s t) = max (grade_of s) (grade_of t)

-- whether the grade and the exact fraction of what it makes are in range
abbrev pub tame_here : Steps → Bool
tame_here s = in_range (grade_of s) (exact_of s) (exact_of s)

-- and so at every step, from whole numbers of 1 to 2 ^ 62
abbrev pub tame_steps : Steps → Bool
tame_steps (number n) = nat_le 1 n && nat_le n (2 ^ 62)
tame_steps (plus s t) = tame_here (plus s t) && (tame_steps s && tame_steps t)
tame_steps (times s t) = tame_here (times s t) && (tame_steps s && tame_steps t)
tame_steps (over s t) = tame_here (over s t) && (tame_steps s && tame_steps t)
tame_steps (least s t) = tame_here (least s t) && (tame_steps s && tame_steps t)
tame_steps (most s t) = tame_here (most s t) && (tame_steps s && tame_steps t)

-- what an arithmetic computes from whole numbers is close to the exact fraction
abbrev pub FormulasClose : Type 0 → Type 0
FormulasClose E = (m : Model E) → Sound m → (s : Steps) → T (tame_steps s) → Close m (grade_of s) (exact_of s) (made_by m s)

-- what an answer on two enclosures says of the exact fractions: yes, at most; no, above; unknown, within 10000 / w of the larger
pub record Tells (w : ℕ) (answer : Comparison) (x y : Fraction) : Type 0 where
  pub yes : answer ≡ Yes → x ≼ y
  pub no : answer ≡ No → y ≺ x
  pub unknown : answer ≡ Unknown → Band w 10000 x y

-- comparing two close enclosures tells how the exact fractions compare
abbrev pub ComparisonsTell : Type 0 → Type 0
ComparisonsTell E = (m : Model E) → Sound m → (n k : ℕ) (x y : Fraction) (e f : E) → Close m n x e → Close m k y f → n + k ≤ 10000 → Tells m.fineness (compared m e f) x y

-- a whole number of up to 128 bits is contained in what its parts make, and up to 10 ^ 35 it is close
pub record Wide {E : Type 0} (m : Model E) (n : ℕ) : Type 0 where
  pub contained : Encloses m (wide_of (computed m) n) (whole n)
  pub close : 1 ≤ n → n ≤ 10 ^ 35 → Close m 4 (whole n) (wide_of (computed m) n)

abbrev pub WideNumbersHold : Type 0 → Type 0
WideNumbersHold E = (m : Model E) → Sound m → (n : ℕ) → n < 2 ^ 128 → Wide m n

-- the exact fractions as an arithmetic
abbrev pub exact_model : Model Fraction
exact_model = record { fineness = 10 ^ 6; lower = λ x. x; upper = at; from_whole = whole; sum = ◌⊕◌; product = ◌⊗◌; quotient = ◌⊘◌; excess = ◌⊖◌; smaller = ◌⊓◌; larger = ◌⊔◌ }

-- so the laws can be met
abbrev pub LawsCanBeMet : Type 0
LawsCanBeMet = Sound exact_model

-- what is read out of an enclosure bounds each number that it contains
pub record Bounds {E : Type 0} (m : Model E) (e : E) (x : Fraction) : Type 0 where
  pub below : Under (read_below (m.lower e)) x
  pub above : Over (read_above (m.upper e)) x

abbrev pub ReadingsBound : Type 0 → Type 0
ReadingsBound E = (m : Model E) (e : E) (x : Fraction) → Encloses m e x → Bounds m e x
