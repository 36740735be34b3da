use Rattle.std.proofs.Common.{sym, refl, ◌∙◌, rules}
use Rattle.digits.proofs.Spans.{ends_by_told, ends_below_told}
use Rattle.digits.proofs.EnclosureArithmetic.at_most.Goals as goal

-- the answer by the two tests, in their order
pub returns-then-is_some_and : goal.returns-then-is_some_and
returns-then-is_some_and g c =
    let by = ends_by_told c.args.self.upper c.args.other.lower (λ x p. search rules) c.is_some_and.ensures in
    rw (sym by ∙ c.if-is_some_and.true) refl

pub returns-then-is_some_and-2 : goal.returns-then-is_some_and-2
returns-then-is_some_and-2 g c =
    let by = ends_by_told c.args.self.upper c.args.other.lower (λ x p. search rules) c.is_some_and.ensures in
    let below = ends_below_told c.args.other.upper c.args.self.lower (λ x p. search rules) c.is_some_and-2.ensures in
    rw (sym by ∙ c.if-is_some_and.false, sym below ∙ c.if-is_some_and-2.true) refl

pub returns : goal.returns
returns g c =
    let by = ends_by_told c.args.self.upper c.args.other.lower (λ x p. search rules) c.is_some_and.ensures in
    let below = ends_below_told c.args.other.upper c.args.self.lower (λ x p. search rules) c.is_some_and-2.ensures in
    rw (sym by ∙ c.if-is_some_and.false, sym below ∙ c.if-is_some_and-2.false) refl
