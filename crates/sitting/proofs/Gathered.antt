-- The case of the records at five places.
use Rattle.std.proofs.Common.{◌≡◌, IfOk, Some, None, Ok, Err, Option, Result, refl, subst}
use Rattle.std.proofs.lemmas.Bool.{true≢false}
use Rattle.book.specs.Register.{Register}
use Rattle.calls.specs.declared.call.CasePlaces.{CasePlaces}
use Rattle.equations.specs.Design.{Design}
use Rattle.quantities.specs.Case.{design_of}
use Rattle.quantities.specs.declared.case.Case.{Case}
use Rattle.records.specs.Cause.{Refusal, refused, answered, unless}
use Rattle.records.specs.declared.fault.Fault.{Fault}
use Rattle.sitting.specs.Cases.{Stands}

-- a case is refused as its records are
pub refused_of : (r : Result Case Fault) (o : Option Refusal) (d : Design) → answered design_of r ≡ unless o d → refused r ≡ o
refused_of (Ok c) None d h = refl
refused_of (Err f) None d h = absurd (true≢false (cc))
refused_of (Ok c) (Some e) d h = absurd (true≢false (cc))
refused_of (Err f) (Some e) d h = cc

-- and else it is theirs
pub gathered : (g : Register) (p : CasePlaces) (r : Result Case Fault) (o : Option Refusal) (d : Design) → answered design_of r ≡ unless o d → Stands g p d → IfOk r (λ c. Stands g p (design_of c))
gathered g p (Ok c) None d h s = subst (λ (e : Design). Stands g p e) (cc) s
gathered g p (Ok c) (Some e) d h s = absurd (true≢false (cc))
gathered g p (Err f) o d h s = tt
