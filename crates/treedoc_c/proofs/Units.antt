-- What is answered in the unit with a number.
use Rattle.std.proofs.Common.{◌≡◌, ◌∙◌, ℕ, Some, None, Result, subst, sym}
use Rattle.std.proofs.lemmas.Option.{none-some, same_Some}
use Rattle.td_rope.specs.declared.unit.Unit.{Unit}
use Rattle.td_session.specs.declared.fault.Fault.{Fault}
use Rattle.treedoc_c.specs.declared.places.Number.{Number}
use Rattle.treedoc_c.specs.declared.status.Status.TheVariants.{BadUnit}
use Rattle.treedoc_c.specs.Places.{IsNumbered, no_number, number_of, unit_of}

-- where there is such a unit
pub numbered : (asked : ℕ) (tells : Unit → Result ℕ Fault → Type 0) (answer : Number) (unit : Unit)
    (told : Result ℕ Fault) → unit_of asked ≡ Some unit → tells unit told → answer ≡ number_of told
    → IsNumbered asked tells answer
numbered asked tells answer unit told is tell answered = record {
  none = λ no_unit. absurd (none-some unit (sym no_unit ∙ is));
  some = λ other known.
      (told, subst (λ (u : Unit). tells u told) (same_Some unit other (sym is ∙ known)) tell, answered);
}

-- and where there is none
pub unnumbered : (asked : ℕ) (tells : Unit → Result ℕ Fault → Type 0) (answer : Number) → unit_of asked ≡ None
    → answer ≡ no_number BadUnit → IsNumbered asked tells answer
unnumbered asked tells answer is answered = record {
  none = λ _. answered;
  some = λ other known. absurd (none-some other (sym is ∙ known));
}
