-- What a machine knows of what it makes, and what a step that makes nothing leaves.
use Rattle.std.proofs.Common.{◌≡◌, ◌≤◌, ℕ, ◌∷◌, length, Option, Some, None, refl, sym, ap, ◌∙◌, subst, arith}
use Rattle.std.specs.Prelude.{IfSome}
use Rattle.std.specs.Option.{option_and_then}
use Rattle.td_op.specs.declared.body.Body.{Body}
use Rattle.td_op.specs.declared.reply.Reply.{Reply}
use Rattle.td_op.specs.Op.{OpValue, body_site}
use Rattle.td_doc.specs.Answers.{IsFresh}
use Rattle.td_machine.specs.Counts.{IsNext}
use Rattle.td_machine.specs.Machine.{Machine, next_dot, next_op}
use Rattle.td_machine.specs.Shown.{change_by, change_between, op_over}
use Rattle.td_machine.specs.Taking.{stepped}
use Rattle.td_machine.specs.Parts.{Anything, IsBuilt, MayMake}
use Rattle.td_machine.proofs.Parts.{Own}
use Rattle.td_machine.proofs.Changes.{none_over, one_over, two_over}
use Rattle.td_machine.proofs.Documents.{documents, fresh_next}
use Rattle.td_machine.proofs.Naming.{own_site}
use Rattle.td_machine.proofs.Turns.{length_have, comes_next}
use Rattle.td_replica.specs.declared.last_change.LastChange.TheVariants.{Nothing}
use Rattle.td_replica.specs.Parts.{StateValue, IsAsBefore}
use Rattle.td_replica.specs.Steps.{IsStep}

module _ (m : Machine) (b : IsBuilt Anything m.site m.size m) where
  pub next_made : (body : Body) → MayMake body m → IsNext m.have (next_op m body)
  next_made body may = comes_next m b (next_op m body) (Own body may)

  pub fresh_made : (body : Body) → MayMake body m → IsFresh m.doc (next_dot m)
  fresh_made body may = fresh_next (next_op m body) m (next_made body may) (documents m b)

  pub named_made : (body : Body) → MayMake body m → IfSome (body_site body) (λ site. site ≤ m.size)
  named_made body may = within (body_site body) (own_site body m b may)
    where
      within : (o : Option ℕ) → IfSome o (λ site. site ≤ length m.have) → IfSome o (λ site. site ≤ m.size)
      within None h = h
      within (Some site) h = subst (λ (n : ℕ). site ≤ n) (length_have m b) h

pub no_change : (m : Machine) → change_between m m ≡ None
no_change m =
    ap (option_and_then (λ (x : OpValue). change_by x.dot x.body m.doc)) (none_over (length m.log) m.log (omega arith))

pub refused : (reply : Reply) (old new : StateValue) → IsAsBefore old new → 8 ≤ new.room.things
    → IsStep (stepped reply old.machine) old new (record { reply = reply; change = Nothing; number = None })
refused reply old new same room =
    record {
      reply = refl;
      machine = same.machine;
      entries = same.entries;
      change = sym (no_change old.machine);
      room = omega (arith, room);
      number = tt;
    }

-- the change of a step is that of the first operation that it makes or takes
pub change_once : (m n : Machine) (x : OpValue) → n.log ≡ x ∷ m.log → change_between m n ≡ change_by x.dot x.body m.doc
change_once m n x e =
    ap (option_and_then (λ (y : OpValue). change_by y.dot y.body m.doc))
    (ap (op_over (length m.log)) e ∙ one_over x m.log)

pub change_twice : (m n : Machine) (y x : OpValue) → n.log ≡ y ∷ x ∷ m.log
    → change_between m n ≡ change_by x.dot x.body m.doc
change_twice m n y x e =
    ap (option_and_then (λ (z : OpValue). change_by z.dot z.body m.doc))
    (ap (op_over (length m.log)) e ∙ two_over y x m.log)

pub change_none : (m n : Machine) → n.log ≡ m.log → change_between m n ≡ None
change_none m n e =
    ap (option_and_then (λ (x : OpValue). change_by x.dot x.body m.doc))
    (ap (op_over (length m.log)) e ∙ none_over (length m.log) m.log (omega arith))
