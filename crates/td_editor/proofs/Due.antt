-- A history goes on with what is due.
use Rattle.std.proofs.Common.{◌≡◌, ◌≢◌, [], ◌∷◌, ◌++◌, ℕ, Bool, true, false, not}
use Rattle.std.proofs.Common.{nat_eq, refl, sym, true≢false}
use Rattle.std.proofs.lemmas.Bool.{eqb-true, eqb-false, and_parts}
use Rattle.td_op.specs.declared.entry.Entry.{Entry}
use Rattle.td_op.specs.declared.input.Input.TheVariants.{Take}
use Rattle.td_op.specs.declared.message.Message.{Message}
use Rattle.td_op.specs.declared.message.Message.TheVariants.{Op as AnOp, Vote as AVote}
use Rattle.td_op.specs.Message.{sender, is_for}
use Rattle.td_machine.specs.History.{History, after, IsAddressed}
use Rattle.td_machine.specs.Machine.{Machine}
use Rattle.td_machine.specs.Step.{step}
use Rattle.td_editor.specs.Due.{IsDue, MayTake, TakesDue}

-- what is for a site was sent by another and is addressed to it
pub for_parts : (site : ℕ) (message : Message) → is_for site message ≡ true
    → (sender message ≢ site) × IsAddressed site message
for_parts site (AnOp x) e = (apart (nat_eq x.dot.site site) refl e, tt)
  where
    apart : (b : Bool) → nat_eq x.dot.site site ≡ b → not b ≡ true → x.dot.site ≢ site
    apart true f g = absurd (true≢false (sym g))
    apart false f g = eqb-false x.dot.site site f
for_parts site (AVote v) e =
    let p = and_parts (not (nat_eq v.voter site)) (nat_eq v.proposal.site site) e in
    (apart (nat_eq v.voter site) refl p.0, eqb-true v.proposal.site site p.1)
  where
    apart : (b : Bool) → nat_eq v.voter site ≡ b → not b ≡ true → v.voter ≢ site
    apart true f g = absurd (true≢false (sym g))
    apart false f g = eqb-false v.voter site f

pub due_more : (m : Machine) (entries : History) (e : Entry) → TakesDue m entries → MayTake (after m entries) e.input
    → TakesDue m (entries ++ e ∷ [])
due_more m [] e due may = (may, tt)
due_more m (f ∷ entries) e due may = (due.0, due_more (step m f.input).machine entries e due.1 may)

-- a message that a history takes is due where it is taken
pub due_at : (m : Machine) (front : History) (e : Entry) (back : History) (message : Message)
    → TakesDue m (front ++ e ∷ back) → e.input ≡ Take message → IsDue (after m front) message
due_at m [] e back message due is = due.0 message is
due_at m (f ∷ front) e back message due is = due_at (step m f.input).machine front e back message due.1 is
