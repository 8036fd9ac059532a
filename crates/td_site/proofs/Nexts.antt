-- What a step does that takes or drops an operation that waited.
use Rattle.std.proofs.Common.{◌≡◌, ◌<◌, ◌++◌, List, [], ◌∷◌, Bool, true, false, not, length, filter, Option, Some}
use Rattle.std.proofs.Common.{None, refl, sym, ap, ◌∙◌, subst, append-nil, append_assoc, true≢false}
use Rattle.td_base.proofs.Equals.{same_dot_refl}
use Rattle.td_base.specs.Lists.{In}
use Rattle.td_base.proofs.Lists.{In-filter}
use Rattle.td_base.proofs.Passing.{all_append, filter_fewer}
use Rattle.td_path.specs.declared.slot.Slot.{Slot}
use Rattle.td_op.specs.declared.input.Input.TheVariants.{Next}
use Rattle.td_op.specs.declared.reply.Why.{Why}
use Rattle.td_op.specs.Op.{OpValue}
use Rattle.td_machine.specs.History.{History}
use Rattle.td_machine.specs.Log.{proposed}
use Rattle.td_machine.specs.Machine.{Machine}
use Rattle.td_machine.specs.Making.{done}
use Rattle.td_machine.specs.Ready.{is_ready, next_ready, is_dot_of}
use Rattle.td_machine.specs.Step.{step}
use Rattle.td_machine.specs.Taking.{misfit, forget, waited, next_of, take_as, answer, vote_on}
use Rattle.td_machine.proofs.StepKinds.{least_in}
use Rattle.td_replica.specs.Replica.{ReplicaValue, after_step, is_idle}
use Rattle.td_site.specs.Sites.{SiteValue}
use Rattle.td_site.specs.Later.{TookNext, OnlyNexts}

-- ---- fewer wait

take_waiting : (slot : Option Slot) (x : OpValue) (m : Machine) → (take_as slot x m).waiting ≡ m.waiting
take_waiting None x m = refl
take_waiting (Some slot) x m = at (vote_on x slot m)
  where
    at : (says : Bool) → (answer x.dot slot says (done x m)).waiting ≡ m.waiting
    at true = refl
    at false = refl

pub next_fewer : (m : Machine) → not (is_idle (step m Next).reply) ≡ true
    → length (step m Next).machine.waiting < length m.waiting
next_fewer m e = at (next_ready m.have m.waiting) refl e
  where
    fewer : (x : OpValue) → In x m.waiting → length (forget x m).waiting < length m.waiting
    fewer x i =
        filter_fewer (λ (y : OpValue). not (is_dot_of x.dot y)) x m.waiting i
        (ap (λ (b : Bool). not b) (same_dot_refl x.dot))

    at : (o : Option OpValue) → next_ready m.have m.waiting ≡ o → not (is_idle (next_of o m).reply) ≡ true
        → length (next_of o m).machine.waiting < length m.waiting
    at None f k = absurd (true≢false (sym k))
    at (Some x) f k =
        cases (misfit x m)
        (fewer x
        (In-filter (is_ready m.have) x m.waiting (least_in (filter (is_ready m.have) m.waiting) x f)).0)
      where
        cases : (why : Option Why) → length (forget x m).waiting < length m.waiting
            → length (waited why x (forget x m)).machine.waiting < length m.waiting
        cases (Some why) h = h
        cases None h =
            subst (λ (l : List OpValue). length l < length m.waiting)
            (sym (take_waiting (proposed x.body) x (forget x m))) h

-- the same of a site that makes the step and shows it
pub fewer_wait : (s t u : SiteValue) → not (is_idle (step s.replica.machine Next).reply) ≡ true
    → t ≡ record { replica = after_step Next s.replica; writer = s.writer; late = true } → u.replica ≡ t.replica
    → length u.replica.machine.waiting < length s.replica.machine.waiting
fewer_wait s t u ready stepped shown =
    let is : u.replica ≡ after_step Next s.replica = shown ∙ ap (λ (x : SiteValue). x.replica) stepped in
    subst (λ (r : ReplicaValue). length r.machine.waiting < length s.replica.machine.waiting) (sym is)
    (next_fewer s.replica.machine ready)

-- ---- histories

pub nexts_self : (old new : History) → new ≡ old → OnlyNexts old new
nexts_self old new e = record { more = []; goes_on = append-nil old ∙ sym e; nexts = tt }

pub nexts_then : (a b c : History) → OnlyNexts a b → OnlyNexts b c → OnlyNexts a c
nexts_then a b c h k =
    record {
      more = h.more ++ k.more;
      goes_on = sym (append_assoc a h.more k.more) ∙ ap (λ (w : History). w ++ k.more) h.goes_on ∙ k.goes_on;
      nexts = all_append TookNext h.more k.more h.nexts k.nexts;
    }

pub nexts_one : (r s : ReplicaValue) → not (is_idle (step r.machine Next).reply) ≡ true → s ≡ after_step Next r
    → OnlyNexts r.entries s.entries
nexts_one r s ready is =
    record {
      more = record { input = Next; reply = (step r.machine Next).reply } ∷ [];
      goes_on = sym (ap (λ (x : ReplicaValue). x.entries) is);
      nexts = ((refl, busy (is_idle (step r.machine Next).reply) ready), tt);
    }
  where
    busy : (b : Bool) → not b ≡ true → b ≡ false
    busy true e = absurd (true≢false (sym e))
    busy false e = refl
