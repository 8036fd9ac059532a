-- Steps that are staged, one after another.
use Rattle.std.proofs.Common.{◌≡◌, ◌∙◌, ◌++◌, ◌∷◌, [], List, Result, Err, ap, refl, sym}
use Rattle.std.proofs.lemmas.List.{append-nil, append_assoc}
use Rattle.td_disk.specs.declared.disk.Disk as disk
use Rattle.td_doc.specs.declared.doc.Doc as doc
use Rattle.td_op.specs.declared.entry.Entry.{Entry}
use Rattle.td_op.specs.declared.input.Input.{Input}
use Rattle.td_machine.specs.Step.{step}
use Rattle.td_replica.specs.Replica.{ReplicaValue, after_step}
use Rattle.td_journal.specs.declared.fault.KeptFault.{KeptFault}
use Rattle.td_journal.specs.declared.kept.Kept.{Kept}
use Rattle.td_journal.specs.Seen.{acknowledged, is_closed, journal_of, replica_of}
use Rattle.td_shell.specs.Staging.{IsSamePlace, IsStaged}

module _ {D K : Type 0} {d : doc.Ghosts D} {w : disk.Ghosts K} where
  pub same_place : (k : Kept D K d w) → IsSamePlace k k
  same_place k = record { format = refl; site = refl; size = refl }

  pub place_on : (a b c : Kept D K d w) → IsSamePlace a b → IsSamePlace b c → IsSamePlace a c
  place_on a b c p q =
      record { format = q.format ∙ p.format; site = q.site ∙ p.site; size = q.size ∙ p.size }

  pub none_staged : (k : Kept D K d w) → IsStaged k k
  none_staged k =
      record {
        place = same_place k;
        journal = refl;
        closed = refl;
        counted = refl;
        more = [];
        entries = sym (append-nil (replica_of k).entries);
      }

  pub more_staged : (a b c : Kept D K d w) → IsStaged a b → IsStaged b c → IsStaged a c
  more_staged a b c s t =
      record {
        place = place_on a b c s.place t.place;
        journal = t.journal ∙ s.journal;
        closed = t.closed ∙ s.closed;
        counted = t.counted ∙ s.counted;
        more = s.more ++ t.more;
        entries = t.entries ∙ ap (λ (es : List Entry). es ++ t.more) s.entries
            ∙ append_assoc (replica_of a).entries s.more t.more;
      }

  -- one step, which was done
  pub step_staged : (old new : Kept D K d w) (input : Input) → replica_of new ≡ after_step input (replica_of old)
      → IsSamePlace old new → journal_of new ≡ journal_of old → is_closed new ≡ is_closed old
      → acknowledged new ≡ acknowledged old → IsStaged old new
  step_staged old new input is place journal closed counted =
      record {
        place = place;
        journal = journal;
        closed = closed;
        counted = counted;
        more = record { input = input; reply = (step (replica_of old).machine input).reply } ∷ [];
        entries = ap (λ (r : ReplicaValue). r.entries) is;
      }

  -- or was not
  pub step_refused : (old new : Kept D K d w) → replica_of new ≡ replica_of old
      → IsSamePlace old new → journal_of new ≡ journal_of old → is_closed new ≡ is_closed old
      → acknowledged new ≡ acknowledged old → IsStaged old new
  step_refused old new is place journal closed counted =
      record {
        place = place;
        journal = journal;
        closed = closed;
        counted = counted;
        more = [];
        entries = ap (λ (r : ReplicaValue). r.entries) is ∙ sym (append-nil (replica_of old).entries);
      }

-- a fault, as an answer has it
pub told : {T : Type 0} (f g : KeptFault) → f ≡ g → ◌≡◌ {A = Result T KeptFault} (Err f) (Err g)
told f g e = ap (λ (x : KeptFault). Err x) e

pub fault_of : {T : Type 0} (f g : KeptFault) → ◌≡◌ {A = Result T KeptFault} (Err f) (Err g) → f ≡ g
fault_of f g e = cc
