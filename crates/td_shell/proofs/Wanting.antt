-- A step that is not staged for want of room, on the way to the replica behind a command.
use Rattle.std.proofs.Common.{◌≡◌, ◌<◌, ◌+◌, ◌∙◌, ◌++◌, ◌∷◌, [], ℕ, zero, suc, Bool, true, false, List, length}
use Rattle.std.proofs.Common.{◌-◌, arith, length-append, ap, refl, subst, sym, true≢false, if◌then◌else◌, Some}
use Rattle.std.proofs.lemmas.List.{append-nil, append_assoc, map-append}
use Rattle.td_disk.specs.declared.disk.Disk as disk
use Rattle.td_disk.specs.declared.disk.TheConstants.{MAX_DISK_LEN}
use Rattle.td_disk.specs.Gated.{end_of}
use Rattle.td_doc.specs.declared.doc.Doc as doc
use Rattle.td_op.specs.declared.entry.Entry.{Entry}
use Rattle.td_op.specs.declared.input.Input.{Input}
use Rattle.td_op.specs.declared.input.Input.TheVariants.{Local, Next, Take}
use Rattle.td_op.specs.declared.message.Message.{Message}
use Rattle.td_op.specs.declared.reply.Reply.{Reply}
use Rattle.td_op.specs.declared.request.Request.TheVariants.{Delete, Insert, Paste}
use Rattle.td_machine.specs.Step.{step}
use Rattle.td_replica.specs.Replica.{ReplicaValue, after_step, has_ready}
use Rattle.td_journal.specs.declared.fault.KeptFault.{KeptFault}
use Rattle.td_journal.specs.declared.fault.KeptFault.TheVariants as Fault
use Rattle.td_journal.specs.declared.format.Format.{Format}
use Rattle.td_journal.specs.declared.format.Format.TheVariants.{Checked, Plain}
use Rattle.td_journal.specs.declared.kept.Kept.{Kept}
use Rattle.td_journal.specs.Check.{bytes_of}
use Rattle.td_journal.specs.Journal.{body_bytes, inputs_of, journal_bytes, next_check, record_bytes}
use Rattle.td_journal.specs.Seen.{HasWholeLength, check_behind, format_of, inputs_in, is_closed, journal_of}
use Rattle.td_journal.specs.Seen.{replica_of, staged_bytes}
use Rattle.td_shell.specs.declared.halt.Halt.{Halt}
use Rattle.td_shell.specs.declared.halt.Halt.TheVariants as Why
use Rattle.td_report.specs.Asking.{Edit, deletes, inserts, is_made}
use Rattle.td_shell.specs.Asking.{Edited, after_request, ask_all, done_before}
use Rattle.td_report.specs.Asking.{pastes}
use Rattle.td_shell.specs.Asking.{reply_to}
use Rattle.td_shell.specs.Taking.{CaughtUp, after_take, nexts, one_more}
use Rattle.td_shell.specs.Wanting.{HasNoRoomFor, IsWanting, halt_of}
use Rattle.td_shell.proofs.Going.{went_before}

-- a record is as long behind any check
record_long : (f : Format) (a b : List ℕ) (input : Input)
    → length (record_bytes f a input) ≡ length (record_bytes f b input)
record_long Plain a b input = refl
record_long Checked a b input =
    ap suc (length-append (body_bytes input) (next_check Checked a input)
    ∙ sym (length-append (body_bytes input) (next_check Checked b input)))

no_room_at : (f g : Format) (r q : ReplicaValue) (input : Input) (len : ℕ) (before : List ℕ) → f ≡ g → r ≡ q
    → len ≡ length (journal_bytes g q.machine.site q.machine.size (inputs_of q.entries))
    → MAX_DISK_LEN < len + length (record_bytes g before input) + 1 → HasNoRoomFor f r input len
no_room_at f g r q input len before f_is r_is long more =
    subst (λ (h : Format). HasNoRoomFor h r input len) (sym f_is)
    (subst (λ (x : ReplicaValue). HasNoRoomFor g x input len) (sym r_is) (record {
      long = long;
      no_room = subst (λ (n : ℕ). MAX_DISK_LEN < len + n + 1) (record_long g before [] input) more;
    }))

module _ {D K : Type 0} {d : doc.Ghosts D} {w : disk.Ghosts K} where
  -- why a step is not staged, where no step failed at the disk before
  pub wanting_of : (old new : Kept D K d w) (input : Input) (fault : KeptFault) → is_closed old ≡ false
      → (fault ≡ Fault.Closed → is_closed old ≡ true) → (fault ≡ Fault.Disk → ⊥)
      → ((len : ℕ) → fault ≡ Fault.Full len → (len ≡ end_of (journal_of old) + length (staged_bytes old))
      × (MAX_DISK_LEN < len + length (record_bytes (format_of old) (bytes_of (check_behind old)) input) + 1))
      → HasWholeLength old → replica_of new ≡ replica_of old → format_of new ≡ format_of old
      → IsWanting new (after_step input (replica_of old)) (halt_of fault)
  wanting_of old new input Fault.Closed is_open shut failed full whole same format =
      absurd (true≢false (sym (shut refl) ∙ is_open))
  wanting_of old new input (Fault.Full len) is_open shut failed full whole same format =
      let f = full len refl in
      record {
        input = input;
        others = [];
        next = map-append (λ (e : Entry). e.input) (replica_of old).entries
            (record { input = input; reply = (step (replica_of old).machine input).reply } ∷ [])
            ∙ ap (λ (r : ReplicaValue). inputs_of r.entries ++ input ∷ []) (sym same);
        no_room = no_room_at (format_of new) (format_of old) (replica_of new) (replica_of old) input len
            (bytes_of (check_behind old)) format same (f.0 ∙ whole is_open) f.1;
      }
  wanting_of old new input Fault.Disk is_open shut failed full whole same format = absurd (failed refl)
  wanting_of old new input Fault.Memory is_open shut failed full whole same format = tt

-- ---- one replica is on the way to another

pub record LeadsTo (near far : ReplicaValue) : Type 0 where
  pub more : List Entry
  pub entries : far.entries ≡ near.entries ++ more

leads_nowhere : (r : ReplicaValue) → LeadsTo r r
leads_nowhere r = record { more = []; entries = sym (append-nil r.entries) }

leads_on : (a b c : ReplicaValue) → LeadsTo a b → LeadsTo b c → LeadsTo a c
leads_on a b c p q =
    record {
      more = p.more ++ q.more;
      entries = q.entries ∙ ap (λ (es : List Entry). es ++ q.more) p.entries ∙ append_assoc a.entries p.more q.more;
    }

leads_by_step : (input : Input) (r : ReplicaValue) → LeadsTo r (after_step input r)
leads_by_step input r =
    record { more = record { input = input; reply = (step r.machine input).reply } ∷ []; entries = refl }

leads_by : (made : Bool) (reply : Reply) (near r : ReplicaValue) (n : ℕ) (others : Edited) → LeadsTo near r
    → LeadsTo near others.replica → LeadsTo near
    (if made then done_before n others else record { replica = r; done = 0; refused = Some reply }).replica
leads_by true reply near r n others here there = there
leads_by false reply near r n others here there = here

-- all edits lead on, also behind the first of them
pub asked_on : (edits : List Edit) (r : ReplicaValue) → LeadsTo r (ask_all edits r).replica
asked_on [] r = leads_nowhere r
asked_on (edit ∷ edits) r =
    let after : ReplicaValue = after_request edit.request r in
    let first : LeadsTo r after = leads_by_step (Local edit.request) r in
    leads_by (is_made (reply_to edit.request r)) (reply_to edit.request r) r after edit.atoms (ask_all edits after)
    first (leads_on r after (ask_all edits after).replica first (asked_on edits after))

pub first_asked : (edit : Edit) (edits : List Edit) (r : ReplicaValue)
    → LeadsTo (after_request edit.request r) (ask_all (edit ∷ edits) r).replica
first_asked edit edits r =
    let after : ReplicaValue = after_request edit.request r in
    leads_by (is_made (reply_to edit.request r)) (reply_to edit.request r) after after edit.atoms (ask_all edits after)
    (leads_nowhere after) (asked_on edits after)

leads_by_more : (ready : Bool) (near r : ReplicaValue) (others : CaughtUp) → LeadsTo near r
    → LeadsTo near others.replica
    → LeadsTo near (if ready then one_more others else record { replica = r; count = 0 }).replica
leads_by_more true near r others here there = there
leads_by_more false near r others here there = here

-- so does what waits
pub nexts_on : (k : ℕ) (r : ReplicaValue) → LeadsTo r (nexts k r).replica
nexts_on zero r = leads_nowhere r
nexts_on (suc k) r =
    let after : ReplicaValue = after_step Next r in
    leads_by_more (has_ready r.machine) r r (nexts k after) (leads_nowhere r)
    (leads_on r after (nexts k after).replica (leads_by_step Next r) (nexts_on k after))

pub first_next : (k : ℕ) (r : ReplicaValue) → has_ready r.machine ≡ true
    → LeadsTo (after_step Next r) (nexts (suc k) r).replica
first_next k r ready =
    let after : ReplicaValue = after_step Next r in
    subst (λ (b : Bool). LeadsTo after
    (if b then one_more (nexts k after) else record { replica = r; count = 0 }).replica) (sym ready) (nexts_on k after)

pub took_on : (message : Message) (r : ReplicaValue)
    → LeadsTo (after_step (Take message) r) (after_take message r).replica
took_on message r =
    let after : ReplicaValue = after_step (Take message) r in nexts_on (length after.machine.waiting) after

-- what stands in the way to the one stands in the way to what it leads to
pub wanting_on : {D K : Type 0} {d : doc.Ghosts D} {w : disk.Ghosts K} (k : Kept D K d w) (near far : ReplicaValue)
    (halt : Halt) → LeadsTo near far → IsWanting k near halt → IsWanting k far halt
wanting_on k near far Why.Memory leads wanting = tt
wanting_on k near far (Why.Full len) leads wanting =
    record {
      input = wanting.input;
      others = wanting.others ++ inputs_of leads.more;
      next = ap inputs_of leads.entries ∙ map-append (λ (e : Entry). e.input) near.entries leads.more
          ∙ ap (λ (is : List Input). is ++ inputs_of leads.more) wanting.next
          ∙ append_assoc (inputs_in k) (wanting.input ∷ wanting.others) (inputs_of leads.more);
      no_room = wanting.no_room;
    }
wanting_on k near far Why.Disk leads wanting = absurd wanting
wanting_on k near far Why.Read leads wanting = absurd wanting
wanting_on k near far Why.Write leads wanting = absurd wanting

-- ---- in the middle of a loop

lead_as : (near far other : ReplicaValue) → LeadsTo near far → far ≡ other → LeadsTo near other
lead_as near far other leads is = subst (λ (r : ReplicaValue). LeadsTo near r) is leads

pub insert_leads : (index done : ℕ) (atom : List ℕ) (rest left : List (List ℕ)) (r : ReplicaValue) (all : Edited)
    → left ≡ atom ∷ rest → all ≡ done_before done (ask_all (inserts index left) r)
    → LeadsTo (after_request (Insert index atom) r) all.replica
insert_leads index done atom rest left r all left_is all_is =
    lead_as (after_request (Insert index atom) r) (ask_all (inserts index (atom ∷ rest)) r).replica all.replica
    (first_asked (record { request = Insert index atom; atoms = 1 }) (inserts (index + 1) rest) r)
    (ap (λ (atoms : List (List ℕ)). (ask_all (inserts index atoms) r).replica) (sym left_is)
    ∙ ap (λ (a : Edited). a.replica) (sym all_is))

pub paste_leads : (index done : ℕ) (run : List (List ℕ)) (rest left : List (List (List ℕ))) (r : ReplicaValue)
    (all : Edited) → left ≡ run ∷ rest → all ≡ done_before done (ask_all (pastes index left) r)
    → LeadsTo (after_request (Paste index run) r) all.replica
paste_leads index done run rest left r all left_is all_is =
    lead_as (after_request (Paste index run) r) (ask_all (pastes index (run ∷ rest)) r).replica all.replica
    (first_asked (record { request = Paste index run; atoms = length run }) (pastes (index + length run) rest) r)
    (ap (λ (runs : List (List (List ℕ))). (ask_all (pastes index runs) r).replica) (sym left_is)
    ∙ ap (λ (a : Edited). a.replica) (sym all_is))

pub delete_leads : (index count done : ℕ) (r : ReplicaValue) (all : Edited) → done < count
    → all ≡ done_before done (ask_all (deletes index (count - done)) r)
    → LeadsTo (after_request (Delete index) r) all.replica
delete_leads index count done r all less all_is =
    let more : suc (count - (done + 1)) ≡ count - done = omega arith in
    lead_as (after_request (Delete index) r) (ask_all (deletes index (suc (count - (done + 1)))) r).replica all.replica
    (first_asked (record { request = Delete index; atoms = 1 }) (deletes index (count - (done + 1))) r)
    (ap (λ (n : ℕ). (ask_all (deletes index n) r).replica) more ∙ ap (λ (a : Edited). a.replica) (sym all_is))

pub next_leads : (most count : ℕ) (r : ReplicaValue) (all : CaughtUp) → count < most → has_ready r.machine ≡ true
    → all ≡ went_before count (nexts (most - count) r) → LeadsTo (after_step Next r) all.replica
next_leads most count r all less ready all_is =
    let more : suc (most - (count + 1)) ≡ most - count = omega arith in
    lead_as (after_step Next r) (nexts (suc (most - (count + 1))) r).replica all.replica
    (first_next (most - (count + 1)) r ready)
    (ap (λ (n : ℕ). (nexts n r).replica) more ∙ ap (λ (x : CaughtUp). x.replica) (sym all_is))
