-- Edits send operations that are no decisions, so no event is told of them.
use Rattle.std.proofs.Common.{◌≡◌, ◌+◌, ◌++◌, ℕ, zero, suc, List, [], ◌∷◌, Bool, true, false, Option, Some, None}
use Rattle.std.proofs.Common.{length, drop, refl, sym, ap, ◌∙◌, nat_lt, if◌then◌else◌, arith}
use Rattle.std.specs.List.{flat_map}
use Rattle.std.proofs.Math.Seq.{drop-append_seam}
use Rattle.std.proofs.lemmas.Grind.{flat_map-append}
use Rattle.std.proofs.lemmas.List.{append-nil, append_assoc, drop_all}
use Rattle.td_base.specs.Value.{AtomIdValue, DotValue}
use Rattle.td_doc.specs.Allocation.{alloc, anchor}
use Rattle.td_doc.specs.Document.{live_id_at}
use Rattle.td_op.specs.declared.body.Body.{Body}
use Rattle.td_op.specs.declared.body.Body.TheVariants.{Insert as InsertIn, Delete as DeleteOf}
use Rattle.td_op.specs.declared.message.Message.{Message}
use Rattle.td_op.specs.declared.message.Message.TheVariants.{Op}
use Rattle.td_op.specs.declared.input.Input.TheVariants.{Local}
use Rattle.td_op.specs.declared.reply.Reply.{Reply}
use Rattle.td_op.specs.declared.reply.Reply.TheVariants.{Held, Limit, Made, Position}
use Rattle.td_machine.specs.Hold.{held_row, held_slot}
use Rattle.td_machine.specs.Machine.{Machine, made, next_dot, next_op, undecided}
use Rattle.td_machine.specs.Making.{make}
use Rattle.td_machine.specs.Request.{Attempt, Refuse, aim_step, attempt_step, delete_aim, insert_aim}
use Rattle.td_machine.specs.Request.{insert_aim_at, is_past_limit, len, live_aim, perform}
use Rattle.td_machine.specs.Step.{step}
use Rattle.td_machine.specs.Taking.{Stepped, stepped}
use Rattle.td_report.specs.Replies.{body_event, event_line}
use Rattle.td_world.specs.World.{WorldValue, machine_of, moved, reply_to, sent_by}
use Rattle.td_world.specs.Calls.{ask}
use Rattle.td_report.specs.Asking.{Edit, deletes, inserts, is_made, pastes}
use Rattle.td_run.specs.Asking.{Asked, ask_all, done_before}
use Rattle.td_run.specs.Printing.{Printed, and_then, events, line_and_events, with_line, with_world}
use Rattle.td_text.specs.Runs.{runs_of}

-- ---- one request at a machine

-- nothing is told of what a machine sends by a step
abbrev IsQuiet : Machine → Stepped → Type 0
IsQuiet m s = flat_map event_line (drop (length m.sent) s.machine.sent) ≡ []

refused : (reply : Reply) (m : Machine) → IsQuiet m (stepped reply m)
refused reply m = ap (flat_map event_line) (drop_all (length m.sent) m.sent (omega arith))

edited : (reply : Reply) (body : Body) (m : Machine) → body_event body ≡ [] → IsQuiet m (stepped reply (make body m))
edited reply body m e =
    ap (flat_map event_line) (drop-append_seam m.sent (Op (next_op m body) ∷ []))
    ∙ ap (λ (line : List ℕ). line ++ []) e

attempted : (held : Option DotValue) (a : Attempt) (m : Machine)
    → IsQuiet m (stepped (Made (next_dot m)) (perform a.body m)) → IsQuiet m (attempt_step held a m)
attempted (Some by) a m quiet = refused (Held by) m
attempted None a m quiet = at (is_past_limit a.room m)
  where
    at : (b : Bool)
        → IsQuiet m (if b then stepped (Limit (made m) (undecided m)) m else stepped (Made (next_dot m))
        (perform a.body m))
    at true = refused (Limit (made m) (undecided m)) m
    at false = quiet

put : (run : List (List ℕ)) (index : ℕ) (m : Machine) → IsQuiet m (aim_step (insert_aim_at run index m) m)
put run index m = at (nat_lt (len m) index)
  where
    at : (b : Bool)
        → IsQuiet m (aim_step (if b then Refuse (Position (len m)) else insert_aim run (anchor m.doc index) m) m)
    at true = refused (Position (len m)) m
    at false =
        let slot = alloc m.doc (anchor m.doc index) in
        let attempt : Attempt = record { body = InsertIn slot run; room = 1; held = held_slot m.doc slot m.holds } in
        attempted attempt.held attempt m (edited (Made (next_dot m)) (InsertIn slot run) m refl)

cut : (index : ℕ) (m : Machine) → IsQuiet m (aim_step (live_aim delete_aim (live_id_at m.doc index) m) m)
cut index m = at (live_id_at m.doc index)
  where
    at : (o : Option AtomIdValue) → IsQuiet m (aim_step (live_aim delete_aim o m) m)
    at None = refused (Position (len m)) m
    at (Some x) =
        let attempt : Attempt = record { body = DeleteOf x; room = 1; held = held_row m.doc x m.holds } in
        attempted attempt.held attempt m (edited (Made (next_dot m)) (DeleteOf x) m refl)

-- ---- requests one after another

-- whatever the machine
abbrev AreQuiet : List Edit → Type 0
AreQuiet [] = Unit {0}
AreQuiet (edit ∷ edits) = ((m : Machine) → IsQuiet m (step m (Local edit.request))) × AreQuiet edits

-- what was sent, of which nothing is told
record SendsQuietly (w : WorldValue) (a : Asked) : Type 0 where
  more : List Message
  sent : a.world.sent ≡ w.sent ++ more
  quiet : flat_map event_line more ≡ []

-- one request, and then others
goes_on_quietly : (w v : WorldValue) (first : List Message) (n : ℕ) (reply : Reply) (others : Asked) → v.sent ≡ w.sent
    ++ first
    → flat_map event_line first ≡ [] → SendsQuietly v others
    → (b : Bool) → SendsQuietly w (if b then done_before n others else record
    { world = v; done = 0; refused = Some reply })
goes_on_quietly w v first n reply others sent quiet s true = record {
  more = first ++ s.more;
  sent = s.sent ∙ ap (λ (messages : List Message). messages ++ s.more) sent ∙ append_assoc w.sent first s.more;
  quiet = flat_map-append event_line first s.more ∙ (λ i. quiet i ++ s.quiet i);
}
goes_on_quietly w v first n reply others sent quiet s false = record { more = first; sent = sent; quiet = quiet }

asked_quietly : (site : ℕ) (edits : List Edit) (w : WorldValue) → AreQuiet edits → SendsQuietly w (ask_all site edits w)
asked_quietly site [] w quiet = record { more = []; sent = sym (append-nil w.sent); quiet = refl }
asked_quietly site (edit ∷ edits) w quiet =
    let move = ask site edit.request in
    goes_on_quietly w (moved move w) (sent_by move w) edit.atoms (reply_to move w) (ask_all site edits (moved move w))
    refl
    (quiet.0 (machine_of w site)) (asked_quietly site edits (moved move w) quiet.1) (is_made (reply_to move w))

no_events : (w : WorldValue) (a : Asked) → SendsQuietly w a → events w a.world ≡ []
no_events w a s =
    ap (λ (sent : List Message). flat_map event_line (drop (length w.sent) sent)) s.sent
    ∙ ap (flat_map event_line) (drop-append_seam w.sent s.more) ∙ s.quiet

inserts_quiet : (index : ℕ) (atoms : List (List ℕ)) → AreQuiet (inserts index atoms)
inserts_quiet index [] = tt
inserts_quiet index (atom ∷ atoms) = (λ m. put (atom ∷ []) index m, inserts_quiet (index + 1) atoms)

pastes_quiet : (index : ℕ) (runs : List (List (List ℕ))) → AreQuiet (pastes index runs)
pastes_quiet index [] = tt
pastes_quiet index (run ∷ runs) = (λ m. put run index m, pastes_quiet (index + length run) runs)

deletes_quiet : (index count : ℕ) → AreQuiet (deletes index count)
deletes_quiet index zero = tt
deletes_quiet index (suc count) = (λ m. cut index m, deletes_quiet index count)

pub no_events_of_inserts : (site index : ℕ) (atoms : List (List ℕ)) (w : WorldValue)
    → events w (ask_all site (inserts index atoms) w).world ≡ []
no_events_of_inserts site index atoms w =
    no_events w (ask_all site (inserts index atoms) w)
    (asked_quietly site (inserts index atoms) w (inserts_quiet index atoms))

pub no_events_of_pastes : (site index : ℕ) (atoms : List (List ℕ)) (w : WorldValue)
    → events w (ask_all site (pastes index (runs_of atoms)) w).world ≡ []
no_events_of_pastes site index atoms w =
    no_events w (ask_all site (pastes index (runs_of atoms)) w)
    (asked_quietly site (pastes index (runs_of atoms)) w (pastes_quiet index (runs_of atoms)))

pub no_events_of_deletes : (site index count : ℕ) (w : WorldValue)
    → events w (ask_all site (deletes index count) w).world ≡ []
no_events_of_deletes site index count w =
    no_events w (ask_all site (deletes index count) w)
    (asked_quietly site (deletes index count) w (deletes_quiet index count))

-- where no event is told, the line is all that is printed
pub told_quietly : (p q : Printed) (world : WorldValue) (line : List ℕ) → events p.world world ≡ []
    → q ≡ with_line line (with_world world p) → q ≡ and_then p (line_and_events p.world world line)
told_quietly p q world line quiet e = e ∙ (λ i. record { world = world; marks = p.marks; text = p.text ++ sym whole i })
  where
    whole : line ++ events p.world world ≡ line
    whole = ap (λ (told : List ℕ). line ++ told) quiet ∙ append-nil line
