-- In every world each command of a script leads on to a world. So a script has an output.
use Rattle.std.proofs.Common.{◌≡◌, ◌<◌, ◌≤◌, ◌+◌, ◌*◌, ◌++◌, ◌⊎◌, ℕ, zero, suc, List, [], ◌∷◌, Bool, true, false}
use Rattle.std.proofs.Common.{Option, Some, None, length, refl, sym, ap, subst, ◌∙◌, inl, inr, if◌then◌else◌, arith}
use Rattle.std.specs.Prelude.{All, IfSome}
use Rattle.std.proofs.lemmas.List.{append-nil, append_assoc, length-map}
use Rattle.std.proofs.lemmas.List.Elements.{All-cons, All-head, All-nil, All-tail, All-weaker}
use Rattle.td_base.specs.Atom.{IsAtom}
use Rattle.td_base.specs.Lists.{In, kth}
use Rattle.td_op.specs.Message.{is_for}
use Rattle.td_base.specs.Run.{IsRun}
use Rattle.td_base.specs.Value.{DotValue, IsDot}
use Rattle.td_base.specs.declared.site.TheConstants.{MAX_SITE}
use Rattle.td_op.specs.Input.{IsRequest}
use Rattle.td_op.specs.declared.input.Input.TheVariants.{Take, Next}
use Rattle.td_op.specs.declared.message.Message.{Message}
use Rattle.td_op.specs.declared.reply.Reply.{Reply}
use Rattle.td_op.specs.declared.request.Request.TheVariants.{Cancel as GiveUp, Delete, Propose}
use Rattle.td_replica.specs.Replica.{ReplicaValue, has_ready}
use Rattle.td_idle.specs.Best.{best_slot}
use Rattle.td_path.specs.declared.slot.Slot.{Slot}
use Rattle.td_path.specs.Slot.{IsSlot}
use Rattle.td_report.specs.Given.{settle_line}
use Rattle.td_report.specs.Numbers.{count_line}
use Rattle.td_report.specs.Tree.{show_line, tree_lines}
use Rattle.td_text.specs.Runs.{runs_of}
use Rattle.td_script.specs.Script.{AreCommands, IsCommand, IsDotOf}
use Rattle.td_script.specs.declared.command.Command.{Command}
use Rattle.td_script.specs.declared.command.Command.TheVariants.{Sites, Ins, Paste, Del, Flat, FlatAuto, Cancel}
use Rattle.td_script.specs.declared.command.Command.TheVariants.{Give, GiveAll, Settle, Show, Tree, Count}
use Rattle.td_script.specs.declared.command.Command.TheVariants.{Mark, Meet, Marks}
use Rattle.td_script.specs.declared.command.Place.{Place}
use Rattle.td_script.specs.declared.command.Place.TheVariants.{Root, Beside}
use Rattle.td_script.specs.declared.script.Script.{Script}
use Rattle.td_text.proofs.RunLemmas.{runs_are_runs}
use Rattle.td_world.specs.World.{IsWorld, WorldValue, family_of, machine_of, moved}
use Rattle.td_world.specs.World.{moved_all, new_world, reply_to, size}
use Rattle.td_world.specs.Calls.{ask, count_given, found_moves, give_moves}
use Rattle.td_world.specs.Calls.{next, nexts, passes, take, wanted_moves}
use Rattle.td_world.specs.Calls.{IsSettled}
use Rattle.td_world.proofs.Beginnings.{new_is_world}
use Rattle.td_world.proofs.Due.{due_passes, due_wanted, sent_valid, world_due}
use Rattle.td_world.proofs.Ending.{always_enough}
use Rattle.td_world.proofs.Kept.{kth_in}
use Rattle.td_world.proofs.Moves.{size_after, size_moved, still_sent, world_moved}
use Rattle.td_world.proofs.Promised.{promised, shown}
use Rattle.td_world.proofs.Replicas.{new_length}
use Rattle.td_report.specs.Asking.{Edit, deletes, inserts, is_made, pastes}
use Rattle.td_run.specs.Asking.{Asked, ask_all, done_before, goes_on}
use Rattle.td_run.specs.Outputs.{IsOutputOf}
use Rattle.td_run.specs.Marking.{Marking, mark, marked_lines, meet}
use Rattle.td_run.specs.Printing.{Printed, Effect, Prints, PrintsAll, Shown, and_marked, and_then, behind, cancel, del}
use Rattle.td_report.specs.Asking.{proposal}
use Rattle.td_run.specs.Printing.{events, flat, flat_slot, give, give_each, ins, own_text, paste, start_of}
use Rattle.td_run.specs.Printing.{taken_text, with_line, with_text}
use Rattle.td_run.proofs.EditsShown.{asked_within, asked_world}
use Rattle.td_run.proofs.IdleSlots.{best_is_slot}
use Rattle.td_run.proofs.Sizes.{size_stays}

-- ---- requests

abbrev AreAsked : List Edit → Type 0
AreAsked edits = All (λ (edit : Edit). IsRequest edit.request) edits

world_on : (reply : Reply) (v : WorldValue) (count : ℕ) (others : Asked) → IsWorld v → IsWorld others.world
    → IsWorld (goes_on reply v count others).world
world_on reply v count others here there = at (is_made reply)
  where
    at : (b : Bool)
        → IsWorld (if b then done_before count others else record { world = v; done = 0; refused = Some reply }).world
    at true = there
    at false = here

edits_lead : (site : ℕ) (edits : List Edit) (w : WorldValue) → IsWorld w → 0 < site → site ≤ size w → AreAsked edits
    → IsWorld (ask_all site edits w).world
edits_lead site [] w i some within each = i
edits_lead site (edit ∷ edits) w i some within each =
    let v : WorldValue = moved (ask site edit.request) w in
    let here : IsWorld v = asked_world w site i some within edit.request
    (All-head (λ (e : Edit). IsRequest e.request) edit edits each) in
    world_on (reply_to (ask site edit.request) w) v edit.atoms (ask_all site edits v) here
    (edits_lead site edits v here some (asked_within w site i some within edit.request)
    (All-tail (λ (e : Edit). IsRequest e.request) edit edits each))

inserts_are_asked : (index : ℕ) (atoms : List (List ℕ)) → All IsAtom atoms → AreAsked (inserts index atoms)
inserts_are_asked index [] each = All-nil (λ (e : Edit). IsRequest e.request)
inserts_are_asked index (atom ∷ atoms) each =
    All-cons (λ (e : Edit). IsRequest e.request) _ (inserts (index + 1) atoms) (All-head IsAtom atom atoms each)
    (inserts_are_asked (index + 1) atoms (All-tail IsAtom atom atoms each))

pastes_are_asked : (index : ℕ) (runs : List (List (List ℕ))) → All IsRun runs → AreAsked (pastes index runs)
pastes_are_asked index [] each = All-nil (λ (e : Edit). IsRequest e.request)
pastes_are_asked index (run ∷ runs) each =
    All-cons (λ (e : Edit). IsRequest e.request) _ (pastes (index + length run) runs) (All-head IsRun run runs each)
    (pastes_are_asked (index + length run) runs (All-tail IsRun run runs each))

deletes_are_asked : (index count : ℕ) → AreAsked (deletes index count)
deletes_are_asked index zero = All-nil (λ (e : Edit). IsRequest e.request)
deletes_are_asked index (suc count) =
    All-cons (λ (e : Edit). IsRequest e.request) (record { request = Delete index; atoms = 1 }) (deletes index count) tt
    (deletes_are_asked index count)

dot_among : (w : WorldValue) → IsWorld w → (d : DotValue) → IsDotOf (size w) d → IsDot d
dot_among w i d is =
    let few : length (family_of w) ≤ MAX_SITE = i.consistent.legal.few in
    let same : length (family_of w) ≡ size w = length-map w.replicas (λ (r : ReplicaValue). r.entries) in
    record {
      site = record { least = is.0.0; greatest = omega (arith, is.0.1, few, same) };
      least = is.1.0;
      greatest = is.1.1;
    }

proposal_is_asked : (place : Place) → IsRequest (proposal place)
proposal_is_asked Root = tt
proposal_is_asked (Beside index bit) = tt

slot_leads : (site : ℕ) (slot : Option Slot) (w : WorldValue) → IsWorld w → 0 < site → site ≤ size w
    → IfSome slot IsSlot → IsWorld (flat_slot site slot w).world
slot_leads site None w i some within is = i
slot_leads site (Some slot) w i some within is = asked_world w site i some within (Propose slot) is

-- ---- messages that are given

nexts_lead : (k site : ℕ) (w : WorldValue) → IsWorld w → 0 < site → site ≤ size w
    → IsWorld (moved_all (nexts k site w) w)
nexts_lead zero site w i some within = i
nexts_lead (suc k) site w i some within =
    at (has_ready (machine_of w site)) (nexts_lead k site v here some low)
  where
    none : (message : Message) → Next ≡ Take message → ⊥
    none message e = cc

    v : WorldValue
    v = moved (next site) w

    here : IsWorld v
    here = world_moved w i (next site)
        (record { some = some; within = within; valid = tt; came = λ message e. absurd (none message e) })

    low : site ≤ size v
    low = subst (λ (n : ℕ). site ≤ n) (sym (size_moved w (next site))) within

    at : (b : Bool) → IsWorld (moved_all (nexts k site v) v)
        → IsWorld (moved_all (if b then next site ∷ nexts k site v else []) w)
    at true others = others
    at false others = i

gift_leads : (site : ℕ) (message : Message) (w : WorldValue) → IsWorld w → 0 < site → site ≤ size w → In message w.sent
    → is_for site message ≡ true → IsWorld (moved_all (give_moves site message w) w)
gift_leads site message w i some within sent to =
    nexts_lead (length (machine_of v site).waiting) site v here some
    (subst (λ (n : ℕ). site ≤ n) (sym (size_moved w (take site message))) within)
  where
    v : WorldValue
    v = moved (take site message) w

    same : (other : Message) → Take message ≡ Take other → message ≡ other
    same other e = cc

    here : IsWorld v
    here = world_moved w i (take site message) (record {
      some = some;
      within = within;
      valid = sent_valid w i message sent;
      came = λ other e. subst (λ (m : Message). In m w.sent × (is_for site m ≡ true)) (same other e) (sent, to);
    })

give_leads : (site number : ℕ) (w : WorldValue) → IsWorld w → 0 < site → site ≤ size w
    → IsWorld (give site number w).world
give_leads site number w i some within = at (kth number w.sent) refl
  where
    for_it : (message : Message) → In message w.sent → (b : Bool) → is_for site message ≡ b
        → IsWorld (moved_all (if b then give_moves site message w else []) w)
    for_it message sent true e = gift_leads site message w i some within sent e
    for_it message sent false e = i

    at : (o : Option Message) → kth number w.sent ≡ o → IsWorld (moved_all (found_moves site o w) w)
    at None e = i
    at (Some message) e =
        for_it message (kth_in number w.sent message e) (is_for site message) refl

each_leads : (site number : ℕ) (messages : List Message) (w : WorldValue) → IsWorld w → 0 < site → site ≤ size w
    → ((message : Message) → In message messages → In message w.sent)
    → IsWorld (give_each site number messages w).world
each_leads site number [] w i some within sent = i
each_leads site number (message ∷ messages) w i some within sent =
    let moves = wanted_moves site message w in
    each_leads site (suc number) messages (moved_all moves w)
    (world_due moves w i (due_wanted site message w some within (sent message (inl refl)))) some
    (subst (λ (n : ℕ). site ≤ n) (sym (size_after moves w)) within)
    (λ other j. still_sent moves w other (sent other (inr j)))

-- ---- one command

-- what is had after it, and that this is a world
pub record GoesOn (old : Printed) (command : Command) : Type 0 where
  pub new : Printed
  pub own : Prints own_text old command new
  pub taken : Prints taken_text old command new
  pub world : IsWorld new.world

shown_there : (line : ℕ → List ℕ → List ℕ) (old : Printed) (site : ℕ) → IsWorld old.world → 0 < site
    → site ≤ size old.world
    → with_line (line site (own_text old.world site)) old ≡ with_line (line site (taken_text old.world site)) old
shown_there line old site i some within =
    ap (λ (text : List ℕ). with_line (line site text) old) (shown old.world i site some within)

settles : (old : Printed) → IsWorld old.world → GoesOn old Settle
settles old i =
    let w : WorldValue = old.world in
    let moves = passes (2 * size w + 3) w in
    let v : WorldValue = moved_all moves w in
    let given : ℕ = count_given moves in
    let p : Effect = record { world = v; text = events w v ++ settle_line given } in
    let settled : IsSettled w v given =
    record { number = 2 * size w + 3; after = refl; still = always_enough w i; count = refl } in
    record {
      new = and_then old p;
      own = (p, (given, settled, refl), refl);
      taken = (p, (given, settled, refl), refl);
      world = world_due moves w i (due_passes (2 * size w + 3) w);
    }

pub goes_on_from : (old : Printed) (command : Command) → IsWorld old.world → IsCommand (size old.world) command
    → GoesOn old command
goes_on_from old (Sites n) i is = absurd is
goes_on_from old (Ins site index atoms) i is = record {
  new = and_then old (ins site index atoms old.world);
  own = refl;
  taken = refl;
  world = edits_lead site (inserts index atoms) old.world i is.0.0 is.0.1 (inserts_are_asked index atoms is.2.each);
}
goes_on_from old (Paste site index atoms) i is = record {
  new = and_then old (paste site index atoms old.world);
  own = refl;
  taken = refl;
  world = edits_lead site (pastes index (runs_of atoms)) old.world i is.0.0 is.0.1
      (pastes_are_asked index (runs_of atoms) (runs_are_runs atoms is.2.each));
}
goes_on_from old (Del site index count) i is = record {
  new = and_then old (del site index count old.world);
  own = refl;
  taken = refl;
  world = edits_lead site (deletes index count) old.world i is.0.0 is.0.1 (deletes_are_asked index count);
}
goes_on_from old (Flat site Root) i is = record {
  new = and_then old (flat site Root old.world);
  own = refl;
  taken = refl;
  world = asked_world old.world site i is.0 is.1 (proposal Root) (proposal_is_asked Root);
}
goes_on_from old (Flat site (Beside index bit)) i is = record {
  new = and_then old (flat site (Beside index bit) old.world);
  own = refl;
  taken = refl;
  world = asked_world old.world site i is.0.0 is.0.1 (proposal (Beside index bit))
      (proposal_is_asked (Beside index bit));
}
goes_on_from old (FlatAuto site) i is =
    let slot : Option Slot = best_slot (machine_of old.world site) in
    record {
      new = and_then old (flat_slot site slot old.world);
      own = refl;
      taken = refl;
      world = slot_leads site slot old.world i is.0 is.1 (best_is_slot old.world i site is.0 is.1);
    }
goes_on_from old (Cancel site p) i is = record {
  new = and_then old (cancel site p old.world);
  own = refl;
  taken = refl;
  world = asked_world old.world site i is.0.0 is.0.1 (GiveUp p) (dot_among old.world i p is.1);
}
goes_on_from old (Give site number) i is = record {
  new = and_then old (give site number old.world);
  own = refl;
  taken = refl;
  world = give_leads site number old.world i is.0.0 is.0.1;
}
goes_on_from old (GiveAll site) i is = record {
  new = and_then old (give_each site 1 old.world.sent old.world);
  own = refl;
  taken = refl;
  world = each_leads site 1 old.world.sent old.world i is.0 is.1 (λ message j. j);
}
goes_on_from old Settle i is = settles old i
goes_on_from old (Show site) i is = record {
  new = with_line (show_line site (own_text old.world site)) old;
  own = refl;
  taken = shown_there show_line old site i is.0 is.1;
  world = i;
}
goes_on_from old (Tree site) i is = record {
  new = with_line (tree_lines site (machine_of old.world site).doc) old;
  own = refl;
  taken = refl;
  world = i;
}
goes_on_from old (Count site) i is = record {
  new = with_line (count_line (machine_of old.world site)) old;
  own = refl;
  taken = refl;
  world = i;
}
goes_on_from old (Mark site add name index count) i is = record {
  new = and_marked old (mark site add name index count (machine_of old.world site).doc old.marks);
  own = refl;
  taken = refl;
  world = i;
}
goes_on_from old (Meet site other) i is = record {
  new = and_marked old (meet site other old.marks);
  own = refl;
  taken = refl;
  world = i;
}
goes_on_from old (Marks site) i is = record {
  new = with_line (marked_lines site (machine_of old.world site).doc old.marks) old;
  own = refl;
  taken = refl;
  world = i;
}

-- ---- commands one after another

-- a command that may stand in a script: `sites` too
abbrev pub MayCome : ℕ → Command → Type 0
MayCome n command = (command ≡ Sites n) ⊎ IsCommand n command

pub commands_come : (n : ℕ) (commands : List Command) → AreCommands n commands → All (MayCome n) commands
commands_come n [] are = All-nil (MayCome n)
commands_come n (first ∷ others) are =
    All-cons (MayCome n) first others (inl are.0)
    (All-weaker (IsCommand n) (MayCome n) (λ command is. inr is) others are.2)

pub comes_on : (old : Printed) (command : Command) → IsWorld old.world → MayCome (size old.world) command
    → GoesOn old command
comes_on old command i (inl e) =
    subst (GoesOn old) (sym e) (record { new = old; own = refl; taken = refl; world = i })
comes_on old command i (inr is) = goes_on_from old command i is

-- what is had after all of them
pub record GoOn (old : Printed) (commands : List Command) : Type 0 where
  pub new : Printed
  pub own : PrintsAll own_text old commands new
  pub taken : PrintsAll taken_text old commands new
  pub world : IsWorld new.world

pub go_on : (old : Printed) (commands : List Command) → IsWorld old.world → All (MayCome (size old.world)) commands
    → GoOn old commands
go_on old [] i each = record { new = old; own = refl; taken = refl; world = i }
go_on old (command ∷ commands) i each =
    let n : ℕ = size old.world in
    let first = comes_on old command i (All-head (MayCome n) command commands each) in
    let same : size first.new.world ≡ n = size_stays own_text old command first.new first.own in
    let others = go_on first.new commands first.world
    (subst (λ (k : ℕ). All (MayCome k) commands) (sym same) (All-tail (MayCome n) command commands each)) in
    record {
      new = others.new;
      own = (first.new, first.own, others.own);
      taken = (first.new, first.taken, others.taken);
      world = others.world;
    }

-- ---- what was printed stays

grows : (shown : Shown) (old : Printed) (command : Command) (new : Printed) → Prints shown old command new
    → (more : List ℕ) × (new.text ≡ old.text ++ more)
grows shown old (Sites n) new is = ([], ap (λ (p : Printed). p.text) is ∙ sym (append-nil old.text))
grows shown old (Ins site index atoms) new is = (_, ap (λ (p : Printed). p.text) is)
grows shown old (Paste site index atoms) new is = (_, ap (λ (p : Printed). p.text) is)
grows shown old (Del site index count) new is = (_, ap (λ (p : Printed). p.text) is)
grows shown old (Flat site place) new is = (_, ap (λ (p : Printed). p.text) is)
grows shown old (FlatAuto site) new is = (_, ap (λ (p : Printed). p.text) is)
grows shown old (Cancel site proposal) new is = (_, ap (λ (p : Printed). p.text) is)
grows shown old (Give site number) new is = (_, ap (λ (p : Printed). p.text) is)
grows shown old (GiveAll site) new is = (_, ap (λ (p : Printed). p.text) is)
grows shown old Settle new is = (is.0.text, ap (λ (p : Printed). p.text) is.2)
grows shown old (Show site) new is = (_, ap (λ (p : Printed). p.text) is)
grows shown old (Tree site) new is = (_, ap (λ (p : Printed). p.text) is)
grows shown old (Count site) new is = (_, ap (λ (p : Printed). p.text) is)
grows shown old (Mark site add name index count) new is = (_, ap (λ (p : Printed). p.text) is)
grows shown old (Meet site other) new is = (_, ap (λ (p : Printed). p.text) is)
grows shown old (Marks site) new is = (_, ap (λ (p : Printed). p.text) is)

pub all_grow : (shown : Shown) (old : Printed) (commands : List Command) (new : Printed)
    → PrintsAll shown old commands new → (more : List ℕ) × (new.text ≡ old.text ++ more)
all_grow shown old [] new is = ([], ap (λ (p : Printed). p.text) is ∙ sym (append-nil old.text))
all_grow shown old (command ∷ commands) new is =
    let first = grows shown old command is.0 is.1 in
    let others = all_grow shown is.0 commands new is.2 in (
      first.0 ++ others.0,
      others.1 ∙ ap (λ (t : List ℕ). t ++ others.0) first.1 ∙ append_assoc old.text first.0 others.0,
    )

-- and makes no difference to what comes
shifts : (front : List ℕ) (old : Printed) (effect : Effect)
    → behind front (and_then old effect) ≡ and_then (behind front old) effect
shifts front old effect =
    ap (λ (t : List ℕ). with_text t (and_then old effect)) (sym (append_assoc front old.text effect.text))

marking_shifts : (front : List ℕ) (old : Printed) (m : Marking)
    → behind front (and_marked old m) ≡ and_marked (behind front old) m
marking_shifts front old m =
    ap (λ (t : List ℕ). with_text t (and_marked old m)) (sym (append_assoc front old.text m.line))

line_shifts : (front line : List ℕ) (old : Printed)
    → behind front (with_line line old) ≡ with_line line (behind front old)
line_shifts front line old =
    ap (λ (t : List ℕ). with_text t old) (sym (append_assoc front old.text line))

pub prints_behind : (shown : Shown) (front : List ℕ) (old : Printed) (command : Command) (new : Printed)
    → Prints shown old command new → Prints shown (behind front old) command (behind front new)
prints_behind shown front old (Sites n) new is = ap (behind front) is
prints_behind shown front old (Ins site index atoms) new is = ap (behind front) is ∙ shifts front old _
prints_behind shown front old (Paste site index atoms) new is = ap (behind front) is ∙ shifts front old _
prints_behind shown front old (Del site index count) new is = ap (behind front) is ∙ shifts front old _
prints_behind shown front old (Flat site place) new is = ap (behind front) is ∙ shifts front old _
prints_behind shown front old (FlatAuto site) new is = ap (behind front) is ∙ shifts front old _
prints_behind shown front old (Cancel site proposal) new is = ap (behind front) is ∙ shifts front old _
prints_behind shown front old (Give site number) new is = ap (behind front) is ∙ shifts front old _
prints_behind shown front old (GiveAll site) new is = ap (behind front) is ∙ shifts front old _
prints_behind shown front old Settle new is = (is.0, is.1, ap (behind front) is.2 ∙ shifts front old is.0)
prints_behind shown front old (Show site) new is = ap (behind front) is ∙ line_shifts front _ old
prints_behind shown front old (Tree site) new is = ap (behind front) is ∙ line_shifts front _ old
prints_behind shown front old (Count site) new is = ap (behind front) is ∙ line_shifts front _ old
prints_behind shown front old (Mark site add name index count) new is =
    ap (behind front) is ∙ marking_shifts front old _
prints_behind shown front old (Meet site other) new is = ap (behind front) is ∙ marking_shifts front old _
prints_behind shown front old (Marks site) new is = ap (behind front) is ∙ line_shifts front _ old

-- ---- a script

-- what comes of a script is its output
pub output_is : (script : Script) (end : Printed) → PrintsAll own_text (start_of script.sites) script.commands end
    → PrintsAll taken_text (start_of script.sites) script.commands end → (0 < script.sites → IsWorld end.world)
    → IsOutputOf script end.text
output_is script end own taken i =
    record {
      end = end;
      played = record { own = own; taken = taken; promises = λ some. promised end.world (i some) };
      text = refl;
    }

pub has_output : (script : Script) → AreCommands script.sites script.commands → (bytes : List ℕ)
    × IsOutputOf script bytes
has_output script are = at script.commands refl are
  where
    n : ℕ
    n = script.sites

    at : (commands : List Command) → script.commands ≡ commands → AreCommands n commands
        → (bytes : List ℕ) × IsOutputOf script bytes
    at [] e none = (
      [],
      output_is script (start_of n)
          (subst (λ (l : List Command). PrintsAll own_text (start_of n) l (start_of n)) (sym e) refl)
          (subst (λ (l : List Command). PrintsAll taken_text (start_of n) l (start_of n)) (sym e) refl)
          (λ some. absurd (omega (arith, some, none))),
    )
    at (first ∷ others) e are =
        let i : IsWorld (new_world n) = new_is_world n are.1.0 are.1.1 in
        let same : size (new_world n) ≡ n = new_length n n 1 in
        let all = go_on (start_of n) (first ∷ others) i
        (subst (λ (k : ℕ). All (MayCome k) (first ∷ others)) (sym same) (commands_come n (first ∷ others) are)) in (
          all.new.text,
          output_is script all.new
              (subst (λ (l : List Command). PrintsAll own_text (start_of n) l all.new) (sym e) all.own)
              (subst (λ (l : List Command). PrintsAll taken_text (start_of n) l all.new) (sym e) all.taken)
              (λ some. all.world),
        )
