-- What edits do to the atoms that a site shows.
use Rattle.std.proofs.Common.{◌≡◌, ◌<◌, ◌≤◌, ◌+◌, ◌++◌, ◌⊎◌, length-append, ℕ, zero, suc, List, [], ◌∷◌, Bool}
use Rattle.std.proofs.Common.{true, false, Option, Some, None, length, map, take, drop, refl, sym, ap, ◌∙◌}
use Rattle.std.proofs.Common.{subst, ⊎_elim, inl, inr, nat_lt, if◌then◌else◌, arith}
use Rattle.std.specs.Prelude.{All, slice_get}
use Rattle.std.specs.List.{flat_map}
use Rattle.std.specs.Option.{option_map}
use Rattle.std.proofs.Math.Seq.{drop-append-add, take-append-add, take-append_seam}
use Rattle.std.proofs.lemmas.Bool.{ltb-false}
use Rattle.std.proofs.lemmas.List.{append-nil, append_assoc, drop-drop, length-take-le, take-append-drop}
use Rattle.std.proofs.lemmas.List.Elements.{All-head, All-tail}
use Rattle.std.proofs.lemmas.Option.{slice_get_within}
use Rattle.td_base.specs.Atom.{IsAtom}
use Rattle.td_base.specs.Run.{IsRun}
use Rattle.td_base.specs.Value.{AtomIdValue, DotValue}
use Rattle.td_base.proofs.Elements.{map-remove}
use Rattle.td_doc.specs.Allocation.{alloc, anchor}
use Rattle.td_doc.specs.Document.{DocRow, IsDocument, live_atoms, live_id_at, live_rows, row_id}
use Rattle.td_doc.proofs.LiveIndex.{deleted_at}
use Rattle.td_doc.proofs.Typing.{count_of_atoms, run_typed}
use Rattle.td_op.specs.declared.body.Body.TheVariants.{Insert as InsertIn, Delete as DeleteOf}
use Rattle.td_op.specs.declared.message.Message.{Message}
use Rattle.td_op.specs.declared.input.Input.{Input}
use Rattle.td_op.specs.declared.input.Input.TheVariants.{Local, Take}
use Rattle.td_op.specs.declared.reply.Reply.{Reply}
use Rattle.td_op.specs.declared.reply.Reply.TheVariants.{Limit, Made, Position}
use Rattle.td_op.specs.declared.request.Request.{Request}
use Rattle.td_op.specs.declared.request.Request.TheVariants.{Delete, Insert, Paste}
use Rattle.td_op.specs.Input.{IsRequest}
use Rattle.td_machine.specs.Machine.{Machine, made, next_dot, undecided}
use Rattle.td_machine.specs.Hold.{held_row, held_slot}
use Rattle.td_machine.specs.Making.{make}
use Rattle.td_machine.specs.Request.{Attempt, Refuse, aim_step, attempt_step, delete_aim, insert_aim}
use Rattle.td_machine.specs.Request.{insert_aim_at, is_past_limit, len, live_aim, perform}
use Rattle.td_machine.specs.Step.{step}
use Rattle.td_machine.specs.Taking.{Stepped, stepped}
use Rattle.td_replica.specs.Replica.{ReplicaValue}
use Rattle.td_machine.proofs.Reached.{rules_of}
use Rattle.td_world.specs.World.{IsWorld, WorldValue, machine_of, moved, reply_to, size}
use Rattle.td_world.specs.Calls.{ask}
use Rattle.td_world.proofs.Kept.{reached_in}
use Rattle.td_world.proofs.Moves.{moved_here, size_moved, world_moved}
use Rattle.td_report.specs.Asking.{deletes, inserts, is_made, pastes}
use Rattle.td_run.specs.Asking.{Asked, ask_all, done_before, goes_on}
use Rattle.td_text.specs.Runs.{runs_of}
use Rattle.td_run.specs.Typing.{IsCut, IsTyped, shown_at}
use Rattle.td_run.proofs.NextEdits.{made_on}
use Rattle.td_text.proofs.RunLemmas.{atoms_of_runs, runs_are_runs}

-- ---- one request at a machine

-- it was made, and the machine is this one; or it was refused, and the machine is as it was
abbrev Makes : Machine → Stepped → Machine → Type 0
Makes m s done = ((is_made s.reply ≡ true) × (s.machine ≡ done)) ⊎ ((is_made s.reply ≡ false) × (s.machine ≡ m))

attempt_makes : (held : Option DotValue) (a : Attempt) (m : Machine)
    → Makes m (attempt_step held a m) (perform a.body m)
attempt_makes (Some by) a m = inr (refl, refl)
attempt_makes None a m = at (is_past_limit a.room m)
  where
    at : (b : Bool)
        → Makes m (if b then stepped (Limit (made m) (undecided m)) m else stepped (Made (next_dot m))
        (perform a.body m))
        (perform a.body m)
    at true = inr (refl, refl)
    at false = inl (refl, refl)

-- these atoms are shown behind one that was made, which asked for an index within the atoms
abbrev Shows : Machine → Stepped → ℕ → List (List ℕ) → Type 0
Shows m s least after =
    ((is_made s.reply ≡ true) × (least ≤ length (live_atoms m.doc)) × (live_atoms s.machine.doc ≡ after))
    ⊎ ((is_made s.reply ≡ false) × (live_atoms s.machine.doc ≡ live_atoms m.doc))

shows : (m : Machine) (s : Stepped) (done : Machine) (least : ℕ) (after : List (List ℕ)) → Makes m s done
    → least ≤ length (live_atoms m.doc) → live_atoms done.doc ≡ after → Shows m s least after
shows m s done least after makes within is =
    ⊎_elim
    (λ (p : (is_made s.reply ≡ true) × (s.machine ≡ done)). inl
    (p.0, within, ap (λ (x : Machine). live_atoms x.doc) p.1 ∙ is))
    (λ (p : (is_made s.reply ≡ false) × (s.machine ≡ m)). inr (p.0, ap (λ (x : Machine). live_atoms x.doc) p.1))
    makes

put_shows : (run : List (List ℕ)) (index : ℕ) (m : Machine) → IsDocument m.doc
    → Shows m (aim_step (insert_aim_at run index m) m) index
    (take index (live_atoms m.doc) ++ (run ++ drop index (live_atoms m.doc)))
put_shows run index m d = at (nat_lt (len m) index) refl
  where
    at : (b : Bool) → nat_lt (len m) index ≡ b
        → Shows m (aim_step (if b then Refuse (Position (len m)) else insert_aim run (anchor m.doc index) m) m) index
        (take index (live_atoms m.doc) ++ (run ++ drop index (live_atoms m.doc)))
    at true e = inr (refl, refl)
    at false e =
        let slot = alloc m.doc (anchor m.doc index) in
        let attempt : Attempt = record { body = InsertIn slot run; room = 1; held = held_slot m.doc slot m.holds } in
        let count : length (live_atoms m.doc) ≡ length (live_rows m.doc) = count_of_atoms m.doc in
        let within : index ≤ length (live_rows m.doc) = ltb-false (len m) index e in
        shows m (attempt_step attempt.held attempt m) (make (InsertIn slot run) m) index
        (take index (live_atoms m.doc) ++ (run ++ drop index (live_atoms m.doc)))
        (attempt_makes attempt.held attempt m) (omega (arith, count, within))
        (run_typed m.doc index (next_dot m) run d within
        ∙ append_assoc (take index (live_atoms m.doc)) run (drop index (live_atoms m.doc)))

found_within : (rows : List DocRow) (index : ℕ) (x : AtomIdValue) → live_id_at rows index ≡ Some x
    → index < length (live_rows rows)
found_within rows index x e = at (slice_get (live_rows rows) index) refl e
  where
    at : (o : Option DocRow) → slice_get (live_rows rows) index ≡ o → option_map row_id o ≡ Some x
        → index < length (live_rows rows)
    at None is h = absurd cc
    at (Some r) is h = slice_get_within (live_rows rows) index r is

cut_shows : (index : ℕ) (m : Machine) → IsDocument m.doc
    → Shows m (aim_step (live_aim delete_aim (live_id_at m.doc index) m) m) (suc index)
    (take index (live_atoms m.doc) ++ drop (suc index) (live_atoms m.doc))
cut_shows index m d = at (live_id_at m.doc index) refl
  where
    at : (o : Option AtomIdValue) → live_id_at m.doc index ≡ o
        → Shows m (aim_step (live_aim delete_aim o m) m) (suc index)
        (take index (live_atoms m.doc) ++ drop (suc index) (live_atoms m.doc))
    at None e = inr (refl, refl)
    at (Some x) e =
        let attempt : Attempt = record { body = DeleteOf x; room = 1; held = held_row m.doc x m.holds } in
        let count : length (live_atoms m.doc) ≡ length (live_rows m.doc) = count_of_atoms m.doc in
        let within : index < length (live_rows m.doc) = found_within m.doc index x e in
        shows m (attempt_step attempt.held attempt m) (make (DeleteOf x) m) (suc index)
        (take index (live_atoms m.doc) ++ drop (suc index) (live_atoms m.doc))
        (attempt_makes attempt.held attempt m) (omega (arith, count, within))
        (ap (λ (rows : List DocRow). map (λ (r : DocRow). r.atom) rows) (deleted_at m.doc index x (next_dot m) d e)
        ∙ map-remove (λ (r : DocRow). r.atom) (live_rows m.doc) index)

-- ---- one request in a world

module _ (w : WorldValue) (site : ℕ) (i : IsWorld w) (some : 0 < site) (within : site ≤ size w) where
  ruled : IsDocument (machine_of w site).doc
  ruled = rules_of (machine_of w site) (reached_in w i site some within)

  -- the world behind a request is one
  pub asked_world : (request : Request) → IsRequest request → IsWorld (moved (ask site request) w)
  asked_world request valid =
      world_moved w i (ask site request)
      (record {
        some = some;
        within = within;
        valid = valid;
        came = λ message e. absurd (local_is_no_take request message e);
      })
    where
      local_is_no_take : (request : Request) (message : Message) → ◌≡◌ {A = Input} (Local request) (Take message) → ⊥
      local_is_no_take request message e = cc

  pub asked_within : (request : Request) → site ≤ size (moved (ask site request) w)
  asked_within request = let same : size (moved (ask site request) w) ≡ size w = size_moved w (ask site request) in
      omega (arith, within, same)

  -- and the site shows there what its machine shows
  asked_shows : (request : Request)
      → shown_at (moved (ask site request) w) site ≡ live_atoms (step (machine_of w site) (Local request)).machine.doc
  asked_shows request = ap (λ (r : ReplicaValue). live_atoms r.machine.doc)
      (moved_here w (ask site request) some within)

-- ---- requests one after another

refused_on : (reply : Reply) (w : WorldValue) (n : ℕ) (others : Asked) → is_made reply ≡ false
    → goes_on reply w n others ≡ record { world = w; done = 0; refused = Some reply }
refused_on reply w n others refused =
    ap (λ (b : Bool). if b then done_before n others else record { world = w; done = 0; refused = Some reply }) refused

-- nothing was done
nothing_typed : (site index : ℕ) (atoms : List (List ℕ)) (w : WorldValue) (a : Asked) → a.done ≡ 0
    → shown_at a.world site ≡ shown_at w site → IsTyped site index atoms w a
nothing_typed site index atoms w a none same =
    let L : List (List ℕ) = shown_at w site in
    same ∙ sym (take-append-drop index L)
    ∙ ap (λ (n : ℕ). take index L ++ (take n atoms ++ drop index L)) (sym none)

-- what was put first, and what was put behind it
behind_it : (L Lv La run rest : List (List ℕ)) (index n d : ℕ) → length run ≡ n → index ≤ length L
    → Lv ≡ take index L ++ (run ++ drop index L)
    → La ≡ take (index + n) Lv ++ (take d rest ++ drop (index + n) Lv)
    → La ≡ take index L ++ (take (n + d) (run ++ rest) ++ drop index L)
behind_it L Lv La run rest index n d long within first others =
    others
    ∙ (λ i. take_is i ++ (take d rest ++ drop_is i))
    ∙ append_assoc front run (take d rest ++ back)
    ∙ ap (λ (x : List (List ℕ)). front ++ x) (sym (append_assoc run (take d rest) back))
    ∙ ap (λ (x : List (List ℕ)). front ++ (x ++ back)) (sym both)
  where
    front : List (List ℕ)
    front = take index L

    back : List (List ℕ)
    back = drop index L

    place : index + n ≡ length (front ++ run) + 0
    place = let size : length front ≡ index = length-take-le index L within in let whole = length-append front run in
        omega (arith, size, whole, long)

    split : Lv ≡ (front ++ run) ++ back
    split = first ∙ sym (append_assoc front run back)

    take_is : take (index + n) Lv ≡ front ++ run
    take_is = (λ i. take (place i) (split i)) ∙ take-append-add (front ++ run) back 0 ∙ append-nil (front ++ run)

    drop_is : drop (index + n) Lv ≡ back
    drop_is = (λ i. drop (place i) (split i)) ∙ drop-append-add (front ++ run) back 0

    both : take (n + d) (run ++ rest) ≡ run ++ take d rest
    both = ap (λ (k : ℕ). take (k + d) (run ++ rest)) (sym long) ∙ take-append-add run rest d

-- one request, and then others
module _ (w : WorldValue) (site index : ℕ) (i : IsWorld w) (some : 0 < site) (within : site ≤ size w)
    (request : Request)
    (run rest : List (List ℕ)) (others : Asked)
    (is : (step (machine_of w site) (Local request))
    ≡ aim_step (insert_aim_at run index (machine_of w site)) (machine_of w site))
    (next : IsTyped site (index + length run) rest (moved (ask site request) w) others) where
  typed_on : IsTyped site index (run ++ rest) w
      (goes_on (reply_to (ask site request) w) (moved (ask site request) w) (length run) others)
  typed_on =
      ⊎_elim done not_done
      (subst (λ (s : Stepped). Shows m s index (take index (live_atoms m.doc)
      ++ (run ++ drop index (live_atoms m.doc)))) (sym is)
      (put_shows run index m (ruled w site i some within)))
    where
      m : Machine
      m = machine_of w site

      s : Stepped
      s = step m (Local request)

      v : WorldValue
      v = moved (ask site request) w

      done : (is_made s.reply ≡ true) × (index ≤ length (live_atoms m.doc))
          × (live_atoms s.machine.doc ≡ take index (live_atoms m.doc) ++ (run ++ drop index (live_atoms m.doc)))
          → IsTyped site index (run ++ rest) w (goes_on (reply_to (ask site request) w) v (length run) others)
      done p =
          subst (IsTyped site index (run ++ rest) w) (sym (made_on s.reply v (length run) others p.0))
          (behind_it (shown_at w site) (shown_at v site) (shown_at others.world site) run rest index (length run)
          others.done
          refl p.1 (asked_shows w site i some within request ∙ p.2) next)

      not_done : (is_made s.reply ≡ false) × (live_atoms s.machine.doc ≡ live_atoms m.doc)
          → IsTyped site index (run ++ rest) w (goes_on (reply_to (ask site request) w) v (length run) others)
      not_done p =
          subst (IsTyped site index (run ++ rest) w) (sym (refused_on s.reply v (length run) others p.0))
          (nothing_typed site index (run ++ rest) w (record { world = v; done = 0; refused = Some s.reply }) refl
          (asked_shows w site i some within request ∙ p.1))

pub inserts_are_typed : (w : WorldValue) (site index : ℕ) (atoms : List (List ℕ)) → IsWorld w → 0 < site → site ≤ size w
    → All IsAtom atoms → IsTyped site index atoms w (ask_all site (inserts index atoms) w)
inserts_are_typed w site index [] i some within each =
    nothing_typed site index [] w (record { world = w; done = 0; refused = None }) refl refl
inserts_are_typed w site index (atom ∷ atoms) i some within each =
    let request : Request = Insert index atom in
    let valid : IsAtom atom = All-head IsAtom atom atoms each in
    typed_on w site index i some within request (atom ∷ []) atoms
    (ask_all site (inserts (index + 1) atoms) (moved (ask site request) w)) refl
    (inserts_are_typed (moved (ask site request) w) site (index + 1) atoms
    (asked_world w site i some within request valid)
    some (asked_within w site i some within request) (All-tail IsAtom atom atoms each))

runs_are_typed : (w : WorldValue) (site index : ℕ) (runs : List (List (List ℕ))) → IsWorld w → 0 < site → site ≤ size w
    → All IsRun runs → IsTyped site index (flat_map (λ (run : List (List ℕ)). run) runs) w
    (ask_all site (pastes index runs) w)
runs_are_typed w site index [] i some within each =
    nothing_typed site index [] w (record { world = w; done = 0; refused = None }) refl refl
runs_are_typed w site index (run ∷ runs) i some within each =
    let request : Request = Paste index run in
    let valid : IsRun run = All-head IsRun run runs each in
    typed_on w site index i some within request run (flat_map (λ (r : List (List ℕ)). r) runs)
    (ask_all site (pastes (index + length run) runs) (moved (ask site request) w)) refl
    (runs_are_typed (moved (ask site request) w) site (index + length run) runs
    (asked_world w site i some within request valid) some (asked_within w site i some within request)
    (All-tail IsRun run runs each))

pub pastes_are_typed : (w : WorldValue) (site index : ℕ) (atoms : List (List ℕ)) → IsWorld w → 0 < site → site ≤ size w
    → All IsAtom atoms → IsTyped site index atoms w (ask_all site (pastes index (runs_of atoms)) w)
pastes_are_typed w site index atoms i some within each =
    subst (λ (all : List (List ℕ)). IsTyped site index all w (ask_all site (pastes index (runs_of atoms)) w))
    (atoms_of_runs atoms)
    (runs_are_typed w site index (runs_of atoms) i some within (runs_are_runs atoms each))

-- ---- deletes

nothing_cut : (site index : ℕ) (w : WorldValue) (a : Asked) → a.done ≡ 0 → shown_at a.world site ≡ shown_at w site
    → IsCut site index w a
nothing_cut site index w a none same =
    let L : List (List ℕ) = shown_at w site in
    let place : index ≡ index + a.done = omega (arith, none) in
    same ∙ sym (take-append-drop index L) ∙ ap (λ (n : ℕ). take index L ++ drop n L) place

further : (L Lv La : List (List ℕ)) (index d : ℕ) → suc index ≤ length L → Lv ≡ take index L ++ drop (suc index) L
    → La ≡ take index Lv ++ drop (index + d) Lv → La ≡ take index L ++ drop (index + (1 + d)) L
further L Lv La index d within first others = others ∙ (λ i. take_is i ++ drop_is i)
  where
    front : List (List ℕ)
    front = take index L

    size : length front ≡ index
    size = length-take-le index L (omega (arith, within))

    take_is : take index Lv ≡ front
    take_is = (λ i. take (sym size i) (first i)) ∙ take-append_seam front (drop (suc index) L)

    later : suc index + d ≡ index + (1 + d)
    later = omega arith

    drop_is : drop (index + d) Lv ≡ drop (index + (1 + d)) L
    drop_is =
        (λ i. drop (sym size i + d) (first i)) ∙ drop-append-add front (drop (suc index) L) d
        ∙ drop-drop d (suc index) L ∙ ap (λ (n : ℕ). drop n L) later

module _ (w : WorldValue) (site index : ℕ) (i : IsWorld w) (some : 0 < site) (within : site ≤ size w) (others : Asked)
    (next : IsCut site index (moved (ask site (Delete index)) w) others) where
  cut_on : IsCut site index w
      (goes_on (reply_to (ask site (Delete index)) w) (moved (ask site (Delete index)) w) 1 others)
  cut_on = ⊎_elim done not_done (cut_shows index m (ruled w site i some within))
    where
      m : Machine
      m = machine_of w site

      s : Stepped
      s = step m (Local (Delete index))

      v : WorldValue
      v = moved (ask site (Delete index)) w

      done : (is_made s.reply ≡ true) × (suc index ≤ length (live_atoms m.doc))
          × (live_atoms s.machine.doc ≡ take index (live_atoms m.doc) ++ drop (suc index) (live_atoms m.doc))
          → IsCut site index w (goes_on (reply_to (ask site (Delete index)) w) v 1 others)
      done p =
          subst (IsCut site index w) (sym (made_on s.reply v 1 others p.0))
          (further (shown_at w site) (shown_at v site) (shown_at others.world site) index others.done p.1
          (asked_shows w site i some within (Delete index) ∙ p.2) next)

      not_done : (is_made s.reply ≡ false) × (live_atoms s.machine.doc ≡ live_atoms m.doc)
          → IsCut site index w (goes_on (reply_to (ask site (Delete index)) w) v 1 others)
      not_done p =
          subst (IsCut site index w) (sym (refused_on s.reply v 1 others p.0))
          (nothing_cut site index w (record { world = v; done = 0; refused = Some s.reply }) refl
          (asked_shows w site i some within (Delete index) ∙ p.1))

pub deletes_cut : (w : WorldValue) (site index count : ℕ) → IsWorld w → 0 < site → site ≤ size w
    → IsCut site index w (ask_all site (deletes index count) w)
deletes_cut w site index zero i some within =
    nothing_cut site index w (record { world = w; done = 0; refused = None }) refl refl
deletes_cut w site index (suc count) i some within =
    cut_on w site index i some within (ask_all site (deletes index count) (moved (ask site (Delete index)) w))
    (deletes_cut (moved (ask site (Delete index)) w) site index count
    (asked_world w site i some within (Delete index) tt)
    some (asked_within w site i some within (Delete index)))
