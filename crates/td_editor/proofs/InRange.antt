-- The index of a change that is told of a step is in range of the atoms shown before.
use Rattle.std.proofs.Common.{◌≡◌, ◌<◌, ◌≤◌, ◌+◌, ℕ, List, [], ◌∷◌, ◌++◌, Bool, true, false, if◌then◌else◌, map}
use Rattle.std.proofs.Common.{length, Option, Some, None, refl, sym, ap, ◌∙◌, subst, arith, append-nil, append_assoc}
use Rattle.std.specs.Option.{option_and_then, option_map, is_some}
use Rattle.std.proofs.lemmas.List.Elements.{filter-append}
use Rattle.std.proofs.Common.{length-append}
use Rattle.td_base.specs.Value.{DotValue, AtomIdValue}
use Rattle.td_base.specs.RunAtoms.{NamedAtom, run_atoms}
use Rattle.td_path.specs.declared.slot.Slot.{Slot}
use Rattle.td_path.specs.declared.slot.Slot.TheVariants.{Root, At}
use Rattle.td_path.specs.declared.slot_path.SlotPath.TheVariants.{Below}
use Rattle.td_op.specs.declared.body.Body.{Body}
use Rattle.td_op.specs.declared.body.Body.TheVariants.{Insert, Delete, Propose, Commit, Abort}
use Rattle.td_op.specs.declared.change.Change.{Change}
use Rattle.td_op.specs.declared.change.Change.TheVariants.{Cut}
use Rattle.td_op.specs.declared.input.Input.{Input}
use Rattle.td_op.specs.declared.input.Input.TheVariants.{Local, Take}
use Rattle.td_op.specs.declared.message.Message.{Message}
use Rattle.td_op.specs.declared.message.Message.TheVariants.{Op as AnOp}
use Rattle.td_op.specs.declared.request.Request.{Request}
use Rattle.td_op.specs.Change.{CanChange}
use Rattle.td_op.specs.Input.{IsInput}
use Rattle.td_op.specs.Op.{OpValue}
use Rattle.td_doc.specs.Array.{named}
use Rattle.td_doc.specs.Document.{DocRow, IsDocument, row_id, has_id, is_live, live_rows, live_atoms, find_row}
use Rattle.td_doc.specs.Insertion.{insert_run, put_array_below}
use Rattle.td_doc.specs.Stretches.{IsPutTogether}
use Rattle.td_doc.specs.Answers.{IsFresh, is_live_id, is_rooted, live_before}
use Rattle.td_doc.proofs.LiveIndex.{LiveRow, live_row_of}
use Rattle.td_doc.proofs.Placement.{self_id}
use Rattle.td_doc.proofs.Together.{run_together}
use Rattle.td_doc.proofs.Typing.{count_of_atoms}
use Rattle.td_machine.specs.Decision.{new_ballot, outcome, counted, revise}
use Rattle.td_machine.specs.History.{IsReached}
use Rattle.td_machine.specs.Log.{proposed}
use Rattle.td_machine.specs.Machine.{Machine, made, undecided, next_dot, next_op}
use Rattle.td_machine.specs.Making.{done as after_op, make, decide, hold, open_ballot}
use Rattle.td_machine.specs.Request.{Aim, Do, aim, perform}
use Rattle.td_machine.specs.Shown.{put_at_index, change_by, op_over, change_between}
use Rattle.td_machine.specs.Step.{step}
use Rattle.td_machine.specs.Taking.{Stepped, answer, vote_on, take_as, keep_waiting, forget}
use Rattle.td_machine.proofs.Aims.{FitsAim, aimed}
use Rattle.td_machine.proofs.Changes.{none_over, one_over, two_over}
use Rattle.td_machine.proofs.Documents.{documents, fresh_next}
use Rattle.td_machine.proofs.Induction.{IsBuiltSomewhere, built_of}
use Rattle.td_machine.specs.Parts.{MayMake, IsBuilt}
use Rattle.td_machine.proofs.Parts.{IsDone, Own, Other}
use Rattle.td_machine.proofs.StepKinds.{by_kinds}
use Rattle.td_machine.proofs.Turns.{comes_next}
use Rattle.td_machine.proofs.Walk.{offered}
use Rattle.td_base.specs.declared.dot.TheConstants.{MAX_SEQ}
use Rattle.std.proofs.lemmas.Bool.{ltb-false}

-- ---- how many live rows stand before one

abbrev one : Bool → ℕ
one b = if b then 1 else 0

live_more : (r : DocRow) (rows : List DocRow) → length (live_rows (r ∷ rows))
    ≡ one (is_live r) + length (live_rows rows)
live_more r rows = at (is_live r)
  where
    at : (b : Bool) → length (if b then r ∷ live_rows rows else live_rows rows) ≡ one b + length (live_rows rows)
    at true = omega arith
    at false = omega arith

-- at most all of them
before_few : (x : AtomIdValue) (rows : List DocRow) → live_before x rows ≤ length (live_rows rows)
before_few x [] = omega arith
before_few x (r ∷ rows) =
    let more : length (live_rows (r ∷ rows)) ≡ one (is_live r) + length (live_rows rows) = live_more r rows in
    at (has_id x r) more (before_few x rows)
  where
    at : (b : Bool) → length (live_rows (r ∷ rows)) ≡ one (is_live r) + length (live_rows rows)
        → live_before x rows ≤ length (live_rows rows)
        → (if b then 0 else one (is_live r) + live_before x rows) ≤ length (live_rows (r ∷ rows))
    at true more h = omega (arith, more)
    at false more h = omega (arith, more, h)

-- at most those in front of a row of that name
before_front : (x : AtomIdValue) (front : List DocRow) (n : DocRow) (back : List DocRow) → has_id x n ≡ true
    → live_before x (front ++ n ∷ back) ≤ length (live_rows front)
before_front x [] n back e = at (has_id x n) e
  where
    at : (b : Bool) → b ≡ true → (if b then 0 else one (is_live n) + live_before x back) ≤ 0
    at true f = omega arith
    at false f = absurd cc
before_front x (r ∷ front) n back e =
    let more : length (live_rows (r ∷ front)) ≡ one (is_live r) + length (live_rows front) = live_more r front in
    at (has_id x r) more (before_front x front n back e)
  where
    at : (b : Bool) → length (live_rows (r ∷ front)) ≡ one (is_live r) + length (live_rows front)
        → live_before x (front ++ n ∷ back) ≤ length (live_rows front)
        → (if b then 0 else one (is_live r) + live_before x (front ++ n ∷ back)) ≤ length (live_rows (r ∷ front))
    at true more h = omega (arith, more)
    at false more h = omega (arith, more, h)

live_both : (front back : List DocRow) → length (live_rows (front ++ back))
    ≡ length (live_rows front) + length (live_rows back)
live_both front back =
    ap (λ (l : List DocRow). length l) (filter-append is_live front back)
    ∙ length-append (live_rows front) (live_rows back)

-- ---- what is put

abbrev first_of : DotValue → AtomIdValue
first_of dot = record { dot = dot; offset = 0 }

heads : (a b : NamedAtom) (more rest : List NamedAtom) → a ∷ more ≡ b ∷ rest → a ≡ b
heads a b more rest e = cc

module _ (dot : DotValue) (rows front back : List DocRow) (was : rows ≡ front ++ back) where
  before_new : (run : List (List ℕ)) (new after : List DocRow) → map named new ≡ run_atoms dot run
      → after ≡ front ++ new ++ back → live_before (first_of dot) after ≤ length (live_rows rows)
  before_new run [] after e is =
      subst (λ (l : List DocRow). live_before (first_of dot) l ≤ length (live_rows rows))
      (was ∙ sym (ap (λ (l : List DocRow). l ++ back) (append-nil front)) ∙ sym is)
      (before_few (first_of dot) rows)
  before_new [] (n ∷ new) after e is = absurd cc
  before_new (atom ∷ run) (n ∷ new) after e is =
      let id : row_id n ≡ first_of dot = ap (λ (a : NamedAtom). a.id) (heads _ _ _ _ e) in
      let first : has_id (first_of dot) n ≡ true = subst (λ (x : AtomIdValue). has_id x n ≡ true) id (self_id n) in
      let here : live_before (first_of dot) (front ++ n ∷ (new ++ back)) ≤ length (live_rows front) =
      before_front (first_of dot) front n (new ++ back) first in
      let both : length (live_rows (front ++ back)) ≡ length (live_rows front) + length (live_rows back) =
      live_both front back in
      let all : length (live_rows rows) ≡ length (live_rows (front ++ back)) =
      ap (λ (l : List DocRow). length (live_rows l)) was in
      subst (λ (l : List DocRow). live_before (first_of dot) l ≤ length (live_rows rows))
      (sym (is ∙ append_assoc front (n ∷ new) back)) (omega (arith, here, both, all))

no_slot : (rows : List DocRow) (slot : Slot) → is_rooted rows slot ≡ false → (dot : DotValue) (run : List (List ℕ))
    → insert_run slot dot run rows ≡ rows
no_slot rows Root e dot run = absurd cc
no_slot rows (At x bit) e dot run = at (find_row x rows) e
  where
    at : (o : Option DocRow) → is_some o ≡ false
        → put_array_below (option_map (λ (r : DocRow). Below r.path bit) o) (run_atoms dot run) rows ≡ rows
    at None f = refl
    at (Some r) f = absurd cc

put_within : (rows : List DocRow) (slot : Slot) (dot : DotValue) (run : List (List ℕ)) → IsDocument rows
    → IsFresh rows dot → live_before (first_of dot) (insert_run slot dot run rows) ≤ length (live_rows rows)
put_within rows slot dot run d fresh = at (is_rooted rows slot) refl
  where
    at : (b : Bool) → is_rooted rows slot ≡ b
        → live_before (first_of dot) (insert_run slot dot run rows) ≤ length (live_rows rows)
    at true e =
        let t : IsPutTogether (run_atoms dot run) rows (insert_run slot dot run rows) =
        run_together rows slot dot run d fresh e in
        before_new dot rows t.front t.back t.was run t.is.new (insert_run slot dot run rows) t.is.atoms t.is.is
    at false e =
        subst (λ (l : List DocRow). live_before (first_of dot) l ≤ length (live_rows rows))
        (sym (no_slot rows slot e dot run)) (before_few (first_of dot) rows)

cut_within : (rows : List DocRow) (x : AtomIdValue) → is_live_id rows x ≡ true
    → live_before x rows < length (live_rows rows)
cut_within rows x e =
    let s : LiveRow x rows = live_row_of x rows e in
    let named : has_id x s.row ≡ true = subst (λ (y : AtomIdValue). has_id y s.row ≡ true) s.named (self_id s.row) in
    let here : live_before x (s.front ++ s.row ∷ s.back) ≤ length (live_rows s.front) =
    before_front x s.front s.row s.back named in
    let both : length (live_rows (s.front ++ s.row ∷ s.back))
    ≡ length (live_rows s.front) + length (live_rows (s.row ∷ s.back)) =
    live_both s.front (s.row ∷ s.back) in
    let more : length (live_rows (s.row ∷ s.back))
    ≡ one (is_live s.row) + length (live_rows s.back) = live_more s.row s.back in
    let live : one (is_live s.row) ≡ 1 = ap one s.live in
    subst (λ (l : List DocRow). live_before x l < length (live_rows l)) (sym s.is)
    (omega (arith, here, both, more, live))

-- ---- what an operation does

put_fits : (index : ℕ) (run atoms : List (List ℕ)) → index ≤ length atoms → CanChange (put_at_index index run) atoms
put_fits index [] atoms h = h
put_fits index (atom ∷ []) atoms h = h
put_fits index (atom ∷ next ∷ run) atoms h = h

same_some : (a b : Change) → Some a ≡ Some b → a ≡ b
same_some a b e = cc

-- an insert that is new to the rows
abbrev FreshOf : List DocRow → Option OpValue → Type 0
FreshOf rows None = Unit {0}
FreshOf rows (Some x) = (slot : Slot) (run : List (List ℕ)) → x.body ≡ Insert slot run → IsFresh rows x.dot

op_fits : (rows : List DocRow) → IsDocument rows → (dot : DotValue) (body : Body)
    → ((slot : Slot) (run : List (List ℕ)) → body ≡ Insert slot run → IsFresh rows dot)
    → (change : Change) → change_by dot body rows ≡ Some change → CanChange change (live_atoms rows)
op_fits rows d dot (Insert slot run) fresh change e =
    let within : live_before (first_of dot) (insert_run slot dot run rows) ≤ length (live_rows rows) =
    put_within rows slot dot run d (fresh slot run refl) in
    let count : length (live_atoms rows) ≡ length (live_rows rows) = count_of_atoms rows in
    subst (λ (c : Change). CanChange c (live_atoms rows)) (same_some _ change e)
    (put_fits (live_before (first_of dot) (insert_run slot dot run rows)) run (live_atoms rows)
    (omega (arith, within, count)))
op_fits rows d dot (Delete target) fresh change e = at (is_live_id rows target) refl e
  where
    at : (b : Bool) → is_live_id rows target ≡ b → (if b then Some (Cut (live_before target rows)) else None)
        ≡ Some change
        → CanChange change (live_atoms rows)
    at true f k =
        let within : live_before target rows < length (live_rows rows) = cut_within rows target f in
        let count : length (live_atoms rows) ≡ length (live_rows rows) = count_of_atoms rows in
        subst (λ (c : Change). CanChange c (live_atoms rows)) (same_some _ change k) (omega (arith, within, count))
    at false f k = absurd cc
op_fits rows d dot (Propose slot) fresh change e = absurd cc
op_fits rows d dot (Commit p) fresh change e = absurd cc
op_fits rows d dot (Abort p) fresh change e = absurd cc

-- ---- a step

module _ {Came : Message → Type 0} {site size : ℕ} (m : Machine) (b : IsBuilt Came site size m) where
  abbrev Fresh : Machine → Type 0
  Fresh n = FreshOf m.doc (op_over (length m.log) n.log)

  fresh_at : (o : Option OpValue) (n : Machine) → op_over (length m.log) n.log ≡ o → FreshOf m.doc o → Fresh n
  fresh_at o n e h = subst (FreshOf m.doc) (sym e) h

  still : (n : Machine) → n.log ≡ m.log → Fresh n
  still n e = fresh_at None n (ap (op_over (length m.log)) e ∙ none_over (length m.log) m.log (omega arith)) tt

  once : (x : OpValue) → FreshOf m.doc (Some x) → (n : Machine) → n.log ≡ x ∷ m.log → Fresh n
  once x fresh n e = fresh_at (Some x) n (ap (op_over (length m.log)) e ∙ one_over x m.log) fresh

  twice : (x y : OpValue) → FreshOf m.doc (Some x) → (n : Machine) → n.log ≡ y ∷ x ∷ m.log → Fresh n
  twice x y fresh n e = fresh_at (Some x) n (ap (op_over (length m.log)) e ∙ two_over y x m.log) fresh

  done_fresh : (x : OpValue) → IsDone Came m x → FreshOf m.doc (Some x)
  done_fresh x done slot run e = fresh_next x m (comes_next m b x done) (documents m b)

  decided : (p : DotValue) (o : Option Bool) (n : Machine) → n.log ≡ m.log → Fresh (decide p o n)
  decided p None n e = still n e
  decided p (Some true) n e =
      once (next_op n (Commit p)) (λ slot run k. absurd (no_commit p slot run k)) (make (Commit p) n)
      (ap (λ (log : List OpValue). next_op n (Commit p) ∷ log) e)
    where
      no_commit : (p : DotValue) (slot : Slot) (run : List (List ℕ)) → Commit p ≡ Insert slot run → ⊥
      no_commit p slot run k = cc
  decided p (Some false) n e =
      once (next_op n (Abort p)) (λ slot run k. absurd (no_abort p slot run k)) (make (Abort p) n)
      (ap (λ (log : List OpValue). next_op n (Abort p) ∷ log) e)
    where
      no_abort : (p : DotValue) (slot : Slot) (run : List (List ℕ)) → Abort p ≡ Insert slot run → ⊥
      no_abort p slot run k = cc

  proposed_decided : (x : OpValue) → FreshOf m.doc (Some x) → (p : DotValue) (o : Option Bool) (n : Machine)
      → n.log ≡ x ∷ m.log → Fresh (decide p o n)
  proposed_decided x fresh p None n e = once x fresh n e
  proposed_decided x fresh p (Some true) n e =
      twice x (next_op n (Commit p)) fresh (make (Commit p) n)
      (ap (λ (log : List OpValue). next_op n (Commit p) ∷ log) e)
  proposed_decided x fresh p (Some false) n e =
      twice x (next_op n (Abort p)) fresh (make (Abort p) n)
      (ap (λ (log : List OpValue). next_op n (Abort p) ∷ log) e)

  performed : (body : Body) → MayMake body m → Fresh (perform body m)
  performed (Insert slot run) may =
      once (next_op m (Insert slot run)) (done_fresh (next_op m (Insert slot run)) (Own (Insert slot run) may))
      (make (Insert slot run) m) refl
  performed (Delete x) may =
      once (next_op m (Delete x)) (done_fresh (next_op m (Delete x)) (Own (Delete x) may)) (make (Delete x) m) refl
  performed (Propose slot) may =
      proposed_decided (next_op m (Propose slot)) (done_fresh (next_op m (Propose slot)) (Own (Propose slot) may))
      (next_dot m) (outcome m.size true (new_ballot (next_dot m)))
      (open_ballot (next_dot m) (hold (next_dot m) slot (make (Propose slot) m))) refl
  performed (Commit p) may =
      once (next_op m (Commit p)) (done_fresh (next_op m (Commit p)) (Own (Commit p) may)) (make (Commit p) m) refl
  performed (Abort p) may =
      once (next_op m (Abort p)) (done_fresh (next_op m (Abort p)) (Own (Abort p) may)) (make (Abort p) m) refl

  took : (o : Option Slot) (x : OpValue) (k : Machine) → k.log ≡ m.log → IsDone Came m x → Fresh (take_as o x k)
  took None x k e done =
      once x (done_fresh x done) (take_as None x k) (ap (λ (log : List OpValue). x ∷ log) e)
  took (Some slot) x k e done = at (vote_on x slot k)
    where
      at : (says : Bool) → Fresh (answer x.dot slot says (after_op x k))
      at true =
          once x (done_fresh x done) (answer x.dot slot true (after_op x k)) (ap (λ (log : List OpValue). x ∷ log) e)
      at false =
          once x (done_fresh x done) (answer x.dot slot false (after_op x k)) (ap (λ (log : List OpValue). x ∷ log) e)

module _ {Came : Message → Type 0} {site size : ℕ} (m : Machine) (b : IsBuilt Came site size m) where
  step_fresh : (input : Input) → IsInput input → ((message : Message) → input ≡ Take message → Came message)
      → Fresh m b (step m input).machine
  step_fresh input valid came =
      by_kinds m (λ (s : Stepped). Fresh m b s.machine) input
      (record {
        stays = λ reply. still m b m refl;
        makes = λ request a e is free room.
            performed m b a.body
            (fits request (Do a) e is free (ltb-false MAX_SEQ (made m + undecided m + a.room) room));
        cancels = λ request p e is. decided m b p (Some false) m refl;
        delays = λ x e foreign late. still m b (keep_waiting x m) refl;
        takes = λ x e foreign ready fit.
            took m b (proposed x.body) x m refl
            (Other x
            (record {
              offered = record {
                valid = subst (λ (i : Input). IsInput i) e valid;
                came = came (AnOp x) e;
                other = foreign.other;
                sized = foreign.sized;
              };
              ready = ready;
              fit = fit;
            }));
        counts = λ v c e found new within own.
            decided m b v.proposal (outcome m.size v.yes (counted v.voter v.yes c))
            (record m { ballots = revise v.proposal (counted v.voter v.yes) m.ballots }) refl;
        drops = λ x why i ready. still m b (forget x m) refl;
        resumes = λ x i ready fit.
            took m b (proposed x.body) x (forget x m) refl
            (Other x (record { offered = offered m b x i; ready = ready; fit = fit }));
      })
    where
      fits : (request : Request) (a : Aim) → input ≡ Local request → aim request m ≡ a → FitsAim m a
      fits request a e is = subst (FitsAim m) is (aimed request m (subst (λ (i : Input). IsInput i) e valid))

pub in_range : (m : Machine) (input : Input) (change : Change) → IsReached m → IsInput input
    → change_between m (step m input).machine ≡ Some change → CanChange change (live_atoms m.doc)
in_range m input change r valid =
    let s : IsBuiltSomewhere m = built_of m r in
    at (op_over (length m.log) (step m input).machine.log)
    (step_fresh m s.built input valid (λ message e. tt))
  where
    at : (o : Option OpValue) → FreshOf m.doc o
        → option_and_then (λ (x : OpValue). change_by x.dot x.body m.doc) o ≡ Some change
        → CanChange change (live_atoms m.doc)
    at None fresh e = absurd cc
    at (Some x) fresh e = op_fits m.doc (documents m (built_of m r).built).0 x.dot x.body fresh change e
