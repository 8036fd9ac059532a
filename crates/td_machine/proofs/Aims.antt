-- What a request comes down to: an operation that may be made where no hold stands against it and there is room for
-- it.
use Rattle.std.proofs.Common.{◌≡◌, ◌<◌, ℕ, List, [], ◌∷◌, true, false, nat_lt, length}
use Rattle.std.proofs.Common.{Option, Some, None, refl, subst, arith}
use Rattle.std.proofs.lemmas.Bool.{ltb-false}
use Rattle.std.specs.Prelude.{slice_get}
use Rattle.std.specs.List.{find}
use Rattle.std.specs.Option.{is_some, option_map, ForSome}
use Rattle.td_base.specs.Value.{DotValue, AtomIdValue}
use Rattle.td_base.proofs.Lists.{In-filter}
use Rattle.td_path.specs.declared.slot.Slot.{Slot}
use Rattle.td_path.specs.declared.slot.Slot.TheVariants.{Root, At}
use Rattle.td_op.specs.declared.request.Request.{Request}
use Rattle.td_op.specs.declared.request.Request.TheVariants.{Insert, InsertAfter, Paste, PasteAfter, Delete}
use Rattle.td_op.specs.declared.request.Request.TheVariants.{DeleteAtom, Propose, ProposeAt, Cancel}
use Rattle.td_op.specs.declared.reply.Reply.TheVariants.{Position, Gone, NotOpen}
use Rattle.td_op.specs.Input.{IsRequest}
use Rattle.td_doc.specs.Document.{DocRow, is_live, row_id, live_rows, live_id_at, find_row}
use Rattle.td_doc.specs.Allocation.{anchor}
use Rattle.td_doc.specs.Answers.{IsRow, is_rooted, is_live_found, is_live_id}
use Rattle.td_doc.proofs.Rules.{in_found, alloc_rooted}
use Rattle.td_doc.proofs.Typing.{anchor_row}
use Rattle.td_machine.specs.Decision.{Ballot, is_on, is_open}
use Rattle.td_machine.specs.Machine.{Machine}
use Rattle.td_machine.specs.Request.{Aim, Refuse, Do, GiveUp, aim, insert_aim, insert_aim_at, insert_aim_after}
use Rattle.td_machine.specs.Request.{delete_aim, propose_aim, propose_aim_of, live_aim, cancel_aim, len}
use Rattle.td_base.proofs.Elements.{either, In-slice_get}
use Rattle.td_machine.specs.Parts.{RoomFor, IsOpenAt, MayMake}
use Rattle.std.proofs.lemmas.Option.{same_Some}

abbrev pub FitsAim : Machine → Aim → Type 0
FitsAim m (Refuse reply) = Unit {0}
FitsAim m (Do a) = a.held ≡ None → RoomFor a.room m → MayMake a.body m
FitsAim m (GiveUp p) = IsOpenAt p m

-- a run placed after a row or at the start goes to a slot that is there
placing : (run : List (List ℕ)) (o : Option AtomIdValue) (m : Machine) → 0 < length run
    → ForSome o (IsRow m.doc) → FitsAim m (insert_aim run o m)
placing run o m full row free room =
    record {
      after = o;
      allocated = refl;
      row = row;
      rooted = alloc_rooted m.doc o row;
      full = full;
      free = free;
      room = room;
    }

placed_at : (run : List (List ℕ)) (index : ℕ) (m : Machine) → 0 < length run → FitsAim m (insert_aim_at run index m)
placed_at run index m full =
    either (FitsAim m) (nat_lt (len m) index) (Refuse (Position (len m))) (insert_aim run (anchor m.doc index) m)
    (λ e. tt)
    (λ (e : nat_lt (len m) index ≡ false).
    placing run (anchor m.doc index) m full (anchor_row m.doc index (ltb-false (len m) index e)))

live_row : (o : Option DocRow) → is_live_found o ≡ true → is_some o ≡ true
live_row None h = h
live_row (Some r) h = refl

placed_after : (run : List (List ℕ)) (o : Option AtomIdValue) (m : Machine) → 0 < length run
    → FitsAim m (insert_aim_after run o m)
placed_after run None m full = placing run None m full (λ x e. absurd (nothing x e))
  where
    nothing : (x : AtomIdValue) → None ≡ Some x → ⊥
    nothing x e = cc
placed_after run (Some x) m full =
    either (FitsAim m) (is_live_id m.doc x) (insert_aim run (Some x) m) (Refuse (Gone x))
    (λ (e : is_live_id m.doc x ≡ true).
    placing run (Some x) m full (λ y k. subst (IsRow m.doc) (same_Some x y k) (live_row (find_row x m.doc) e)))
    (λ e. tt)

removing : (x : AtomIdValue) (m : Machine) → is_some (find_row x m.doc) ≡ true → FitsAim m (delete_aim x m)
removing x m row free room = record { row = row; free = free; room = room }

asking : (slot : Slot) (m : Machine) → is_rooted m.doc slot ≡ true → FitsAim m (propose_aim slot m)
asking slot m rooted free room = record { rooted = rooted; free = free; room = room }

-- a live atom at an index is a row
pub live_found : (rows : List DocRow) (index : ℕ) (x : AtomIdValue) → live_id_at rows index ≡ Some x
    → is_some (find_row x rows) ≡ true
live_found rows index x e = at (slice_get (live_rows rows) index) refl e
  where
    at : (o : Option DocRow) → slice_get (live_rows rows) index ≡ o → option_map row_id o ≡ Some x
        → is_some (find_row x rows) ≡ true
    at None k f = absurd cc
    at (Some r) k f =
        subst (λ (y : AtomIdValue). is_some (find_row y rows) ≡ true) (same_Some (row_id r) x f)
        (in_found r rows (In-filter is_live r rows (In-slice_get (live_rows rows) index r k)).0)

aimed_at : (aim : AtomIdValue → Machine → Aim) (index : ℕ) (m : Machine)
    → ((x : AtomIdValue) → is_some (find_row x m.doc) ≡ true → FitsAim m (aim x m))
    → FitsAim m (live_aim aim (live_id_at m.doc index) m)
aimed_at aim index m fits = at (live_id_at m.doc index) refl
  where
    at : (o : Option AtomIdValue) → live_id_at m.doc index ≡ o → FitsAim m (live_aim aim o m)
    at None e = tt
    at (Some x) e = fits x (live_found m.doc index x e)

asked : (slot : Slot) (m : Machine) → FitsAim m (propose_aim_of slot m)
asked Root m = asking Root m refl
asked (At x bit) m =
    either (FitsAim m) (is_rooted m.doc (At x bit)) (propose_aim (At x bit) m) (Refuse (Gone x)) (asking (At x bit) m)
    (λ e. tt)

given_up : (p : DotValue) (o : Option Ballot) (m : Machine) → find (is_on p) m.ballots ≡ o → FitsAim m (cancel_aim p o)
given_up p None m f = tt
given_up p (Some b) m f =
    either (FitsAim m) (is_open b) (GiveUp p) (Refuse (NotOpen p)) (λ e. record { ballot = b; found = f; open_ = e })
    (λ e. tt)

pub aimed : (request : Request) (m : Machine) → IsRequest request → FitsAim m (aim request m)
aimed (Insert index atom) m v = placed_at (atom ∷ []) index m (omega arith)
aimed (InsertAfter o atom) m v = placed_after (atom ∷ []) o m (omega arith)
aimed (Paste index run) m v = placed_at run index m v.some
aimed (PasteAfter o run) m v = placed_after run o m v.1.some
aimed (Delete index) m v = aimed_at delete_aim index m (λ x. removing x m)
aimed (DeleteAtom x) m v =
    either (FitsAim m) (is_live_id m.doc x) (delete_aim x m) (Refuse (Gone x))
    (λ (e : is_live_id m.doc x ≡ true). removing x m (live_row (find_row x m.doc) e)) (λ e. tt)
aimed (Propose slot) m v = asked slot m
aimed (ProposeAt index bit) m v =
    aimed_at (λ (x : AtomIdValue). propose_aim (At x bit)) index m (λ x. asking (At x bit) m)
aimed (Cancel p) m v = given_up p (find (is_on p) m.ballots) m refl
