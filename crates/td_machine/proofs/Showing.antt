-- An operation changes the atoms shown as it is told.
use Rattle.std.proofs.Common.{◌≡◌, ℕ, List, [], ◌∷◌, Bool, true, false, map, take, drop, append_assoc}
use Rattle.std.proofs.Common.{Option, Some, None, refl, sym, ap, ◌∙◌, if◌then◌else◌}
use Rattle.std.specs.Prelude.{IsTrue}
use Rattle.std.specs.List.{insert_slice}
use Rattle.td_base.specs.Value.{DotValue, AtomIdValue}
use Rattle.td_path.specs.declared.slot.Slot.{Slot}
use Rattle.td_op.specs.declared.body.Body.{Body}
use Rattle.td_op.specs.declared.body.Body.TheVariants.{Insert, Delete, Propose, Commit, Abort}
use Rattle.td_op.specs.declared.change.Change.TheVariants.{Cut}
use Rattle.td_op.specs.Change.{changed}
use Rattle.td_op.specs.Op.{OpValue}
use Rattle.td_doc.specs.Document.{DocRow, IsDocument, live_atoms}
use Rattle.td_doc.specs.Deletion.{delete}
use Rattle.td_doc.specs.Answers.{IsFresh, is_live_id, is_rooted, live_before}
use Rattle.td_doc.proofs.LiveIndex.{run_put, delete_cuts, delete_again, flatten_shows}
use Rattle.td_machine.specs.Log.{proposed_slot}
use Rattle.td_machine.specs.Making.{effect, flatten_found}
use Rattle.td_machine.specs.Shown.{put_at_index, change_by, changed_by}

put_as_slice : (index : ℕ) (run atoms : List (List ℕ)) → changed (put_at_index index run) atoms
    ≡ insert_slice atoms index run
put_as_slice index [] atoms = refl
put_as_slice index (atom ∷ []) atoms = sym (append_assoc (take index atoms) (atom ∷ []) (drop index atoms))
put_as_slice index (atom ∷ next ∷ run) atoms = refl

shown_after_delete : (dot : DotValue) (target : AtomIdValue) (rows : List DocRow) → IsDocument rows
    → live_atoms (delete target dot rows) ≡ changed_by (change_by dot (Delete target) rows) (live_atoms rows)
shown_after_delete dot target rows d = at (is_live_id rows target) refl
  where
    at : (b : Bool) → is_live_id rows target ≡ b
        → live_atoms (delete target dot rows)
        ≡ changed_by (if b then Some (Cut (live_before target rows)) else None) (live_atoms rows)
    at true e = delete_cuts rows target dot d e
    at false e = ap (map (λ (r : DocRow). r.atom)) (delete_again rows target dot d e)

pub shown_after_flatten : (slot : Option Slot) (rows : List DocRow) → IsDocument rows
    → live_atoms (flatten_found slot rows) ≡ live_atoms rows
shown_after_flatten None rows d = refl
shown_after_flatten (Some slot) rows d = flatten_shows rows slot d

pub shown_after : (log : List OpValue) (dot : DotValue) (body : Body) (rows : List DocRow) → IsDocument rows
    → ((slot : Slot) (run : List (List ℕ)) → body ≡ Insert slot run → IsFresh rows dot × IsTrue (is_rooted rows slot))
    → live_atoms (effect log dot body rows) ≡ changed_by (change_by dot body rows) (live_atoms rows)
shown_after log dot (Insert slot run) rows d fits =
    let fit = fits slot run refl in
    run_put rows slot dot run d fit.0 fit.1 ∙ sym (put_as_slice _ run (live_atoms rows))
shown_after log dot (Delete target) rows d fits = shown_after_delete dot target rows d
shown_after log dot (Propose slot) rows d fits = refl
shown_after log dot (Commit p) rows d fits = shown_after_flatten (proposed_slot p log) rows d
shown_after log dot (Abort p) rows d fits = refl
