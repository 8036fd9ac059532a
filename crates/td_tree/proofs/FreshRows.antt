-- An edit adds rows of its own dot alone.
use Rattle.std.proofs.Common.{◌≡◌, ◌≢◌, List, [], ◌∷◌, Bool, true, false, cond, map, not, Option}
use Rattle.std.proofs.Common.{Some, None, refl, sym, ap, ◌∙◌, subst, ⊎_elim}
use Rattle.td_base.specs.Value.{DotValue, AtomIdValue}
use Rattle.td_base.specs.Lists.{In}
use Rattle.td_base.specs.RunAtoms.{NamedAtom}
use Rattle.td_base.proofs.Lists.{In-map, map_In, In-filter, all_in, all_of}
use Rattle.td_path.specs.SlotPaths.{slot_contains}
use Rattle.td_path.specs.declared.slot.Slot.{Slot}
use Rattle.td_path.specs.declared.slot_path.SlotPath.{SlotPath}
use Rattle.td_doc.specs.Document.{DocRow, row_id, has_id, is_live, live_rows}
use Rattle.td_doc.specs.Slots.{slot_path, rows_below}
use Rattle.td_doc.specs.Array.{named, array}
use Rattle.td_doc.specs.Answers.{IsFresh}
use Rattle.td_doc.specs.Deletion.{add_dot, delete}
use Rattle.td_doc.specs.Flatten.{rows_beside, flatten_below, flatten}
use Rattle.td_doc.proofs.PutRows.{in_puts}
use Rattle.td_doc.proofs.ArrayRows.{array_names}

-- a delete adds none

same_row : (x : AtomIdValue) (by : DotValue) (r : DocRow) (b : Bool)
    → row_id (cond b (record { path = r.path; atom = r.atom; deletes = add_dot by r.deletes }) r) ≡ row_id r
same_row x by r true = refl
same_row x by r false = refl

pub fresh_deleted : (x : AtomIdValue) (by d : DotValue) (rows : List DocRow) → IsFresh rows d
    → IsFresh (delete x by rows) d
fresh_deleted x by d [] fresh = tt
fresh_deleted x by d (r ∷ rows) fresh = (
  (λ e. fresh.0
      (sym (ap (λ (y : AtomIdValue). y.dot) (same_row x by r (has_id x r))) ∙ e)),
  fresh_deleted x by d rows fresh.1,
)

-- and a flatten none

flat_at : (slot : SlotPath) (d : DotValue) (rows : List DocRow) → IsFresh rows d
    → IsFresh (flatten_below (Some slot) rows) d
flat_at slot d rows fresh =
    all_of (λ (r : DocRow). (row_id r).dot ≢ d) (flatten_below (Some slot) rows)
    (λ s i.
    ⊎_elim
    (λ (k : In s (array slot (map named (live_rows (rows_below rows (Some slot)))))).
    let names : In (named s) (map named (live_rows (rows_below rows (Some slot)))) =
    subst (In (named s)) (array_names slot (map named (live_rows (rows_below rows (Some slot)))))
    (In-map named s (array slot (map named (live_rows (rows_below rows (Some slot))))) k) in
    let r = map_In named (named s) (live_rows (rows_below rows (Some slot))) names in
    let below = In-filter is_live r.0 (rows_below rows (Some slot)) r.1 in
    let there = In-filter (λ (q : DocRow). slot_contains slot q.path) r.0 rows below.0 in
    λ (e : (row_id s).dot ≡ d). all_in (λ (q : DocRow). (row_id q).dot ≢ d) rows fresh r.0 there.0
    (sym (ap (λ (a : NamedAtom). a.id.dot) r.2) ∙ e))
    (λ (k : In s (rows_beside slot rows)). all_in (λ (q : DocRow). (row_id q).dot ≢ d) rows fresh s
    (In-filter (λ (q : DocRow). not (slot_contains slot q.path)) s rows k).0)
    (in_puts (array slot (map named (live_rows (rows_below rows (Some slot))))) (rows_beside slot rows) s i))

flat_below : (o : Option SlotPath) (d : DotValue) (rows : List DocRow) → IsFresh rows d
    → IsFresh (flatten_below o rows) d
flat_below None d rows fresh = fresh
flat_below (Some slot) d rows fresh = flat_at slot d rows fresh

pub fresh_flattened : (slot : Slot) (d : DotValue) (rows : List DocRow) → IsFresh rows d → IsFresh (flatten slot rows) d
fresh_flattened slot d rows fresh = flat_below (slot_path rows slot) d rows fresh
