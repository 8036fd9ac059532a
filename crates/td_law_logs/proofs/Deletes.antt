-- A row is a tombstone exactly where the log has a delete of it.
use Rattle.std.proofs.Common.{◌≡◌, ℕ, List, [], ◌∷◌, length, Bool, true, false, cond, map, Option, Some}
use Rattle.std.proofs.Common.{None, refl, sym, ap, ◌∙◌, subst, inl, inr, ⊎_elim, true≢false}
use Rattle.std.specs.Option.{is_some}
use Rattle.td_base.specs.Value.{DotValue, AtomIdValue}
use Rattle.td_base.specs.Lists.{In}
use Rattle.td_base.proofs.Lists.{map_In, In-map, In-filter}
use Rattle.td_path.specs.SlotPaths.{slot_contains}
use Rattle.td_path.specs.declared.slot.Slot.{Slot}
use Rattle.td_path.specs.declared.slot_path.SlotPath.{SlotPath}
use Rattle.td_op.specs.declared.body.Body.{Body}
use Rattle.td_op.specs.declared.body.Body.TheVariants.{Insert, Delete, Propose, Commit, Abort}
use Rattle.td_op.specs.Op.{OpValue}
use Rattle.td_doc.specs.Document.{DocRow, row_id, has_id, is_live, live_rows, find_row, is_empty_list}
use Rattle.td_doc.specs.Array.{named, array}
use Rattle.td_base.specs.RunAtoms.{NamedAtom, run_atoms}
use Rattle.td_doc.specs.Insertion.{put_array_below}
use Rattle.td_doc.specs.Deletion.{mark_deleted, add_dot}
use Rattle.td_doc.specs.Flatten.{rows_beside, flatten_below}
use Rattle.td_doc.specs.Slots.{slot_path, rows_below}
use Rattle.td_doc.proofs.PutRows.{in_puts}
use Rattle.td_doc.proofs.ArrayRows.{array_names, array_bare}
use Rattle.td_doc.proofs.Deleted.{some_dot, delete_marks}
use Rattle.td_doc.proofs.Placement.{has_id-true}
use Rattle.td_doc.proofs.Flattened.{beside}
use Rattle.td_doc.proofs.Rules.{found}
use Rattle.td_machine.specs.Counts.{IsInTurn}
use Rattle.td_machine.specs.Log.{proposed_slot}
use Rattle.td_machine.specs.Making.{effect, flatten_found}
use Rattle.td_machine.proofs.Family.{not_older}
use Rattle.td_machine.specs.Replay.{doc_of}
use Rattle.td_law_logs.proofs.Passes.{same_id_from}
use Rattle.td_law_logs.proofs.LogRows.{rows_born, run_places}
use Rattle.td_law_logs.proofs.Fitting.{FitsBody, Fits}
use Rattle.td_order.specs.Show.{deletes}
use Rattle.td_base.proofs.Equals.{same_id_true}

-- what a row was before an operation, and whether it lives
pub data LiveCase (dot : DotValue) (body : Body) (rows : List DocRow) (r : DocRow) : Type 0 where
  old_row : (q : DocRow) → In q rows → row_id r ≡ row_id q → is_live r ≡ is_live q → LiveCase dot body rows r
  new_row : (slot : Slot) (run : List (List ℕ)) → body ≡ Insert slot run → In (named r) (run_atoms dot run)
      → is_live r ≡ true → LiveCase dot body rows r
  marked_row : (target : AtomIdValue) → body ≡ Delete target → (q : DocRow) → In q rows → row_id r ≡ row_id q
      → row_id q ≡ target → is_live r ≡ false → LiveCase dot body rows r

bare_live : (r : DocRow) → r.deletes ≡ [] → is_live r ≡ true
bare_live r e = ap (λ (d : List DotValue). is_empty_list d) e

insert_case : (slot : Slot) (dot : DotValue) (run : List (List ℕ)) (rows : List DocRow) (r : DocRow)
    (o : Option SlotPath) → In r (put_array_below o (run_atoms dot run) rows) → LiveCase dot (Insert slot run) rows r
insert_case slot dot run rows r None i = old_row r i refl refl
insert_case slot dot run rows r (Some sp) i =
    ⊎_elim
    (λ (k : In r (array sp (run_atoms dot run))).
    new_row slot run refl
    (subst (In (named r)) (array_names sp (run_atoms dot run)) (In-map named r (array sp (run_atoms dot run)) k))
    (bare_live r (array_bare (length (run_atoms dot run)) sp (run_atoms dot run) r k)))
    (λ (k : In r rows). old_row r k refl refl)
    (in_puts (array sp (run_atoms dot run)) rows r i)

abbrev live_in : SlotPath → List DocRow → List NamedAtom
live_in sp rows = map named (live_rows (rows_below rows (Some sp)))

flat_case : (p : DotValue) (dot : DotValue) (rows : List DocRow) (r : DocRow) (o : Option SlotPath)
    → In r (flatten_below o rows) → LiveCase dot (Commit p) rows r
flat_case p dot rows r None i = old_row r i refl refl
flat_case p dot rows r (Some sp) i =
    ⊎_elim
    (λ (k : In r (array sp (live_in sp rows))).
    let q = map_In named (named r) (live_rows (rows_below rows (Some sp)))
    (subst (In (named r)) (array_names sp (live_in sp rows)) (In-map named r (array sp (live_in sp rows)) k)) in
    let l = In-filter is_live q.0 (rows_below rows (Some sp)) q.1 in
    let b = In-filter (λ (x : DocRow). slot_contains sp x.path) q.0 rows l.0 in
    old_row q.0 b.0 (ap (λ (a : NamedAtom). a.id) q.2)
    (bare_live r (array_bare (length (live_in sp rows)) sp (live_in sp rows) r k) ∙ sym l.1))
    (λ (k : In r (rows_beside sp rows)). old_row r (beside sp rows r k).0 refl refl)
    (in_puts (array sp (live_in sp rows)) (rows_beside sp rows) r i)

found_case : (p : DotValue) (dot : DotValue) (rows : List DocRow) (r : DocRow) (o : Option Slot)
    → In r (flatten_found o rows) → LiveCase dot (Commit p) rows r
found_case p dot rows r None i = old_row r i refl refl
found_case p dot rows r (Some slot) i = flat_case p dot rows r (slot_path rows slot) i

pub live_case : (log : List OpValue) (dot : DotValue) (body : Body) (rows : List DocRow) (r : DocRow)
    → In r (effect log dot body rows) → LiveCase dot body rows r
live_case log dot (Insert slot run) rows r i = insert_case slot dot run rows r (slot_path rows slot) i
live_case log dot (Delete target) rows r i = let m = map_In (mark_deleted target dot) r rows i in
    at m.0 m.1 (has_id target m.0) refl m.2
  where
    at : (q : DocRow) → In q rows → (b : Bool) → has_id target q ≡ b
        → r ≡ cond b (record { path = q.path; atom = q.atom; deletes = add_dot dot q.deletes }) q
        → LiveCase dot (Delete target) rows r
    at q j true h e = marked_row target refl q j (ap row_id e) (has_id-true target q h)
        (ap is_live e ∙ some_dot dot q.deletes)
    at q j false h e = old_row q j (ap row_id e) (ap is_live e)
live_case log dot (Propose slot) rows r i = old_row r i refl refl
live_case log dot (Abort p) rows r i = old_row r i refl refl
live_case log dot (Commit p) rows r i = found_case p dot rows r (proposed_slot p log) i

pub dead_by : (log : List OpValue) (r : DocRow) → In r (doc_of log) → is_live r ≡ false
    → (d : OpValue) × In d log × (deletes (row_id r) d.body ≡ true)
dead_by [] r i e = absurd i
dead_by (x ∷ log) r i e = at (live_case log x.dot x.body (doc_of log) r i) (λ q j k. dead_by log q j k)
  where
    at : LiveCase x.dot x.body (doc_of log) r
        → ((q : DocRow) → In q (doc_of log) → is_live q ≡ false
        → (d : OpValue) × In d log × (deletes (row_id q) d.body ≡ true))
        → (d : OpValue) × In d (x ∷ log) × (deletes (row_id r) d.body ≡ true)
    at (old_row q j id l) ih = let h = ih q j (sym l ∙ e) in
        (h.0, inr h.1, subst (λ z. deletes z h.0.body ≡ true) (sym id) h.2)
    at (new_row slot run b a l) ih = absurd (true≢false (sym l ∙ e))
    at (marked_row target b q j id t l) ih =
        (x, inl refl, ap (λ (z : Body). deletes (row_id r) z) b ∙ same_id_from target (row_id r) (sym (id ∙ t)))

-- a delete in the log names an atom of an older insert
pub killed_had : (n : ℕ) (log : List OpValue) → IsInTurn n log → Fits log → (d : OpValue) → In d log
    → (x : AtomIdValue) → deletes x d.body ≡ true → (z : OpValue) × In z log × (z.dot ≡ x.dot)
killed_had n [] c f d i x k = absurd i
killed_had n (y ∷ log) c f d (inr i) x k = let h = killed_had n log c.1 f.1 d i x k in (h.0, inr h.1, h.2)
killed_had n (y ∷ log) c f d (inl e) x k = at y.body (subst (λ (z : OpValue). deletes x z.body ≡ true) e k) f.0
  where
    some_row : (o : Option DocRow) → is_some o ≡ true → (r : DocRow) × (o ≡ Some r)
    some_row None h = absurd (true≢false (sym h))
    some_row (Some r) h = (r, refl)

    at : (b : Body) → deletes x b ≡ true → FitsBody log y.dot.site b
        → (z : OpValue) × In z (y ∷ log) × (z.dot ≡ x.dot)
    at (Delete target) h g =
        let s = some_row (find_row target (doc_of log)) g in
        let w = found target s.0 (doc_of log) s.1 in
        let b = rows_born n log c.1 s.0 w.0 in
        let p = run_places b.op.dot 0 b.run (named s.0) b.among in
        (b.op, inr b.inside, sym p.dot ∙ ap (λ (z : AtomIdValue). z.dot) (w.1 ∙ same_id_true target x h))
    at (Insert slot run) h g = absurd (true≢false (sym h))
    at (Propose slot) h g = absurd (true≢false (sym h))
    at (Commit p) h g = absurd (true≢false (sym h))
    at (Abort p) h g = absurd (true≢false (sym h))

not_empty : (d : DotValue) (dots : List DotValue) → In d dots → is_empty_list dots ≡ false
not_empty d [] i = absurd i
not_empty d (e ∷ dots) i = refl

pub dead_from : (n : ℕ) (log : List OpValue) → IsInTurn n log → Fits log → (d : OpValue) → In d log → (r : DocRow)
    → In r (doc_of log) → deletes (row_id r) d.body ≡ true → is_live r ≡ false
dead_from n [] c f d i r j k = absurd i
dead_from n (x ∷ log) c f d i r j k =
    ⊎_elim here (older (λ q l m e. dead_from n log c.1 f.1 d m q l e) (live_case log x.dot x.body (doc_of log) r j)) i
  where
    here : d ≡ x → is_live r ≡ false
    here e = at x.body (subst (λ (z : OpValue). deletes (row_id r) z.body ≡ true) e k) j
      where
        at : (b : Body) → deletes (row_id r) b ≡ true → In r (effect log x.dot b (doc_of log)) → is_live r ≡ false
        at (Delete target) h l =
            not_empty x.dot r.deletes
            (delete_marks target x.dot (doc_of log) r l (sym (same_id_true target (row_id r) h)))
        at (Insert slot run) h l = absurd (true≢false (sym h))
        at (Propose slot) h l = absurd (true≢false (sym h))
        at (Commit p) h l = absurd (true≢false (sym h))
        at (Abort p) h l = absurd (true≢false (sym h))

    older : ((q : DocRow) → In q (doc_of log) → In d log → deletes (row_id q) d.body ≡ true → is_live q ≡ false)
        → LiveCase x.dot x.body (doc_of log) r → In d log → is_live r ≡ false
    older ih (old_row q l id e) m = e ∙ ih q l m (subst (λ z. deletes z d.body ≡ true) id k)
    older ih (new_row slot run b a l) m =
        let h = killed_had n log c.1 f.1 d m (row_id r) k in
        let p = run_places x.dot 0 run (named r) a in
        absurd (not_older n x h.0 log c.0 c.1 h.1 (sym (h.2 ∙ p.dot)))
    older ih (marked_row target b q l id t e) m = e
