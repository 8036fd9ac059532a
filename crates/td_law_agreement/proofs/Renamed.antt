-- A commit that finds in its slot what its proposer had there puts each atom where it would have stood with the
-- proposer.
use Rattle.std.proofs.Common.{◌≡◌, ℕ, List, length, ◌∷◌, true, false, map, Option, Some, refl}
use Rattle.std.proofs.Common.{sym, ap, ◌∙◌, subst, inl, ⊎_elim, true≢false}
use Rattle.td_base.specs.Value.{AtomIdValue}
use Rattle.td_base.specs.Lists.{In}
use Rattle.td_path.specs.Infix.{Pairs}
use Rattle.td_path.specs.SlotPaths.{slot_contains}
use Rattle.td_path.specs.declared.slot.Slot.{Slot}
use Rattle.td_path.specs.declared.slot_path.SlotPath.{SlotPath}
use Rattle.td_op.specs.Op.{OpValue}
use Rattle.td_doc.specs.Document.{DocRow, row_id, is_live, live_rows, IsDocument}
use Rattle.td_doc.specs.Array.{named, array}
use Rattle.td_doc.specs.Flatten.{flatten_below}
use Rattle.td_doc.specs.Slots.{slot_path, rows_below}
use Rattle.td_doc.proofs.PutRows.{Before}
use Rattle.td_machine.specs.History.{Family, IsConsistent}
use Rattle.td_machine.specs.Replay.{doc_of}
use Rattle.td_law_logs.specs.Logs.{IsLogOf, base, slot_of}
use Rattle.td_law_logs.specs.Places.{slot_holds, names_atom, place_of, at}
use Rattle.td_law_logs.proofs.Words.{held_by, holds, moved, moved_in, moved_by}
use Rattle.td_law_logs.proofs.Rows.{standing, place_is, holds_of, contains_of}
use Rattle.td_law_logs.proofs.Deletes.{dead_by, dead_from}
use Rattle.td_law_logs.proofs.Bases.{op_in, tail, causal, base_log}
use Rattle.td_law_logs.proofs.Steps.{commit_slot, doc, commit_doc}
use Rattle.td_law_logs.proofs.DocSteps.{slot_same, flat_place, rising_same, live_ascend}
use Rattle.td_law_logs.proofs.DocSteps.{live_parts, live_from, before_not}
use Rattle.td_law_logs.proofs.SameRows.{focus_place, fits_all, one_row}
use Rattle.td_order.specs.Show.{deletes}
use Rattle.std.proofs.lemmas.Bool.{cases_Bool}

module _ (family : Family) (c : IsConsistent family) where
  abbrev n : ℕ
  n = length family

  module _ (o : OpValue) (log : List OpValue) (l : IsLogOf family (o ∷ log))
      (base_in : (e : OpValue) → In e (base family o) → In e log)
      (here : (x : AtomIdValue) (path : Pairs) → holds family o path ≡ true → at log x ≡ Some path
      → at (base family o) x ≡ Some path)
      (there : (x : AtomIdValue) (path : Pairs) → holds family o path ≡ true → at (base family o) x ≡ Some path
      → at log x ≡ Some path)
      (killed : (x : AtomIdValue) (path : Pairs) → holds family o path ≡ true → at (base family o) x ≡ Some path
      → (d : OpValue) → In d log → deletes x d.body ≡ true → In d (base family o)) where
    lt : IsLogOf family log
    lt = tail family c o log l

    lb : IsLogOf family (base family o)
    lb = base_log family c o (op_in family c (o ∷ log) l o (inl refl))

    -- the live rows of the slot are the same
    lives : (slot : Slot) (sp : SlotPath) → slot_of family o ≡ Some slot → slot_path (doc_of log) slot ≡ Some sp
        → slot_path (doc_of (base family o)) slot ≡ Some sp
        → live_rows (rows_below (doc_of log) (Some sp)) ≡ live_rows (rows_below (doc_of (base family o)) (Some sp))
    lives slot sp e f g =
        rising_same Before before_not (live_rows (rows_below (doc_of log) (Some sp)))
        (live_rows (rows_below (doc_of (base family o)) (Some sp)))
        (live_ascend (doc_of log) sp dl) (live_ascend (doc_of (base family o)) sp db) to from
      where
        dl : IsDocument (doc_of log)
        dl = doc family c log lt

        db : IsDocument (doc_of (base family o))
        db = doc family c (base family o) lb

        to : (r : DocRow) → In r (live_rows (rows_below (doc_of log) (Some sp)))
            → In r (live_rows (rows_below (doc_of (base family o)) (Some sp)))
        to r i =
            let p = live_parts (doc_of log) sp r i in
            let h : holds family o r.path ≡ true = ap (λ (z : Option Slot). held_by z r.path) e
            ∙ holds_of (doc_of log) dl slot sp r.path f p.1 in
            let w = standing (doc_of (base family o)) (row_id r) r.path
            (here (row_id r) r.path h (place_is (doc_of log) dl r p.0)) in
            let live : is_live w.row ≡ true =
            ⊎_elim (λ k. k) (λ (k : is_live w.row ≡ false).
            let d = dead_by (base family o) w.row w.inside k in
            absurd (true≢false
            (sym p.2 ∙ dead_from n log (causal family c log lt) (fits_all family c log lt) d.0
            (base_in d.0 d.1) r p.0 (subst (λ (z : AtomIdValue). deletes z d.0.body ≡ true) w.named d.2))))
            (cases_Bool (is_live w.row)) in
            subst (λ (z : DocRow). In z (live_rows (rows_below (doc_of (base family o)) (Some sp))))
            (one_row family c log (base family o) lt lb r w.row p.0 w.inside w.named w.stands p.2 live)
            (live_from (doc_of (base family o)) sp w.row w.inside
            (subst (λ (z : Pairs). slot_contains sp z ≡ true) (sym w.stands) p.1) live)

        from : (r : DocRow) → In r (live_rows (rows_below (doc_of (base family o)) (Some sp)))
            → In r (live_rows (rows_below (doc_of log) (Some sp)))
        from r i =
            let p = live_parts (doc_of (base family o)) sp r i in
            let h : holds family o r.path ≡ true = ap (λ (z : Option Slot). held_by z r.path) e
            ∙ holds_of (doc_of (base family o)) db slot sp r.path g p.1 in
            let u : at (base family o) (row_id r) ≡ Some r.path = place_is (doc_of (base family o)) db r p.0 in
            let w = standing (doc_of log) (row_id r) r.path (there (row_id r) r.path h u) in
            let live : is_live w.row ≡ true =
            ⊎_elim (λ k. k) (λ (k : is_live w.row ≡ false).
            let d = dead_by log w.row w.inside k in
            let kill : deletes (row_id r) d.0.body ≡ true =
            subst (λ (z : AtomIdValue). deletes z d.0.body ≡ true) w.named d.2 in
            absurd (true≢false
            (sym p.2 ∙ dead_from n (base family o) (causal family c (base family o) lb)
            (fits_all family c (base family o) lb) d.0 (killed (row_id r) r.path h u d.0 d.1 kill) r p.0 kill)))
            (cases_Bool (is_live w.row)) in
            subst (λ (z : DocRow). In z (live_rows (rows_below (doc_of log) (Some sp))))
            (one_row family c (base family o) log lb lt r w.row p.0 w.inside w.named w.stands p.2 live)
            (live_from (doc_of log) sp w.row w.inside
            (subst (λ (z : Pairs). slot_contains sp z ≡ true) (sym w.stands) p.1) live)

    pub renamed : (x : AtomIdValue) (path : Pairs) → at (base family o) x ≡ Some path → holds family o path ≡ true
        → at (o ∷ log) x ≡ moved family o x
    renamed x path u h =
        let s = commit_slot family o path h in
        let dl = doc family c log lt in
        let db = doc family c (base family o) lb in
        let v : at log x ≡ Some path = there x path h u in
        let w = standing (doc_of log) x path v in
        let k = contains_of (doc_of log) dl s.slot w.row w.inside
        (subst (λ (z : Pairs). slot_holds s.slot z ≡ true) (sym w.stands) s.holds) in
        let same : slot_path (doc_of (base family o)) s.slot ≡ Some k.sp =
        slot_same (doc_of (base family o)) (doc_of log) s.slot
        (λ (m : names_atom s.slot ≡ true). focus_place (doc_of (base family o)) (doc_of log) db dl s.slot x path u
        v s.holds m) ∙ k.at in
        let flat : doc_of (o ∷ log) ≡ flatten_below (Some k.sp) (doc_of log) = commit_doc family c o log s.slot l s.is
        ∙ ap (λ (z : Option SlotPath). flatten_below z (doc_of log)) k.at in
        let e : IsDocument (flatten_below (Some k.sp) (doc_of log)) =
        subst IsDocument flat (doc family c (o ∷ log) l) in
        ap (place_of x) flat
        ∙ (flat_place (doc_of log) s.slot k.sp x path dl e k.at v s.holds
        ∙ (ap (λ (rows : List DocRow). place_of x (array k.sp (map named rows))) (lives s.slot k.sp s.is k.at same)
        ∙ sym (ap (λ (z : Option Slot). moved_by z (doc_of (base family o)) x) s.is
        ∙ ap (λ (z : Option SlotPath). moved_in z (doc_of (base family o)) x) same)))
