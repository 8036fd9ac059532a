-- What is typed right behind an atom of an insertion hangs on the insertion, where its middle atom was not renamed.
use Rattle.std.proofs.Common.{◌≡◌, ◌++◌, List, ◌∷◌, Bool, true, false, cond, length, Option, Some, None}
use Rattle.std.proofs.Common.{refl, sym, ap, ◌∙◌, subst, inl, true≢false, append_assoc}
use Rattle.std.specs.Option.{is_some}
use Rattle.td_base.specs.declared.bit.Bit.TheVariants.{Right}
use Rattle.td_base.specs.Value.{DotValue, AtomIdValue}
use Rattle.td_base.specs.Lists.{In}
use Rattle.td_base.proofs.Lists.{In-back}
use Rattle.td_path.specs.Infix.{Pairs}
use Rattle.td_path.specs.declared.slot.Slot.TheVariants.{At}
use Rattle.td_path.proofs.InfixOrder.{goes_on_parts}
use Rattle.td_op.specs.declared.body.Body.{Body}
use Rattle.td_op.specs.Op.{OpValue}
use Rattle.td_op.specs.declared.insertion.Insertion.{Insertion}
use Rattle.td_op.specs.Insertion.{ids_of, insertion_by, insertions}
use Rattle.td_doc.specs.Document.{DocRow, row_id, find_row, IsDocument}
use Rattle.td_doc.specs.Slots.{is_empty_slot}
use Rattle.td_doc.specs.Subtrees.{begins, rows_at, is_under}
use Rattle.td_doc.specs.Allocation.{alloc, slot_before, next_id}
use Rattle.td_doc.specs.Answers.{IsRow}
use Rattle.td_doc.specs.Array.{named}
use Rattle.td_doc.proofs.Rules.{found}
use Rattle.td_doc.proofs.SubtreeRows.{under_is, begins_parts}
use Rattle.td_doc.proofs.Placement.{placed, Placed}
use Rattle.td_machine.specs.History.{Family, IsConsistent, machine_at}
use Rattle.td_machine.specs.Replay.{doc_of}
use Rattle.td_order.specs.Insertions.{IsInsertionOf}
use Rattle.td_order.specs.LineUp.{line_up}
use Rattle.td_order.specs.Under.{under, itself}
use Rattle.td_order.specs.Standing.{HangsOn}
use Rattle.td_order.specs.Causal.{IsWellRooted}
use Rattle.td_order.proofs.UnderLemmas.{dot_in, under_by_slots}
use Rattle.td_law_logs.proofs.WellRooted.{insertion_parts}
use Rattle.td_law_logs.specs.Logs.{IsLogOf}
use Rattle.td_law_logs.specs.Places.{IsMiddleBy}
use Rattle.td_law_logs.proofs.Moments.{moment_log}
use Rattle.td_law_logs.proofs.Fitting.{moment_doc}
use Rattle.td_law_logs.proofs.Bases.{causal, log_rooted}
use Rattle.td_law_logs.proofs.Steps.{doc}
use Rattle.td_law_logs.proofs.LogRows.{rows_born, run_places, among}
use Rattle.td_law_logs.proofs.RowsBefore.{below_from}
use Rattle.td_law_convergence.specs.Subtrees.{NeverRenamed}
use Rattle.td_law_convergence.proofs.EveryFamily.{subtrees}
use Rattle.td_law_interleaving.specs.Typing.{IsSlotOn, TypedBehind, middle_of}
use Rattle.td_law_interleaving.proofs.NextRow.{NextOnRight, next_on_right}

-- who has a row in its subtree is a row
row_above : (rows : List DocRow) (x q : AtomIdValue) → is_under rows x q ≡ true
    → (m : DocRow) × In m rows × (row_id m ≡ x)
row_above rows x q h = from (find_row x rows) refl h
  where
    from : (o : Option DocRow) → find_row x rows ≡ o → is_some (find_row q (rows_at rows o)) ≡ true
        → (m : DocRow) × In m rows × (row_id m ≡ x)
    from None e k = absurd (true≢false (sym k))
    from (Some m) e k = let f = found x m rows e in (m, f.0, f.1)

-- what is on the right of a row that is under x is under x
under_more : (rows : List DocRow) → IsDocument rows → (x : AtomIdValue) (r f : DocRow) → In r rows → In f rows
    → is_under rows x (row_id r) ≡ true
    → (more : Pairs) → f.path ≡ r.path ++ more → is_under rows x (row_id f) ≡ true
under_more rows d x r f i j h more e =
    let m = row_above rows x (row_id r) h in
    let top : begins m.0.path r.path ≡ true =
    sym (under_is rows m.0 r d.apart m.1 i) ∙ (ap (λ (y : AtomIdValue). is_under rows y (row_id r)) m.2 ∙ h) in
    let p = begins_parts m.0.path r.path top in
    ap (λ (y : AtomIdValue). is_under rows y (row_id f)) (sym m.2)
    ∙ (under_is rows m.0 f d.apart m.1 j
    ∙ below_from m.0.path f.path (p.0 ++ more)
    (e ∙ (ap (λ (z : Pairs). z ++ more) p.1 ∙ append_assoc m.0.path p.0 more)))

module _ (family : Family) (k : IsConsistent family) (log : List OpValue) (l : IsLogOf family log) (a : Insertion)
    (i : IsInsertionOf log a)
    (never : NeverRenamed family log (middle_of a)) (p : AtomIdValue) (m : In p (ids_of a)) where
  W : IsWellRooted log
  W = log_rooted family k log l

  d : IsDocument (doc_of log)
  d = doc family k log l

  sub : (r : DocRow) → In r (doc_of log)
      → is_under (doc_of log) (middle_of a) (row_id r) ≡ under (insertions (line_up log)) a.dot (row_id r).dot
  sub r j =
      let b = insertion_parts i.op a i.is in
      subtrees family k log l i.op a.slot a.run (middle_of a) i.inside b.body
      (subst (λ (z : Body). IsMiddleBy i.op.dot z (middle_of a)) (sym b.body) (b.dot, refl)) never r j
      ∙ ap (λ (z : DotValue). under (insertions (line_up log)) z (row_id r).dot) (sym b.dot)

  -- a row under the middle atom hangs on the insertion
  hanging_row : (f : DocRow) → In f (doc_of log) → is_under (doc_of log) (middle_of a) (row_id f) ≡ true
      → HangsOn log a (row_id f)
  hanging_row f j h =
      let b = rows_born (length family) log (causal family k log l) f j in
      let c : Insertion = record { dot = b.op.dot; deps = b.op.deps; slot = b.slot; run = b.run } in
      let ic : IsInsertionOf log c =
      record { op = b.op; inside = b.inside; is = ap (insertion_by b.op.dot b.op.deps) b.is } in
      let dot : (row_id f).dot ≡ b.op.dot = (run_places b.op.dot 0 b.run (named f) b.among).dot in
      record {
        insertion = c;
        inside = ic;
        below = (under_by_slots log W a c i ic).0
            (subst (λ (z : DotValue). under (insertions (line_up log)) a.dot z ≡ true) dot (sym (sub f j) ∙ h));
        among = among b.op.dot 0 b.run (named f) b.among;
      }

  -- p is under the middle atom
  own : (r : DocRow) → In r (doc_of log) → row_id r ≡ p → is_under (doc_of log) (middle_of a) (row_id r) ≡ true
  own r j e =
      sub r j
      ∙ (ap (λ (z : DotValue). under (insertions (line_up log)) a.dot z)
      (ap (λ (z : AtomIdValue). z.dot) e ∙ dot_in a p m)
      ∙ (under_by_slots log W a a i i).1 itself)

  typed : IsRow (doc_of log) p → IsSlotOn log a (alloc (doc_of log) (Some p))
  typed row = from (is_empty_slot (doc_of log) (At p Right)) refl
    where
      here : HangsOn log a p
      here = record { insertion = a; inside = i; below = itself; among = m }

      place : Placed (doc_of log) p
      place = placed p (doc_of log) row

      next : is_empty_slot (doc_of log) (At p Right) ≡ false → NextOnRight place.row (doc_of log)
      next e =
          subst (λ (rows : List DocRow). NextOnRight place.row rows) (sym place.is)
          (next_on_right place.front place.row place.back (subst IsDocument place.is d)
          (subst (λ (rows : List DocRow). is_empty_slot rows (At (row_id place.row) Right) ≡ false) place.is
          (subst (λ (y : AtomIdValue). is_empty_slot (doc_of log) (At y Right) ≡ false) (sym place.named) e)))

      row_in : In place.row (doc_of log)
      row_in = subst (λ (rows : List DocRow). In place.row rows) (sym place.is)
          (In-back place.row place.front (place.row ∷ place.back) (inl refl))

      from : (b : Bool) → is_empty_slot (doc_of log) (At p Right) ≡ b
          → IsSlotOn log a (cond b (At p Right) (slot_before (next_id p (doc_of log))))
      from true e = here
      from false e =
          let n = next e in
          let g = goes_on_parts place.row.path Right n.next.path n.on_right in
          let h = hanging_row n.next n.inside
          (under_more (doc_of log) d (middle_of a) place.row n.next row_in n.inside (own place.row row_in place.named)
          ((Right, g.id) ∷ g.rest) g.is) in
          subst (λ (o : Option AtomIdValue). IsSlotOn log a (slot_before o))
          (sym (ap (λ (y : AtomIdValue). next_id y (doc_of log)) (sym place.named) ∙ n.is)) h

module _ (family : Family) (k : IsConsistent family) where
  pub typed_behind : TypedBehind family
  typed_behind t a p i never m row =
      let log = (machine_at family t).log in
      let l = moment_log family k t in
      let e = moment_doc family k t in
      subst (λ (rows : List DocRow). IsSlotOn log a (alloc rows (Some p))) (sym e)
      (typed family k log l a i never p m (subst (λ (rows : List DocRow). IsRow rows p) e row))
