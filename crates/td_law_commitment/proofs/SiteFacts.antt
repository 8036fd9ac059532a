-- The logs of each site meet the premises of "in turn" and "no edit beside".
use Rattle.std.proofs.Common.{◌≡◌, ◌⊎◌, ℕ, List, [], ◌∷◌, map, Bool, true, false, cond, Option, Some, None}
use Rattle.std.proofs.Common.{refl, sym, ap, ◌∙◌, subst, inl, inr, ⊎_elim, true≢false}
use Rattle.std.specs.List.{filter_map, cons_option}
use Rattle.std.specs.Option.{option_map, option_and_then}
use Rattle.std.specs.Ordering.{is_lt, is_eq}
use Rattle.td_base.specs.Value.{DotValue, AtomIdValue}
use Rattle.td_base.specs.Order.{dot_cmp}
use Rattle.td_base.specs.Lists.{In}
use Rattle.td_base.proofs.Lists.{map_In, In-map, In-filter}
use Rattle.td_path.specs.SlotPaths.{slot_contains}
use Rattle.td_path.specs.declared.slot.Slot.{Slot}
use Rattle.td_path.specs.declared.slot_path.SlotPath.{SlotPath}
use Rattle.td_op.specs.declared.body.Body.{Body}
use Rattle.td_op.specs.declared.body.Body.TheVariants.{Insert, Delete, Propose, Commit, Abort}
use Rattle.td_op.specs.Op.{OpValue}
use Rattle.td_doc.specs.Document.{DocRow, row_id, has_id, is_live, live_rows, is_empty_list}
use Rattle.td_doc.specs.Array.{named, array}
use Rattle.td_base.specs.RunAtoms.{NamedAtom, run_atoms}
use Rattle.td_doc.specs.Deletion.{mark_deleted, add_dot}
use Rattle.td_doc.specs.Insertion.{put_array_below}
use Rattle.td_doc.specs.Flatten.{rows_beside, flatten_below}
use Rattle.td_doc.specs.Slots.{slot_path, rows_below}
use Rattle.td_doc.proofs.PutRows.{in_puts}
use Rattle.td_doc.proofs.ArrayRows.{array_names}
use Rattle.td_doc.proofs.Deleted.{delete_marks}
use Rattle.td_doc.proofs.Flattened.{beside}
use Rattle.td_machine.specs.Counts.{IsInTurn}
use Rattle.td_machine.specs.Log.{proposed_slot, committed, commit_at, commit_in, commits}
use Rattle.td_machine.specs.Making.{effect, flatten_found}
use Rattle.td_machine.proofs.Family.{not_older}
use Rattle.td_machine.specs.Replay.{doc_of}
use Rattle.td_law_logs.proofs.LogRows.{run_places}
use Rattle.td_law_logs.proofs.Deletes.{killed_had}
use Rattle.td_law_logs.proofs.Fitting.{Fits}
use Rattle.td_order.specs.Show.{deletes}
use Rattle.td_base.proofs.Equals.{same_id_true}

-- ---- a row's deletes are all those that name it

add_keeps_at : (d e x : DotValue) (dots : List DotValue) (b k : Bool) → (In x dots → In x (add_dot d dots))
    → In x (e ∷ dots) → In x (cond b (d ∷ e ∷ dots) (cond k (e ∷ dots) (e ∷ add_dot d dots)))
add_keeps_at d e x dots true k ih i = inr i
add_keeps_at d e x dots false true ih i = i
add_keeps_at d e x dots false false ih (inl i) = inl i
add_keeps_at d e x dots false false ih (inr i) = inr (ih i)

add_keeps : (d x : DotValue) (dots : List DotValue) → In x dots → In x (add_dot d dots)
add_keeps d x [] i = absurd i
add_keeps d x (e ∷ dots) i = add_keeps_at d e x dots (is_lt (dot_cmp d e)) (is_eq (dot_cmp d e))
    (add_keeps d x dots) i

-- a row was one before, with no more deletes; or it is of the insert
abbrev DotsCase : DotValue → Body → List DocRow → DocRow → Type 0
DotsCase dot body rows r =
    ((q : DocRow) × In q rows × (row_id r ≡ row_id q) × ((d : DotValue) → In d q.deletes → In d r.deletes))
    ⊎ ((slot : Slot) × (run : List (List ℕ)) × (body ≡ Insert slot run) × In (named r) (run_atoms dot run))

put_dots : (slot : Slot) (dot : DotValue) (run : List (List ℕ)) (rows : List DocRow) (r : DocRow)
    (o : Option SlotPath) → In r (put_array_below o (run_atoms dot run) rows) → DotsCase dot (Insert slot run) rows r
put_dots slot dot run rows r None i = inl (r, i, refl, λ d j. j)
put_dots slot dot run rows r (Some sp) i =
    ⊎_elim (λ (k : In r (array sp (run_atoms dot run))). inr (
      slot,
      run,
      refl,
      subst (In (named r)) (array_names sp (run_atoms dot run))
          (In-map named r (array sp (run_atoms dot run)) k),
    )) (λ (k : In r rows). inl (r, k, refl, λ d j. j))
    (in_puts (array sp (run_atoms dot run)) rows r i)

abbrev lives_in : SlotPath → List DocRow → List NamedAtom
lives_in sp rows = map named (live_rows (rows_below rows (Some sp)))

flat_dots : (p dot : DotValue) (rows : List DocRow) (r : DocRow) (o : Option SlotPath) → In r (flatten_below o rows)
    → DotsCase dot (Commit p) rows r
flat_dots p dot rows r None i = inl (r, i, refl, λ d j. j)
flat_dots p dot rows r (Some sp) i =
    ⊎_elim
    (λ (k : In r (array sp (lives_in sp rows))).
    let q = map_In named (named r) (live_rows (rows_below rows (Some sp)))
    (subst (In (named r)) (array_names sp (lives_in sp rows)) (In-map named r (array sp (lives_in sp rows)) k)) in
    let l = In-filter is_live q.0 (rows_below rows (Some sp)) q.1 in
    let b = In-filter (λ (x : DocRow). slot_contains sp x.path) q.0 rows l.0 in
    inl (q.0, b.0, ap (λ (a : NamedAtom). a.id) q.2, λ d j. absurd (none q.0.deletes l.1 d j)))
    (λ (k : In r (rows_beside sp rows)). inl (r, (beside sp rows r k).0, refl, λ d j. j))
    (in_puts (array sp (lives_in sp rows)) (rows_beside sp rows) r i)
  where
    none : (dots : List DotValue) → is_empty_list dots ≡ true → (d : DotValue) → In d dots → ⊥
    none [] h d j = j
    none (x ∷ dots) h d j = true≢false (sym h)

found_dots : (p dot : DotValue) (rows : List DocRow) (r : DocRow) (o : Option Slot) → In r (flatten_found o rows)
    → DotsCase dot (Commit p) rows r
found_dots p dot rows r None i = inl (r, i, refl, λ d j. j)
found_dots p dot rows r (Some slot) i = flat_dots p dot rows r (slot_path rows slot) i

dots_case : (log : List OpValue) (dot : DotValue) (body : Body) (rows : List DocRow) (r : DocRow)
    → In r (effect log dot body rows) → DotsCase dot body rows r
dots_case log dot (Insert slot run) rows r i = put_dots slot dot run rows r (slot_path rows slot) i
dots_case log dot (Delete target) rows r i = let m = map_In (mark_deleted target dot) r rows i in
    from m.0 m.1 (has_id target m.0) m.2
  where
    from : (q : DocRow) → In q rows → (b : Bool)
        → r ≡ cond b (record { path = q.path; atom = q.atom; deletes = add_dot dot q.deletes }) q
        → DotsCase dot (Delete target) rows r
    from q j true e =
        inl (q, j, ap row_id e, λ d k. subst (λ (z : DocRow). In d z.deletes) (sym e) (add_keeps dot d q.deletes k))
    from q j false e = inl (q, j, ap row_id e, λ d k. subst (λ (z : DocRow). In d z.deletes) (sym e) k)
dots_case log dot (Propose slot) rows r i = inl (r, i, refl, λ d j. j)
dots_case log dot (Abort p) rows r i = inl (r, i, refl, λ d j. j)
dots_case log dot (Commit p) rows r i = found_dots p dot rows r (proposed_slot p log) i

pub dots_from : (n : ℕ) (log : List OpValue) → IsInTurn n log → Fits log → (d : OpValue) → In d log → (r : DocRow)
    → In r (doc_of log) → deletes (row_id r) d.body ≡ true → In d.dot r.deletes
dots_from n [] k f d i r j h = absurd i
dots_from n (x ∷ log) k f d i r j h =
    ⊎_elim here (older (λ q l m e. dots_from n log k.1 f.1 d m q l e) (dots_case log x.dot x.body (doc_of log) r j)) i
  where
    here : d ≡ x → In d.dot r.deletes
    here e = subst (λ (z : OpValue). In z.dot r.deletes) (sym e)
        (from x.body (subst (λ (z : OpValue). deletes (row_id r) z.body ≡ true) e h) j)
      where
        from : (b : Body) → deletes (row_id r) b ≡ true → In r (effect log x.dot b (doc_of log)) → In x.dot r.deletes
        from (Delete target) g l = delete_marks target x.dot (doc_of log) r l (sym (same_id_true target (row_id r) g))
        from (Insert slot run) g l = absurd (true≢false (sym g))
        from (Propose slot) g l = absurd (true≢false (sym g))
        from (Commit p) g l = absurd (true≢false (sym g))
        from (Abort p) g l = absurd (true≢false (sym g))

    older : ((q : DocRow) → In q (doc_of log) → In d log → deletes (row_id q) d.body ≡ true → In d.dot q.deletes)
        → DotsCase x.dot x.body (doc_of log) r → In d log → In d.dot r.deletes
    older ih (inl (q, l, id, up)) m = up d.dot (ih q l m (subst (λ (z : AtomIdValue). deletes z d.body ≡ true) id h))
    older ih (inr (slot, run, b, a)) m =
        let z = killed_had n log k.1 f.1 d m (row_id r) h in
        let p = run_places x.dot 0 run (named r) a in
        absurd (not_older n x z.0 log k.0 k.1 z.1 (sym (z.2 ∙ p.dot)))

-- ---- commits of a log

In-filter_map : {X Y : Type 0} (f : X → Option Y) (xs : List X) (x : X) (y : Y) → In x xs → f x ≡ Some y
    → In y (filter_map f xs)
In-filter_map f [] x y i e = absurd i
In-filter_map f (z ∷ xs) x y (inl q) e = subst (λ (o : Option _). In y (cons_option o (filter_map f xs)))
    (sym (ap f (sym q) ∙ e)) (inl refl)
In-filter_map f (z ∷ xs) x y (inr i) e = from (f z) (In-filter_map f xs x y i e)
  where
    from : (o : Option _) → In y (filter_map f xs) → In y (cons_option o (filter_map f xs))
    from None j = j
    from (Some u) j = inr j

pub commit_listed : (log : List OpValue) (e : OpValue) (p : DotValue) (slot : Slot) → In e log → e.body ≡ Commit p
    → proposed_slot p log ≡ Some slot → In (commit_at e.dot slot) (commits log)
commit_listed log e p slot i b s =
    In-filter_map (commit_in log) log e (commit_at e.dot slot) i
    (ap (λ (z : Body). option_map (commit_at e.dot)
    (option_and_then (λ (q : DotValue). proposed_slot q log) (committed z))) b
    ∙ ap (option_map (commit_at e.dot)) s)
