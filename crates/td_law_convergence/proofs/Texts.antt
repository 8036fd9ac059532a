-- At every moment a site shows the text that the operations of its log show.
use Rattle.std.proofs.Common.{◌≡◌, ◌⊎◌, ℕ, suc, List, [], ◌∷◌, length, map, Bool, true, false}
use Rattle.std.proofs.Common.{cond, not, ◌||◌, Option, Some, None, refl, sym, ap, ◌∙◌, subst, inl}
use Rattle.std.proofs.Common.{inr, ⊎_elim, true≢false, arith, zero, ◌+◌}
use Rattle.std.proofs.lemmas.Bool.{or_left, cases_Bool}
use Rattle.std.specs.Prelude.{find, slice_get, option_and_then, unwrap_or}
use Rattle.std.specs.List.{concat}
use Rattle.td_base.specs.Value.{DotValue, AtomIdValue}
use Rattle.td_base.specs.Lists.{In, Successive, IsSublist}
use Rattle.td_base.proofs.Lists.{map_In, In-map, In-filter, filter_In, any_found, any_from, successive_filter}
use Rattle.td_path.specs.declared.slot.Slot.{Slot}
use Rattle.td_op.specs.declared.body.Body.{Body}
use Rattle.td_op.specs.declared.body.Body.TheVariants.{Insert, Delete, Propose, Commit, Abort}
use Rattle.td_op.specs.Op.{OpValue}
use Rattle.td_doc.specs.Document.{DocRow, row_id, has_id, is_live, live_atoms, live_rows, IsDocument}
use Rattle.td_doc.specs.Array.{named, array}
use Rattle.td_base.specs.RunAtoms.{NamedAtom, run_atoms, run_atoms_from, run_ids_from}
use Rattle.td_doc.specs.Insertion.{put_rows, put_array_below}
use Rattle.td_doc.specs.Deletion.{mark_deleted, add_dot}
use Rattle.td_doc.specs.Flatten.{flatten}
use Rattle.td_doc.specs.Slots.{slot_path}
use Rattle.td_doc.specs.Stretches.{kept_rows, is_in}
use Rattle.td_doc.proofs.PutRows.{puts_in}
use Rattle.td_doc.proofs.Flattened.{flatten_keeps_names}
use Rattle.td_doc.proofs.Rules.{found, run_stays}
use Rattle.td_machine.specs.Making.{effect, flatten_found}
use Rattle.td_machine.specs.Log.{proposed_slot}
use Rattle.td_machine.specs.History.{Family, IsConsistent, machine_at}
use Rattle.td_op.specs.declared.insertion.Insertion.{Insertion}
use Rattle.td_op.specs.Insertion.{insertion_by, insertion_of, insertions}
use Rattle.td_base.specs.Equality.{same_dot}
use Rattle.td_order.specs.LineUp.{line_up}
use Rattle.td_order.specs.Order.{order}
use Rattle.td_order.specs.Show.{atom_of, deletes, is_deleted, shown_atoms, shown_ids}
use Rattle.td_order.specs.Causal.{IsWellRooted}
use Rattle.td_order.proofs.Keys.{Key, key_strict}
use Rattle.td_base.proofs.Equals.{same_dot_true, same_dot_refl}
use Rattle.td_order.proofs.Family.{AllFollow, HasPasts}
use Rattle.td_order.proofs.Ranks.{rank_of, key_in, fits_part}
use Rattle.td_order.proofs.Placing.{IdLt, id_trans, In-placed}
use Rattle.td_order.proofs.PlaceRises.{placed_rises}
use Rattle.td_base.proofs.Rising.{one_rising}
use Rattle.td_op.proofs.InsertionLemmas.{In-insertions, insertions-In}
use Rattle.td_order.proofs.LineUpLemmas.{In-line_up}
use Rattle.td_order.proofs.OrderOfPart.{line_up_causal, whole_is_closed, pasts}
use Rattle.td_order.proofs.SetOfOps.{text_of_set}
use Rattle.td_machine.specs.Replay.{doc_of}
use Rattle.td_base.proofs.Searches.{find_one}
use Rattle.td_base.proofs.Elements.{map_same}
use Rattle.std.proofs.lemmas.Simd.{map-map}
use Rattle.td_law_logs.proofs.WellRooted.{insertion_parts}
use Rattle.td_law_logs.specs.Logs.{IsLogOf}
use Rattle.td_law_commitment.specs.Voted.{IsVoted}
use Rattle.td_law_commitment.specs.Promises.{OneDecision}
use Rattle.td_law_convergence.specs.Promises.{NoCommit, RowsAreTheOrder, RowsArePart}
use Rattle.td_law_convergence.specs.Promises.{ConvergentAtoms, ConvergentText, TextsConverge}
use Rattle.td_law_logs.proofs.WellRooted.{moment_part}
use Rattle.td_law_logs.proofs.Moments.{moment_log}
use Rattle.td_law_logs.proofs.Fitting.{moment_doc}
use Rattle.td_law_logs.proofs.LogRows.{HasAtom, rows_born, run_places}
use Rattle.td_law_logs.proofs.Deletes.{dead_by, dead_from}
use Rattle.td_law_logs.proofs.Bases.{log_rooted, op_in, tail, causal, one_op, log_part}
use Rattle.td_law_logs.proofs.Steps.{doc, insert_slot}
use Rattle.td_law_logs.proofs.DocSteps.{array_found}
use Rattle.td_law_logs.proofs.SameRows.{fits_all}
use Rattle.td_law_agreement.proofs.Epochs.{has_epochs}
use Rattle.td_law_logs.proofs.Moments.{moment_log}
use Rattle.td_law_convergence.proofs.RowsOrder.{rows_order}
use Rattle.td_law_convergence.proofs.Sublists.{sub_in, rising_sub, filter_sub, sub_trans, whole_sub}
use Rattle.std.proofs.lemmas.Option.{same_Some}
use Rattle.td_order.proofs.Spliced.{order_distinct}

-- the place of an atom in a run
place_in : (dot : DotValue) (offset : ℕ) (run : List (List ℕ)) (n : NamedAtom) → In n (run_atoms_from dot offset run)
    → (k : ℕ) × (n.id.offset ≡ offset + k) × (slice_get run k ≡ Some n.atom)
place_in dot offset [] n i = absurd i
place_in dot offset (atom ∷ run) n i =
    ⊎_elim
    (λ (e : n ≡ record { id = record { dot = dot; offset = offset }; atom = atom }).
    let here : n.id.offset ≡ offset = ap (λ (z : NamedAtom). z.id.offset) e in
    let sum : n.id.offset ≡ offset + 0 = omega (arith, here) in
    (zero, sum, ap (λ (z : NamedAtom). Some z.atom) (sym e)))
    (λ (k : In n (run_atoms_from dot (suc offset) run)).
    let r = place_in dot (suc offset) run n k in
    let sum : n.id.offset ≡ offset + suc r.0 = omega (arith, r.1) in
    (suc r.0, sum, r.2))
    i

-- the atom has a row
abbrev pub HasRow : List DocRow → AtomIdValue → Type 0
HasRow rows x = (r : DocRow) × In r rows × (row_id r ≡ x)

-- a delete of the atom is in the log
abbrev pub IsKilled : List OpValue → AtomIdValue → Type 0
IsKilled log x = (d : OpValue) × In d log × (deletes x d.body ≡ true)

module _ (family : Family) (c : IsConsistent family) where
  abbrev n : ℕ
  n = length family

  -- ---- an atom of the log is a row, or a delete of it is in the log

  row_after : (o : OpValue) (log : List OpValue) (b : Body) → IsDocument (doc_of log) → (q : DocRow)
      → In q (doc_of log) → (is_live q ≡ true) ⊎ ((p : DotValue) → b ≡ Commit p → ⊥)
      → HasRow (effect log o.dot b (doc_of log)) (row_id q)
  row_after o log (Insert slot run) d q i how = (q, run_stays slot o.dot run (doc_of log) q i, refl)
  row_after o log (Delete target) d q i how =
      (mark_deleted target o.dot q, In-map (mark_deleted target o.dot) q (doc_of log) i, same (has_id target q))
    where
      same : (b : Bool)
          → row_id (cond b (record { path = q.path; atom = q.atom; deletes = add_dot o.dot q.deletes }) q) ≡ row_id q
      same true = refl
      same false = refl
  row_after o log (Propose slot) d q i how = (q, i, refl)
  row_after o log (Abort p) d q i how = (q, i, refl)
  row_after o log (Commit p) d q i how = from (proposed_slot p log)
    where
      live : is_live q ≡ true
      live = ⊎_elim (λ k. k) (λ (k : (x : DotValue) → Commit p ≡ Commit x → ⊥). absurd (k p refl)) how

      from : (s : Option Slot) → HasRow (flatten_found s (doc_of log)) (row_id q)
      from None = (q, i, refl)
      from (Some s) =
          let k : In q (kept_rows (doc_of log) s) =
          filter_In (λ (r : DocRow). is_live r || not (is_in (slot_path (doc_of log) s) r)) q (doc_of log) i
          (or_left (is_live q) _ live) in
          let m = map_In named (named q) (flatten s (doc_of log))
          (subst (λ (t : List NamedAtom). In (named q) t) (sym (flatten_keeps_names (doc_of log) s d))
          (In-map named q (kept_rows (doc_of log) s) k)) in
          (m.0, m.1, ap (λ (a : NamedAtom). a.id) (sym m.2))

  keeps_row : (o : OpValue) (log : List OpValue) → IsDocument (doc_of log) → (q : DocRow) → In q (doc_of log)
      → HasRow (doc_of (o ∷ log)) (row_id q) ⊎ IsKilled log (row_id q)
  keeps_row o log d q i = from o.body refl (cases_Bool (is_live q))
    where
      with_body : (b : Body) → o.body ≡ b → HasRow (effect log o.dot b (doc_of log)) (row_id q)
          → HasRow (doc_of (o ∷ log)) (row_id q)
      with_body b e h = subst (λ (z : Body). HasRow (effect log o.dot z (doc_of log)) (row_id q)) (sym e) h

      from : (b : Body) → o.body ≡ b → (is_live q ≡ true) ⊎ (is_live q ≡ false)
          → HasRow (doc_of (o ∷ log)) (row_id q) ⊎ IsKilled log (row_id q)
      from b e (inl k) = inl (with_body b e (row_after o log b d q i (inl k)))
      from b e (inr k) = inr (dead_by log q i k)

  new_row : (o : OpValue) (log : List OpValue) (x : AtomIdValue) → IsLogOf family (o ∷ log) → HasAtom o x
      → HasRow (doc_of (o ∷ log)) x
  new_row o log x l a =
      let s = insert_slot family c o log x l a in
      let f = array_found s.0 (run_atoms o.dot a.run) a.atom a.among in
      let g = found a.atom.id f.0 (array s.0 (run_atoms o.dot a.run)) f.1 in
      let is : doc_of (o ∷ log) ≡ put_rows (array s.0 (run_atoms o.dot a.run)) (doc_of log) =
      ap (λ (b : Body). effect log o.dot b (doc_of log)) a.is
      ∙ ap (λ z. put_array_below z (run_atoms o.dot a.run) (doc_of log)) s.1 in (
        f.0,
        subst (λ (rows : List DocRow). In f.0 rows) (sym is)
            (puts_in (array s.0 (run_atoms o.dot a.run)) (doc_of log) f.0 (inl g.0)),
        g.1 ∙ a.named,
      )

  row_or_killed : (log : List OpValue) → IsLogOf family log → (y : OpValue) → In y log → (x : AtomIdValue)
      → HasAtom y x → HasRow (doc_of log) x ⊎ IsKilled log x
  row_or_killed [] l y i x a = absurd i
  row_or_killed (o ∷ log) l y i x a = ⊎_elim here (older (λ j. row_or_killed log (tail family c o log l) y j x a)) i
    where
      here : y ≡ o → HasRow (doc_of (o ∷ log)) x ⊎ IsKilled (o ∷ log) x
      here e = inl (new_row o log x l (subst (λ (z : OpValue). HasAtom z x) e a))

      more : IsKilled log x → IsKilled (o ∷ log) x
      more (d, j, k) = (d, inr j, k)

      older : (In y log → HasRow (doc_of log) x ⊎ IsKilled log x) → In y log
          → HasRow (doc_of (o ∷ log)) x ⊎ IsKilled (o ∷ log) x
      older ih j =
          ⊎_elim
          (λ (r : HasRow (doc_of log) x).
          ⊎_elim (λ (z : HasRow (doc_of (o ∷ log)) (row_id r.0)). inl
          (subst (λ (t : AtomIdValue). HasRow (doc_of (o ∷ log)) t) r.2 z))
          (λ (z : IsKilled log (row_id r.0)). inr (more (subst (λ (t : AtomIdValue). IsKilled log t) r.2 z)))
          (keeps_row o log (doc family c log (tail family c o log l)) r.0 r.1))
          (λ (k : IsKilled log x). inr (more k)) (ih j)

  -- and where no commit was taken it is a row
  every_row : (log : List OpValue) → IsLogOf family log → NoCommit log → (y : OpValue) → In y log → (x : AtomIdValue)
      → HasAtom y x → HasRow (doc_of log) x
  every_row [] l none y i x a = absurd i
  every_row (o ∷ log) l none y i x a =
      ⊎_elim (λ (e : y ≡ o). new_row o log x l (subst (λ (z : OpValue). HasAtom z x) e a))
      (λ (j : In y log).
      let r = every_row log (tail family c o log l) (λ z p k. none z p (inr k)) y j x a in
      subst (λ (z : AtomIdValue). HasRow (doc_of (o ∷ log)) z) r.2
      (row_after o log o.body (doc family c log (tail family c o log l)) r.0 r.1
      (inr (λ p e. none o p (inl refl) e)))) i

  deleted_of : (log : List OpValue) (x : AtomIdValue) → IsKilled log x → is_deleted log x ≡ true
  deleted_of log x (d, i, k) = any_from (λ (o : OpValue). deletes x o.body) log d i k

  killed_of : (log : List OpValue) (x : AtomIdValue) → is_deleted log x ≡ true → IsKilled log x
  killed_of log x h = let d = any_found (λ (o : OpValue). deletes x o.body) log h in d

  -- an atom of the order is of an insert in the log
  order_born : (log : List OpValue) (x : AtomIdValue) → In x (order log) → (y : OpValue) × In y log × HasAtom y x
  order_born log x i =
      let m = In-placed (insertions (line_up log)) x i in
      let o = In-insertions (line_up log) m.0 m.1 in
      let p = insertion_parts o.0 m.0 o.2 in
      let r = atom_at m.0.dot 0 m.0.run x m.2 in (
        o.0,
        In-line_up log o.0 o.1,
        record {
          slot = m.0.slot;
          run = m.0.run;
          is = p.body;
          atom = r.0;
          among =
              subst (λ (d : DotValue). In r.0 (run_atoms d m.0.run)) p.dot r.1;
          named = r.2;
        },
      )
    where
      atom_at : (d : DotValue) (k : ℕ) (run : List (List ℕ)) (x : AtomIdValue) → In x (run_ids_from d k run)
          → (a : NamedAtom) × In a (run_atoms_from d k run) × (a.id ≡ x)
      atom_at d k [] x i = absurd i
      atom_at d k (atom ∷ run) x (inl e) =
          (record { id = record { dot = d; offset = k }; atom = atom }, inl refl, sym e)
      atom_at d k (atom ∷ run) x (inr i) = let r = atom_at d (suc k) run x i in (r.0, inr r.1, r.2)

  -- an atom of the order is a row, or a delete of it is in the log
  pub gone : (log : List OpValue) → IsLogOf family log → (x : AtomIdValue) → In x (order log)
      → In x (map row_id (doc_of log)) ⊎ (is_deleted log x ≡ true)
  gone log l x i =
      let y = order_born log x i in
      ⊎_elim (λ (r : HasRow (doc_of log) x). inl
      (subst (λ (z : AtomIdValue). In z (map row_id (doc_of log))) r.2 (In-map row_id r.0 (doc_of log) r.1)))
      (λ (k : IsKilled log x). inr (deleted_of log x k)) (row_or_killed log l y.0 y.1 x y.2)

  -- a row is live exactly where no delete of it is in the log
  lives : (log : List OpValue) → IsLogOf family log → (r : DocRow) → In r (doc_of log)
      → is_live r ≡ not (is_deleted log (row_id r))
  lives log l r i = from (is_live r) (is_deleted log (row_id r)) refl refl
    where
      from : (a b : Bool) → is_live r ≡ a → is_deleted log (row_id r) ≡ b → a ≡ not b
      from true false e f = refl
      from false true e f = refl
      from true true e f =
          let k = killed_of log (row_id r) f in
          absurd (true≢false
          (sym e ∙ dead_from n log (causal family c log l) (fits_all family c log l) k.0 k.1 r i k.2))
      from false false e f = absurd (true≢false (sym (deleted_of log (row_id r) (dead_by log r i e)) ∙ f))

  -- the atom of a row is the one that the operations tell

  atom_told : (log : List OpValue) → IsLogOf family log → (r : DocRow) → In r (doc_of log)
      → r.atom ≡ atom_of log (row_id r)
  atom_told log l r i =
      let b = rows_born n log (causal family c log l) r i in
      let a : Insertion = record { dot = b.op.dot; deps = b.op.deps; slot = b.slot; run = b.run } in
      let is : insertion_of b.op ≡ Some a = ap (insertion_by b.op.dot b.op.deps) b.is in
      let at = place_in b.op.dot 0 b.run (named r) b.among in
      let place : (row_id r).offset ≡ at.0 = omega (arith, at.1) in
      let dot : (row_id r).dot ≡ b.op.dot = (run_places b.op.dot 0 b.run (named r) b.among).dot in
      let one : find (λ (x : Insertion). same_dot x.dot (row_id r).dot) (insertions log) ≡ Some a =
      find_one (λ (x : Insertion). same_dot x.dot (row_id r).dot) (insertions log) a
      (insertions-In log b.op a b.inside is)
      (subst (λ (d : DotValue). same_dot b.op.dot d ≡ true) (sym dot) (same_dot_refl b.op.dot))
      (λ x j t.
      let p = In-insertions log x j in
      let q = insertion_parts p.0 x p.2 in
      let dots : p.0.dot ≡ b.op.dot = sym q.dot ∙ (same_dot_true x.dot (row_id r).dot t ∙ dot) in
      same_Some x a
      (sym p.2 ∙ (ap insertion_of
      (one_op family c p.0 b.op (op_in family c log l p.0 p.1) (op_in family c log l b.op b.inside) dots) ∙ is)))
      in
      sym (ap (λ m. unwrap_or (option_and_then (λ (x : Insertion). slice_get x.run (row_id r).offset) m) []) one
      ∙ (ap (λ k. unwrap_or (slice_get b.run k) []) place ∙ ap (λ m. unwrap_or m []) at.2))

  module _ (v : IsVoted family) (decision : OneDecision family) where
    -- the live rows are the atoms shown, in their order
    module _ (log : List OpValue) (l : IsLogOf family log) where
      W : IsWellRooted log
      W = log_rooted family c log l

      abbrev all : List Insertion
      all = insertions (line_up log)

      F : AllFollow (insertions (line_up log))
      F = line_up_causal log (whole_is_closed log W)

      P : HasPasts (insertions (line_up log))
      P = pasts log W (has_epochs family c v decision log (op_in family c log l))

      abbrev rank : Insertion → ℕ
      rank = rank_of all

      abbrev K : AtomIdValue → ℕ → Key
      K = key_in rank all

      abbrev Lt : AtomIdValue → AtomIdValue → Type 0
      Lt = IdLt K rank

      rises : Successive Lt (order log)
      rises = placed_rises K rank all (fits_part all P F all F (λ x i. i))

      rows_in : IsSublist (map row_id (doc_of log)) (order log)
      rows_in = rows_order family c v decision log l

      to : (x : AtomIdValue) → In x (map row_id (live_rows (doc_of log))) → In x (shown_ids log)
      to x i =
          let m = map_In row_id x (live_rows (doc_of log)) i in
          let f = In-filter is_live m.0 (doc_of log) m.1 in
          let j : In x (order log) =
          sub_in (map row_id (doc_of log)) (order log) rows_in x
          (subst (λ (z : AtomIdValue). In z (map row_id (doc_of log))) (sym m.2)
          (In-map row_id m.0 (doc_of log) f.0)) in
          filter_In (λ (z : AtomIdValue). not (is_deleted log z)) x (order log) j
          (subst (λ (z : AtomIdValue). not (is_deleted log z) ≡ true) (sym m.2) (sym (lives log l m.0 f.0) ∙ f.1))

      back : (x : AtomIdValue) → In x (shown_ids log) → In x (map row_id (live_rows (doc_of log)))
      back x i =
          let f = In-filter (λ (z : AtomIdValue). not (is_deleted log z)) x (order log) i in
          ⊎_elim
          (λ (j : In x (map row_id (doc_of log))).
          let m = map_In row_id x (doc_of log) j in
          let live : is_live m.0 ≡ true = lives log l m.0 m.1
          ∙ subst (λ (z : AtomIdValue). not (is_deleted log z) ≡ true) m.2 f.1 in
          subst (λ (z : AtomIdValue). In z (map row_id (live_rows (doc_of log)))) (sym m.2)
          (In-map row_id m.0 (live_rows (doc_of log)) (filter_In is_live m.0 (doc_of log) m.1 live)))
          (λ (k : is_deleted log x ≡ true). absurd (true≢false (sym f.1 ∙ ap not k)))
          (gone log l x f.0)

      -- the live rows are the atoms shown, in their order
      pub live_ids : map row_id (live_rows (doc_of log)) ≡ shown_ids log
      live_ids =
          one_rising Lt (λ x. key_strict.irrefl (K x 1)) (id_trans K rank) (map row_id (live_rows (doc_of log)))
          (shown_ids log)
          (rising_sub Lt (map row_id (live_rows (doc_of log))) (order log)
          (sub_trans (map row_id (live_rows (doc_of log))) (map row_id (doc_of log)) (order log)
          (filter_sub row_id is_live (doc_of log)) rows_in) rises)
          (successive_filter Lt (λ (x : AtomIdValue). not (is_deleted log x)) (order log) rises) to back

      -- the atoms of a log's live rows are those that its operations show
      pub atoms_shown : live_atoms (doc_of log) ≡ shown_atoms log
      atoms_shown =
          map_same (λ (r : DocRow). r.atom) (λ (r : DocRow). atom_of log (row_id r)) (live_rows (doc_of log))
          (λ r i. atom_told log l r (In-filter is_live r (doc_of log) i).0)
          ∙ (sym (map-map (atom_of log) row_id (live_rows (doc_of log))) ∙ ap (map (atom_of log)) live_ids)

    -- ---- moments

    pub convergent_atoms : ConvergentAtoms family
    convergent_atoms t = ap live_atoms (moment_doc family c t)
        ∙ atoms_shown (machine_at family t).log (moment_log family c t)

    pub convergent_text : ConvergentText family
    convergent_text t = ap concat (convergent_atoms t)

    pub rows_are_part : RowsArePart family
    rows_are_part t =
        let log = (machine_at family t).log in
        let l = moment_log family c t in
        let d = moment_doc family c t in
        record {
          part = subst (λ (rows : List DocRow). IsSublist (map row_id rows) (order log)) (sym d)
              (rows_order family c v decision log l);
          gone = λ x i. subst (λ (rows : List DocRow). In x (map row_id rows) ⊎ (is_deleted log x ≡ true)) (sym d)
              (gone log l x i);
        }

    rows_whole : (log : List OpValue) → IsLogOf family log → NoCommit log → map row_id (doc_of log) ≡ order log
    rows_whole log l none =
        whole_sub (map row_id (doc_of log)) (order log) (rows_order family c v decision log l)
        (order_distinct log (log_part family c log l).apart)
        (λ x i.
        let y = order_born log x i in
        let r = every_row log l none y.0 y.1 x y.2 in
        subst (λ (z : AtomIdValue). In z (map row_id (doc_of log))) r.2 (In-map row_id r.0 (doc_of log) r.1))

    pub rows_are_the_order : RowsAreTheOrder family
    rows_are_the_order t none =
        ap (map row_id) (moment_doc family c t) ∙ rows_whole (machine_at family t).log (moment_log family c t) none

    pub texts_converge : TextsConverge family
    texts_converge t u same =
        convergent_text t
        ∙ (text_of_set (machine_at family t).log (machine_at family u).log (moment_part family c t).apart
        (moment_part family c u).apart same ∙ sym (convergent_text u))
