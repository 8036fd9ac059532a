-- Where atoms stand after one operation of a log.
use Rattle.std.proofs.Common.{◌≡◌, ℕ, List, ◌∷◌, length, true, false, Option, Some, None, refl}
use Rattle.std.proofs.Common.{sym, ap, ◌∙◌, subst, inl, ⊎_elim, true≢false}
use Rattle.std.specs.Option.{option_map, is_some}
use Rattle.td_base.specs.Value.{DotValue, AtomIdValue}
use Rattle.td_base.specs.Lists.{In}
use Rattle.td_path.specs.Infix.{Pairs}
use Rattle.td_path.specs.SlotPaths.{slot_contains}
use Rattle.td_path.specs.declared.slot.Slot.{Slot}
use Rattle.td_path.specs.declared.slot.Slot.TheVariants.{Root, At}
use Rattle.td_path.specs.declared.slot_path.SlotPath.{SlotPath}
use Rattle.td_path.specs.declared.slot_path.SlotPath.TheVariants.{Root as Whole, Below}
use Rattle.td_op.specs.declared.body.Body.{Body}
use Rattle.td_op.specs.declared.body.Body.TheVariants.{Insert, Delete, Propose, Commit, Abort}
use Rattle.td_op.specs.Op.{OpValue}
use Rattle.td_doc.specs.Document.{DocRow, row_id, find_row, IsDocument}
use Rattle.td_doc.specs.Array.{named, array}
use Rattle.td_base.specs.RunAtoms.{NamedAtom, run_atoms}
use Rattle.td_doc.specs.Insertion.{put_rows, put_array_below}
use Rattle.td_doc.specs.Flatten.{flatten}
use Rattle.td_doc.specs.Slots.{slot_path, rows_in_slot, is_within}
use Rattle.td_doc.proofs.SlotRows.{contained_in}
use Rattle.std.proofs.lemmas.Bool.{false_from_ne_true}
use Rattle.td_doc.proofs.SubtreeRows.{row_of}
use Rattle.td_machine.specs.Log.{proposed, proposed_slot}
use Rattle.td_machine.specs.Making.{effect, flatten_found}
use Rattle.td_doc.specs.Answers.{is_rooted}
use Rattle.td_machine.specs.History.{Family, IsConsistent, IsOpOf, log_of}
use Rattle.td_machine.proofs.Family.{made_at}
use Rattle.td_law_logs.proofs.Moments.{log_causal}
use Rattle.td_machine.proofs.Stays.{Stays, insert_stays, delete_stays, flatten_stays}
use Rattle.td_machine.specs.Replay.{doc_of}
use Rattle.td_law_logs.specs.Logs.{IsLogOf, log_at, since, origin, base_from, base, slot_by, slot_of}
use Rattle.td_law_logs.specs.Places.{slot_holds, names_atom, place_of, at, birth, is_edit}
use Rattle.td_law_logs.proofs.Words.{held_by, holds, atom_at, born, moved_in, moved_by, moved, focus_by, focus}
use Rattle.td_law_logs.proofs.Rows.{standing, place_at, holds_of, held_in}
use Rattle.td_law_logs.proofs.LogRows.{doc_is, HasAtom, born_parts, born_true, born_dot, named_after}
use Rattle.td_law_logs.proofs.Fitting.{FitsBody}
use Rattle.td_law_logs.proofs.Bases.{slot_in, op_in, tail, causal, fits, past_older, Home, home}
use Rattle.td_law_logs.proofs.Bases.{home_log, proposal_of, base_log, log_at_is}
use Rattle.td_law_logs.proofs.DocSteps.{slot_same, new_place, stay_place, live_in}
use Rattle.std.proofs.lemmas.Option.{same_Some}

rooted_path : (rows : List DocRow) (slot : Slot) → is_rooted rows slot ≡ true
    → (sp : SlotPath) × (slot_path rows slot ≡ Some sp)
rooted_path rows Root h = (Whole, refl)
rooted_path rows (At x bit) h = at (find_row x rows) h
  where
    at : (o : Option DocRow) → is_some o ≡ true
        → (sp : SlotPath) × (option_map (λ (r : DocRow). Below r.path bit) o ≡ Some sp)
    at None k = absurd (true≢false (sym k))
    at (Some r) k = (Below r.path bit, refl)

-- the slot of a commit
pub record CommitSlot (family : Family) (o : OpValue) (path : Pairs) : Type 0 where
  pub slot : Slot
  pub is : slot_of family o ≡ Some slot
  pub holds : slot_holds slot path ≡ true

pub commit_slot : (family : Family) (o : OpValue) (path : Pairs) → holds family o path ≡ true
    → CommitSlot family o path
commit_slot family o path h = from (slot_of family o) refl h
  where
    from : (s : Option Slot) → slot_of family o ≡ s → held_by s path ≡ true → CommitSlot family o path
    from None e k = absurd (true≢false (sym k))
    from (Some slot) e k = record { slot = slot; is = e; holds = k }

pub commit_body : (family : Family) (o : OpValue) (slot : Slot) → slot_of family o ≡ Some slot
    → (p : DotValue) × (o.body ≡ Commit p)
commit_body family o slot h = from o.body refl h
  where
    from : (b : Body) → o.body ≡ b → slot_by family b ≡ Some slot → (p : DotValue) × (o.body ≡ Commit p)
    from (Commit p) e k = (p, e)
    from (Insert s run) e k = absurd cc
    from (Delete target) e k = absurd cc
    from (Propose s) e k = absurd cc
    from (Abort p) e k = absurd cc

module _ (family : Family) (c : IsConsistent family) where
  abbrev n : ℕ
  n = length family

  pub doc : (log : List OpValue) → IsLogOf family log → IsDocument (doc_of log)
  doc log l = doc_is n log (causal family c log l)

  -- the slot of a commit is that of its proposal, in each log that has it
  pub slot_known : (q : OpValue) (slot : Slot) → IsOpOf family q → q.body ≡ Propose slot → (log : List OpValue)
      → IsLogOf family log → In q log → proposed_slot q.dot log ≡ Some slot
  slot_known q slot o e log l i = slot_in n log q (causal family c log l) i ∙ ap proposed e

  pub commit_slot_is : (o : OpValue) (p : DotValue) (q : OpValue) (slot : Slot) → o.body ≡ Commit p → IsOpOf family q
      → q.dot ≡ p → q.body ≡ Propose slot → slot_of family o ≡ Some slot
  commit_slot_is o p q slot e k d asks =
      let m = made_at family c q k in
      ap (slot_by family) e
      ∙ (ap (λ (z : DotValue). proposed_slot z (log_at family z.site)) (sym d)
      ∙ (ap (proposed_slot q.dot) (log_at_is family c q.dot.site m.0)
      ∙ (slot_in n (log_of family q.dot.site) q (log_causal family c q.dot.site m.0 m.1) m.2 ∙ ap proposed asks)))

  -- a commit flattens its slot
  pub commit_doc : (o : OpValue) (log : List OpValue) (slot : Slot) → IsLogOf family (o ∷ log)
      → slot_of family o ≡ Some slot → doc_of (o ∷ log) ≡ flatten slot (doc_of log)
  commit_doc o log slot l e =
      let b = commit_body family o slot e in
      let ko = op_in family c (o ∷ log) l o (inl refl) in
      let q = proposal_of family c o b.0 ko b.1 in
      let i : In q.op log = past_older family c o log l q.op q.of q.past in
      let s : proposed_slot b.0 log ≡ Some q.slot = subst (λ (z : DotValue). proposed_slot z log ≡ Some q.slot) q.dot
      (slot_known q.op q.slot q.of q.asks log (tail family c o log l) i) in
      let same : q.slot ≡ slot =
      same_Some q.slot slot (sym (commit_slot_is o b.0 q.op q.slot b.1 q.of q.dot q.asks) ∙ e) in
      ap (λ (z : Body). effect log o.dot z (doc_of log)) b.1 ∙ ap (λ (z : Option Slot). flatten_found z (doc_of log))
      (s ∙ ap (λ (z : Slot). Some z) same)

  -- ---- an insert

  insert_place : (o : OpValue) (log : List OpValue) (x : AtomIdValue) (sp : SlotPath) → IsLogOf family (o ∷ log)
      → (a : HasAtom o x) → slot_path (doc_of log) a.slot ≡ Some sp
      → at (o ∷ log) x ≡ place_of x (array sp (run_atoms o.dot a.run))
  insert_place o log x sp l a e =
      let is : doc_of (o ∷ log) ≡ put_rows (array sp (run_atoms o.dot a.run)) (doc_of log) =
      ap (λ (b : Body). effect log o.dot b (doc_of log)) a.is
      ∙ ap (λ (s : Option SlotPath). put_array_below s (run_atoms o.dot a.run) (doc_of log)) e in
      let d = subst IsDocument is (doc (o ∷ log) l) in
      ap (place_of x) is
      ∙ subst (λ (z : AtomIdValue). place_of z
      (put_rows (array sp (run_atoms o.dot a.run)) (doc_of log)) ≡ place_of z (array sp (run_atoms o.dot a.run)))
      a.named (new_place sp (run_atoms o.dot a.run) (doc_of log) a.atom d a.among)

  pub insert_slot : (o : OpValue) (log : List OpValue) (x : AtomIdValue) → IsLogOf family (o ∷ log)
      → (a : HasAtom o x) → (sp : SlotPath) × (slot_path (doc_of log) a.slot ≡ Some sp)
  insert_slot o log x l a =
      rooted_path (doc_of log) a.slot (subst (λ (b : Body). FitsBody log o.dot.site b) a.is (fits family c o log l))

  pub birth_is : (o : OpValue) (x : AtomIdValue) → IsOpOf family o → o.dot ≡ x.dot
      → birth family x ≡ at (o ∷ base_from family o.dot) x
  birth_is o x k e =
      ap (λ (d : DotValue). at (since d (log_at family d.site)) x) (sym e)
      ∙ ap (λ (log : List OpValue). at log x) (Home.since_is (home family c o k))

  pub insert_base : (o : OpValue) (slot : Slot) (run : List (List ℕ)) → o.body ≡ Insert slot run
      → base_from family o.dot ≡ base family o
  insert_base o slot run e = ap (λ (b : Body). base_from family (origin o.dot b)) (sym e)

  pub born_at : (o : OpValue) (log : List OpValue) (x : AtomIdValue) → IsLogOf family (o ∷ log) → born o x ≡ true
      → (is_edit o.body ≡ true → at log (focus family o) ≡ at (base family o) (focus family o))
      → at (o ∷ log) x ≡ birth family x
  born_at o log x l b same =
      let a = born_parts o x b in
      let k = op_in family c (o ∷ log) l o (inl refl) in
      let s = insert_slot o log x l a in
      let foc : focus family o ≡ atom_at a.slot = ap (focus_by (slot_of family o)) a.is in
      let eq : slot_path (doc_of log) a.slot ≡ slot_path (doc_of (base family o)) a.slot =
      slot_same (doc_of log) (doc_of (base family o)) a.slot
      (λ (e : names_atom a.slot ≡ true). subst (λ (z : AtomIdValue). at log z ≡ at (base family o) z) foc
      (same (ap is_edit a.is ∙ e))) in
      let there : slot_path (doc_of (base_from family o.dot)) a.slot ≡ Some s.0 =
      ap (λ (z : List OpValue). slot_path (doc_of z) a.slot) (insert_base o a.slot a.run a.is) ∙ (sym eq ∙ s.1) in
      insert_place o log x s.0 l a s.1
      ∙ sym (birth_is o x k (born_dot o x b)
      ∙ insert_place o (base_from family o.dot) x s.0 (home_log family c o k) a there)

  -- ---- what stays

  not_new : (o : OpValue) (log : List OpValue) (x : AtomIdValue) → IsLogOf family (o ∷ log) → born o x ≡ false
      → (s : DocRow) → In s (doc_of (o ∷ log)) → row_id s ≡ x → (q : DocRow) × In q (doc_of log) × (row_id q ≡ x)
  not_new o log x l b s i e =
      ⊎_elim
      (λ (k : (q : DocRow) × In q (doc_of log) × (named s ≡ named q)).
      (k.0, k.1, sym (ap (λ (a : NamedAtom). a.id) k.2) ∙ e))
      (λ (k : (slot : Slot) × (run : List (List ℕ)) × (o.body ≡ Insert slot run)
      × In (named s) (run_atoms o.dot run)).
      absurd (true≢false
      (sym (born_true o x (record { slot = k.0; run = k.1; is = k.2; atom = named s; among = k.3; named = e }))
      ∙ b)))
      (named_after log o.dot o.body (doc_of log) (doc log (tail family c o log l)) s i)

  row_stays : (o : OpValue) (log : List OpValue) (x : AtomIdValue) → IsLogOf family (o ∷ log)
      → ((path : Pairs) → at log x ≡ Some path → holds family o path ≡ false)
      → Stays (doc_of log) (doc_of (o ∷ log)) x
  row_stays o log x l h = from o.body refl
    where
      d : IsDocument (doc_of log)
      d = doc log (tail family c o log l)

      e : IsDocument (doc_of (o ∷ log))
      e = doc (o ∷ log) l

      with_body : (b : Body) → o.body ≡ b → Stays (doc_of log) (effect log o.dot b (doc_of log)) x
          → Stays (doc_of log) (doc_of (o ∷ log)) x
      with_body b k s = subst (λ (z : Body). Stays (doc_of log) (effect log o.dot z (doc_of log)) x) (sym k) s

      same : Stays (doc_of log) (doc_of log) x
      same r k = (r, k, refl)

      from : (b : Body) → o.body ≡ b → Stays (doc_of log) (doc_of (o ∷ log)) x
      from (Insert slot run) k =
          with_body (Insert slot run) k
          (insert_stays slot o.dot run (doc_of log)
          (subst (λ (z : Body). IsDocument (effect log o.dot z (doc_of log))) k e) x)
      from (Delete target) k =
          with_body (Delete target) k
          (delete_stays target o.dot (doc_of log)
          (subst (λ (z : Body). IsDocument (effect log o.dot z (doc_of log))) k e) x)
      from (Propose slot) k = with_body (Propose slot) k same
      from (Abort p) k = with_body (Abort p) k same
      from (Commit p) k =
          let ko = op_in family c (o ∷ log) l o (inl refl) in
          let q = proposal_of family c o p ko k in
          let s = commit_slot_is o p q.op q.slot k q.of q.dot q.asks in
          subst (λ (rows : List DocRow). Stays (doc_of log) rows x) (sym (commit_doc o log q.slot l s))
          (flatten_stays q.slot (doc_of log) d x
          (false_from_ne_true (is_within (doc_of log) x q.slot) (λ w. out q.slot s w)))
        where
          out : (slot : Slot) → slot_of family o ≡ Some slot → is_within (doc_of log) x slot ≡ true → ⊥
          out slot s w =
              let r = row_of x (rows_in_slot (doc_of log) slot) w in
              let i = held_in (doc_of log) d slot r.0 r.1 in
              true≢false
              (sym (ap (λ (z : Option Slot). held_by z r.0.path) s ∙ i.1)
              ∙ h r.0.path (place_at (doc_of log) d r.0 x i.0 r.2))

  pub stays : (o : OpValue) (log : List OpValue) (x : AtomIdValue) → IsLogOf family (o ∷ log) → born o x ≡ false
      → ((path : Pairs) → at log x ≡ Some path → holds family o path ≡ false) → at (o ∷ log) x ≡ at log x
  stays o log x l b h = stay_place (doc_of log) (doc_of (o ∷ log)) x (row_stays o log x l h) (not_new o log x l b)

  -- ---- a commit

  pub moved_within : (o : OpValue) (x : AtomIdValue) (path : Pairs) → IsOpOf family o → moved family o x ≡ Some path
      → holds family o path ≡ true
  moved_within o x path k h = from (slot_of family o) refl h
    where
      from : (s : Option Slot) → slot_of family o ≡ s → moved_by s (doc_of (base family o)) x ≡ Some path
          → holds family o path ≡ true
      from None e m = absurd cc
      from (Some slot) e m = ap (λ (z : Option Slot). held_by z path) e
          ∙ deeper (slot_path (doc_of (base family o)) slot) refl m
        where
          deeper : (o' : Option SlotPath) → slot_path (doc_of (base family o)) slot ≡ o'
              → moved_in o' (doc_of (base family o)) x ≡ Some path → slot_holds slot path ≡ true
          deeper None f j = absurd cc
          deeper (Some sp) f j =
              let w = standing (array sp (live_in sp (doc_of (base family o)))) x path j in
              holds_of (doc_of (base family o)) (doc (base family o) (base_log family c o k)) slot sp path f
              (subst (λ (p : Pairs). slot_contains sp p ≡ true) w.stands
              (contained_in sp (live_in sp (doc_of (base family o))) w.row w.inside))
