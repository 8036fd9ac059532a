-- The slots that inserts write, and votes: the other premises of epochs and of siblings.
use Rattle.std.proofs.Common.{◌≡◌, ◌⊎◌, ◌<◌, ◌≤◌, ◌/◌, ◌++◌, ℕ, List, [], ◌∷◌, length, Bool, true, false, cond}
use Rattle.std.proofs.Common.{Option, Some, None, refl, sym, ap, ◌∙◌, subst, inl, inr, ⊎_elim, true≢false}
use Rattle.std.specs.Prelude.{IsTrue}
use Rattle.td_base.specs.declared.bit.Bit.{Bit}
use Rattle.td_base.specs.Value.{DotValue, AtomIdValue}
use Rattle.td_base.specs.Lists.{In}
use Rattle.td_path.specs.Infix.{Pair, Pairs}
use Rattle.td_path.specs.SlotPaths.{path_in}
use Rattle.td_path.specs.declared.slot.Slot.{Slot}
use Rattle.td_path.specs.declared.slot.Slot.TheVariants.{Root, At}
use Rattle.td_path.specs.declared.slot_path.SlotPath.{SlotPath}
use Rattle.td_op.specs.declared.body.Body.{Body}
use Rattle.td_op.specs.declared.body.Body.TheVariants.{Insert, Delete, Propose, Commit, Abort}
use Rattle.td_op.specs.Op.{OpValue}
use Rattle.td_op.specs.Past.{in_past}
use Rattle.td_doc.specs.Document.{DocRow, row_id, find_row, is_empty_list}
use Rattle.td_doc.specs.Array.{row_in, array}
use Rattle.td_base.specs.RunAtoms.{NamedAtom, run_atoms}
use Rattle.td_doc.specs.Insertion.{put_rows, put_array_below}
use Rattle.td_doc.specs.Slots.{slot_path, rows_in_slot, is_empty_slot, last_slot, overlaps}
use Rattle.td_doc.proofs.PutRows.{puts_in}
use Rattle.td_doc.proofs.ArrayRows.{named_row}
use Rattle.td_doc.proofs.Rules.{found}
use Rattle.td_base.specs.Equality.{same_dot}
use Rattle.td_machine.specs.Counts.{IsInTurn}
use Rattle.td_machine.specs.Log.{decides}
use Rattle.td_machine.specs.Making.{effect}
use Rattle.td_machine.specs.History.{Family, IsConsistent, IsOpOf, log_of}
use Rattle.td_base.proofs.Equals.{same_dot_refl, same_dot_true}
use Rattle.td_machine.proofs.Family.{not_older, full_of, made_at}
use Rattle.td_machine.specs.Replay.{doc_of}
use Rattle.td_law_logs.proofs.Fitting.{free_home}
use Rattle.td_law_agreement.proofs.Words.{Words, renames, MetAt, Met, one, earlier, behind, met, met_back}
use Rattle.td_law_agreement.proofs.Words.{Slots as SlotPremises, Tops as TopPremises}
use Rattle.td_law_logs.specs.Logs.{IsLogOf, base_from, base, origin, slot_of, IsCommit}
use Rattle.td_law_logs.specs.Places.{passes, slot_holds, at, birth, is_edit, IsMiddleBy, IsMiddle, written_by}
use Rattle.td_law_logs.proofs.Words.{held_by, holds, focus_by, focus, born, is_slot, on_top, BothIn, SameSlot}
use Rattle.td_law_commitment.specs.Voted.{IsHeld, IsVoted}
use Rattle.td_law_agreement.proofs.World.{words}
use Rattle.td_law_commitment.specs.Promises.{OneDecision}
use Rattle.td_law_logs.proofs.Passes.{passes_parts}
use Rattle.td_law_logs.proofs.Rows.{standing, place_at, above_place, holds_of, in_slot}
use Rattle.td_law_logs.proofs.DocSteps.{array_found}
use Rattle.td_doc.proofs.PathEnds.{last_slot-append}
use Rattle.td_machine.specs.Touches.{IsRowOf}
use Rattle.td_law_logs.proofs.LogRows.{HasAtom, born_parts, born_true, born_dot}
use Rattle.td_law_logs.proofs.Bases.{op_in, tail, causal, past_in, home, home_log, known}
use Rattle.td_law_logs.proofs.Steps.{CommitSlot, commit_slot, doc, birth_is, insert_slot, insert_base}
use Rattle.td_law_agreement.proofs.OwnSlots.{own_at, own_holds, top_two, in_own, TopCase, middle_row}
use Rattle.td_law_agreement.proofs.OwnSlots.{hung_row, top_case, Middle, middle_of, middle_in}
use Rattle.td_law_logs.proofs.Commits.{commit_of, commit_slot_of, overlap_from, overlap_to, edit_log, insert_row}
use Rattle.td_law_agreement.proofs.FamilyRecord.{pending_held, renames_path}
use Rattle.std.proofs.lemmas.Option.{same_Some}
use Rattle.td_path.proofs.SlotEquals.{same_slot_refl, same_slot_true}

-- which of two operations of a log is the newer
newer_of : (log : List OpValue) (x y : OpValue) → In x log → In y log → (x.dot ≡ y.dot → ⊥)
    → ((newer : List OpValue) × (older : List OpValue) × (log ≡ newer ++ x ∷ older) × In y older)
    ⊎ ((newer : List OpValue) × (older : List OpValue) × (log ≡ newer ++ y ∷ older) × In x older)
newer_of [] x y i j n = absurd i
newer_of (z ∷ log) x y (inl e) (inl f) n = absurd (n (ap (λ (o : OpValue). o.dot) (e ∙ sym f)))
newer_of (z ∷ log) x y (inl e) (inr j) n = inl ([], log, (λ i. sym e i ∷ log), j)
newer_of (z ∷ log) x y (inr i) (inl f) n = inr ([], log, (λ k. sym f k ∷ log), i)
newer_of (z ∷ log) x y (inr i) (inr j) n =
    ⊎_elim
    (λ (r : (newer : List OpValue) × (older : List OpValue) × (log ≡ newer ++ x ∷ older) × In y older). inl
    (z ∷ r.0, r.1, (λ k. z ∷ r.2 k), r.3))
    (λ (r : (newer : List OpValue) × (older : List OpValue) × (log ≡ newer ++ y ∷ older) × In x older). inr
    (z ∷ r.0, r.1, (λ k. z ∷ r.2 k), r.3))
    (newer_of log x y i j n)

-- an insert, by the slot that it wrote
pub record Written (a : OpValue) (slot : Slot) : Type 0 where
  pub run : List (List ℕ)
  pub is : a.body ≡ Insert slot run

pub written_of : (a : OpValue) (slot : Slot) → written_by a.body ≡ Some slot → Written a slot
written_of a slot h = from a.body refl h
  where
    from : (b : Body) → a.body ≡ b → written_by b ≡ Some slot → Written a slot
    from (Insert s run) e k = record { run = run; is = e ∙ ap (λ (z : Slot). Insert z run) (same_Some s slot k) }
    from (Delete target) e k = absurd cc
    from (Propose s) e k = absurd cc
    from (Commit p) e k = absurd cc
    from (Abort p) e k = absurd cc

pub record TopOf (a : OpValue) (path : Pairs) : Type 0 where
  pub slot : Slot
  pub wrote : written_by a.body ≡ Some slot
  pub own : last_slot Root path ≡ slot

pub top_parts : (a : OpValue) (path : Pairs) → on_top a path ≡ true → TopOf a path
top_parts a path h = from (written_by a.body) refl h
  where
    from : (o : Option Slot) → written_by a.body ≡ o → is_slot o (last_slot Root path) ≡ true → TopOf a path
    from None e k = absurd (true≢false (sym k))
    from (Some slot) e k = record { slot = slot; wrote = e; own = sym (same_slot_true slot (last_slot Root path) k) }

pub top_from : (a : OpValue) (path : Pairs) (slot : Slot) → written_by a.body ≡ Some slot → last_slot Root path ≡ slot
    → on_top a path ≡ true
top_from a path slot e f = ap (λ (o : Option Slot). is_slot o (last_slot Root path)) e
    ∙ same_slot_refl slot (last_slot Root path) (sym f)

pub record Both (a d : OpValue) : Type 0 where
  pub slot : Slot
  pub first : written_by a.body ≡ Some slot
  pub second : written_by d.body ≡ Some slot

pub both_parts : (a d : OpValue) → SameSlot a d → Both a d
both_parts a d h = from (written_by a.body) (written_by d.body) refl refl h
  where
    from : (o p : Option Slot) → written_by a.body ≡ o → written_by d.body ≡ p → BothIn o p → Both a d
    from None p e f k = absurd k
    from (Some s) None e f k = absurd k
    from (Some s) (Some t) e f k = record { slot = s; first = e; second = f ∙ ap (λ (z : Slot). Some z) (sym k) }

pub both_from : (a d : OpValue) (slot : Slot) → written_by a.body ≡ Some slot → written_by d.body ≡ Some slot
    → SameSlot a d
both_from a d slot e f = subst (λ (o : Option Slot). BothIn o (written_by d.body)) (sym e)
    (subst (λ (o : Option Slot). BothIn (Some slot) o) (sym f) refl)

module _ (family : Family) (c : IsConsistent family) where
  abbrev n : ℕ
  n = length family

  abbrev w : Words OpValue AtomIdValue Pairs
  w = words family

  -- ---- the middle atom, where its insert put it

  pub record MiddleRow (a : OpValue) (slot : Slot) (run : List (List ℕ)) : Type 0 where
    pub middle : Middle a.dot run
    pub path : Pairs
    pub born : birth family middle.atom.id ≡ Some path
    pub own : last_slot Root path ≡ slot

  insert_doc : (a : OpValue) (log : List OpValue) (slot : Slot) (run : List (List ℕ)) (sp : SlotPath)
      → a.body ≡ Insert slot run → slot_path (doc_of log) slot ≡ Some sp
      → doc_of (a ∷ log) ≡ put_rows (array sp (run_atoms a.dot run)) (doc_of log)
  insert_doc a log slot run sp e f =
      ap (λ (b : Body). effect log a.dot b (doc_of log)) e
      ∙ ap (λ (z : Option SlotPath). put_array_below z (run_atoms a.dot run) (doc_of log)) f

  pub middle_row_of : (a : OpValue) (slot : Slot) (run : List (List ℕ)) → IsOpOf family a → a.body ≡ Insert slot run
      → MiddleRow a slot run
  middle_row_of a slot run k e =
      let m = middle_of a.dot run (full_of family c a k slot run e) in
      let log = base_from family a.dot in
      let l = home_log family c a k in
      let has : HasAtom a m.atom.id =
      record { slot = slot; run = run; is = e; atom = m.atom; among = m.among; named = refl } in
      let s = insert_slot family c a log m.atom.id l has in
      let i : In (row_in s.0 m.atom) (doc_of (a ∷ log)) =
      subst (λ (rows : List DocRow). In (row_in s.0 m.atom) rows) (sym (insert_doc a log slot run s.0 e s.1))
      (puts_in (array s.0 (run_atoms a.dot run)) (doc_of log) (row_in s.0 m.atom)
      (inl (middle_in a.dot run m s.0))) in
      let p = place_at (doc_of (a ∷ log)) (doc family c (a ∷ log) l) (row_in s.0 m.atom) m.atom.id i
      (ap (λ (z : NamedAtom). z.id) (named_row s.0 m.atom)) in
      record {
        middle = m;
        path = path_in s.0 m.atom.id;
        born = birth_is family c a m.atom.id k (sym (ap (λ (z : AtomIdValue). z.dot) m.id)) ∙ p;
        own = in_own (doc_of log) (doc family c log (tail family c a log l)) slot s.0 m.atom.id s.1;
      }

  -- ---- an insert finds its slot empty where it is made

  no_rows_in : (rows : List DocRow) → is_empty_list rows ≡ true → (r : DocRow) → In r rows → ⊥
  no_rows_in [] h r i = i
  no_rows_in (q ∷ rows) h r i = true≢false (sym h)

  pub free : (a : OpValue) → IsLogOf family (a ∷ base family a) → (x : AtomIdValue) (path : Pairs)
      → at (base family a) x ≡ Some path → on_top a path ≡ true → ⊥
  free a l x path here top =
      let t = top_parts a path top in
      let s = written_of a t.slot t.wrote in
      let k = op_in family c (a ∷ base family a) l a (inl refl) in
      let h = home family c a k in
      let b = insert_base family c a t.slot s.run s.is in
      let f : is_empty_slot (doc_of (base family a)) t.slot ≡ true =
      subst (λ (z : List OpValue). is_empty_slot (doc_of z) t.slot ≡ true) b
      (free_home family c h.newer a (base_from family a.dot) h.some h.within h.is t.slot s.run s.is) in
      let u = standing (doc_of (base family a)) x path here in
      let i = in_slot (doc_of (base family a)) (doc family c (base family a) (tail family c a (base family a) l))
      t.slot u.row u.inside
      (subst (λ (p : Pairs). slot_holds t.slot p ≡ true) (sym u.stands) (own_holds t.slot path t.own)) in
      no_rows_in (rows_in_slot (doc_of (base family a)) t.slot) f u.row i

  pub middle_there : (a d : OpValue) → IsOpOf family d → SameSlot d a
      → (x : AtomIdValue) × (born d x ≡ true) × (path : Pairs) × (birth family x ≡ Some path) × (on_top d path ≡ true)
  middle_there a d k h =
      let b = both_parts d a h in
      let s = written_of d b.slot b.first in
      let m = middle_row_of d b.slot s.run k s.is in (
        m.middle.atom.id,
        born_true d m.middle.atom.id
            (record {
              slot = b.slot;
              run = s.run;
              is = s.is;
              atom = m.middle.atom;
              among = m.middle.among;
              named =
                  refl;
            }),
        m.path,
        m.born,
        top_from d m.path b.slot b.first m.own,
      )

  pub middle_named : (d : OpValue) (slot : Slot) (run : List (List ℕ)) (x : AtomIdValue) → d.body ≡ Insert slot run
      → IsMiddle d x → (m : Middle d.dot run) → x ≡ m.atom.id
  middle_named d slot run x e h m =
      let k : IsMiddleBy d.dot (Insert slot run) x = subst (λ (b : Body). IsMiddleBy d.dot b x) e h in
      (λ i. record { dot = k.0 i; offset = k.1 i }) ∙ sym m.id

  pub middle_tops : (a d : OpValue) (x : AtomIdValue) → IsOpOf family d → SameSlot d a → IsMiddle d x
      → (path : Pairs) × (birth family x ≡ Some path) × (on_top a path ≡ true)
  middle_tops a d x k h mid =
      let b = both_parts d a h in
      let s = written_of d b.slot b.first in
      let m = middle_row_of d b.slot s.run k s.is in
      let e = middle_named d b.slot s.run x s.is mid m.middle in (
        m.path,
        subst (λ (z : AtomIdValue). birth family z ≡ Some m.path) (sym e) m.born,
        top_from a m.path b.slot b.second m.own,
      )

  -- ---- an atom that its insert put right into a slot

  pub birth_tops : (a d : OpValue) (x : AtomIdValue) (path : Pairs) → IsOpOf family d → born d x ≡ true
      → birth family x ≡ Some path → on_top a path ≡ true
      → (SameSlot d a × IsMiddle d x) ⊎ ((is_edit a.body ≡ true) × (born d (focus family a) ≡ true))
  birth_tops a d x path k b h top =
      from (top_case (length (run_atoms d.dot o.run)) s.0 (run_atoms d.dot o.run) f.0 g.0)
    where
      o : HasAtom d x
      o = born_parts d x b

      t : TopOf a path
      t = top_parts a path top

      log : List OpValue
      log = base_from family d.dot

      l : IsLogOf family (d ∷ base_from family d.dot)
      l = home_log family c d k

      s : (sp : SlotPath) × (slot_path (doc_of (base_from family d.dot)) o.slot ≡ Some sp)
      s = insert_slot family c d (base_from family d.dot) x l o

      f : (r : DocRow) × (find_row o.atom.id (array s.0 (run_atoms d.dot o.run)) ≡ Some r)
      f = array_found s.0 (run_atoms d.dot o.run) o.atom o.among

      g : In f.0 (array s.0 (run_atoms d.dot o.run)) × (row_id f.0 ≡ o.atom.id)
      g = found o.atom.id f.0 (array s.0 (run_atoms d.dot o.run)) f.1

      -- where its insert put it
      row_path : f.0.path ≡ path
      row_path =
          let i : In f.0 (doc_of (d ∷ base_from family d.dot)) =
          subst (λ (rows : List DocRow). In f.0 rows)
          (sym (insert_doc d (base_from family d.dot) o.slot o.run s.0 o.is s.1))
          (puts_in (array s.0 (run_atoms d.dot o.run)) (doc_of (base_from family d.dot)) f.0 (inl g.0)) in
          let p = place_at (doc_of (d ∷ base_from family d.dot)) (doc family c (d ∷ base_from family d.dot) l) f.0 x i
          (g.1 ∙ o.named) in
          same_Some f.0.path path (sym p ∙ (sym (birth_is family c d x k (born_dot d x b)) ∙ h))

      from : TopCase s.0 (run_atoms d.dot o.run) f.0
          → (SameSlot d a × IsMiddle d x) ⊎ ((is_edit a.body ≡ true) × (born d (focus family a) ≡ true))
      from (middle_row m rest e q) =
          let mid = middle_of d.dot o.run (full_of family c d k o.slot o.run o.is) in
          let same : m ≡ mid.atom = head m mid.atom rest _ (sym e ∙ mid.halves.is) in
          let id : x ≡ m.id = sym o.named
          ∙ (sym g.1 ∙ (ap row_id q ∙ ap (λ (z : NamedAtom). z.id) (named_row s.0 m))) in
          let full : x ≡ record { dot = d.dot; offset = length o.run / 2 } =
          id ∙ (ap (λ (z : NamedAtom). z.id) same ∙ mid.id) in
          let own : last_slot Root path ≡ o.slot =
          ap (last_slot Root) (sym row_path ∙ ap (λ (z : DocRow). z.path) q)
          ∙ in_own (doc_of (base_from family d.dot))
          (doc family c (base_from family d.dot) (tail family c d (base_from family d.dot) l)) o.slot s.0 m.id
          s.1 in
          let wrote : written_by d.body ≡ Some o.slot = ap written_by o.is in
          inl (
            both_from d a o.slot wrote (t.wrote ∙ ap (λ (z : Slot). Some z) (sym t.own ∙ own)),
            subst (λ (z : Body). IsMiddleBy d.dot z x) (sym o.is)
                (ap (λ (z : AtomIdValue). z.dot) full, ap (λ (z : AtomIdValue). z.offset) full),
          )
        where
          head : (u v : NamedAtom) (us vs : List NamedAtom) → u ∷ us ≡ v ∷ vs → u ≡ v
          head u v us vs m = cc
      from (hung_row y i front side bit id e) =
          let own : last_slot Root path ≡ At y.id bit = ap (last_slot Root) (sym row_path ∙ e)
          ∙ last_slot-append Root front (side, y.id) (bit, id) in
          let slot : t.slot ≡ At y.id bit = sym t.own ∙ own in
          let wa = written_of a t.slot t.wrote in
          let body : a.body ≡ Insert (At y.id bit) wa.run = wa.is ∙ ap (λ (z : Slot). Insert z wa.run) slot in
          inr (
            ap is_edit body,
            subst (λ (z : AtomIdValue). born d z ≡ true) (sym (ap (focus_by (slot_of family a)) body))
                (born_true d y.id
                (record { slot = o.slot; run = o.run; is = o.is; atom = y; among = i; named = refl })),
          )

  -- ---- votes

  module _ (v : IsVoted family) (decision : OneDecision family) where
    met_from : (d p : OpValue) (s : Slot) (e q : OpValue) (t : Slot) → IsCommit family d p s → IsCommit family e q t
        → IsTrue (in_past q e) → (p.dot ≡ q.dot → ⊥) → (older : List OpValue) → IsLogOf family (q ∷ older)
        → In p older → MetAt w d e ⊎ In d (base family e)
    met_from d p s e q t kd ke past apart older l i = from (known family c d (q ∷ older) kd.inside l)
      where
        k : IsInTurn n (q ∷ older)
        k = causal family c (q ∷ older) l

        new : In e (q ∷ older) → ⊥
        new (inl f) = no_one t q.dot (sym ke.asks ∙ (ap (λ (z : OpValue). z.body) (sym f) ∙ ke.is))
          where
            no_one : (slot : Slot) (x : DotValue) → Propose slot ≡ Commit x → ⊥
            no_one slot x m = cc
        new (inr j) =
            not_older n q q older k.0 k.1 (past_in family c older (tail family c q older l) e q j ke.proposed past)
            refl

        held : IsHeld family e q t (q ∷ older)
        held = record { of = l; commit = ke; proposed = inl refl; open_yet = new }

        from : In d (q ∷ older) ⊎ (In d (q ∷ older) → ⊥) → MetAt w d e ⊎ In d (base family e)
        from (inl j) = test (overlaps (doc_of (q ∷ older)) s t) refl
          where
            test : (b : Bool) → overlaps (doc_of (q ∷ older)) s t ≡ b → MetAt w d e ⊎ In d (base family e)
            test true f =
                inr (v.in_turn e q t (q ∷ older) held d j
                (overlap_from family (q ∷ older) d e s t (commit_slot_of family c d p s kd)
                (commit_slot_of family c e q t ke) f))
            test false f =
                inl (record {
                  log = q ∷ older;
                  pending = pending_held family c v e q t (q ∷ older) held;
                  apart = λ o. true≢false
                      (sym (overlap_to family (q ∷ older) d e s t (commit_slot_of family c d p s kd)
                      (commit_slot_of family c e q t ke) o) ∙ f);
                  had = inl j;
                })
        from (inr m) =
            let other : IsHeld family d p s (q ∷ older) =
            record { of = l; commit = kd; proposed = inr i; open_yet = m } in
            let f = v.apart d p e q s t (q ∷ older) other held
            (λ (g : p ≡ q). apart (ap (λ (z : OpValue). z.dot) g)) in
            inl (record {
              log = q ∷ older;
              pending = pending_held family c v e q t (q ∷ older) held;
              apart = λ o. true≢false
                  (sym (overlap_to family (q ∷ older) d e s t (commit_slot_of family c d p s kd)
                  (commit_slot_of family c e q t ke) o) ∙ f);
              had = inr (pending_held family c v d p s (q ∷ older) other);
            })

    pub votes : (d e : OpValue) (x : AtomIdValue) → IsOpOf family d → IsOpOf family e → renames w d x ≡ true
        → renames w e x ≡ true → Met w d e
    votes d e x kd ke r s = from (same_dot dp.0.dot eq.0.dot) refl
      where
        dr : (path : Pairs) × (at (base family d) x ≡ Some path) × (holds family d path ≡ true)
        dr = renames_path family c v d x r

        er : (path : Pairs) × (at (base family e) x ≡ Some path) × (holds family e path ≡ true)
        er = renames_path family c v e x s

        ds : CommitSlot family d dr.0
        ds = commit_slot family d dr.0 dr.2

        es : CommitSlot family e er.0
        es = commit_slot family e er.0 er.2

        dp : (q : OpValue) × IsCommit family d q ds.slot × IsTrue (in_past q d)
        dp = commit_of family c d ds.slot kd ds.is

        eq : (q : OpValue) × IsCommit family e q es.slot × IsTrue (in_past q e)
        eq = commit_of family c e es.slot ke es.is

        m : (0 < d.dot.site) × (d.dot.site ≤ n) × In d (log_of family d.dot.site)
        m = made_at family c d kd

        decides_own : (p : DotValue) → decides p (Commit p) ≡ Some true
        decides_own p = ap (λ (b : Bool). cond b (Some true) None) (same_dot_refl p)

        part : (newer older : List OpValue) (y : OpValue) → log_of family d.dot.site ≡ newer ++ y ∷ older
            → IsLogOf family (y ∷ older)
        part newer older y h = record { site = d.dot.site; some = m.0; within = m.1; newer = newer; is = h }

        from : (b : Bool) → same_dot dp.0.dot eq.0.dot ≡ b → Met w d e
        from true f =
            let same : dp.0.dot ≡ eq.0.dot = same_dot_true dp.0.dot eq.0.dot f in
            one (decision eq.0.dot d e true true kd ke
            (ap (decides eq.0.dot) (dp.1.is ∙ ap (λ (z : DotValue). Commit z) same) ∙ decides_own eq.0.dot)
            (ap (decides eq.0.dot) eq.1.is ∙ decides_own eq.0.dot))
        from false f =
            order (newer_of (log_of family d.dot.site) eq.0 dp.0 (v.everywhere e eq.0 es.slot eq.1 d.dot.site m.0 m.1)
            (v.everywhere d dp.0 ds.slot dp.1 d.dot.site m.0 m.1) (λ g. differ (sym g)))
          where
            differ : dp.0.dot ≡ eq.0.dot → ⊥
            differ g =
                true≢false (sym (subst (λ (z : DotValue). same_dot dp.0.dot z ≡ true) g (same_dot_refl dp.0.dot)) ∙ f)

            order : ((newer : List OpValue) × (older : List OpValue)
                × (log_of family d.dot.site ≡ newer ++ eq.0 ∷ older) × In dp.0 older)
                ⊎ ((newer : List OpValue) × (older : List OpValue)
                × (log_of family d.dot.site ≡ newer ++ dp.0 ∷ older) × In eq.0 older) → Met w d e
            order (inl g) =
                ⊎_elim (λ (z : MetAt w d e). met z) (λ (z : In d (base family e)). earlier z)
                (met_from d dp.0 ds.slot e eq.0 es.slot dp.1 eq.1 eq.2 differ g.1 (part g.0 g.1 eq.0 g.2) g.3)
            order (inr g) =
                ⊎_elim (λ (z : MetAt w e d). met_back z) (λ (z : In e (base family d)). behind z)
                (met_from e eq.0 es.slot d dp.0 ds.slot eq.1 dp.1 dp.2 (λ h. differ (sym h)) g.1
                (part g.0 g.1 dp.0 g.2) g.3)

    -- ---- nests

    -- each insert in the slot of a commit was known to its proposer, or was made after it
    at_slot : (s : Slot) (e q : OpValue) (t : Slot) → IsCommit family e q t → (s ≡ t) ⊎ (t ≡ Root) → (d : OpValue)
        → IsOpOf family d → written_by d.body ≡ Some s → In d (base family e) ⊎ In e (base family d)
    at_slot s e q t k how d kd wrote =
        let wd = written_of d s wrote in
        let r = insert_row family c d s wd.run kd wd.is in
        let l = edit_log family c d kd (ap (origin d.dot) wd.is) in
        let h = holds_of (doc_of (base family d)) (doc family c (base family d) (tail family c d (base family d) l)) s
        r.sp r.row.path r.at_slot r.contained in
        v.beside d e q t kd k r.row r.inside (subst (λ (b : Body). IsRowOf d b r.row) (sym wd.is) r.own)
        (⊎_elim (λ (g : s ≡ t). subst (λ (z : Slot). slot_holds z r.row.path ≡ true) g h)
        (λ (g : t ≡ Root). subst (λ (z : Slot). slot_holds z r.row.path ≡ true) (sym g) refl) how)

    abbrev pub Nest : OpValue → OpValue → AtomIdValue → Pairs → Type 0
    Nest a e x path =
        ((d : OpValue) → IsOpOf family d → SameSlot a d → In d (base family e) ⊎ In e (base family d))
        ⊎ ((p : Pairs) × (is_edit a.body ≡ true) × ((log : List OpValue) → IsLogOf family log → at log x ≡ Some path
        → at log (focus family a) ≡ Some p) × (holds family e p ≡ true))

    pub nest : (a e : OpValue) (x : AtomIdValue) (path : Pairs) → IsOpOf family e → on_top a path ≡ true
        → holds family e path ≡ true → Nest a e x path
    nest a e x path ke top h = from t.slot s.slot refl refl
      where
        t : TopOf a path
        t = top_parts a path top

        s : CommitSlot family e path
        s = commit_slot family e path h

        q : (q : OpValue) × IsCommit family e q s.slot × IsTrue (in_past q e)
        q = commit_of family c e s.slot ke s.is

        here : (t.slot ≡ s.slot) ⊎ (s.slot ≡ Root) → Nest a e x path
        here how =
            inl (λ d kd m. let b = both_parts a d m in
            at_slot t.slot e q.0 s.slot q.1 how d kd
            (b.second ∙ ap (λ (z : Slot). Some z) (same_Some b.slot t.slot (sym b.first ∙ t.wrote))))

        from : (u z : Slot) → t.slot ≡ u → s.slot ≡ z → Nest a e x path
        from u Root f g = here (inr g)
        from Root (At y b) f g =
            let k : passes y b path ≡ true = subst (λ (z : Slot). slot_holds z path ≡ true) g s.holds in
            let p = passes_parts y b path k in
            absurd (long p.front (p.side, y) (b, p.next) p.rest (ap (last_slot Root) (sym p.is) ∙ (t.own ∙ f)))
          where
            no_root : (x : AtomIdValue) (bit : Bit) → At x bit ≡ Root → ⊥
            no_root x bit m = cc

            deep : (y : Pair) (bit : Pair) (rest : Pairs) (slot : Slot) → last_slot slot (y ∷ bit ∷ rest) ≡ Root → ⊥
            deep y u [] slot m = no_root y.1 u.0 m
            deep y u (z ∷ rest) slot m = deep u z rest (At y.1 u.0) m

            long : (front : Pairs) (y u : Pair) (rest : Pairs) → last_slot Root (front ++ y ∷ u ∷ rest) ≡ Root → ⊥
            long [] y u rest m = deep y u rest Root m
            long (z ∷ []) y u rest m = deep z y (u ∷ rest) Root m
            long (z ∷ z' ∷ front) y u rest m = deep z z' (front ++ y ∷ u ∷ rest) Root m
        from (At z bit) (At y b) f g =
            let o = own_at path z bit (t.own ∙ f) in
            let k : passes y b path ≡ true = subst (λ (m : Slot). slot_holds m path ≡ true) g s.holds in
            ⊎_elim
            (λ (m : (z ≡ y) × (bit ≡ b)). here (inl (f ∙ ((λ i. At (m.0 i) (m.1 i)) ∙ sym g))))
            (λ (m : passes y b (o.front ++ (o.side, z) ∷ []) ≡ true).
            let wa = written_of a t.slot t.wrote in
            let body : a.body ≡ Insert (At z bit) wa.run = wa.is ∙ ap (λ (r : Slot). Insert r wa.run) f in
            inr (
              o.front ++ (o.side, z) ∷ [],
              ap is_edit body,
              (λ log l h. subst (λ (r : AtomIdValue). at log r ≡ Some (o.front ++ (o.side, z) ∷ []))
                  (sym (ap (focus_by (slot_of family a)) body))
                  (above_place (doc_of log) (doc family c log l) x path o.front o.side z (bit, o.id) [] h o.is)),
              ap (λ (r : Option Slot). held_by r (o.front ++ (o.side, z) ∷ [])) (s.is ∙ ap (λ (r : Slot). Some r) g)
                  ∙ m,
            ))
            (top_two y b o.front o.side z bit o.id (subst (λ (p : Pairs). passes y b p ≡ true) o.is k))

    pub same_focus : (d e : OpValue) → SameSlot d e → is_edit d.body ≡ true
        → (is_edit e.body ≡ true) × (focus family e ≡ focus family d)
    same_focus d e h k =
        let b = both_parts d e h in
        let u = written_of d b.slot b.first in
        let z = written_of e b.slot b.second in (
          ap is_edit z.is ∙ (sym (ap is_edit u.is) ∙ k),
          ap (focus_by (slot_of family e)) z.is
              ∙ sym (ap (focus_by (slot_of family d)) u.is),
        )

    pub same_itself : (a : OpValue) (path : Pairs) → on_top a path ≡ true → SameSlot a a
    same_itself a path h = let t = top_parts a path h in both_from a a t.slot t.wrote t.wrote

    pub same_rows : (a d : OpValue) (path : Pairs) → SameSlot d a → on_top d path ≡ on_top a path
    same_rows a d path h = let b = both_parts d a h in
        ap (λ (z : Option Slot). is_slot z (last_slot Root path)) (b.first ∙ sym b.second)

    abbrev pub slots : SlotPremises w
    slots =
        record {
          top = on_top;
          SameSlot = SameSlot;
          votes = votes;
          same_itself = same_itself;
          same_rows = same_rows;
          same_focus = same_focus;
          free = free;
          middle = middle_there;
          nest = nest;
        }

    abbrev pub tops : TopPremises w slots
    tops = record { Middle = IsMiddle; birth_tops = birth_tops; middle_tops = middle_tops }
