-- Agreement, and siblings at arrival.
use Rattle.std.proofs.Common.{◌≡◌, List, ◌∷◌, true, false, Option, Some, None, refl}
use Rattle.std.proofs.Common.{sym, ap, ◌∙◌, subst, inl, true≢false}
use Rattle.std.specs.Option.{option_map, is_some}
use Rattle.td_base.specs.Value.{AtomIdValue}
use Rattle.td_base.specs.Lists.{In}
use Rattle.td_path.specs.Infix.{Pairs}
use Rattle.td_path.specs.declared.slot.Slot.{Slot}
use Rattle.td_path.specs.declared.slot.Slot.TheVariants.{Root, At}
use Rattle.td_op.specs.declared.body.Body.{Body}
use Rattle.td_op.specs.declared.body.Body.TheVariants.{Insert, Delete, Propose, Commit, Abort}
use Rattle.td_op.specs.Op.{OpValue, named_atom}
use Rattle.td_doc.specs.Document.{DocRow, row_id, find_row}
use Rattle.td_doc.specs.Slots.{own_slot, last_slot, is_empty_slot}
use Rattle.td_machine.specs.History.{Family, IsConsistent, IsOpOf}
use Rattle.td_machine.specs.Replay.{doc_of}
use Rattle.td_law_agreement.proofs.Words.{Words, Agrees}
use Rattle.td_law_logs.specs.Logs.{IsLogOf, base_from, base, origin, slot_of}
use Rattle.td_law_logs.specs.Places.{slot_holds, place_of, at, birth, is_edit, written_by}
use Rattle.td_law_logs.proofs.Words.{held_by, born, focus_by, focus}
use Rattle.td_law_commitment.specs.Voted.{IsVoted}
use Rattle.td_law_agreement.proofs.World.{words}
use Rattle.td_law_commitment.specs.Promises.{OneDecision}
use Rattle.td_law_agreement.specs.Agreement.{InsertsFindSlotsEmpty, EditsMeet, CommitsMeet, IsSibling, SiblingsMeet}
use Rattle.td_law_agreement.proofs.Agree.{agree, agree_pending, siblings_there, siblings_all}
use Rattle.td_law_logs.proofs.Rows.{standing, place_is}
use Rattle.td_law_logs.proofs.LogRows.{born_true}
use Rattle.td_law_logs.proofs.Fitting.{FitsBody, free_home}
use Rattle.td_law_logs.proofs.Bases.{op_in, tail, home_fits, home}
use Rattle.td_law_logs.proofs.Steps.{doc}
use Rattle.td_law_agreement.proofs.OwnSlots.{middle_of}
use Rattle.td_machine.proofs.Family.{full_of}
use Rattle.td_law_agreement.proofs.FamilyRecord.{premises, CanCome, pending_next}
use Rattle.td_law_logs.proofs.Commits.{edit_log}
use Rattle.td_law_agreement.proofs.SlotsRecord.{written_of, top_parts, top_from, both_parts}
use Rattle.td_law_agreement.proofs.SlotsRecord.{both_from, middle_named, slots, tops}
use Rattle.std.proofs.lemmas.Option.{same_Some}

module _ (family : Family) (c : IsConsistent family) (v : IsVoted family) where
  abbrev w : Words OpValue AtomIdValue Pairs
  w = words family

  pub agrees : (o : OpValue) (log : List OpValue) → IsLogOf family (o ∷ log) → Agrees w o log
  agrees o log l = agree w (premises family c v) o log l

  pub agrees_where : (o : OpValue) (log : List OpValue) → CanCome family c v o log → Agrees w o log
  agrees_where o log k = agree_pending w (premises family c v) o log (pending_next family c v o log k)

  -- where it was made, an edit named a row
  row_of_maker : (o : OpValue) → IsOpOf family o → is_edit o.body ≡ true → (z : AtomIdValue)
      → named_atom o.body ≡ Some z → (path : Pairs) × (at (base family o) z ≡ Some path)
  row_of_maker o k edit z named = from o.body refl
    where
      some_row : (rows : List DocRow) → is_some (find_row z rows) ≡ true
          → (path : Pairs) × (place_of z rows ≡ Some path)
      some_row rows h = at_row (find_row z rows) h
        where
          at_row : (p : Option DocRow) → is_some p ≡ true
              → (path : Pairs) × (option_map (λ (r : DocRow). r.path) p ≡ Some path)
          at_row None m = absurd (true≢false (sym m))
          at_row (Some r) m = (r.path, refl)

      fits : (b : Body) → o.body ≡ b → FitsBody (base_from family o.dot) o.dot.site b
      fits b e = subst (λ (x : Body). FitsBody (base_from family o.dot) o.dot.site x) e (home_fits family c o k)

      base_is : (b : Body) → o.body ≡ b → origin o.dot b ≡ o.dot → base_from family o.dot ≡ base family o
      base_is b e f = ap (base_from family) (sym (ap (origin o.dot) e ∙ f))

      found : (b : Body) → o.body ≡ b → origin o.dot b ≡ o.dot
          → is_some (find_row z (doc_of (base_from family o.dot))) ≡ true
          → (path : Pairs) × (at (base family o) z ≡ Some path)
      found b e f h =
          some_row (doc_of (base family o))
          (subst (λ (log : List OpValue). is_some (find_row z (doc_of log)) ≡ true) (base_is b e f) h)

      not_edit : (b : Body) → o.body ≡ b → is_edit b ≡ false → (path : Pairs) × (at (base family o) z ≡ Some path)
      not_edit b e f = absurd (true≢false (sym edit ∙ (ap is_edit e ∙ f)))

      from : (b : Body) → o.body ≡ b → (path : Pairs) × (at (base family o) z ≡ Some path)
      from (Insert Root run) e = not_edit (Insert Root run) e refl
      from (Insert (At x bit) run) e =
          let q : x ≡ z = same_Some x z (sym (ap named_atom e) ∙ named) in
          found (Insert (At x bit) run) e refl
          (subst (λ (y : AtomIdValue). is_some (find_row y (doc_of (base_from family o.dot))) ≡ true) q
          (fits (Insert (At x bit) run) e))
      from (Delete x) e =
          let q : x ≡ z = same_Some x z (sym (ap named_atom e) ∙ named) in
          found (Delete x) e refl
          (subst (λ (y : AtomIdValue). is_some (find_row y (doc_of (base_from family o.dot))) ≡ true) q
          (fits (Delete x) e))
      from (Propose slot) e = not_edit (Propose slot) e refl
      from (Commit p) e = not_edit (Commit p) e refl
      from (Abort p) e = not_edit (Abort p) e refl

  focus_named : (o : OpValue) (z : AtomIdValue) → is_edit o.body ≡ true → named_atom o.body ≡ Some z
      → focus family o ≡ z
  focus_named o z edit named = from o.body refl named
    where
      from : (b : Body) → o.body ≡ b → named_atom b ≡ Some z → focus family o ≡ z
      from (Insert Root run) e h = absurd cc
      from (Insert (At x bit) run) e h = ap (focus_by (slot_of family o)) e ∙ same_Some x z h
      from (Delete x) e h = ap (focus_by (slot_of family o)) e ∙ same_Some x z h
      from (Propose slot) e h = absurd (true≢false (sym edit ∙ ap is_edit e))
      from (Commit p) e h = absurd cc
      from (Abort p) e h = absurd cc

  -- wherever it can come, an edit meets the row that its maker met
  pub edit_meets : (o : OpValue) (log : List OpValue) → CanCome family c v o log → is_edit o.body ≡ true
      → (z : AtomIdValue) → named_atom o.body ≡ Some z
      → (path : Pairs) × (at log z ≡ Some path) × (at (base family o) z ≡ Some path)
  edit_meets o log k edit z named =
      let r = row_of_maker o k.of edit z named in
      let f = focus_named o z edit named in
      let same : at log z ≡ at (base family o) z = subst (λ (y : AtomIdValue). at log y ≡ at (base family o) y) f
      ((agrees_where o log k).focus edit) in
      (r.0, same ∙ r.1, r.1)

  pub edits_meet : EditsMeet family
  edits_meet o log l edit z named =
      let r = row_of_maker o (op_in family c (o ∷ log) l o (inl refl)) edit z named in
      let f = focus_named o z edit named in
      let same : at log z ≡ at (base family o) z = subst (λ (y : AtomIdValue). at log y ≡ at (base family o) y) f
      ((agrees o log l).focus edit) in
      (r.0, same ∙ r.1, r.1)

  pub commits_meet : CommitsMeet family
  commits_meet d log slot l e =
      let a = agrees d log l in
      let p = premises family c v in
      let ready = p.ready d log l in
      let hold : (path : Pairs) → slot_holds slot path ≡ true → held_by (slot_of family d) path ≡ true =
      λ path h. ap (λ (z : Option Slot). held_by z path) e ∙ h in
      record {
        rows = λ x path h. ((λ k. a.here x path (hold path h) k), (λ k. a.there x path (hold path h) k));
        deletes =
            λ x path h k o kill.
            ((λ i. a.killed x path (hold path h) (a.here x path (hold path h) k) o i kill), (λ i. ready.base_in o i));
      }

  -- siblings at arrival

  module _ (decision : OneDecision family) where
    sibling_of : (a : OpValue) (log : List OpValue) (slot : Slot) → IsLogOf family (a ∷ log)
        → written_by a.body ≡ Some slot → (r : DocRow) → In r (doc_of log) → own_slot r ≡ slot
        → IsSibling family a slot log (row_id r)
    sibling_of a log slot l wrote r i own =
        let k = op_in family c (a ∷ log) l a (inl refl) in
        let wa = written_of a slot wrote in
        let la = edit_log family c a k (ap (origin a.dot) wa.is) in
        let lt = tail family c a log l in
        let s = siblings_there w (premises family c v) (slots family c v decision) (tops family c v decision) a log l
        la (row_id r) r.path (place_is (doc_of log) (doc family c log lt) r i)
        (top_from a r.path slot wrote own) in
        let b = both_parts s.ins a s.slot in
        record {
          ins = s.ins;
          inside = s.inside;
          wrote = b.first ∙ (sym b.second ∙ wrote);
          apart = s.apart;
          middle = s.middle;
        }

    row_of_sibling : (a : OpValue) (log : List OpValue) (slot : Slot) → IsLogOf family (a ∷ log)
        → written_by a.body ≡ Some slot → (y : AtomIdValue) → IsSibling family a slot log y
        → (r : DocRow) × In r (doc_of log) × (row_id r ≡ y) × (own_slot r ≡ slot) × (birth family y ≡ Some r.path)
    row_of_sibling a log slot l wrote y s =
        let lt = tail family c a log l in
        let k = op_in family c log lt s.ins s.inside in
        let wi = written_of s.ins slot s.wrote in
        let m = middle_of s.ins.dot wi.run (full_of family c s.ins k slot wi.run wi.is) in
        let e = middle_named family c s.ins slot wi.run y wi.is s.middle m in
        let b : born s.ins y ≡ true =
        born_true s.ins y
        (record { slot = slot; run = wi.run; is = wi.is; atom = m.atom; among = m.among; named = sym e }) in
        let r = siblings_all w (premises family c v) (slots family c v decision) (tops family c v decision) a log l
        s.ins s.inside (both_from s.ins a slot s.wrote wrote) s.apart y b s.middle in
        let t = top_parts a r.0 r.2 in
        let u = standing (doc_of log) y r.0 r.1 in
        let own : last_slot Root r.0 ≡ slot = t.own ∙ same_Some t.slot slot (sym t.wrote ∙ wrote) in (
          u.row,
          u.inside,
          u.named,
          ap (last_slot Root) u.stands ∙ own,
          r.3
              ∙ ap (λ (p : Pairs). Some p) (sym u.stands),
        )

    pub siblings_meet : SiblingsMeet family
    siblings_meet a log slot l wrote = (sibling_of a log slot l wrote, row_of_sibling a log slot l wrote)

module _ (family : Family) (c : IsConsistent family) where
  -- when an insert is made, its slot has no row
  pub made_empty : InsertsFindSlotsEmpty family
  made_empty a slot run k e =
      let h = home family c a k in
      let b : base_from family a.dot ≡ base family a = ap (λ (x : Body). base_from family (origin a.dot x)) (sym e) in
      subst (λ (z : List OpValue). is_empty_slot (doc_of z) slot ≡ true) b
      (free_home family c h.newer a (base_from family a.dot) h.some h.within h.is slot run e)
