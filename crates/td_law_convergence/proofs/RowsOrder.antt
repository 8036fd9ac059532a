-- At every site, whatever was flattened, rows stand in the document as their atoms stand in the one order.
use Rattle.std.proofs.Common.{◌≡◌, ◌⊎◌, ◌<◌, ◌++◌, ℕ, List, [], ◌∷◌, length, map, true, false, not, ◌||◌, Option}
use Rattle.std.proofs.Common.{Some, None, refl, sym, ap, ◌∙◌, subst, inl, inr, ⊎_elim, true≢false, append_assoc}
use Rattle.std.proofs.Common.{arith}
use Rattle.std.proofs.lemmas.Bool.{cases_Bool}
use Rattle.std.specs.Prelude.{IsTrue}
use Rattle.td_base.specs.declared.bit.Bit.{Bit}
use Rattle.td_base.specs.declared.bit.Bit.TheVariants.{Left, Right}
use Rattle.td_base.specs.Value.{DotValue, AtomIdValue}
use Rattle.td_base.specs.Lists.{In, Successive, IsSublist, done}
use Rattle.td_base.proofs.Lists.{map_In, In-map, map_successive, successive_map, all_of, all_in}
use Rattle.td_clock.specs.Vector.{vector_has}
use Rattle.td_path.specs.Infix.{Pair, Pairs}
use Rattle.td_path.specs.SlotPaths.{path_in}
use Rattle.td_path.specs.declared.slot.Slot.{Slot}
use Rattle.td_path.specs.declared.slot.Slot.TheVariants.{Root, At}
use Rattle.td_path.specs.declared.slot_path.SlotPath.{SlotPath}
use Rattle.td_op.specs.declared.body.Body.{Body}
use Rattle.td_op.specs.declared.body.Body.TheVariants.{Insert, Delete, Propose, Commit, Abort}
use Rattle.td_op.specs.Op.{OpValue}
use Rattle.td_op.specs.Past.{in_past}
use Rattle.td_doc.specs.Document.{DocRow, row_id, is_live, IsPath, IsDocument}
use Rattle.td_doc.specs.Array.{named, array}
use Rattle.td_base.specs.RunAtoms.{NamedAtom, run_atoms}
use Rattle.td_doc.specs.Insertion.{put_rows, put_array_below}
use Rattle.td_doc.specs.Deletion.{delete}
use Rattle.td_doc.specs.Slots.{slot_path, last_slot}
use Rattle.td_doc.specs.Stretches.{is_in}
use Rattle.td_doc.specs.Subtrees.{begins}
use Rattle.td_doc.proofs.PutRows.{in_puts, puts_in}
use Rattle.td_doc.proofs.ArrayRows.{array_names, array_ascends}
use Rattle.td_doc.proofs.Deleted.{delete_names}
use Rattle.td_doc.proofs.KeptOrder.{flatten_ids}
use Rattle.td_doc.proofs.SubtreeRows.{begins_parts}
use Rattle.td_machine.specs.Making.{effect, flatten_found}
use Rattle.td_machine.specs.Log.{proposed_slot}
use Rattle.td_machine.specs.History.{Family, IsConsistent, IsOpOf}
use Rattle.td_machine.proofs.Family.{full_of, not_own_past, not_older}
use Rattle.td_op.specs.declared.insertion.Insertion.{Insertion}
use Rattle.td_op.specs.Insertion.{insertion_by, insertions, ids_of}
use Rattle.td_order.specs.LineUp.{line_up}
use Rattle.td_order.specs.Order.{order}
use Rattle.td_order.specs.Place.{precedes}
use Rattle.td_order.specs.Under.{under}
use Rattle.td_order.specs.Causal.{IsWellRooted, HasEpochs}
use Rattle.td_order.proofs.Keys.{Key, key_strict}
use Rattle.td_order.proofs.Family.{Names, AllFollow, HasPasts}
use Rattle.td_order.proofs.Fits.{OlderRank, AllFit, fits_at, ids_dot}
use Rattle.td_order.proofs.Ranks.{count_length, before, rank_at, rank_of, key_in, fewer, equally, older_by, fits_part}
use Rattle.td_order.proofs.Placing.{IdLt, id_trans, placed-In, ids_rise_from}
use Rattle.td_order.proofs.PlaceRises.{placed_rises}
use Rattle.td_order.proofs.Sublists.{sublist}
use Rattle.td_op.proofs.InsertionLemmas.{In-insertions, insertions-In}
use Rattle.td_order.proofs.LineUpLemmas.{In-line_up, line_up-In}
use Rattle.td_order.proofs.OrderOfPart.{line_up_causal, whole_is_closed, pasts}
use Rattle.td_machine.specs.Replay.{doc_of}
use Rattle.td_base.proofs.Rising.{both_rise}
use Rattle.td_law_logs.proofs.Paths.{RowLt, path_not, path_trans}
use Rattle.td_law_convergence.proofs.Arrays.{array_ids}
use Rattle.td_law_convergence.proofs.Under.{under_itself, under_slot_atom, under_root}
use Rattle.td_law_logs.proofs.DocumentFacts.{by_id, first_pair, on_the_way, id_at}
use Rattle.td_law_convergence.proofs.Beside.{Both, New, Inside, root_both, right_both, left_both}
use Rattle.td_law_logs.proofs.WellRooted.{insertion_parts, IsInsertBy}
use Rattle.td_law_agreement.proofs.Words.{Words, renames}
use Rattle.td_law_logs.specs.Logs.{IsLogOf, base_from, base, origin}
use Rattle.td_law_logs.specs.Places.{at, written_by, IsMiddle, IsMiddleBy}
use Rattle.td_law_logs.proofs.Words.{born, SameSlot}
use Rattle.td_law_commitment.specs.Voted.{IsVoted}
use Rattle.td_law_agreement.proofs.World.{words}
use Rattle.td_law_commitment.specs.Promises.{OneDecision}
use Rattle.td_law_agreement.proofs.Agree.{siblings_there, siblings_all, Sibling}
use Rattle.td_law_logs.proofs.Rows.{standing, place_is, on_way}
use Rattle.td_law_logs.proofs.LogRows.{born_true, born_dot, rows_born, run_places, among}
use Rattle.td_law_logs.proofs.Bases.{log_part, log_rooted, op_in, tail, causal, past_in, in_base, past_of_base}
use Rattle.td_law_logs.proofs.Steps.{doc, insert_slot}
use Rattle.td_law_agreement.proofs.OwnSlots.{own_at, in_own, middle_of}
use Rattle.td_law_agreement.proofs.FamilyRecord.{premises}
use Rattle.td_law_logs.proofs.Commits.{edit_log}
use Rattle.td_law_agreement.proofs.SlotsRecord.{written_of, top_parts, top_from, both_from}
use Rattle.td_law_agreement.proofs.SlotsRecord.{Both as TwoWritten, both_parts, middle_named, slots, tops}
use Rattle.td_law_agreement.proofs.Epochs.{has_epochs, parts_in_order}
use Rattle.td_law_logs.proofs.RowsBefore.{at_middle, Hangs, hangs, below_from}
use Rattle.td_law_convergence.proofs.Subtree.{none_under, mid, subtree}
use Rattle.td_law_convergence.proofs.Sublists.{sub_trans, sub_same, filter_sub, rising_sub}
use Rattle.std.proofs.lemmas.Option.{same_Some}

module _ (family : Family) (c : IsConsistent family) (v : IsVoted family) (decision : OneDecision family) where
  abbrev n : ℕ
  n = length family

  abbrev w : Words OpValue AtomIdValue Pairs
  w = words family

  -- ---- one insert more

  module _ (a : OpValue) (log : List OpValue) (l : IsLogOf family (a ∷ log)) (slot : Slot) (run : List (List ℕ))
      (is_a : a.body ≡ Insert slot run) (ih : IsSublist (map row_id (doc_of log)) (order log)) where
    abbrev ops : List OpValue
    ops = a ∷ log

    lt : IsLogOf family log
    lt = tail family c a log l

    ka : IsOpOf family a
    ka = op_in family c (a ∷ log) l a (inl refl)

    W : IsWellRooted (a ∷ log)
    W = log_rooted family c (a ∷ log) l

    E : HasEpochs (a ∷ log)
    E = has_epochs family c v decision (a ∷ log) (op_in family c (a ∷ log) l)

    abbrev all : List Insertion
    all = insertions (line_up (a ∷ log))

    F : AllFollow (insertions (line_up (a ∷ log)))
    F = line_up_causal (a ∷ log) (whole_is_closed (a ∷ log) W)

    P : HasPasts (insertions (line_up (a ∷ log)))
    P = pasts (a ∷ log) W E

    abbrev rank : Insertion → ℕ
    rank = rank_of all

    abbrev K : AtomIdValue → ℕ → Key
    K = key_in rank all

    g : AllFit K rank all
    g = fits_part all P F all F (λ x i. i)

    abbrev ai : Insertion
    ai = record { dot = a.dot; deps = a.deps; slot = slot; run = run }

    -- an insertion of an operation
    op_insertion : (y : OpValue) → In y ops → (s : Slot) (r : List (List ℕ)) → y.body ≡ Insert s r
        → In (record { dot = y.dot; deps = y.deps; slot = s; run = r }) all
    op_insertion y i s r e = insertions-In (line_up ops) y (record { dot = y.dot; deps = y.deps; slot = s; run = r })
        (line_up-In ops y i) (ap (insertion_by y.dot y.deps) e)

    ia : In ai all
    ia = op_insertion a (inl refl) slot run is_a

    record OpOf (d : Insertion) : Type 0 where
      op : OpValue
      inside : In op ops
      is : IsInsertBy d op

    op_of : (d : Insertion) → In d all → OpOf d
    op_of d i = let r = In-insertions (line_up ops) d i in
        record { op = r.0; inside = In-line_up ops r.0 r.1; is = insertion_parts r.0 d r.2 }

    past_op : (d e : Insertion) (x y : OpValue) → IsInsertBy d x → IsInsertBy e y → precedes d e ≡ true
        → IsTrue (in_past x y)
    past_op d e x y p q h = subst (λ (z : DotValue). IsTrue (vector_has y.deps z)) p.dot
        (subst (λ (z : List ℕ). IsTrue (vector_has z d.dot)) q.deps h)

    op_past : (d e : Insertion) (x y : OpValue) → IsInsertBy d x → IsInsertBy e y → IsTrue (in_past x y)
        → precedes d e ≡ true
    op_past d e x y p q h = subst (λ (z : DotValue). IsTrue (vector_has e.deps z)) (sym p.dot)
        (subst (λ (z : List ℕ). IsTrue (vector_has z x.dot)) (sym q.deps) h)

    by_a : IsInsertBy ai a
    by_a = record { dot = refl; deps = refl; body = is_a }

    out : In a log → ⊥
    out i = let k = causal family c (a ∷ log) l in not_older n a a log k.0 k.1 i refl

    -- nothing that was there has a in its past
    not_later : (d : Insertion) → In d all → precedes ai d ≡ false
    not_later d i =
        ⊎_elim
        (λ (h : precedes ai d ≡ true).
        let o = op_of d i in
        let p = past_op ai d a o.op by_a o.is h in
        absurd (⊎_elim
        (λ (e : o.op ≡ a). not_own_past family c a ka (subst (λ (z : OpValue). IsTrue (in_past a z)) e p))
        (λ (j : In o.op log). out (past_in family c log lt o.op a j ka p)) o.inside))
        (λ h. h) (cases_Bool (precedes ai d))

    older : (d : Insertion) → In d all → d.slot ≡ ai.slot → precedes d ai ≡ true
        → OlderRank ai.slot (rank d) (rank ai)
    older d i s p =
        subst (λ (t : Slot). OlderRank ai.slot (rank_at t (length all) (before all d)) (rank_of all ai)) (sym s)
        (older_by all P ai.slot (length all) (before all d) (before all ai) (fewer all P d ai i ia s p)
        (count_length _ all))

    equal : (d : Insertion) → In d all → d.slot ≡ ai.slot → precedes d ai ≡ false → rank d ≡ rank ai
    equal d i s p =
        ap (λ (t : Slot). rank_at t (length all) (before all d)) s
        ∙ ap (λ (k : ℕ). rank_at ai.slot (length all) k) (equally all P d ai i ia s p (not_later d i))

    abbrev old : List DocRow
    old = doc_of log

    d0 : IsDocument (doc_of log)
    d0 = doc family c log lt

    named_all : (r : DocRow) → In r old → Names all (row_id r)
    named_all r i =
        let b = rows_born n log (causal family c log lt) r i in (
          record { dot = b.op.dot; deps = b.op.deps; slot = b.slot; run = b.run },
          op_insertion b.op (inr b.inside) b.slot b.run b.is,
          among b.op.dot 0 b.run (named r) b.among,
        )

    -- what is under what
    by_slot : (b : DotValue) (o : OpValue) → In o ops → (z : AtomIdValue) (bit : Bit) (r : List (List ℕ))
        → o.body ≡ Insert (At z bit) r → (o.dot ≡ b → ⊥) → under all b o.dot ≡ under all b z.dot
    by_slot b o i z bit r e m =
        under_slot_atom all F (record { dot = o.dot; deps = o.deps; slot = At z bit; run = r })
        (op_insertion o i (At z bit) r e) b m z bit refl

    by_root : (b : DotValue) (o : OpValue) → In o ops → (r : List (List ℕ)) → o.body ≡ Insert Root r → (o.dot ≡ b → ⊥)
        → under all b o.dot ≡ false
    by_root b o i r e m = under_root all F (record { dot = o.dot; deps = o.deps; slot = Root; run = r })
        (op_insertion o i Root r e) b m refl

    itself : (o : OpValue) → In o ops → (s : Slot) (r : List (List ℕ)) → o.body ≡ Insert s r
        → under all o.dot o.dot ≡ true
    itself o i s r e = under_itself all F (record { dot = o.dot; deps = o.deps; slot = s; run = r })
        (op_insertion o i s r e)

    full_a : 0 < length run
    full_a = full_of family c a ka slot run is_a

    beyond : (r : DocRow) → In r old → under all ai.dot (row_id r).dot ≡ true → ⊥
    beyond r i h =
        let b = rows_born n log (causal family c log lt) r i in
        let dot : (row_id r).dot ≡ b.op.dot = (run_places b.op.dot 0 b.run (named r) b.among).dot in
        let k = causal family c (a ∷ log) l in
        let none : under all a.dot b.op.dot ≡ false =
        none_under family c v a slot run is_a full_a (λ (x : DotValue). under all a.dot x) ops
        (itself a (inl refl) slot run is_a) (by_slot a.dot) (by_root a.dot) log lt (λ y j. inr j)
        (λ y j e. not_older n a y log k.0 k.1 j (sym e)) b.op b.inside b.slot b.run b.is in
        true≢false (sym h ∙ (ap (λ (x : DotValue). under all a.dot x) dot ∙ none))

    abbrev Lt : AtomIdValue → AtomIdValue → Type 0
    Lt = IdLt K rank

    order_rises : Successive Lt (order ops)
    order_rises = placed_rises K rank all g

    ids_rise : Successive Lt (map row_id old)
    ids_rise =
        rising_sub Lt (map row_id old) (order ops)
        (sub_trans (map row_id old) (order log) (order ops) ih
        (parts_in_order family c v decision log ops (log_part family c log lt) (log_part family c ops l)
        (λ x i. inr i))) order_rises

    agrees : (r q : DocRow) → In r old → In q old → RowLt r q → Lt (row_id r) (row_id q)
    agrees r q i j h =
        both_rise RowLt (λ (x y : DocRow). Lt (row_id x) (row_id y)) (λ z k. path_not z.path k)
        (λ x y z k m. path_trans x.path y.path z.path k m) old d0.ascending
        (map_successive Lt row_id old ids_rise) r q i j h

    -- ---- the new rows

    sp_of : (sp : SlotPath) × (slot_path (doc_of log) slot ≡ Some sp)
    sp_of = let m = middle_of a.dot run full_a in
        insert_slot family c a log m.atom.id l
        (record { slot = slot; run = run; is = is_a; atom = m.atom; among = m.among; named = refl })

    abbrev sp : SlotPath
    sp = sp_of.0

    abbrev news : List DocRow
    news = array sp (run_atoms a.dot run)

    h : Hangs log slot sp
    h = hangs log slot sp sp_of.1

    both_is : doc_of (a ∷ log) ≡ put_rows news old
    both_is = ap (λ (b : Body). effect log a.dot b (doc_of log)) is_a
        ∙ ap (λ (s : Option SlotPath). put_array_below s (run_atoms a.dot run) (doc_of log)) sp_of.1

    new_named : (r : DocRow) → In r news → In (named r) (run_atoms a.dot run)
    new_named r i = subst (In (named r)) (array_names sp (run_atoms a.dot run)) (In-map named r news i)

    abbrev IsNew : Pairs → Bit → DocRow → Type 0
    IsNew p s r = New K rank all g ai ia older equal old named_all beyond agrees p s r

    new_as : (r : DocRow) → In r news → IsNew h.base h.side r
    new_as r i =
        let m = at_middle (length (run_atoms a.dot run)) sp (run_atoms a.dot run) r i in
        let o = ids_dot a.dot 0 run (row_id r) (among a.dot 0 run (named r) (new_named r i)) in
        record {
          offset = o.0;
          id = o.1;
          top = (h.side, m.atom.id);
          rest = m.more;
          path = m.path
              ∙ (ap (λ (p : Pairs). p ++ m.more) (h.path m.atom.id)
              ∙ append_assoc h.base ((h.side, m.atom.id) ∷ []) m.more);
          side = refl;
          dot = (run_places a.dot 0 run m.atom m.among).dot;
        }

    -- ---- the rows in the slot

    wrote : written_by a.body ≡ Some slot
    wrote = ap written_by is_a

    la : IsLogOf family (a ∷ base family a)
    la = edit_log family c a ka (ap (origin a.dot) is_a)

    abbrev IsIn : Pair → DocRow → Type 0
    IsIn t r = Inside K rank all g ai ia older equal old named_all beyond agrees t r

    own_of : (t : Pair) → t.0 ≡ h.side → last_slot Root (h.base ++ t ∷ []) ≡ slot
    own_of t s =
        let e : h.base ++ t ∷ [] ≡ path_in sp t.1 = ap (λ (b : Bit). h.base ++ (b, t.1) ∷ []) s ∙ sym (h.path t.1) in
        ap (last_slot Root) e ∙ in_own (doc_of log) d0 slot sp t.1 sp_of.1

    -- below the middle atom of an insert that the slot has, where it stands
    below_mid : (y : OpValue) → In y log → (s : Slot) (r : List (List ℕ)) → (e : y.body ≡ Insert s r)
        → (z : AtomIdValue) → IsMiddle y z → ((o : OpValue) → In o log → renames w o z ≡ true → ⊥) → (path : Pairs)
        → at log z ≡ Some path
        → (q : DocRow) → In q old → begins path q.path ≡ under all y.dot (row_id q).dot
    below_mid y i s r e z m never path here q j =
        let k = op_in family c log lt y i in
        let f = full_of family c y k s r e in
        let top : z ≡ (mid family c v y s r e f (λ (x : DotValue). under all y.dot x) ops (itself y (inr i) s r e)
        (by_slot y.dot) (by_root y.dot)).atom.id =
        middle_named family c y s r z e m
        (mid family c v y s r e f (λ (x : DotValue). under all y.dot x) ops (itself y (inr i) s r e)
        (by_slot y.dot) (by_root y.dot)) in
        subtree family c v y s r e f (λ (x : DotValue). under all y.dot x) ops (itself y (inr i) s r e)
        (by_slot y.dot) (by_root y.dot) log lt (λ x p. inr p) i
        (λ o p u. never o p (subst (λ (x : AtomIdValue). renames w o x ≡ true) (sym top) u)) path
        (subst (λ (x : AtomIdValue). at log x ≡ Some path) top here) q j

    sibling_at : (q : DocRow) → In q old → last_slot Root q.path ≡ slot
        → Sibling w (premises family c v) (slots family c v decision) (tops family c v decision) a log (row_id q)
    sibling_at q i own =
        siblings_there w (premises family c v) (slots family c v decision) (tops family c v decision) a log l la
        (row_id q) q.path (place_is (doc_of log) d0 q i) (top_from a q.path slot wrote own)

    inside_at : (r : DocRow) → In r old → (t : Pair) (rest : Pairs) → r.path ≡ h.base ++ (t ∷ rest) → t.0 ≡ h.side
        → IsIn t r
    inside_at r i t rest e s =
        let q = on_the_way (doc_of log) d0 r i h.base t rest e in
        let id : row_id q.0 ≡ t.1 = id_at q.0 h.base t q.2 in
        let b = sibling_at q.0 q.1 (ap (last_slot Root) q.2 ∙ own_of t s) in
        let two : TwoWritten b.ins a = both_parts b.ins a b.slot in
        let wi = written_of b.ins two.slot two.first in
        let same : two.slot ≡ slot = same_Some two.slot slot (sym two.second ∙ wrote) in
        let ki = op_in family c log lt b.ins b.inside in
        let ci : Insertion = record { dot = b.ins.dot; deps = b.ins.deps; slot = two.slot; run = wi.run } in
        let by : IsInsertBy ci b.ins = record { dot = refl; deps = refl; body = wi.is } in
        let longer : r.path ≡ q.0.path ++ rest =
        e ∙ (sym (append_assoc h.base (t ∷ []) rest) ∙ ap (λ (p : Pairs). p ++ rest) (sym q.2)) in
        let sub = below_mid b.ins b.inside two.slot wi.run wi.is (row_id q.0) b.middle
        (λ o p u. b.never o p u) q.0.path (place_is (doc_of log) d0 q.0 q.1) r i in
        record {
          ins = ci;
          inside = op_insertion b.ins (inr b.inside) two.slot wi.run wi.is;
          slot = same;
          apart = ⊎_elim
              (λ (p : precedes ci ai ≡ true). absurd
              (b.apart (subst (λ (z : DotValue). In b.ins (base_from family z)) (sym (ap (origin a.dot) is_a))
              (in_base family c a b.ins ka ki (past_op ci ai b.ins a by by_a p))))) (λ p. p)
              (cases_Bool (precedes ci ai));
          top = ap (λ (z : AtomIdValue). z.dot) (sym id) ∙ sym (born_dot b.ins (row_id q.0) b.born);
          above = sym sub ∙ below_from q.0.path r.path rest longer;
        }

    outside_at : (x : DocRow) → In x old → slot ≡ At (row_id x) h.side → (r : DocRow) → In r old → (d : Insertion)
        → In d all → d.slot ≡ ai.slot → precedes d ai ≡ false → under all d.dot (row_id r).dot ≡ true
        → (t : Pair) × (rest : Pairs) × (r.path ≡ x.path ++ (t ∷ rest))
    outside_at x ix at_x r i d k s p u = from o.inside
      where
        o : OpOf d
        o = op_of d k

        from : In o.op (a ∷ log) → (t : Pair) × (rest : Pairs) × (r.path ≡ x.path ++ (t ∷ rest))
        from (inl e) =
            absurd (beyond r i
            (subst (λ (z : DotValue). under all z (row_id r).dot ≡ true) (o.is.dot ∙ ap (λ (z : OpValue). z.dot) e)
            u))
        from (inr j) =
            let ky = op_in family c log lt o.op j in
            let f = full_of family c o.op ky d.slot d.run o.is.body in
            let m = middle_of o.op.dot d.run f in
            let is_mid : IsMiddle o.op m.atom.id =
            subst (λ (b : Body). IsMiddleBy o.op.dot b m.atom.id) (sym o.is.body)
            (ap (λ (z : AtomIdValue). z.dot) m.id, ap (λ (z : AtomIdValue). z.offset) m.id) in
            let is_born : born o.op m.atom.id ≡ true =
            born_true o.op m.atom.id
            (record {
              slot = d.slot;
              run = d.run;
              is = o.is.body;
              atom = m.atom;
              among = m.among;
              named =
                  refl;
            }) in
            let same : SameSlot o.op a =
            both_from o.op a slot (ap written_by o.is.body ∙ ap (λ (z : Slot). Some z) s) wrote in
            let apart : In o.op (base family a)
            → ⊥ = λ q. true≢false (sym (op_past d ai o.op a o.is by_a (past_of_base family c a o.op ka q)) ∙ p) in
            let z = siblings_all w (premises family c v) (slots family c v decision)
            (tops family c v decision) a log l o.op j same apart m.atom.id is_born is_mid in
            let t = top_parts a z.0 z.2 in
            let own : last_slot Root z.0 ≡ slot = t.own ∙ same_Some t.slot slot (sym t.wrote ∙ wrote) in
            let q = standing (doc_of log) m.atom.id z.0 z.1 in
            let b = sibling_at q.row q.inside (ap (last_slot Root) q.stands ∙ own) in
            let never : (g' : OpValue) → In g' log → renames w g' m.atom.id ≡ true
            → ⊥ = λ g' i' r'. b.never g' i'
            (subst (λ (y : AtomIdValue). renames w g' y ≡ true) (sym q.named) r') in
            let sub = below_mid o.op j d.slot d.run o.is.body m.atom.id is_mid never z.0 z.1 r i in
            let v' = begins_parts z.0 r.path
            (sub ∙ subst (λ (y : DotValue). under all y (row_id r).dot ≡ true) o.is.dot u) in
            let w' = own_at z.0 (row_id x) h.side (own ∙ at_x) in
            let y = on_way (doc_of log) d0 q.row w'.front w'.side (row_id x) (h.side, w'.id) [] q.inside
            (q.stands ∙ w'.is) in
            let yx : y.0 ≡ x = by_id (doc_of log) d0 y.0 x y.1 ix y.3 in
            let xp : x.path ≡ w'.front ++ (w'.side, row_id x) ∷ [] = ap (λ (k : DocRow). k.path) (sym yx) ∙ y.2 in
            let zp : z.0 ≡ x.path ++ (h.side, w'.id) ∷ [] =
            w'.is ∙ (sym (append_assoc w'.front ((w'.side, row_id x) ∷ []) ((h.side, w'.id) ∷ []))
            ∙ ap (λ (k : Pairs). k ++ (h.side, w'.id) ∷ []) (sym xp)) in (
              (h.side, w'.id),
              v'.0,
              v'.1
                  ∙ (ap (λ (k : Pairs). k ++ v'.0) zp ∙ append_assoc x.path ((h.side, w'.id) ∷ []) v'.0),
            )

    -- ---- an old and a new row

    abbrev Agrees : DocRow → DocRow → Type 0
    Agrees r q = Both K rank all g ai ia older equal old named_all beyond agrees r q

    at_row : (x : DocRow) → In x old → (s : Bit) → h.side ≡ s → slot ≡ At (row_id x) h.side → h.base ≡ x.path
        → (q r : DocRow) → In q news → In r old → Agrees r q
    at_row x ix Right e at_x p q r j i =
        right_both K rank all g ai ia older equal old named_all beyond agrees x ix
        (at_x ∙ ap (λ (z : Bit). At (row_id x) z) e)
        (λ z k t rest f s. inside_at z k t rest (f ∙ ap (λ (y : Pairs). y ++ (t ∷ rest)) (sym p)) (s ∙ sym e))
        (λ z k d m s o u. outside_at x ix at_x z k d m s o u)
        q (subst (λ (z : Pairs). IsNew z Right q) p (subst (λ (z : Bit). IsNew h.base z q) e (new_as q j))) r i
    at_row x ix Left e at_x p q r j i =
        left_both K rank all g ai ia older equal old named_all beyond agrees x ix
        (at_x ∙ ap (λ (z : Bit). At (row_id x) z) e)
        (λ z k t rest f s. inside_at z k t rest (f ∙ ap (λ (y : Pairs). y ++ (t ∷ rest)) (sym p)) (s ∙ sym e))
        (λ z k d m s o u. outside_at x ix at_x z k d m s o u)
        q (subst (λ (z : Pairs). IsNew z Left q) p (subst (λ (z : Bit). IsNew h.base z q) e (new_as q j))) r i

    old_new : (q r : DocRow) → In q news → In r old → Agrees r q
    old_new q r j i =
        ⊎_elim
        (λ (k : (slot ≡ Root) × (h.base ≡ [])).
        let f = first_pair old d0 r i in
        let right : h.side ≡ Right = root_side k.0 k.1 in
        root_both K rank all g ai ia older equal old named_all beyond agrees q r k.0
        (subst (λ (z : Pairs). IsNew z Right q) k.1 (subst (λ (z : Bit). IsNew h.base z q) right (new_as q j))) i f.0
        f.1 f.2 f.3
        (inside_at r i f.0 f.1 (f.2 ∙ ap (λ (z : Pairs). z ++ (f.0 ∷ f.1)) (sym k.1)) (f.3 ∙ sym right)))
        (λ (k : (x : DocRow) × In x (doc_of log) × (slot ≡ At (row_id x) h.side) × (h.base ≡ x.path)). at_row k.0 k.1
        h.side refl k.2 k.3 q r j i)
        h.how
      where
        root_side : slot ≡ Root → h.base ≡ [] → h.side ≡ Right
        root_side e f =
            let x = new_as q j in
            let p = (doc family c (a ∷ log) l).paths q
            (subst (λ (rows : List DocRow). In q rows) (sym both_is) (puts_in news old q (inl j))) in
            sym x.side ∙ right_of q.path x.top x.rest (x.path ∙ ap (λ (z : Pairs). z ++ (x.top ∷ x.rest)) f) p
          where
            right_of : (path : Pairs) (t : Pair) (rest : Pairs) → path ≡ t ∷ rest → IsPath path → t.0 ≡ Right
            right_of path t rest m k = subst IsPath m k

    news_agree : (r q : DocRow) → In r news → In q news → RowLt r q → Lt (row_id r) (row_id q)
    news_agree r q i j k =
        let ids : map row_id news ≡ ids_of ai = array_ids (length (run_atoms a.dot run)) sp (run_atoms a.dot run)
        (omega arith) in
        both_rise RowLt (λ (x y : DocRow). Lt (row_id x) (row_id y)) (λ z m. path_not z.path m)
        (λ x y z m o. path_trans x.path y.path z.path m o) news
        (array_ascends (length (run_atoms a.dot run)) sp (run_atoms a.dot run))
        (map_successive Lt row_id news
        (subst (λ (t : List AtomIdValue). Successive Lt t) (sym ids)
        (ids_rise_from K rank ai (fits_at K rank all g ai ia) 0 run))) r q i j k

    against : (x y : DocRow) → RowLt x y → RowLt y x → ⊥
    against x y p q = path_not x.path (path_trans x.path y.path x.path p q)

    split : (r : DocRow) → In r (put_rows news old) → In r news ⊎ In r old
    split r i = in_puts news old r i

    agree_both : (r q : DocRow) → In r (put_rows news old) → In q (put_rows news old) → RowLt r q
        → Lt (row_id r) (row_id q)
    agree_both r q i j k =
        ⊎_elim
        (λ (u : In r news). ⊎_elim (λ (m : In q news). news_agree r q u m k)
        (λ (m : In q old). ⊎_elim (λ (o : RowLt q r × Lt (row_id q) (row_id r)). absurd (against r q k o.0))
        (λ (o : RowLt r q × Lt (row_id r) (row_id q)). o.1) (old_new r q u m)) (split q j))
        (λ (u : In r old). ⊎_elim
        (λ (m : In q news). ⊎_elim (λ (o : RowLt r q × Lt (row_id r) (row_id q)). o.1)
        (λ (o : RowLt q r × Lt (row_id q) (row_id r)). absurd (against r q k o.0)) (old_new q r m u))
        (λ m. agrees r q u m k) (split q j))
        (split r i)

    new_order : IsSublist (map row_id (doc_of (a ∷ log))) (order (a ∷ log))
    new_order =
        subst (λ (rows : List DocRow). IsSublist (map row_id rows) (order ops)) (sym both_is)
        (sublist Lt (λ x. key_strict.irrefl (K x 1)) (id_trans K rank) (order ops) (map row_id (put_rows news old))
        (successive_map Lt row_id (put_rows news old)
        (up (put_rows news old) (λ r i. i) (subst IsDocument both_is (doc family c (a ∷ log) l)).ascending))
        order_rises
        (λ y i. let m = map_In row_id y (put_rows news old) i in
        placed-In all y (subst (λ (z : AtomIdValue). Names all z) (sym m.2) (there m.0 m.1))))
      where
        up : (rs : List DocRow) → ((r : DocRow) → In r rs → In r (put_rows news old)) → Successive RowLt rs
            → Successive (λ (r q : DocRow). Lt (row_id r) (row_id q)) rs
        up [] inside k = tt
        up (r ∷ rs) inside k = (
          all_of (λ (q : DocRow). Lt (row_id r) (row_id q)) rs
              (λ q i. agree_both r q (inside r (inl refl)) (inside q (inr i)) (all_in (RowLt r) rs k.0 q i)),
          up rs (λ q i. inside q (inr i)) k.1,
        )

        there : (r : DocRow) → In r (put_rows news old) → Names all (row_id r)
        there r i = ⊎_elim (λ (k : In r news). (ai, ia, among a.dot 0 run (named r) (new_named r k)))
            (λ (k : In r old). named_all r k) (split r i)

  -- ---- each operation

  ids_of_names : (rows : List DocRow) → map (λ (x : NamedAtom). x.id) (map named rows) ≡ map row_id rows
  ids_of_names [] = refl
  ids_of_names (r ∷ rows) = ap (λ (t : List AtomIdValue). row_id r ∷ t) (ids_of_names rows)

  -- no other operation moves a row before another, and none but an insert adds one
  other_ids : (o : OpValue) (log : List OpValue) (b : Body) → ((s : Slot) (r : List (List ℕ)) → b ≡ Insert s r → ⊥)
      → IsDocument (doc_of log) → IsSublist (map row_id (effect log o.dot b (doc_of log))) (map row_id (doc_of log))
  other_ids o log (Insert s r) not_insert d = absurd (not_insert s r refl)
  other_ids o log (Delete target) not_insert d =
      subst (λ (t : List AtomIdValue). IsSublist t (map row_id (doc_of log)))
      (sym (sym (ids_of_names (delete target o.dot (doc_of log)))
      ∙ (ap (map (λ (x : NamedAtom). x.id)) (delete_names target o.dot (doc_of log))
      ∙ ids_of_names (doc_of log)))) (sub_same (map row_id (doc_of log)))
  other_ids o log (Propose s) not_insert d = sub_same (map row_id (doc_of log))
  other_ids o log (Abort p) not_insert d = sub_same (map row_id (doc_of log))
  other_ids o log (Commit p) not_insert d = from (proposed_slot p log)
    where
      from : (s : Option Slot) → IsSublist (map row_id (flatten_found s (doc_of log))) (map row_id (doc_of log))
      from None = sub_same (map row_id (doc_of log))
      from (Some s) =
          subst (λ (t : List AtomIdValue). IsSublist t (map row_id (doc_of log))) (sym (flatten_ids (doc_of log) s d))
          (filter_sub row_id (λ (r : DocRow). is_live r || not (is_in (slot_path (doc_of log) s) r)) (doc_of log))

  step_order : (o : OpValue) (log : List OpValue) → IsLogOf family (o ∷ log)
      → IsSublist (map row_id (doc_of log)) (order log) → IsSublist (map row_id (doc_of (o ∷ log))) (order (o ∷ log))
  step_order o log l ih = from o.body refl
    where
      lt' : IsLogOf family log
      lt' = tail family c o log l

      more : IsSublist (order log) (order (o ∷ log))
      more = parts_in_order family c v decision log (o ∷ log) (log_part family c log lt')
          (log_part family c (o ∷ log) l) (λ x i. inr i)

      rest : (b : Body) → o.body ≡ b → ((s : Slot) (r : List (List ℕ)) → b ≡ Insert s r → ⊥)
          → IsSublist (map row_id (doc_of (o ∷ log))) (order (o ∷ log))
      rest b e not_insert =
          sub_trans (map row_id (doc_of (o ∷ log))) (order log) (order (o ∷ log))
          (sub_trans (map row_id (doc_of (o ∷ log))) (map row_id (doc_of log)) (order log)
          (subst (λ (z : Body). IsSublist (map row_id (effect log o.dot z (doc_of log)))
          (map row_id (doc_of log))) (sym e) (other_ids o log b not_insert (doc family c log lt'))) ih) more

      from : (b : Body) → o.body ≡ b → IsSublist (map row_id (doc_of (o ∷ log))) (order (o ∷ log))
      from (Insert s r) e = new_order o log l s r e ih
      from (Delete target) e = rest (Delete target) e (λ s r k. absurd cc)
      from (Propose s) e = rest (Propose s) e (λ s' r k. absurd cc)
      from (Commit p) e = rest (Commit p) e (λ s r k. absurd cc)
      from (Abort p) e = rest (Abort p) e (λ s r k. absurd cc)

  pub rows_order : (log : List OpValue) → IsLogOf family log → IsSublist (map row_id (doc_of log)) (order log)
  rows_order [] l = done
  rows_order (o ∷ log) l = step_order o log l (rows_order log (tail family c o log l))
