-- The logs of a consistent family meet the premises of agreement.
use Rattle.std.proofs.Common.{◌≡◌, ◌⊎◌, ◌<◌, ◌≤◌, ◌++◌, ℕ, List, [], ◌∷◌, length, true, false, Option, Some, None}
use Rattle.std.proofs.Common.{refl, sym, ap, ◌∙◌, subst, inl, true≢false, length-append, arith}
use Rattle.std.specs.Prelude.{IsTrue}
use Rattle.std.specs.Option.{option_map, is_some}
use Rattle.td_base.specs.Value.{DotValue, AtomIdValue}
use Rattle.td_base.specs.Lists.{In}
use Rattle.td_clock.specs.Vector.{vector_covers}
use Rattle.td_path.specs.Infix.{Pairs}
use Rattle.td_path.specs.SlotPaths.{slot_contains}
use Rattle.td_path.specs.declared.slot.Slot.{Slot}
use Rattle.td_path.specs.declared.slot.Slot.TheVariants.{Root, At}
use Rattle.td_path.specs.declared.slot_path.SlotPath.{SlotPath}
use Rattle.td_path.specs.declared.slot_path.SlotPath.TheVariants.{Below}
use Rattle.td_path.proofs.InfixOrder.{goes_on_parts}
use Rattle.td_op.specs.declared.body.Body.{Body}
use Rattle.td_op.specs.declared.body.Body.TheVariants.{Insert, Delete, Propose, Commit, Abort}
use Rattle.td_op.specs.Op.{OpValue, named_atom}
use Rattle.td_op.specs.Past.{in_past}
use Rattle.td_doc.specs.Document.{DocRow, find_row, IsDocument}
use Rattle.td_doc.specs.Array.{named}
use Rattle.td_doc.specs.Deletion.{delete}
use Rattle.td_doc.proofs.Rules.{found}
use Rattle.td_machine.specs.Counts.{counts, IsInTurn}
use Rattle.td_machine.specs.Making.{effect}
use Rattle.td_machine.specs.Touches.{IsRowOf}
use Rattle.td_doc.specs.Answers.{is_rooted}
use Rattle.td_machine.specs.History.{Family, IsConsistent, IsOpOf}
use Rattle.td_base.proofs.Elements.{cut_at, CutAt}
use Rattle.td_machine.proofs.Counting.{older_in_turn}
use Rattle.td_machine.proofs.Family.{not_older, made_at, inserted_in_past}
use Rattle.td_machine.proofs.Stays.{delete_stays}
use Rattle.td_machine.specs.Replay.{doc_of}
use Rattle.td_law_agreement.proofs.Words.{Words, holds_some, renames, IsBorn, Nested, one_slot}
use Rattle.td_law_agreement.proofs.Words.{atom_within, within_atom, Pending, Family as Premises}
use Rattle.td_law_logs.specs.Logs.{IsLogOf, base_from, base, origin, slot_of, IsCommit}
use Rattle.td_law_logs.specs.Places.{slot_holds, names_atom, overlap_of, Overlap, place_of, at, birth, is_edit}
use Rattle.td_law_logs.proofs.Words.{held_by, holds, atom_at, focus_by, focus, born}
use Rattle.td_law_logs.proofs.DocumentFacts.{nobody}
use Rattle.td_law_commitment.specs.Voted.{IsHeld, IsVoted}
use Rattle.td_law_agreement.proofs.World.{words}
use Rattle.td_law_logs.proofs.Passes.{slot_more, two_slots, TwoSlots, same_slots, first_above, second_above, shorter}
use Rattle.td_law_logs.proofs.Rows.{standing, above_place, both_hold, root_first, root_second}
use Rattle.td_law_logs.proofs.Rows.{same_overlap, atom_overlap, atom_overlap_back}
use Rattle.td_law_logs.proofs.LogRows.{rows_born, born_in, born_inserted, born_parts, born_dot}
use Rattle.td_law_logs.proofs.Bases.{op_in, tail, causal, past_older, past_in, one_op, in_base, base_past, base_log}
use Rattle.td_law_logs.proofs.Bases.{past_of_base, base_member, base_not, base_one_way, base_onward, known}
use Rattle.td_law_logs.proofs.Steps.{CommitSlot, commit_slot, doc, born_at, stays, birth_is, moved_within}
use Rattle.td_law_logs.proofs.DocSteps.{slot_by_place}
use Rattle.td_law_agreement.proofs.Renamed.{renamed}
use Rattle.td_law_logs.proofs.BaseLengths.{base_few}
use Rattle.td_law_logs.proofs.Commits.{focus_commit, overlap_from, commit_of, commit_slot_of}
use Rattle.td_law_logs.proofs.Commits.{edit_base, edit_log, insert_row, own_row}
use Rattle.td_order.specs.Show.{deletes}
use Rattle.td_base.proofs.Equals.{same_id_true}
use Rattle.std.proofs.lemmas.Option.{same_Some}

holds_from : (family : Family) (c : OpValue) (slot : Slot) (path : Pairs) → slot_of family c ≡ Some slot
    → slot_holds slot path ≡ true → holds family c path ≡ true
holds_from family c slot path e h = ap (λ (z : Option Slot). held_by z path) e ∙ h

module _ (family : Family) (c : IsConsistent family) where
  abbrev n : ℕ
  n = length family

  abbrev w : Words OpValue AtomIdValue Pairs
  w = words family

  -- ---- slots

  nested : (d e : OpValue) (x : AtomIdValue) (path : Pairs) → holds family d path ≡ true → holds family e path ≡ true
      → Nested w d e x path
  nested d e x path h k =
      let s = commit_slot family d path h in
      let t = commit_slot family e path k in
      from s.slot t.slot s.is t.is s.holds t.holds
    where
      from : (s t : Slot) → slot_of family d ≡ Some s → slot_of family e ≡ Some t → slot_holds s path ≡ true
          → slot_holds t path ≡ true → Nested w d e x path
      from Root t f g i j =
          one_slot (λ log l. overlap_from family log e d t Root g f (root_second (doc_of log) (doc family c log l) t))
      from (At z b) Root f g i j =
          one_slot (λ log l. overlap_from family log e d Root (At z b) g f
          (root_first (doc_of log) (doc family c log l) (At z b)))
      from (At z b) (At y a) f g i j = lie (two_slots z b y a path i j)
        where
          lie : TwoSlots z b y a path → Nested w d e x path
          lie (same_slots p q) =
              one_slot (λ log l. overlap_from family log e d (At y a) (At z b) g f
              (same_overlap (doc_of log) (doc family c log l) (At y a) (At z b) (λ i. At (sym p i) (sym q i))))
          lie (first_above u) =
              within_atom y (u.front ++ (u.side, y) ∷ [])
              (λ log l m. above_place (doc_of log) (doc family c log l) x path u.front u.side y u.next u.rest m
              u.is)
              (holds_from family d (At z b) (u.front ++ (u.side, y) ∷ []) f u.passes)
              (subst (λ (p : Pairs). length (u.front ++ (u.side, y) ∷ []) < length p) (sym u.is)
              (shorter u.front (u.side, y) u.next u.rest))
              (λ log q l m r. overlap_from family log e d (At y a) (At z b) g f
              (atom_overlap_back (doc_of log) (doc family c log l) (At z b) (At y a) q m
              (ap (λ (o : Option Slot). held_by o q) (sym f) ∙ r)))
          lie (second_above u) =
              atom_within (u.front ++ (u.side, z) ∷ [])
              (λ log l m. subst (λ (a : AtomIdValue). at log a ≡ Some (u.front ++ (u.side, z) ∷ []))
              (sym (focus_commit family d (At z b) f))
              (above_place (doc_of log) (doc family c log l) x path u.front u.side z u.next u.rest m u.is))
              (holds_from family e (At y a) (u.front ++ (u.side, z) ∷ []) g u.passes)

  both_overlap : (d e : OpValue) (log : List OpValue) (x : AtomIdValue) (path : Pairs) → IsLogOf family log
      → at log x ≡ Some path → holds family e path ≡ true → holds family d path ≡ true → Overlap family log e d
  both_overlap d e log x path l h i j =
      let s = commit_slot family e path i in
      let t = commit_slot family d path j in
      overlap_from family log e d s.slot t.slot s.is t.is
      (both_hold (doc_of log) (doc family c log l) s.slot t.slot x path h s.holds t.holds)

  focus_overlap : (d e : OpValue) (log : List OpValue) (path other : Pairs) → IsLogOf family log
      → holds family d other ≡ true → at log (focus family d) ≡ Some path → holds family e path ≡ true
      → Overlap family log e d
  focus_overlap d e log path other l h i j =
      let s = commit_slot family e path j in
      let t = commit_slot family d other h in
      overlap_from family log e d s.slot t.slot s.is t.is
      (atom_overlap (doc_of log) (doc family c log l) s.slot t.slot path
      (subst (λ (a : AtomIdValue). at log a ≡ Some path) (focus_commit family d t.slot t.is) i) s.holds)

  module _ (v : IsVoted family) where
    touches : (e d : OpValue) (path : Pairs) → IsOpOf family e → IsOpOf family d → is_edit e.body ≡ true
        → at (base family e) (focus family e) ≡ Some path → holds family d path ≡ true
        → In e (base family d) ⊎ In d (base family e)
    touches e d path ke kd edit here h = from e.body refl
      where
        s : CommitSlot family d path
        s = commit_slot family d path h

        q : (q : OpValue) × IsCommit family d q s.slot × IsTrue (in_past q d)
        q = commit_of family c d s.slot kd s.is

        beside : (b : Body) → e.body ≡ b → (r : DocRow) → In r (doc_of (e ∷ base family e)) → IsRowOf e b r
            → slot_holds s.slot r.path ≡ true → In e (base family d) ⊎ In d (base family e)
        beside b k r i o g = v.beside e d q.0 s.slot ke q.1 r i (own_row e b r k o) g

        not_edit : (b : Body) → e.body ≡ b → is_edit b ≡ false → In e (base family d) ⊎ In d (base family e)
        not_edit b k f = absurd (true≢false (sym edit ∙ (ap is_edit k ∙ f)))

        from : (b : Body) → e.body ≡ b → In e (base family d) ⊎ In d (base family e)
        from (Insert Root run) k = not_edit (Insert Root run) k refl
        from (Insert (At z b) run) k =
            let r = insert_row family c e (At z b) run ke k in
            let at_z : at (base family e) z ≡ Some path =
            subst (λ (a : AtomIdValue). at (base family e) a ≡ Some path) (ap (focus_by (slot_of family e)) k)
            here in
            let below : Below path b ≡ r.sp =
            same_Some (Below path b) r.sp
            (sym (slot_by_place (doc_of (base family e)) z b ∙ ap (option_map (λ (p : Pairs). Below p b)) at_z)
            ∙ r.at_slot) in
            let g = goes_on_parts path b r.row.path
            (subst (λ (t : SlotPath). slot_contains t r.row.path ≡ true) (sym below) r.contained) in
            beside (Insert (At z b) run) k r.row r.inside r.own
            (subst (λ (p : Pairs). slot_holds s.slot p ≡ true) (sym g.is)
            (slot_more s.slot path ((b, g.id) ∷ g.rest) s.holds))
        from (Delete z) k =
            let at_z : at (base family e) z ≡ Some path =
            subst (λ (a : AtomIdValue). at (base family e) a ≡ Some path) (ap (focus_by (slot_of family e)) k)
            here in
            let u = standing (doc_of (base family e)) z path at_z in
            let l = edit_log family c e ke (ap (origin e.dot) k) in
            let is : doc_of (e ∷ base family e) ≡ delete z e.dot (doc_of (base family e)) =
            ap (λ (b : Body). effect (base family e) e.dot b (doc_of (base family e))) k in
            let t = delete_stays z e.dot (doc_of (base family e))
            (subst IsDocument is (doc family c (e ∷ base family e) l)) z u.row u.found in
            let f = found z t.0 (delete z e.dot (doc_of (base family e))) t.1 in
            beside (Delete z) k t.0 (subst (λ (rows : List DocRow). In t.0 rows) (sym is) f.0) f.1
            (subst (λ (p : Pairs). slot_holds s.slot p ≡ true) (sym (t.2 ∙ u.stands)) s.holds)
        from (Propose slot) k = not_edit (Propose slot) k refl
        from (Commit p) k = not_edit (Commit p) k refl
        from (Abort p) k = not_edit (Abort p) k refl

    touches_born : (e d : OpValue) (x : AtomIdValue) (path : Pairs) → IsOpOf family e → IsOpOf family d
        → born e x ≡ true → birth family x ≡ Some path → holds family d path ≡ true
        → In e (base family d) ⊎ In d (base family e)
    touches_born e d x path ke kd b h g =
        let s = commit_slot family d path g in
        let q = commit_of family c d s.slot kd s.is in
        let a = born_parts e x b in
        let eq = edit_base family e (ap (origin e.dot) a.is) in
        let dot = born_dot e x b in
        let here : at (e ∷ base family e) x ≡ Some path = ap (λ (z : List OpValue). at (e ∷ z) x) (sym eq)
        ∙ (sym (birth_is family c e x ke dot) ∙ h) in
        let u = standing (doc_of (e ∷ base family e)) x path here in
        v.beside e d q.0 s.slot ke q.1 u.row u.inside
        (own_row e (Insert a.slot a.run) u.row a.is (ap (λ (z : AtomIdValue). z.dot) u.named ∙ sym dot))
        (subst (λ (p : Pairs). slot_holds s.slot p ≡ true) (sym u.stands) s.holds)

    -- ---- pending

    row_born : (log : List OpValue) (x : AtomIdValue) (path : Pairs) → IsLogOf family log → at log x ≡ Some path
        → IsBorn w log x
    row_born log x path l h =
        let s = standing (doc_of log) x path h in
        let b = rows_born n log (causal family c log l) s.row s.inside in
        (b.op, b.inside, subst (λ (z : AtomIdValue). born b.op z ≡ true) s.named (born_in log (named s.row) b))

    -- the atom that an edit names was put by an insert in its past
    focus_born : (o : OpValue) → IsOpOf family o → is_edit o.body ≡ true → IsBorn w (base family o) (focus family o)
    focus_born o k edit = from o.body refl
      where
        by_name : (b : Body) (z : AtomIdValue) → o.body ≡ b → named_atom b ≡ Some z → origin o.dot b ≡ o.dot
            → focus_by (slot_of family o) b ≡ z → IsBorn w (base family o) (focus family o)
        by_name b z e f g h =
            let y = inserted_in_past family c o k z (ap named_atom e ∙ f) in
            let i : In y.0 (base family o) =
            subst (λ (t : List OpValue). In y.0 t) (edit_base family o (ap (origin o.dot) e ∙ g))
            (in_base family c o y.0 k y.1 y.2) in
            let bz : born y.0 z ≡ true = born_inserted y.0 z y.3 in
            (y.0, i, subst (λ (t : AtomIdValue). born y.0 t ≡ true) (sym (ap (focus_by (slot_of family o)) e ∙ h)) bz)

        none : (b : Body) → o.body ≡ b → is_edit b ≡ false → IsBorn w (base family o) (focus family o)
        none b e f = absurd (true≢false (sym edit ∙ (ap is_edit e ∙ f)))

        from : (b : Body) → o.body ≡ b → IsBorn w (base family o) (focus family o)
        from (Insert Root run) e = none (Insert Root run) e refl
        from (Insert (At z bit) run) e = by_name (Insert (At z bit) run) z e refl refl refl
        from (Delete z) e = by_name (Delete z) z e refl refl refl
        from (Propose slot) e = none (Propose slot) e refl
        from (Commit p) e = none (Commit p) e refl
        from (Abort p) e = none (Abort p) e refl

    rooted_place : (rows : List DocRow) (slot : Slot) (path : Pairs) → is_rooted rows slot ≡ true
        → names_atom slot ≡ true → (p : Pairs) × (place_of (atom_at slot) rows ≡ Some p)
    rooted_place rows Root path h k = absurd (true≢false (sym k))
    rooted_place rows (At z b) path h k = from (find_row z rows) h
      where
        from : (o : Option DocRow) → is_some o ≡ true → (p : Pairs) × (option_map (λ (r : DocRow). r.path) o ≡ Some p)
        from None m = absurd (true≢false (sym m))
        from (Some r) m = (r.path, refl)

    -- nobody is no row
    nobody_out : (log : List OpValue) (path : Pairs) → IsLogOf family log → at log nobody ≡ Some path → ⊥
    nobody_out log path l h =
        let b = row_born log nobody path l h in
        let o = op_in family c log l b.0 b.1 in
        let m : 0 < b.0.dot.site = (made_at family c b.0 o).0 in
        let d : b.0.dot.site ≡ 0 = ap (λ (z : DotValue). z.site) (born_dot b.0 nobody b.2) in
        omega (arith, m, d)

    -- what is held, and the next commit
    held_row : (d q : OpValue) (slot : Slot) (log : List OpValue) → IsHeld family d q slot log → (path : Pairs)
        → at (base family d) (focus family d) ≡ Some path → (p : Pairs) × (at log (focus family d) ≡ Some p)
    held_row d q slot log h path e = from slot refl
      where
        is : slot_of family d ≡ Some slot
        is = commit_slot_of family c d q slot h.commit

        foc : focus family d ≡ atom_at slot
        foc = focus_commit family d slot is

        from : (s : Slot) → slot ≡ s → (p : Pairs) × (at log (focus family d) ≡ Some p)
        from Root k =
            absurd (nobody_out (base family d) path (base_log family c d h.commit.inside)
            (subst (λ (z : AtomIdValue). at (base family d) z ≡ Some path) (foc ∙ ap atom_at k) e))
        from (At z b) k =
            let r = rooted_place (doc_of log) slot path (v.rooted d q slot log h) (ap names_atom k) in
            (r.0, ap (λ (a : AtomIdValue). at log a) foc ∙ r.1)

    -- what is known where an operation is ready
    base_inside : (o : OpValue) (log : List OpValue) → IsOpOf family o
        → ((y : OpValue) → IsOpOf family y → IsTrue (in_past y o) → In y log) → (e : OpValue) → In e (base family o)
        → In e log
    base_inside o log k past e i = past e (base_member family c e o i) (past_of_base family c o e k i)

    -- a commit that can come next is held
    next_held : (d q : OpValue) (slot : Slot) (log : List OpValue) → IsLogOf family log → IsCommit family d q slot
        → IsTrue (in_past q d) → ((y : OpValue) → IsOpOf family y → IsTrue (in_past y d) → In y log) → (In d log → ⊥)
        → IsHeld family d q slot log
    next_held d q slot log l k p past out =
        record { of = l; commit = k; proposed = past q k.proposed p; open_yet = out }

    -- an operation of the family that could be the next of the log
    pub record CanCome (o : OpValue) (log : List OpValue) : Type 0 where
      pub of : IsOpOf family o
      pub is : IsLogOf family log
      pub new : In o log → ⊥
      pub past : (y : OpValue) → IsOpOf family y → IsTrue (in_past y o) → In y log
      pub covers : IsTrue (vector_covers (counts n log) o.deps)

    pub pending_next : (o : OpValue) (log : List OpValue) → CanCome o log → Pending w o log
    pending_next o log k =
        record {
          of = k.of;
          is = k.is;
          once = k.new;
          base_log = base_log family c o k.of;
          base_in = λ e i. base_inside o log k.of k.past e i;
          base_few = base_few family c o log k.of k.covers (causal family c log k.is);
          focus_born = focus_born o k.of;
          held_row = λ path slot_path h e.
              let s = commit_slot family o slot_path h in
              let q = commit_of family c o s.slot k.of s.is in
              held_row o q.0 s.slot log (next_held o q.0 s.slot log k.is q.1 q.2 k.past k.new) path e;
          in_turn = λ e i h. turn e i h;
        }
      where
        second : (rows : List DocRow) (s t : Option Slot) → overlap_of rows s t → (slot : Slot) × (t ≡ Some slot)
        second rows None t h = absurd h
        second rows (Some s) None h = absurd h
        second rows (Some s) (Some t) h = (t, refl)

        turn : (e : OpValue) → In e log → Overlap family log e o → In e (base family o)
        turn e i h =
            let s = second (doc_of log) (slot_of family e) (slot_of family o) h in
            let q = commit_of family c o s.0 k.of s.1 in
            v.in_turn o q.0 s.0 log (next_held o q.0 s.0 log k.is q.1 q.2 k.past k.new) e i h

    comes : (o : OpValue) (log : List OpValue) → IsLogOf family (o ∷ log) → CanCome o log
    comes o log l =
        let k = causal family c (o ∷ log) l in
        record {
          of = op_in family c (o ∷ log) l o (inl refl);
          is = tail family c o log l;
          new = λ i. not_older n o o log k.0 k.1 i refl;
          past = past_older family c o log l;
          covers = k.0.past;
        }

    -- the proposal of a commit is held
    pub pending_held : (d q : OpValue) (slot : Slot) (log : List OpValue) → IsHeld family d q slot log
        → Pending w d log
    pending_held d q slot log h =
        let k = h.commit.inside in
        let is = commit_slot_of family c d q slot h.commit in
        let body : origin d.dot d.body ≡ q.dot = ap (origin d.dot) h.commit.is in
        let same : base_from family q.dot ≡ base family d = ap (base_from family) (sym body) in
        let s : CutAt q log = cut_at q log h.proposed in
        let sc = older_in_turn n s.front q s.back
        (subst (λ (z : List OpValue). IsInTurn n z) s.is (causal family c log h.of)) in
        record {
          of = k;
          is = h.of;
          once = h.open_yet;
          base_log = base_log family c d k;
          base_in = λ e i.
              let j : In e (base_from family q.dot) = subst (λ (z : List OpValue). In e z) (sym same) i in
              past_in family c log h.of q e h.proposed (base_member family c e d i)
              (base_past family c q e h.commit.proposed j);
          base_few =
              let f = base_few family c q s.back h.commit.proposed sc.0.past sc.1 in
              let qb : base family q ≡ base family d =
              ap (λ (b : Body). base_from family (origin q.dot b)) h.commit.asks ∙ same in
              let g : length (base family d) ≤ length s.back =
              subst (λ (z : List OpValue). length z ≤ length s.back) qb f in
              let len : length log ≡ length (s.front ++ q ∷ s.back) = ap (λ (z : List OpValue). length z) s.is in
              let two = length-append s.front (q ∷ s.back) in
              omega (arith, g, len, two);
          focus_born = focus_born d k;
          held_row = λ path slot_path m e. held_row d q slot log h path e;
          in_turn = λ e i m. v.in_turn d q slot log h e i m;
        }

    -- ---- the record

    pub renames_path : (o : OpValue) (x : AtomIdValue) → renames w o x ≡ true
        → (path : Pairs) × (at (base family o) x ≡ Some path) × (holds family o path ≡ true)
    renames_path o x h = from (at (base family o) x) refl h
      where
        from : (m : Option Pairs) → at (base family o) x ≡ m → holds_some w o m ≡ true
            → (path : Pairs) × (at (base family o) x ≡ Some path) × (holds family o path ≡ true)
        from None e k = absurd (true≢false (sym k))
        from (Some path) e k = (path, e, k)

    kills_edit : (d : OpValue) (x : AtomIdValue) → deletes x d.body ≡ true
        → (is_edit d.body ≡ true) × (focus family d ≡ x)
    kills_edit d x h = from d.body refl h
      where
        from : (b : Body) → d.body ≡ b → deletes x b ≡ true → (is_edit d.body ≡ true) × (focus family d ≡ x)
        from (Delete z) e k = (ap is_edit e, ap (focus_by (slot_of family d)) e ∙ same_id_true z x k)
        from (Insert slot run) e k = absurd (true≢false (sym k))
        from (Propose slot) e k = absurd (true≢false (sym k))
        from (Commit p) e k = absurd (true≢false (sym k))
        from (Abort p) e k = absurd (true≢false (sym k))

    pub premises : Premises w
    premises =
        record {
          tail = tail family c;
          ready = λ o log l. pending_next o log (comes o log l);
          member = λ o log l i. op_in family c log l o i;
          base_member = base_member family c;
          known = known family c;
          base_not = base_not family c;
          base_one_way = base_one_way family c;
          base_onward = base_onward family c;
          born_at = born_at family c;
          stays = stays family c;
          renamed = λ o log x l a h.
              let r = renames_path o x h in
              renamed family c o log l (λ e i. base_inside o log (comes o log l).of (comes o log l).past e i)
              (λ y path k m. a.here y path k m) (λ y path k m. a.there y path k m)
              (λ y path k m d i q. a.killed y path k m d i q) x r.0 r.1 r.2;
          after_within = λ o x path k h. moved_within family c o x path k h;
          row_born = row_born;
          born_once = λ o e x ko ke h k. one_op family c o e ko ke (born_dot o x h ∙ sym (born_dot e x k));
          renames_born = λ o log x l h. let r = renames_path o x h in
              row_born (base family o) x r.0 (base_log family c o (comes o log l).of) r.1;
          nested = nested;
          both_hold = both_overlap;
          holds_focus = focus_overlap;
          touches = touches;
          kills_edit = kills_edit;
          touches_born = touches_born;
        }
