-- What hangs below the middle atom of an insert that no commit renamed is what is under that insert.
use Rattle.std.proofs.Common.{◌≡◌, ◌⊎◌, ◌<◌, ◌/◌, ◌++◌, ℕ, List, [], ◌∷◌, length, drop, Bool, true, false, Option}
use Rattle.std.proofs.Common.{Some, None, refl, sym, ap, ◌∙◌, subst, inl, inr, ⊎_elim, true≢false, append_assoc}
use Rattle.std.specs.Option.{is_some}
use Rattle.td_base.specs.declared.bit.Bit.{Bit}
use Rattle.td_base.specs.Value.{DotValue, AtomIdValue}
use Rattle.td_base.specs.Lists.{In}
use Rattle.td_base.proofs.Lists.{In-map}
use Rattle.td_path.specs.Infix.{Pairs}
use Rattle.td_path.specs.SlotPaths.{slot_contains, path_in}
use Rattle.td_path.specs.declared.slot.Slot.{Slot}
use Rattle.td_path.specs.declared.slot.Slot.TheVariants.{Root, At}
use Rattle.td_path.specs.declared.slot_path.SlotPath.{SlotPath}
use Rattle.td_op.specs.declared.body.Body.{Body}
use Rattle.td_op.specs.declared.body.Body.TheVariants.{Insert, Commit}
use Rattle.td_op.specs.Op.{OpValue}
use Rattle.td_doc.specs.Document.{DocRow, row_id, find_row, IsPath, IsDocument}
use Rattle.td_doc.specs.Array.{named, row_in, array}
use Rattle.td_base.specs.RunAtoms.{NamedAtom, run_atoms}
use Rattle.td_base.proofs.Elements.{both_tests}
use Rattle.td_doc.specs.Insertion.{put_rows, put_array_below}
use Rattle.td_doc.specs.Slots.{slot_path}
use Rattle.td_doc.specs.Subtrees.{begins}
use Rattle.td_doc.proofs.PutRows.{puts_in}
use Rattle.td_doc.proofs.ArrayRows.{array_names, named_row}
use Rattle.td_doc.proofs.Rules.{found}
use Rattle.td_doc.proofs.SubtreeRows.{begins_parts, slot_alike}
use Rattle.td_machine.specs.Making.{effect}
use Rattle.td_doc.specs.Answers.{is_rooted}
use Rattle.td_machine.specs.History.{Family, IsConsistent}
use Rattle.td_machine.proofs.Family.{not_older}
use Rattle.td_machine.specs.Replay.{doc_of}
use Rattle.td_machine.specs.Counts.{IsInTurn}
use Rattle.td_law_logs.proofs.DocumentFacts.{id_at}
use Rattle.td_law_logs.proofs.Paths.{IsBelow, fork}
use Rattle.td_law_agreement.proofs.Words.{Words, renames, holds_some}
use Rattle.td_law_logs.specs.Logs.{IsLogOf, base, slot_of}
use Rattle.td_law_logs.specs.Places.{at}
use Rattle.td_law_logs.proofs.Words.{held_by, holds, born}
use Rattle.td_law_commitment.specs.Voted.{IsVoted}
use Rattle.td_law_agreement.proofs.World.{words}
use Rattle.td_law_logs.proofs.Rows.{Standing, standing, place_at, on_way, holds_of, row_ends, Ends}
use Rattle.td_law_logs.proofs.LogRows.{rows_born, run_places, born_dot}
use Rattle.td_law_logs.proofs.Fitting.{FitsBody}
use Rattle.td_law_logs.proofs.Bases.{tail, causal, fits}
use Rattle.td_law_logs.proofs.Steps.{doc, stays, commit_body}
use Rattle.td_law_agreement.proofs.OwnSlots.{Middle, middle_of, middle_in}
use Rattle.td_law_agreement.proofs.Meeting.{agrees}
use Rattle.td_law_logs.proofs.RowsBefore.{AtMiddle, at_middle, RowWas, same_path, put_in, within_slot}
use Rattle.td_law_logs.proofs.RowsBefore.{row_was, no_row_yet, below_from, Hangs, hangs}
use Rattle.std.proofs.lemmas.Bool.{false_from_ne_true}
use Rattle.std.proofs.lemmas.Option.{same_Some}

module _ (family : Family) (c : IsConsistent family) where
  abbrev n : ℕ
  n = length family

  module _ (v : IsVoted family) (b : OpValue) (slot_b : Slot) (run_b : List (List ℕ))
      (is_b : b.body ≡ Insert slot_b run_b) (full : 0 < length run_b)
      (under : DotValue → Bool) (all : List OpValue) (itself : under b.dot ≡ true)
      (by_slot : (o : OpValue) → In o all → (z : AtomIdValue) (bit : Bit) (run : List (List ℕ))
      → o.body ≡ Insert (At z bit) run → (o.dot ≡ b.dot → ⊥) → under o.dot ≡ under z.dot)
      (by_root : (o : OpValue) → In o all → (run : List (List ℕ)) → o.body ≡ Insert Root run → (o.dot ≡ b.dot → ⊥)
      → under o.dot ≡ false) where
    abbrev w : Words OpValue AtomIdValue Pairs
    w = words family

    pub mid : Middle b.dot run_b
    mid = middle_of b.dot run_b full

    abbrev top : AtomIdValue
    top = mid.atom.id

    -- before b comes nothing is under it
    pub none_under : (log : List OpValue) → IsLogOf family log → ((y : OpValue) → In y log → In y all)
        → ((y : OpValue) → In y log → y.dot ≡ b.dot → ⊥) → (y : OpValue) → In y log
        → (slot : Slot) (run : List (List ℕ)) → y.body ≡ Insert slot run → under y.dot ≡ false
    none_under [] l up out y i slot run e = absurd i
    none_under (o ∷ log) l up out y i slot run e =
        step (λ z j s r f. none_under log (tail family c o log l) (λ x k. up x (inr k))
        (λ x k. out x (inr k)) z j s r f) i
      where
        some_row : (z : AtomIdValue) (p : Option DocRow) → find_row z (doc_of log) ≡ p → is_some p ≡ true
            → (q : DocRow) × In q (doc_of log) × (row_id q ≡ z)
        some_row z None f h = absurd (true≢false (sym h))
        some_row z (Some q) f h = let x = found z q (doc_of log) f in (q, x.0, x.1)

        step : ((z : OpValue) → In z log → (s : Slot) (r : List (List ℕ)) → z.body ≡ Insert s r → under z.dot ≡ false)
            → In y (o ∷ log) → under y.dot ≡ false
        step ih (inr j) = ih y j slot run e
        step ih (inl q) = at_slot slot (subst (λ (x : OpValue). x.body ≡ Insert slot run) q e)
          where
            at_slot : (s : Slot) → o.body ≡ Insert s run → under y.dot ≡ false
            at_slot Root f =
                subst (λ (x : OpValue). under x.dot ≡ false) (sym q)
                (by_root o (up o (inl refl)) run f (out o (inl refl)))
            at_slot (At z bit) f =
                let rooted : is_rooted (doc_of log) (At z bit) ≡ true =
                subst (λ (x : Body). FitsBody log o.dot.site x) f (fits family c o log l) in
                let r = some_row z (find_row z (doc_of log)) refl rooted in
                let p = rows_born n log (causal family c log (tail family c o log l)) r.0 r.1 in
                let d : p.op.dot ≡ z.dot = sym (run_places p.op.dot 0 p.run (named r.0) p.among).dot
                ∙ ap (λ (x : AtomIdValue). x.dot) r.2 in
                subst (λ (x : OpValue). under x.dot ≡ false) (sym q)
                (by_slot o (up o (inl refl)) z bit run f (out o (inl refl))
                ∙ (ap under (sym d) ∙ ih p.op p.inside p.slot p.run p.is))

    -- a node on the way of an old row is no new one
    not_through : (o : OpValue) (log : List OpValue) → IsLogOf family (o ∷ log) → (s : DocRow) → In s (doc_of log)
        → (base : Pairs) (side : Bit) (id : AtomIdValue) (rest : Pairs) → id.dot ≡ o.dot
        → s.path ≡ base ++ (side, id) ∷ rest → ⊥
    not_through o log l s i base side id [] d e =
        no_row_yet family c o log l s i (ap (λ (x : AtomIdValue). x.dot) (id_at s base (side, id) e) ∙ d)
    not_through o log l s i base side id (u ∷ rest) d e =
        let q = on_way (doc_of log) (doc family c log (tail family c o log l)) s base side id u rest i e in
        no_row_yet family c o log l q.0 q.1 (ap (λ (x : AtomIdValue). x.dot) q.3 ∙ d)

    abbrev Never : List OpValue → Type 0
    Never log = (g : OpValue) → In g log → renames w g top ≡ true → ⊥

    abbrev Subtree : List OpValue → Type 0
    Subtree log = (path : Pairs) → at log top ≡ Some path → (r : DocRow) → In r (doc_of log)
        → begins path r.path ≡ under (row_id r).dot

    -- one operation more, where b is there
    later : (o : OpValue) (log : List OpValue) → IsLogOf family (o ∷ log)
        → ((y : OpValue) → In y (o ∷ log) → In y all) → In b log → (renames w o top ≡ true → ⊥) → Subtree log
        → Subtree (o ∷ log)
    later o log l up i never ih path here r j = from (row_was family c o log l r j)
      where
        lt : IsLogOf family log
        lt = tail family c o log l

        d : IsDocument (doc_of log)
        d = doc family c log lt

        other : o.dot ≡ b.dot → ⊥
        other e = let k = causal family c (o ∷ log) l in not_older n o b log k.0 k.1 i e

        no_hold : (p : Pairs) → at log top ≡ Some p → holds family o p ≡ false
        no_hold p e =
            false_from_ne_true (holds family o p)
            (λ h. never (ap (λ (m : Option Pairs). holds_some w o m) ((agrees family c v o log l).here top p h e)
            ∙ h))

        top_dot : top.dot ≡ b.dot
        top_dot = ap (λ (x : AtomIdValue). x.dot) mid.id

        still : at log top ≡ Some path
        still = sym
            (stays family c o log top l (false_from_ne_true (born o top) (λ h. other (born_dot o top h ∙ top_dot)))
            no_hold) ∙ here

        s : Standing (doc_of log) top path
        s = standing (doc_of log) top path still

        from : RowWas family o log r → begins path r.path ≡ under (row_id r).dot
        from (same_path q k id p) = ap (begins path) p
            ∙ (ih path still q k ∙ ap (λ (x : AtomIdValue). under x.dot) (sym id))
        from (within_slot slot sp e f q k id hq hr) =
            let out : slot_contains sp path ≡ false =
            false_from_ne_true (slot_contains sp path)
            (λ h. true≢false
            (sym (ap (λ (z : Option Slot). held_by z path) e ∙ holds_of (doc_of log) d slot sp path f h)
            ∙ no_hold path still)) in
            sym (slot_alike sp path q.path r.path hq hr out)
            ∙ (ih path still q k ∙ ap (λ (x : AtomIdValue). under x.dot) (sym id))
        from (put_in slot run sp e f k) = at_base (hangs log slot sp f)
          where
            m : AtMiddle sp (run_atoms o.dot run) r
            m = at_middle (length (run_atoms o.dot run)) sp (run_atoms o.dot run) r k

            mine : m.atom.id.dot ≡ o.dot
            mine = (run_places o.dot 0 run m.atom m.among).dot

            own : (row_id r).dot ≡ o.dot
            own = (run_places o.dot 0 run (named r)
                (subst (In (named r)) (array_names sp (run_atoms o.dot run))
                (In-map named r (array sp (run_atoms o.dot run)) k))).dot

            at_base : Hangs log slot sp → begins path r.path ≡ under (row_id r).dot
            at_base h = how h.how
              where
                whole : r.path ≡ h.base ++ (h.side, m.atom.id) ∷ m.more
                whole = m.path
                    ∙ (ap (λ (p : Pairs). p ++ m.more) (h.path m.atom.id)
                    ∙ append_assoc h.base ((h.side, m.atom.id) ∷ []) m.more)

                -- the node of b's middle atom is above the front
                front : begins path r.path ≡ true → IsBelow path h.base
                front t =
                    let p = begins_parts path r.path t in
                    ⊎_elim (λ (u : IsBelow path h.base). u)
                    (λ (u : (after : Pairs) × (path ≡ h.base ++ (h.side, m.atom.id) ∷ after)). absurd
                    (not_through o log l s.row s.inside h.base h.side m.atom.id u.0 mine (s.stands ∙ u.1)))
                    (fork h.base (h.side, m.atom.id) m.more path p.0 (sym whole ∙ p.1))

                how : ((slot ≡ Root) × (h.base ≡ []))
                    ⊎ ((x : DocRow) × In x (doc_of log) × (slot ≡ At (row_id x) h.side) × (h.base ≡ x.path))
                    → begins path r.path ≡ under (row_id r).dot
                how (inl (q, p)) =
                    let u : under (row_id r).dot ≡ false = ap under own
                    ∙ by_root o (up o (inl refl)) run (e ∙ ap (λ (z : Slot). Insert z run) q) other in
                    false_from_ne_true (begins path r.path) (λ t. no_front (front t)) ∙ sym u
                  where
                    no_front : IsBelow path h.base → ⊥
                    no_front u = empty path u.0 (sym p ∙ u.1) s.stands
                      where
                        empty : (x y : Pairs) → [] ≡ x ++ y → s.row.path ≡ x → ⊥
                        empty [] y z t = subst IsPath t (d.paths s.row s.inside)
                        empty (a ∷ x) y z t = cc
                how (inr (x, ix, q, p)) =
                    let u : under (row_id r).dot ≡ under (row_id x).dot = ap under own
                    ∙ by_slot o (up o (inl refl)) (row_id x) h.side run (e ∙ ap (λ (z : Slot). Insert z run) q)
                    other in
                    let t : begins path r.path ≡ begins path x.path =
                    both_tests (begins path r.path) (begins path x.path)
                    (λ t. let z = front t in below_from path x.path z.0 (sym p ∙ z.1))
                    (λ t. let z = begins_parts path x.path t in
                    below_from path r.path (z.0 ++ (h.side, m.atom.id) ∷ m.more)
                    (whole ∙ (ap (λ (y : Pairs). y ++ (h.side, m.atom.id) ∷ m.more) (p ∙ z.1)
                    ∙ append_assoc path z.0 ((h.side, m.atom.id) ∷ m.more)))) in
                    t ∙ (ih path still x ix ∙ sym u)

    -- b itself
    first : (log : List OpValue) → IsLogOf family (b ∷ log) → ((y : OpValue) → In y (b ∷ log) → In y all)
        → Subtree (b ∷ log)
    first log l up path here r j = from (row_was family c b log l r j)
      where
        lt : IsLogOf family log
        lt = tail family c b log l

        d : IsDocument (doc_of log)
        d = doc family c log lt

        k : IsInTurn n (b ∷ log)
        k = causal family c (b ∷ log) l

        top_dot : top.dot ≡ b.dot
        top_dot = ap (λ (x : AtomIdValue). x.dot) mid.id

        -- the path ends at the middle atom
        e : Ends path top
        e =
            let s = standing (doc_of (b ∷ log)) top path here in
            let n' = row_ends s.row ((doc family c (b ∷ log) l).paths s.row s.inside) in
            record {
              front = n'.front;
              side = n'.side;
              is = sym s.stands
                  ∙ (n'.is ∙ ap (λ (z : AtomIdValue). n'.front ++ (n'.side, z) ∷ []) s.named);
            }

        old : (q : DocRow) → In q (doc_of log) → begins path q.path ≡ under (row_id q).dot
        old q i =
            let y = rows_born n log (causal family c log lt) q i in
            let dot : (row_id q).dot ≡ y.op.dot = (run_places y.op.dot 0 y.run (named q) y.among).dot in
            let u : under (row_id q).dot ≡ false = ap under dot
            ∙ none_under log lt (λ z m. up z (inr m)) (λ z m t. not_older n b z log k.0 k.1 m (sym t)) y.op
            y.inside y.slot y.run y.is in
            false_from_ne_true (begins path q.path) (λ t.
            let z = begins_parts path q.path t in
            not_through b log l q i e.front e.side top z.0 top_dot
            (z.1 ∙ (ap (λ (p : Pairs). p ++ z.0) e.is ∙ append_assoc e.front ((e.side, top) ∷ []) z.0))) ∙ sym u

        from : RowWas family b log r → begins path r.path ≡ under (row_id r).dot
        from (same_path q i id p) = ap (begins path) p ∙ (old q i ∙ ap (λ (x : AtomIdValue). under x.dot) (sym id))
        from (within_slot slot sp f g q i id hq hr) = absurd (no_commit f)
          where
            no_commit : slot_of family b ≡ Some slot → ⊥
            no_commit h = let y = commit_body family b slot h in other slot_b run_b y.0 (sym is_b ∙ y.1)
              where
                other : (s : Slot) (t : List (List ℕ)) (x : DotValue) → Insert s t ≡ Commit x → ⊥
                other s t x m = cc
        from (put_in slot run sp f g i) =
            let same : run ≡ run_b = one slot slot_b run run_b (sym f ∙ is_b) in
            let a = at_middle (length (run_atoms b.dot run)) sp (run_atoms b.dot run) r i in
            let one_atom : a.atom ≡ mid.atom =
            head a.atom mid.atom a.after _
            (sym a.is
            ∙ (ap (λ (t : List (List ℕ)). drop (length (run_atoms b.dot t) / 2) (run_atoms b.dot t)) same
            ∙ mid.halves.is)) in
            let here' : at (b ∷ log) top ≡ Some (path_in sp top) = middle_place slot run sp f g same in
            let p : path ≡ path_in sp top = same_Some path (path_in sp top) (sym here ∙ here') in
            let own : (row_id r).dot ≡ b.dot =
            (run_places b.dot 0 run (named r)
            (subst (In (named r)) (array_names sp (run_atoms b.dot run))
            (In-map named r (array sp (run_atoms b.dot run)) i))).dot in
            below_from path r.path a.more
            (a.path ∙ ap (λ (z : Pairs). z ++ a.more) (ap (λ (t : NamedAtom). path_in sp t.id) one_atom ∙ sym p))
            ∙ sym (ap under own ∙ itself)
          where
            one : (s t : Slot) (x y : List (List ℕ)) → Insert s x ≡ Insert t y → x ≡ y
            one s t x y m = cc

            head : (x y : NamedAtom) (xs ys : List NamedAtom) → x ∷ xs ≡ y ∷ ys → x ≡ y
            head x y xs ys m = cc

            middle_place : (slot : Slot) (run : List (List ℕ)) (sp : SlotPath) → b.body ≡ Insert slot run
                → slot_path (doc_of log) slot ≡ Some sp → run ≡ run_b → at (b ∷ log) top ≡ Some (path_in sp top)
            middle_place slot run sp f g same =
                let is : doc_of (b ∷ log) ≡ put_rows (array sp (run_atoms b.dot run)) (doc_of log) =
                ap (λ (z : Body). effect log b.dot z (doc_of log)) f
                ∙ ap (λ (z : Option SlotPath). put_array_below z (run_atoms b.dot run) (doc_of log)) g in
                let i : In (row_in sp mid.atom) (doc_of (b ∷ log)) =
                subst (λ (rows : List DocRow). In (row_in sp mid.atom) rows) (sym is)
                (puts_in (array sp (run_atoms b.dot run)) (doc_of log) (row_in sp mid.atom)
                (inl (subst (λ (t : List (List ℕ)). In (row_in sp mid.atom) (array sp (run_atoms b.dot t)))
                (sym same) (middle_in b.dot run_b mid sp)))) in
                place_at (doc_of (b ∷ log)) (doc family c (b ∷ log) l) (row_in sp mid.atom) top i
                (ap (λ (z : NamedAtom). z.id) (named_row sp mid.atom))

    -- the rows below the middle atom of b, as long as no commit renames it
    pub subtree : (log : List OpValue) → IsLogOf family log → ((y : OpValue) → In y log → In y all) → In b log
        → Never log → Subtree log
    subtree [] l up i never = absurd i
    subtree (o ∷ log) l up (inl e) never =
        subst (λ (x : OpValue). Subtree (x ∷ log)) e
        (first log (subst (λ (x : OpValue). IsLogOf family (x ∷ log)) (sym e) l)
        (λ y j. up y (⊎_elim (λ (q : y ≡ b). inl (q ∙ e)) (λ q. inr q) j)))
    subtree (o ∷ log) l up (inr i) never =
        later o log l up i (λ h. never o (inl refl) h)
        (subtree log (tail family c o log l) (λ y j. up y (inr j)) i (λ g j h. never g (inr j) h))
