-- What hangs below a middle atom that was never renamed.
use Rattle.std.proofs.Common.{◌≡◌, ◌++◌, ℕ, List, ◌∷◌, true, false, Some, refl, sym, ap}
use Rattle.std.proofs.Common.{◌∙◌, subst, true≢false, append_assoc}
use Rattle.td_base.specs.declared.bit.Bit.{Bit}
use Rattle.td_base.specs.Value.{DotValue, AtomIdValue}
use Rattle.td_base.specs.Lists.{In}
use Rattle.td_path.specs.Infix.{Pairs}
use Rattle.td_path.specs.declared.slot.Slot.{Slot}
use Rattle.td_path.specs.declared.slot.Slot.TheVariants.{Root, At}
use Rattle.td_op.specs.declared.body.Body.TheVariants.{Insert}
use Rattle.td_op.specs.Op.{OpValue}
use Rattle.td_doc.specs.Document.{DocRow, row_id}
use Rattle.td_doc.specs.Subtrees.{begins, is_under}
use Rattle.td_doc.proofs.SubtreeRows.{under_is}
use Rattle.td_machine.specs.History.{Family, IsConsistent}
use Rattle.td_base.proofs.Elements.{cut_at, CutAt}
use Rattle.td_machine.proofs.Family.{full_of}
use Rattle.td_op.specs.Insertion.{insertion_by, insertions}
use Rattle.td_order.specs.LineUp.{line_up}
use Rattle.td_order.specs.Under.{under}
use Rattle.td_order.proofs.Family.{AllFollow}
use Rattle.td_op.proofs.InsertionLemmas.{insertions-In}
use Rattle.td_order.proofs.LineUpLemmas.{line_up-In}
use Rattle.td_order.proofs.OrderOfPart.{line_up_causal, whole_is_closed}
use Rattle.td_machine.specs.Replay.{doc_of}
use Rattle.td_law_convergence.proofs.Under.{under_itself, under_slot_atom, under_root}
use Rattle.td_law_agreement.proofs.Words.{Words, renames}
use Rattle.td_law_logs.specs.Logs.{IsLogOf}
use Rattle.td_law_logs.specs.Places.{at, birth, IsMiddle}
use Rattle.td_law_logs.proofs.Words.{born}
use Rattle.td_law_commitment.specs.Voted.{IsVoted}
use Rattle.td_law_agreement.proofs.World.{words}
use Rattle.td_law_convergence.specs.Subtrees.{NeverRenamed, SubtreesMeet}
use Rattle.td_law_agreement.proofs.Agree.{Last, never, by, last_in}
use Rattle.td_law_logs.proofs.Rows.{standing}
use Rattle.td_law_logs.proofs.LogRows.{born_true}
use Rattle.td_law_logs.proofs.Bases.{log_rooted, op_in}
use Rattle.td_law_logs.proofs.Steps.{commit_slot, doc}
use Rattle.td_law_agreement.proofs.FamilyRecord.{premises, renames_path}
use Rattle.td_law_agreement.proofs.SlotsRecord.{middle_row_of, middle_named}
use Rattle.td_law_agreement.proofs.Meeting.{agrees}
use Rattle.td_law_convergence.proofs.Subtree.{mid, subtree}

module _ (family : Family) (c : IsConsistent family) where
  module _ (v : IsVoted family) where
    abbrev w : Words OpValue AtomIdValue Pairs
    w = words family

    -- a commit that renames the atom had its row when it came
    not_renamed : (log : List OpValue) → IsLogOf family log → (m : AtomIdValue) → NeverRenamed family log m
        → (g : OpValue) → In g log → renames w g m ≡ true → ⊥
    not_renamed log l m h g i r =
        let s : CutAt g log = cut_at g log i in
        let part : IsLogOf family (g ∷ s.back) =
        record {
          site = l.site;
          some = l.some;
          within = l.within;
          newer = l.newer ++ s.front;
          is =
              l.is ∙ (ap (λ (z : List OpValue). l.newer ++ z) s.is ∙ sym (append_assoc l.newer s.front (g ∷ s.back)));
        } in
        let p = renames_path family c v g m r in
        let t = commit_slot family g p.0 p.2 in
        let here = (agrees family c v g s.back part).there m p.0 p.2 p.1 in
        true≢false (sym t.holds ∙ h s.front g s.back t.slot p.0 s.is t.is here)

    module _ (log : List OpValue) (l : IsLogOf family log) where
      F : AllFollow (insertions (line_up log))
      F = line_up_causal log (whole_is_closed log (log_rooted family c log l))

      op_insertion : (y : OpValue) → In y log → (s : Slot) (r : List (List ℕ)) → y.body ≡ Insert s r
          → In (record { dot = y.dot; deps = y.deps; slot = s; run = r }) (insertions (line_up log))
      op_insertion y i s r e =
          insertions-In (line_up log) y (record { dot = y.dot; deps = y.deps; slot = s; run = r })
          (line_up-In log y i) (ap (insertion_by y.dot y.deps) e)

      by_slot : (b : DotValue) (o : OpValue) → In o log → (z : AtomIdValue) (bit : Bit) (r : List (List ℕ))
          → o.body ≡ Insert (At z bit) r → (o.dot ≡ b → ⊥)
          → under (insertions (line_up log)) b o.dot ≡ under (insertions (line_up log)) b z.dot
      by_slot b o i z bit r e m =
          under_slot_atom (insertions (line_up log)) F
          (record { dot = o.dot; deps = o.deps; slot = At z bit; run = r }) (op_insertion o i (At z bit) r e) b m z
          bit refl

      by_root : (b : DotValue) (o : OpValue) → In o log → (r : List (List ℕ)) → o.body ≡ Insert Root r
          → (o.dot ≡ b → ⊥) → under (insertions (line_up log)) b o.dot ≡ false
      by_root b o i r e m =
          under_root (insertions (line_up log)) F (record { dot = o.dot; deps = o.deps; slot = Root; run = r })
          (op_insertion o i Root r e) b m refl

      itself : (o : OpValue) → In o log → (s : Slot) (r : List (List ℕ)) → o.body ≡ Insert s r
          → under (insertions (line_up log)) o.dot o.dot ≡ true
      itself o i s r e =
          under_itself (insertions (line_up log)) F (record { dot = o.dot; deps = o.deps; slot = s; run = r })
          (op_insertion o i s r e)

      stays_born : (m : AtomIdValue) → NeverRenamed family log m → Last w (premises family c v) log m
          → at log m ≡ birth family m
      stays_born m h (never n' e) = e
      stays_born m h (by g i r e all) = absurd (not_renamed log l m h g i r)

      subtree_at : (b : OpValue) (slot : Slot) (run : List (List ℕ)) (m : AtomIdValue) → In b log
          → b.body ≡ Insert slot run → IsMiddle b m → NeverRenamed family log m → (r : DocRow) → In r (doc_of log)
          → is_under (doc_of log) m (row_id r) ≡ under (insertions (line_up log)) b.dot (row_id r).dot
      subtree_at b slot run m i e middle never_ r j =
          let k = op_in family c log l b i in
          let f = full_of family c b k slot run e in
          let x = middle_row_of family c b slot run k e in
          let named = middle_named family c b slot run m e middle x.middle in
          let is_born : born b m ≡ true =
          born_true b m
          (record {
            slot = slot;
            run = run;
            is = e;
            atom = x.middle.atom;
            among = x.middle.among;
            named =
                sym named;
          }) in
          let place : at log m ≡ Some x.path =
          stays_born m never_ (last_in w (premises family c v) log l m (b, i, is_born))
          ∙ subst (λ (z : AtomIdValue). birth family z ≡ Some x.path) (sym named) x.born in
          let top =
          middle_named family c b slot run m e middle
          (mid family c v b slot run e f (λ (x : DotValue). under (insertions (line_up log)) b.dot x) log
          (itself b i slot run e) (by_slot b.dot) (by_root b.dot)) in
          let s = standing (doc_of log) m x.path place in
          let sub = subtree family c v b slot run e f (λ (x : DotValue). under (insertions (line_up log)) b.dot x) log
          (itself b i slot run e) (by_slot b.dot) (by_root b.dot) log l (λ y q. q) i
          (λ g q u. not_renamed log l m never_ g q (subst (λ (z : AtomIdValue). renames w g z ≡ true) (sym top) u))
          x.path (subst (λ (z : AtomIdValue). at log z ≡ Some x.path) top place) r j in
          ap (λ (z : AtomIdValue). is_under (doc_of log) z (row_id r)) (sym s.named)
          ∙ (under_is (doc_of log) s.row r (doc family c log l).apart s.inside j
          ∙ (ap (λ (z : Pairs). begins z r.path) s.stands ∙ sub))

    pub subtrees_meet : SubtreesMeet family
    subtrees_meet log l b slot run m i e middle h r j = subtree_at log l b slot run m i e middle h r j
