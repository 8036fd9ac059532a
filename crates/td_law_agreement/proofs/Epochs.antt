-- Epochs of all operations of a family; so a part of them has the order of the whole.
use Rattle.std.proofs.Common.{◌≡◌, ℕ, List, Some, sym, ap, ◌∙◌, subst, inl, inr, ⊎_elim}
use Rattle.std.specs.Prelude.{IsTrue}
use Rattle.td_base.specs.Value.{DotValue, AtomIdValue}
use Rattle.td_base.specs.Lists.{In}
use Rattle.td_clock.specs.Vector.{vector_has}
use Rattle.td_path.specs.Infix.{Pairs}
use Rattle.td_path.specs.declared.slot.Slot.{Slot}
use Rattle.td_op.specs.Op.{OpValue}
use Rattle.td_op.specs.Past.{in_past}
use Rattle.td_machine.specs.History.{Family, IsConsistent, IsOpOf, machine_at}
use Rattle.td_op.specs.declared.insertion.Insertion.{Insertion}
use Rattle.td_order.specs.Place.{precedes}
use Rattle.td_order.specs.Causal.{HasEpochs}
use Rattle.td_order.proofs.OrderOfPart.{a_part_in_order}
use Rattle.td_law_logs.proofs.WellRooted.{insertion_parts, IsInsertBy}
use Rattle.td_law_logs.proofs.WellRooted.{part_rooted, moment_part}
use Rattle.td_law_logs.specs.AllOps.{all_ops}
use Rattle.td_law_logs.proofs.AllOps.{all_of_family, all_part}
use Rattle.td_law_agreement.specs.Parts.{PartsKeepOrder, StableOrder}
use Rattle.td_law_agreement.proofs.Words.{Words}
use Rattle.td_law_logs.specs.Logs.{base_from, base, origin}
use Rattle.td_law_logs.specs.Places.{written_by}
use Rattle.td_law_commitment.specs.Voted.{IsVoted}
use Rattle.td_law_agreement.proofs.World.{words}
use Rattle.td_law_commitment.specs.Promises.{OneDecision}
use Rattle.td_law_agreement.proofs.Agree.{epochs}
use Rattle.td_law_logs.proofs.Bases.{in_base, past_of_base}
use Rattle.td_law_agreement.proofs.FamilyRecord.{premises}
use Rattle.td_law_logs.proofs.Commits.{edit_log}
use Rattle.td_law_agreement.proofs.SlotsRecord.{both_from, slots}

module _ (family : Family) (c : IsConsistent family) where
  module _ (v : IsVoted family) (decision : OneDecision family) where
    abbrev w : Words OpValue AtomIdValue Pairs
    w = words family

    -- slots have epochs
    pub has_epochs : (ops : List OpValue) → ((x : OpValue) → In x ops → IsOpOf family x) → HasEpochs ops
    has_epochs ops op_of d a e i j k sd se before =
        let pd = insertion_parts i.op d i.is in
        let pa = insertion_parts j.op a j.is in
        let pe = insertion_parts k.op e k.is in
        let kd = op_of i.op i.inside in
        let ka = op_of j.op j.inside in
        let ke = op_of k.op k.inside in
        let la = edit_log family c j.op ka (ap (origin j.op.dot) pa.body) in
        let le = edit_log family c k.op ke (ap (origin k.op.dot) pe.body) in
        let inside : In i.op (base family j.op) =
        edit_past j.op (ap (origin j.op.dot) pa.body) i.op ka kd (past_op a j.op pa d i.op pd before) in
        let slot_d = ap written_by pd.body in
        let slot_a : written_by j.op.body ≡ Some d.slot = ap written_by pa.body
        ∙ ap (λ (z : Slot). Some z) (sym sd) in
        let slot_e : written_by k.op.body ≡ Some d.slot = ap written_by pe.body
        ∙ ap (λ (z : Slot). Some z) (se ∙ sym sd) in
        ⊎_elim
        (λ (z : In i.op (base family k.op)). inl (op_past d i.op pd e k.op pe (past_of_base family c k.op i.op ke z)))
        (λ (z : In k.op (base family j.op)). inr (op_past e k.op pe a j.op pa (past_of_base family c j.op k.op ka z)))
        (epochs w (premises family c v) (slots family c v decision) i.op j.op k.op la le inside
        (both_from i.op j.op d.slot slot_d slot_a) (both_from i.op k.op d.slot slot_d slot_e))
      where
        past_op : (a : Insertion) (x : OpValue) → IsInsertBy a x → (d : Insertion) (y : OpValue) → IsInsertBy d y
            → IsTrue (precedes d a) → IsTrue (in_past y x)
        past_op a x p d y q h = subst (λ (z : DotValue). IsTrue (vector_has x.deps z)) q.dot
            (subst (λ (z : List ℕ). IsTrue (vector_has z d.dot)) p.deps h)

        op_past : (d : Insertion) (y : OpValue) → IsInsertBy d y → (a : Insertion) (x : OpValue) → IsInsertBy a x
            → IsTrue (in_past y x) → IsTrue (precedes d a)
        op_past d y q a x p h = subst (λ (z : DotValue). IsTrue (vector_has a.deps z)) (sym q.dot)
            (subst (λ (z : List ℕ). IsTrue (vector_has z y.dot)) (sym p.deps) h)

        edit_past : (x : OpValue) → origin x.dot x.body ≡ x.dot → (y : OpValue) → IsOpOf family x → IsOpOf family y
            → IsTrue (in_past y x) → In y (base family x)
        edit_past x e y kx ky h = subst (λ (z : DotValue). In y (base_from family z)) (sym e)
            (in_base family c x y kx ky h)

    -- order of a part
    pub parts_in_order : PartsKeepOrder family
    parts_in_order part ops p a up =
        a_part_in_order ops part (part_rooted family c ops a) (has_epochs ops a.inside)
        (record { apart = p.apart; within = up; closed = λ o q i j past. p.pasts o q i (a.inside q j) past })

    pub stable_order : StableOrder family
    stable_order t =
        parts_in_order (machine_at family t).log (all_ops family) (moment_part family c t) (all_part family c)
        (λ x i. ((all_of_family family c).is x).1 ((moment_part family c t).inside x i))
