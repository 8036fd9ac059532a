-- The commits of a family, each with its proposal and its slot; and the rows of an insert right after it was made.
use Rattle.std.proofs.Common.{◌≡◌, ◌<◌, ℕ, List, ◌∷◌, length, true, Option, Some, refl, sym, ap, ◌∙◌, subst, inl, arith}
use Rattle.std.specs.Prelude.{IsTrue}
use Rattle.td_base.specs.Value.{DotValue, AtomIdValue}
use Rattle.td_base.specs.Lists.{In}
use Rattle.td_path.specs.SlotPaths.{slot_contains}
use Rattle.td_path.specs.declared.slot.Slot.{Slot}
use Rattle.td_path.specs.declared.slot_path.SlotPath.{SlotPath}
use Rattle.td_op.specs.declared.body.Body.{Body}
use Rattle.td_op.specs.declared.body.Body.TheVariants.{Insert, Propose, Commit}
use Rattle.td_op.specs.Op.{OpValue}
use Rattle.td_op.specs.Past.{in_past}
use Rattle.td_doc.specs.Document.{DocRow, row_id}
use Rattle.td_doc.specs.Array.{array}
use Rattle.td_base.specs.RunAtoms.{run_atoms}
use Rattle.td_doc.specs.Insertion.{put_rows, put_array_below}
use Rattle.td_doc.specs.Slots.{slot_path, overlaps}
use Rattle.td_doc.proofs.PutRows.{puts_in}
use Rattle.td_doc.proofs.Rules.{found}
use Rattle.td_doc.proofs.SlotRows.{contained_in}
use Rattle.td_machine.specs.Making.{effect}
use Rattle.td_machine.specs.Touches.{IsRowOf}
use Rattle.td_machine.specs.History.{Family, IsConsistent, IsOpOf}
use Rattle.td_machine.proofs.Family.{full_of}
use Rattle.td_machine.specs.Replay.{doc_of}
use Rattle.td_law_logs.specs.Logs.{IsLogOf, base_from, base, origin, slot_of, IsCommit}
use Rattle.td_law_logs.specs.Places.{overlap_of, Overlap}
use Rattle.td_law_logs.proofs.Words.{atom_at, atom_of_slot, focus_by, focus}
use Rattle.td_law_logs.proofs.LogRows.{HasAtom, run_has}
use Rattle.td_law_logs.proofs.Bases.{home_log, proposal_of}
use Rattle.td_law_logs.proofs.Steps.{commit_body, commit_slot_is, insert_slot}
use Rattle.td_law_logs.proofs.DocSteps.{array_found}
use Rattle.std.proofs.lemmas.Option.{same_Some}

-- a commit names its slot's atom
pub focus_commit : (family : Family) (c : OpValue) (slot : Slot) → slot_of family c ≡ Some slot
    → focus family c ≡ atom_at slot
focus_commit family c slot e =
    let b = commit_body family c slot e in
    ap (focus_by (slot_of family c)) b.1 ∙ ap atom_of_slot e

pub overlap_from : (family : Family) (log : List OpValue) (e c : OpValue) (s t : Slot) → slot_of family e ≡ Some s
    → slot_of family c ≡ Some t → overlaps (doc_of log) s t ≡ true → Overlap family log e c
overlap_from family log e c s t f g h =
    subst (λ (z : Option Slot). overlap_of (doc_of log) z (slot_of family c)) (sym f)
    (subst (λ (z : Option Slot). overlap_of (doc_of log) (Some s) z) (sym g) h)

pub overlap_to : (family : Family) (log : List OpValue) (e c : OpValue) (s t : Slot) → slot_of family e ≡ Some s
    → slot_of family c ≡ Some t → Overlap family log e c → overlaps (doc_of log) s t ≡ true
overlap_to family log e c s t f g h =
    subst (λ (z : Option Slot). overlap_of (doc_of log) (Some s) z) g
    (subst (λ (z : Option Slot). overlap_of (doc_of log) z (slot_of family c)) f h)

pub edit_base : (family : Family) (o : OpValue) → origin o.dot o.body ≡ o.dot → base_from family o.dot ≡ base family o
edit_base family o e = ap (base_from family) (sym e)

pub own_row : (e : OpValue) (b : Body) (r : DocRow) → e.body ≡ b → IsRowOf e b r → IsRowOf e e.body r
own_row e b r k h = subst (λ (z : Body). IsRowOf e z r) (sym k) h

module _ (family : Family) (c : IsConsistent family) where
  -- ---- commits

  -- the commit with its proposal
  pub commit_of : (d : OpValue) (slot : Slot) → IsOpOf family d → slot_of family d ≡ Some slot
      → (q : OpValue) × IsCommit family d q slot × IsTrue (in_past q d)
  commit_of d slot k e =
      let b = commit_body family d slot e in
      let q = proposal_of family c d b.0 k b.1 in
      let same : q.slot ≡ slot =
      same_Some q.slot slot (sym (commit_slot_is family c d b.0 q.op q.slot b.1 q.of q.dot q.asks) ∙ e) in (
        q.op,
        record {
          inside = k;
          proposed = q.of;
          asks = q.asks ∙ ap (λ (z : Slot). Propose z) same;
          is =
              b.1 ∙ ap (λ (z : DotValue). Commit z) (sym q.dot);
        },
        q.past,
      )

  pub commit_slot_of : (d q : OpValue) (slot : Slot) → IsCommit family d q slot → slot_of family d ≡ Some slot
  commit_slot_of d q slot k = commit_slot_is family c d q.dot q slot k.is k.proposed refl k.asks

  -- ---- rows of an insert, right after it was made

  pub record InsertRow (e : OpValue) (slot : Slot) : Type 0 where
    pub row : DocRow
    pub inside : In row (doc_of (e ∷ base family e))
    pub own : (row_id row).dot ≡ e.dot
    pub sp : SlotPath
    pub at_slot : slot_path (doc_of (base family e)) slot ≡ Some sp
    pub contained : slot_contains sp row.path ≡ true

  pub edit_log : (e : OpValue) → IsOpOf family e → origin e.dot e.body ≡ e.dot → IsLogOf family (e ∷ base family e)
  edit_log e k o = subst (λ (z : List OpValue). IsLogOf family (e ∷ z)) (edit_base family e o) (home_log family c e k)

  pub insert_row : (e : OpValue) (slot : Slot) (run : List (List ℕ)) → IsOpOf family e → e.body ≡ Insert slot run
      → InsertRow e slot
  insert_row e slot run k is =
      let l = edit_log e k (ap (origin e.dot) is) in
      let full : 0 < length run = full_of family c e k slot run is in
      let r = run_has e.dot 0 run 0 (omega arith) (omega (arith, full)) in
      let has : HasAtom e r.0.id =
      record { slot = slot; run = run; is = is; atom = r.0; among = r.1; named = refl } in
      let s = insert_slot family c e (base family e) r.0.id l has in
      let f = array_found s.0 (run_atoms e.dot run) r.0 r.1 in
      let g = found r.0.id f.0 (array s.0 (run_atoms e.dot run)) f.1 in
      let d : doc_of (e ∷ base family e) ≡ put_rows (array s.0 (run_atoms e.dot run)) (doc_of (base family e)) =
      ap (λ (b : Body). effect (base family e) e.dot b (doc_of (base family e))) is
      ∙ ap (λ (z : Option SlotPath). put_array_below z (run_atoms e.dot run) (doc_of (base family e))) s.1 in
      record {
        row = f.0;
        inside = subst (λ (rows : List DocRow). In f.0 rows) (sym d)
            (puts_in (array s.0 (run_atoms e.dot run)) (doc_of (base family e)) f.0 (inl g.0));
        own = ap (λ (z : AtomIdValue). z.dot) (g.1 ∙ r.2);
        sp = s.0;
        at_slot = s.1;
        contained = contained_in s.0 (run_atoms e.dot run) f.0 g.0;
      }
