-- The document of a machine obeys the rules of a document, and its rows are of operations that the machine has.
use Rattle.std.proofs.Common.{◌≡◌, ◌≢◌, ◌≤◌, ◌+◌, ◌||◌, ℕ, List, [], map, Bool, true, false, not}
use Rattle.std.proofs.Common.{Option, Some, None, refl, sym, ap, subst, ⊎_elim, arith}
use Rattle.std.proofs.lemmas.Bool.{le-leb, leb-true}
use Rattle.std.specs.Prelude.{IsTrue, if◌then◌else◌}
use Rattle.std.specs.Option.{option_map, is_some}
use Rattle.td_base.specs.Value.{DotValue, AtomIdValue}
use Rattle.td_base.specs.Lists.{In}
use Rattle.td_base.proofs.Lists.{map_In, In-map, In-filter, all_of}
use Rattle.td_base.proofs.RunIds.{run_atom_dot}
use Rattle.td_clock.specs.Vector.{vector_get, vector_has, vector_bump}
use Rattle.td_clock.proofs.VectorLemmas.{covered_dots}
use Rattle.td_path.specs.declared.slot.Slot.{Slot}
use Rattle.td_path.specs.declared.slot.Slot.TheVariants.{Root, At}
use Rattle.td_path.specs.declared.slot_path.SlotPath.TheVariants.{Below}
use Rattle.td_op.specs.declared.body.Body.{Body}
use Rattle.td_op.specs.declared.body.Body.TheVariants.{Insert, Delete, Propose, Commit, Abort}
use Rattle.td_op.specs.declared.message.Message.{Message}
use Rattle.td_op.specs.Op.{OpValue}
use Rattle.td_doc.specs.Document.{DocRow, row_id, IsDocument, find_row, has_id, is_live}
use Rattle.td_doc.specs.Array.{named}
use Rattle.td_base.specs.RunAtoms.{NamedAtom, run_atoms}
use Rattle.td_doc.specs.Insertion.{insert_run, put_array_below}
use Rattle.td_doc.specs.Deletion.{delete, mark_deleted, add_dot}
use Rattle.td_doc.specs.Flatten.{flatten}
use Rattle.td_doc.specs.Stretches.{kept_rows, is_in}
use Rattle.td_doc.specs.Slots.{slot_path}
use Rattle.td_doc.specs.Answers.{IsFresh}
use Rattle.td_doc.proofs.Rules.{run_keeps, run_adds}
use Rattle.td_doc.proofs.Deleted.{delete_document}
use Rattle.td_doc.proofs.Flattened.{flatten_document, flatten_names}
use Rattle.td_machine.specs.Log.{proposed_slot}
use Rattle.td_machine.specs.Counts.{IsNext}
use Rattle.td_machine.specs.Machine.{Machine}
use Rattle.td_machine.specs.Making.{effect, flatten_found}
use Rattle.td_machine.specs.Replay.{doc_of}
use Rattle.td_machine.specs.Parts.{IsBuilt}
use Rattle.td_machine.proofs.Parts.{by_operations}
use Rattle.td_machine.proofs.Turns.{comes_next}
use Rattle.td_machine.proofs.Vectors.{bump_same, bump_covers}

-- ---- the identities of rows after an operation

module _ (P : AtomIdValue → Type 0) where
  abbrev pub EachRow : List DocRow → Type 0
  EachRow rows = (r : DocRow) → In r rows → P (row_id r)

  after_delete : (x : AtomIdValue) (by_ : DotValue) (rows : List DocRow) → EachRow rows → EachRow (delete x by_ rows)
  after_delete x by_ rows h r i =
      let q = map_In (mark_deleted x by_) r rows i in
      subst (λ (z : DocRow). P (row_id z)) (sym q.2) (subst P (sym (same_id (has_id x q.0) q.0)) (h q.0 q.1))
    where
      same_id : (b : Bool) (r : DocRow)
          → row_id (if b then record { path = r.path; atom = r.atom; deletes = add_dot by_ r.deletes } else r)
          ≡ row_id r
      same_id true r = refl
      same_id false r = refl

  after_flatten : (o : Option Slot) (rows : List DocRow) → IsDocument rows → EachRow rows
      → EachRow (flatten_found o rows)
  after_flatten None rows d h = h
  after_flatten (Some slot) rows d h = λ r i.
      let here : In (named r) (map named (kept_rows rows slot)) =
      subst (In (named r)) (flatten_names rows slot d.ascending) (In-map named r (flatten slot rows) i) in
      let q = map_In named (named r) (kept_rows rows slot) here in
      subst (λ (a : NamedAtom). P a.id) (sym q.2)
      (h q.0 (In-filter (λ (z : DocRow). is_live z || not (is_in (slot_path rows slot) z)) q.0 rows q.1).0)

  pub after_effect : (log : List OpValue) (dot : DotValue) (body : Body) (rows : List DocRow) → IsDocument rows
      → EachRow rows
      → ((slot : Slot) (run : List (List ℕ)) → body ≡ Insert slot run → (a : NamedAtom) → In a (run_atoms dot run)
      → P a.id)
      → EachRow (effect log dot body rows)
  after_effect log dot (Insert slot run) rows d h new = λ r i.
      ⊎_elim (λ (j : In r rows). h r j) (λ (j : In (named r) (run_atoms dot run)). new slot run refl (named r) j)
      (run_adds slot dot run rows r i)
  after_effect log dot (Delete target) rows d h new = after_delete target dot rows h
  after_effect log dot (Propose slot) rows d h new = h
  after_effect log dot (Commit p) rows d h new = after_flatten (proposed_slot p log) rows d h
  after_effect log dot (Abort p) rows d h new = h

-- ---- the rules of a document after an operation

insert_document : (slot : Slot) (dot : DotValue) (run : List (List ℕ)) (rows : List DocRow) → IsDocument rows
    → IsFresh rows dot
    → IsDocument (insert_run slot dot run rows)
insert_document Root dot run rows d fresh = run_keeps rows Root dot run d fresh refl
insert_document (At x bit) dot run rows d fresh = at (find_row x rows) refl
  where
    at : (o : Option DocRow) → find_row x rows ≡ o → IsDocument (insert_run (At x bit) dot run rows)
    at (Some r) e = run_keeps rows (At x bit) dot run d fresh (ap (λ (o : Option DocRow). is_some o) e)
    at None e =
        subst
        (λ (o : Option DocRow).
        IsDocument (put_array_below (option_map (λ (r : DocRow). Below r.path bit) o) (run_atoms dot run) rows))
        (sym e) d

found_document : (o : Option Slot) (rows : List DocRow) → IsDocument rows → IsDocument (flatten_found o rows)
found_document None rows d = d
found_document (Some slot) rows d = flatten_document rows slot d

pub effect_document : (log : List OpValue) (dot : DotValue) (body : Body) (rows : List DocRow) → IsDocument rows
    → IsFresh rows dot
    → IsDocument (effect log dot body rows)
effect_document log dot (Insert slot run) rows d fresh = insert_document slot dot run rows d fresh
effect_document log dot (Delete target) rows d fresh = delete_document target dot rows d
effect_document log dot (Propose slot) rows d fresh = d
effect_document log dot (Commit p) rows d fresh = found_document (proposed_slot p log) rows d
effect_document log dot (Abort p) rows d fresh = d

-- ---- the machine

abbrev pub Had : List ℕ → AtomIdValue → Type 0
Had have z = IsTrue (vector_has have z.dot)

abbrev pub Obeys : List ℕ → List DocRow → Type 0
Obeys have rows = IsDocument rows × EachRow (Had have) rows

pub no_rows : IsDocument []
no_rows =
    record {
      ascending = tt;
      apart = tt;
      paths = λ r i. absurd i;
      rooted = λ r front next rest i e some. absurd i;
      deletes = λ r i. absurd i;
    }

-- no row is of an insert with the dot of an operation that is next
pub fresh_next : (x : OpValue) (m : Machine) → IsNext m.have x → Obeys m.have m.doc → IsFresh m.doc x.dot
fresh_next x m next o =
    all_of (λ (r : DocRow). (row_id r).dot ≢ x.dot) m.doc
    (λ r i e.
    let number : x.dot.seq ≡ vector_get m.have x.dot.site + 1 = next.next in
    let known : x.dot.seq ≤ vector_get m.have x.dot.site =
    leb-true x.dot.seq (vector_get m.have x.dot.site)
    (subst (λ (d : DotValue). IsTrue (vector_has m.have d)) e (o.1 r i)) in
    omega (arith, known, number))

next_obeys : (x : OpValue) (m : Machine) → IsNext m.have x → Obeys m.have m.doc
    → Obeys (vector_bump m.have x.dot.site) (effect m.log x.dot x.body m.doc)
next_obeys x m next o =
    let have : List ℕ = vector_bump m.have x.dot.site in
    let number : x.dot.seq ≡ vector_get m.have x.dot.site + 1 = next.next in
    let now : vector_get have x.dot.site ≡ vector_get m.have x.dot.site + 1 =
    bump_same m.have x.dot.site next.some next.within in
    let had : IsTrue (vector_has have x.dot) =
    le-leb x.dot.seq (vector_get have x.dot.site) (omega (arith, number, now)) in (
      effect_document m.log x.dot x.body m.doc o.0 (fresh_next x m next o),
      after_effect (Had have) m.log x.dot x.body m.doc o.0
          (λ r i.
          covered_dots have m.have (bump_covers m.have x.dot.site next.some next.within) (row_id r).dot (o.1 r i))
          (λ slot run e a i.
          subst (λ (d : DotValue). IsTrue (vector_has have d)) (sym (run_atom_dot x.dot 0 run a i)) had),
    )

pub documents : {Came : Message → Type 0} {site size : ℕ} (m : Machine) → IsBuilt Came site size m → Obeys m.have m.doc
documents =
    by_operations (λ s n doc have log. Obeys have doc) (λ some within. (no_rows, (λ r i. absurd i)))
    (λ m b x done h. next_obeys x m (comes_next m b x done) h)

-- it is the document that the operations of the log leave
pub logged : {Came : Message → Type 0} {site size : ℕ} (m : Machine) → IsBuilt Came site size m → m.doc ≡ doc_of m.log
logged =
    by_operations (λ s n doc have log. doc ≡ doc_of log) (λ some within. refl)
    (λ m b x done h. ap (effect m.log x.dot x.body) h)
