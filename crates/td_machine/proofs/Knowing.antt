-- The vector of a machine has all that was done to the rows of its document: their identities and their deletes.
use Rattle.std.proofs.Common.{◌≡◌, ◌+◌, ℕ, List, Bool, true, false, not, map, length}
use Rattle.std.proofs.Common.{if◌then◌else◌, Option, Some, None, sym, subst, ⊎_elim, arith}
use Rattle.std.proofs.lemmas.Bool.{le-leb, and_from}
use Rattle.std.specs.Prelude.{IsTrue}
use Rattle.std.specs.List.{list_all}
use Rattle.td_base.specs.Value.{DotValue, AtomIdValue}
use Rattle.td_base.specs.Lists.{In}
use Rattle.td_base.proofs.Lists.{map_In, In-filter}
use Rattle.td_base.proofs.Searches.{all_pass}
use Rattle.td_clock.specs.Vector.{vector_get, vector_has, vector_bump}
use Rattle.td_clock.proofs.VectorLemmas.{covered_dots}
use Rattle.td_path.specs.declared.slot.Slot.{Slot}
use Rattle.td_path.specs.declared.slot.Slot.TheVariants.{Root}
use Rattle.td_path.specs.declared.slot_path.SlotPath.{SlotPath}
use Rattle.td_path.specs.declared.slot_path.SlotPath.TheVariants.{Root as Whole}
use Rattle.td_path.specs.SlotPaths.{slot_contains}
use Rattle.td_op.specs.declared.body.Body.{Body}
use Rattle.td_op.specs.declared.body.Body.TheVariants.{Insert, Delete, Propose, Commit, Abort}
use Rattle.td_op.specs.declared.message.Message.{Message}
use Rattle.td_op.specs.Op.{OpValue}
use Rattle.td_doc.specs.Document.{DocRow, row_id, has_id, live_rows}
use Rattle.td_doc.specs.Array.{named, array}
use Rattle.td_base.specs.RunAtoms.{NamedAtom, run_atoms}
use Rattle.td_doc.specs.Insertion.{put_rows, put_array_below}
use Rattle.td_doc.specs.Deletion.{add_dot, mark_deleted, delete}
use Rattle.td_doc.specs.Flatten.{rows_beside, flatten_below}
use Rattle.td_doc.specs.Slots.{slot_path, rows_below, rows_in_slot, is_known_row, is_known}
use Rattle.td_doc.proofs.ArrayRows.{array_bare}
use Rattle.td_doc.proofs.Deleted.{in_add}
use Rattle.td_doc.proofs.PutRows.{in_puts}
use Rattle.td_machine.specs.Log.{proposed_slot}
use Rattle.td_machine.specs.Counts.{IsNext}
use Rattle.td_machine.specs.Machine.{Machine}
use Rattle.td_machine.specs.Making.{effect, flatten_found}
use Rattle.td_machine.specs.Parts.{IsBuilt}
use Rattle.td_machine.proofs.Parts.{by_operations}
use Rattle.td_machine.proofs.Turns.{comes_next}
use Rattle.td_machine.proofs.Vectors.{bump_same, bump_covers}
use Rattle.td_machine.proofs.Documents.{documents}

-- ---- the deletes that named the rows, after an operation

module _ (P : DotValue → Type 0) where
  abbrev EachDelete : List DocRow → Type 0
  EachDelete rows = (r : DocRow) → In r rows → (d : DotValue) → In d r.deletes → P d

  -- the rows of an array have none
  after_puts : (slot : SlotPath) (atoms : List NamedAtom) (rows : List DocRow) → EachDelete rows
      → EachDelete (put_rows (array slot atoms) rows)
  after_puts slot atoms rows h r i d j =
      ⊎_elim
      (λ (k : In r (array slot atoms)).
      absurd (subst (λ (dots : List DotValue). In d dots) (array_bare (length atoms) slot atoms r k) j))
      (λ (k : In r rows). h r k d j) (in_puts (array slot atoms) rows r i)

  after_insert : (slot : Option SlotPath) (atoms : List NamedAtom) (rows : List DocRow) → EachDelete rows
      → EachDelete (put_array_below slot atoms rows)
  after_insert None atoms rows h = h
  after_insert (Some slot) atoms rows h = after_puts slot atoms rows h

  after_flatten_below : (slot : Option SlotPath) (rows : List DocRow) → EachDelete rows
      → EachDelete (flatten_below slot rows)
  after_flatten_below None rows h = h
  after_flatten_below (Some slot) rows h =
      after_puts slot (map named (live_rows (rows_below rows (Some slot)))) (rows_beside slot rows)
      (λ r i. h r (In-filter (λ (z : DocRow). not (slot_contains slot z.path)) r rows i).0)

  after_found : (slot : Option Slot) (rows : List DocRow) → EachDelete rows → EachDelete (flatten_found slot rows)
  after_found None rows h = h
  after_found (Some slot) rows h = after_flatten_below (slot_path rows slot) rows h

  after_mark : (x : AtomIdValue) (by_ : DotValue) (rows : List DocRow) → P by_ → EachDelete rows
      → EachDelete (delete x by_ rows)
  after_mark x by_ rows p h r i d j =
      let q = map_In (mark_deleted x by_) r rows i in
      at (has_id x q.0) q.0 (h q.0 q.1 d) (subst (λ (z : DocRow). In d z.deletes) q.2 j)
    where
      at : (b : Bool) (z : DocRow) → (In d z.deletes → P d)
          → In d (if b then record { path = z.path; atom = z.atom; deletes = add_dot by_ z.deletes } else z).deletes
          → P d
      at true z old k =
          ⊎_elim (λ (e : d ≡ by_). subst P (sym e) p) (λ (l : In d z.deletes). old l) (in_add by_ d z.deletes k)
      at false z old k = old k

  deletes_after : (log : List OpValue) (dot : DotValue) (body : Body) (rows : List DocRow) → P dot → EachDelete rows
      → EachDelete (effect log dot body rows)
  deletes_after log dot (Insert slot run) rows p h = after_insert (slot_path rows slot) (run_atoms dot run) rows h
  deletes_after log dot (Delete x) rows p h = after_mark x dot rows p h
  deletes_after log dot (Propose slot) rows p h = h
  deletes_after log dot (Commit q) rows p h = after_found (proposed_slot q log) rows h
  deletes_after log dot (Abort q) rows p h = h

-- ---- the machine

abbrev HadDot : List ℕ → DotValue → Type 0
HadDot have d = IsTrue (vector_has have d)

deletes_had : {Came : Message → Type 0} {site size : ℕ} (m : Machine) → IsBuilt Came site size m
    → EachDelete (HadDot m.have) m.doc
deletes_had =
    by_operations (λ s n doc have log. EachDelete (HadDot have) doc) (λ some within r i. absurd i)
    (λ m b x done h.
    let next : IsNext m.have x = comes_next m b x done in
    let have : List ℕ = vector_bump m.have x.dot.site in
    let number : x.dot.seq ≡ vector_get m.have x.dot.site + 1 = next.next in
    let now : vector_get have x.dot.site ≡ vector_get m.have x.dot.site + 1 =
    bump_same m.have x.dot.site next.some next.within in
    deletes_after (HadDot have) m.log x.dot x.body m.doc
    (le-leb x.dot.seq (vector_get have x.dot.site) (omega (arith, number, now)))
    (λ r i d j. covered_dots have m.have (bump_covers m.have x.dot.site next.some next.within) d (h r i d j)))

pub rows_known : {Came : Message → Type 0} {site size : ℕ} (m : Machine) → IsBuilt Came site size m
    → is_known m.doc Root m.have ≡ true
rows_known m b =
    all_pass (is_known_row m.have) (rows_in_slot m.doc Root)
    (λ r i.
    let inside : In r m.doc = (In-filter (λ (z : DocRow). slot_contains Whole z.path) r m.doc i).0 in
    and_from (vector_has m.have (row_id r).dot) (list_all (vector_has m.have) r.deletes)
    ((documents m b).1 r inside) (all_pass (vector_has m.have) r.deletes (λ d j. deletes_had m b r inside d j)))
