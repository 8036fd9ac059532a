-- What the operations of a moment show: its live atoms with their identities, so that these are of the set of
-- operations.
use Rattle.std.proofs.Common.{◌≡◌, List, [], ◌∷◌, Bool, not, map, filter, refl, sym, ap, ◌∙◌, true≢false}
use Rattle.std.specs.Prelude.{◌↔◌, Option, Some, None, find, slice_get, unwrap_or, option_and_then}
use Rattle.td_base.specs.Equality.{same_dot}
use Rattle.td_base.specs.Lists.{In}
use Rattle.td_base.specs.Value.{AtomIdValue}
use Rattle.td_base.proofs.Elements.{both_tests, same_head, same_tail}
use Rattle.td_base.proofs.Equals.{same_dot_true}
use Rattle.td_base.proofs.Lists.{any_found, any_from}
use Rattle.td_base.proofs.Searches.{find_In, find_none}
use Rattle.td_op.specs.declared.insertion.Insertion.{Insertion}
use Rattle.td_op.specs.Insertion.{insertions, insertion_of}
use Rattle.td_op.specs.Op.{OpValue}
use Rattle.td_op.proofs.InsertionLemmas.{from_op, In-insertions, insertions-In}
use Rattle.td_doc.specs.Array.{named}
use Rattle.td_doc.specs.Document.{DocRow, row_id, live_rows, live_atoms}
use Rattle.td_order.specs.LineUp.{DotsDiffer}
use Rattle.td_order.specs.Order.{order}
use Rattle.td_order.specs.Show.{atom_of, deletes, is_deleted, shown_atoms, shown_ids}
use Rattle.td_order.proofs.SetOfOps.{order_of_set, one_op}
use Rattle.td_machine.specs.History.{Family, Moment, IsConsistent, machine_at}
use Rattle.td_law_logs.proofs.Fitting.{moment_doc}
use Rattle.td_law_logs.proofs.Moments.{moment_log}
use Rattle.td_law_logs.proofs.WellRooted.{moment_part}
use Rattle.td_law_commitment.proofs.Decided.{one_decision}
use Rattle.td_law_commitment.proofs.Voted.{voted}
use Rattle.td_law_convergence.proofs.Texts.{live_ids, atoms_shown}
use Rattle.td_marks.proofs.Sets.{text_of_named, text_of_set}
use Rattle.td_law_marks.specs.Promises.{MarksConverge}

-- the same operations, in whatever order
abbrev SameLog : List OpValue → List OpValue → Type 0
SameLog log other = (x : OpValue) → In x log ↔ In x other

-- rows with the same identities and the same atoms
same_named : (xs ys : List DocRow) → map row_id xs ≡ map row_id ys
    → map (λ (r : DocRow). r.atom) xs ≡ map (λ (r : DocRow). r.atom) ys → map named xs ≡ map named ys
same_named [] [] e f = refl
same_named [] (y ∷ ys) e f = absurd cc
same_named (x ∷ xs) [] e f = absurd cc
same_named (x ∷ xs) (y ∷ ys) e f =
    let id = same_head (row_id x) (map row_id xs) (row_id y) (map row_id ys) e in
    let ids = same_tail (row_id x) (map row_id xs) (row_id y) (map row_id ys) e in
    let atom = same_head x.atom (map (λ (r : DocRow). r.atom) xs) y.atom (map (λ (r : DocRow). r.atom) ys) f in
    let atoms = same_tail x.atom (map (λ (r : DocRow). r.atom) xs) y.atom (map (λ (r : DocRow). r.atom) ys) f in
    let rest = same_named xs ys ids atoms in
    λ i. (record { id = id i; atom = atom i }) ∷ rest i

abbrev deletes_it : AtomIdValue → OpValue → Bool
deletes_it x o = deletes x o.body

deleted_of_set : (log other : List OpValue) → SameLog log other → (x : AtomIdValue)
    → is_deleted log x ≡ is_deleted other x
deleted_of_set log other h x =
    both_tests (is_deleted log x) (is_deleted other x)
    (λ e. let f = any_found (deletes_it x) log e in any_from (deletes_it x) other f.0 ((h f.0).0 f.1) f.2)
    (λ e. let f = any_found (deletes_it x) other e in any_from (deletes_it x) log f.0 ((h f.0).1 f.1) f.2)

abbrev with_dot : AtomIdValue → Insertion → Bool
with_dot x a = same_dot a.dot x.dot

module _ (xs ys : List OpValue) (e : DotsDiffer ys) (h : SameLog xs ys) where
  same_find_at : (x : AtomIdValue) (m n : Option Insertion) → find (with_dot x) (insertions xs) ≡ m
      → find (with_dot x) (insertions ys) ≡ n → m ≡ n
  same_find_at x None None p q = refl
  same_find_at x (Some a) None p q =
      let i = find_In (with_dot x) (insertions xs) a p in
      let o = In-insertions xs a i.0 in
      let there = insertions-In ys o.0 a ((h o.0).0 o.1) o.2 in
      absurd (true≢false (sym i.1 ∙ find_none (with_dot x) (insertions ys) a q there))
  same_find_at x None (Some a) p q =
      let i = find_In (with_dot x) (insertions ys) a q in
      let o = In-insertions ys a i.0 in
      let there = insertions-In xs o.0 a ((h o.0).1 o.1) o.2 in
      absurd (true≢false (sym i.1 ∙ find_none (with_dot x) (insertions xs) a p there))
  same_find_at x (Some a) (Some b) p q =
      let i = find_In (with_dot x) (insertions xs) a p in
      let j = find_In (with_dot x) (insertions ys) b q in
      let o = In-insertions xs a i.0 in
      let u = In-insertions ys b j.0 in
      let dots : o.0.dot ≡ u.0.dot =
      sym (from_op o.0 a o.2).dot
      ∙ (same_dot_true a.dot x.dot i.1 ∙ (sym (same_dot_true b.dot x.dot j.1) ∙ (from_op u.0 b u.2).dot)) in
      let one : o.0 ≡ u.0 = one_op ys e o.0 u.0 ((h o.0).0 o.1) u.1 dots in
      sym o.2 ∙ (ap insertion_of one ∙ u.2)

  same_atom : (x : AtomIdValue) → atom_of xs x ≡ atom_of ys x
  same_atom x =
      ap (λ (m : Option Insertion). unwrap_or (option_and_then (λ (a : Insertion). slice_get a.run x.offset) m) [])
      (same_find_at x (find (with_dot x) (insertions xs)) (find (with_dot x) (insertions ys)) refl refl)

module _ (family : Family) (c : IsConsistent family) where
  abbrev log : Moment family → List OpValue
  log t = (machine_at family t).log

  ids_at : (t : Moment family) → map row_id (live_rows (machine_at family t).doc) ≡ shown_ids (log t)
  ids_at t =
      ap (λ (rows : List DocRow). map row_id (live_rows rows)) (moment_doc family c t)
      ∙ live_ids family c (voted family c) (one_decision family c) (log t) (moment_log family c t)

  atoms_at : (t : Moment family) → live_atoms (machine_at family t).doc ≡ shown_atoms (log t)
  atoms_at t =
      ap live_atoms (moment_doc family c t)
      ∙ atoms_shown family c (voted family c) (one_decision family c) (log t) (moment_log family c t)

  same_ids : (t u : Moment family) → SameLog (log t) (log u) → shown_ids (log t) ≡ shown_ids (log u)
  same_ids t u h =
      ap (λ (test : AtomIdValue → Bool). filter test (order (log t)))
      (λ i x. not (deleted_of_set (log t) (log u) h x i))
      ∙ ap (filter (λ (x : AtomIdValue). not (is_deleted (log u) x)))
      (order_of_set (log t) (log u) (moment_part family c t).apart (moment_part family c u).apart h)

  same_lives : (t u : Moment family) → SameLog (log t) (log u)
      → map named (live_rows (machine_at family t).doc) ≡ map named (live_rows (machine_at family u).doc)
  same_lives t u h =
      same_named (live_rows (machine_at family t).doc) (live_rows (machine_at family u).doc)
      (ids_at t ∙ (same_ids t u h ∙ sym (ids_at u)))
      (atoms_at t
      ∙ ((λ i. map (λ (x : AtomIdValue). same_atom (log t) (log u) (moment_part family c u).apart h x i)
      (same_ids t u h i))
      ∙ sym (atoms_at u)))

  pub marks_converge : MarksConverge family
  marks_converge t u ops others same marks =
      text_of_set ops others marks (machine_at family t).doc
      ∙ text_of_named others (machine_at family t).doc (machine_at family u).doc (same_lives t u same)
