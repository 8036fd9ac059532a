-- What the rows of a run leave, put as one leaf: brackets, whose rows are those of the insertion of the run.
use Rattle.std.proofs.Common.{◌≡◌, ◌≢◌, ◌/◌, ◌≤◌, ℕ, suc, List, [], ◌∷◌, ◌++◌, Some, false, map}
use Rattle.std.proofs.Common.{length, refl, sym, ap, ◌∙◌, subst, inl, ⊎_elim, arith}
use Rattle.std.specs.Prelude.{IsTrue}
use Rattle.std.proofs.lemmas.List.{append-nil}
use Rattle.td_base.specs.Value.{DotValue, AtomIdValue}
use Rattle.td_base.specs.Lists.{In, Successive}
use Rattle.td_base.specs.RunAtoms.{NamedAtom, run_atoms_from, run_atoms}
use Rattle.td_base.proofs.Lists.{In-back, In-map, all_in, all_of, map_successive}
use Rattle.td_base.proofs.RunIds.{run_atom_dot}
use Rattle.td_path.specs.declared.slot.Slot.{Slot}
use Rattle.td_doc.specs.Document.{DocRow, row_id, is_empty_list, IsDocument}
use Rattle.td_doc.specs.Slots.{slot_path}
use Rattle.td_doc.specs.Answers.{IsFresh, is_rooted}
use Rattle.td_doc.specs.Insertion.{insert_run}
use Rattle.td_doc.proofs.Rules.{run_keeps}
use Rattle.td_brackets.specs.Brackets.{Token, Leaf, Entry, Level, atom_of, numbers_of, slot_of, rows_of, IsBrackets}
use Rattle.td_brackets.specs.Laws.{Standing, AllAfter}
use Rattle.td_brackets.proofs.Once.{Apart}
use Rattle.td_brackets.proofs.Kept.{number_row, same_rows, IsNewWord, word_brackets}
use Rattle.td_brackets.proofs.Runs.{run_inserted}

-- the identities of a run differ

abbrev Differ : NamedAtom → NamedAtom → Type 0
Differ a b = a.id ≢ b.id

offset_from : (dot : DotValue) (k : ℕ) (run : List (List ℕ)) (a : NamedAtom) → In a (run_atoms_from dot k run)
    → k ≤ a.id.offset
offset_from dot k [] a i = absurd i
offset_from dot k (atom ∷ run) a i =
    ⊎_elim (λ (e : a ≡ record { id = record { dot = dot; offset = k }; atom = atom }). let same : a.id.offset
    ≡ k = ap (λ (b : NamedAtom). b.id.offset) e in omega arith)
    (λ (j : In a (run_atoms_from dot (suc k) run)). let more = offset_from dot (suc k) run a j in omega arith) i

run_differs : (dot : DotValue) (k : ℕ) (run : List (List ℕ)) → Successive Differ (run_atoms_from dot k run)
run_differs dot k [] = tt
run_differs dot k (atom ∷ run) = (
  all_of (Differ (record { id = record { dot = dot; offset = k }; atom = atom })) (run_atoms_from dot (suc k) run)
      (λ a i e. let more = offset_from dot (suc k) run a i in
      let same : k ≡ a.id.offset = ap (λ (x : AtomIdValue). x.offset) e in absurd (omega arith)),
  run_differs dot (suc k) run,
)

module _ (table next : ℕ → Entry) (tokens : List Token) (b : IsBrackets table tokens)
    (agree : (s : ℕ) → In s (numbers_of tokens) → next s ≡ table s) (dot : DotValue) (run : List (List ℕ))
    (fresh : IsFresh (rows_of table tokens) dot) (before : List ℕ) (m : ℕ) (after : List ℕ)
    (half : length before ≡ length (before ++ m ∷ after) / 2)
    (atoms : map (atom_of next) (before ++ m ∷ after) ≡ run_atoms dot run)
    (live : (r : ℕ) → In r (before ++ m ∷ after) → (next r).deletes ≡ [])
    (front back : List Token) (parts : tokens ≡ front ++ back) (stack : List Level) (slot : Slot)
    (p : Standing next tokens stack (next m).id front back) (behind : AllAfter next stack (next m).id back)
    (there : slot_path (rows_of table tokens) slot ≡ Some (slot_of next stack)) where
  abbrev rs : List ℕ
  rs = before ++ m ∷ after

  middle : In m rs
  middle = In-back m before (m ∷ after) (inl refl)

  rows : rows_of next tokens ≡ rows_of table tokens
  rows = same_rows table next tokens b agree front back parts

  dot_of : (r : ℕ) → In r rs → (next r).id.dot ≡ dot
  dot_of r i = run_atom_dot dot 0 run (atom_of next r)
      (subst (In (atom_of next r)) atoms (In-map (atom_of next) r rs i))

  -- no row has an identity of the run
  other : (r : ℕ) → In r rs → (s : DocRow) → In s (rows_of table tokens) → row_id s ≢ (next r).id
  other r i s j e = all_in (λ (q : DocRow). (row_id q).dot ≢ dot) (rows_of table tokens) fresh s j
      (ap (λ (x : AtomIdValue). x.dot) e ∙ dot_of r i)

  pub put_run_is : rows_of next (front ++ Leaf rs ∷ back) ≡ insert_run slot dot run (rows_of table tokens)
  put_run_is =
      run_inserted next tokens stack before m after half (live m middle) front back
      (subst IsDocument (sym rows) b.document) (λ s i. other m middle s (subst (In s) rows i)) p behind
      slot dot run (ap (λ (q : List DocRow). slot_path q slot) rows ∙ there) atoms
      ∙ ap (insert_run slot dot run) rows

  not_empty : (xs : List ℕ) → is_empty_list (xs ++ m ∷ after) ≡ false
  not_empty [] = refl
  not_empty (x ∷ xs) = refl

  run_apart : Apart next rs
  run_apart = map_successive Differ (atom_of next) rs (subst (Successive Differ) (sym atoms) (run_differs dot 0 run))

  in_run : (r : ℕ) → In r (rs ++ []) → In r rs
  in_run r i = subst (In r) (append-nil rs) i

  differs : (r s : ℕ) → In r (rs ++ []) → In s (numbers_of tokens) → (next r).id ≢ (next s).id
  differs r s i j e =
      let q = number_row table tokens s b j in
      other r (in_run r i) q.one q.inside (q.is ∙ sym (ap (λ (k : Entry). k.id) (agree s j)) ∙ sym e)

  same_leaf : (xs ys : List ℕ) → Leaf xs ≡ Leaf ys → xs ≡ ys
  same_leaf xs ys e = cc

  new_word : IsNewWord table next tokens b agree front back parts (Leaf rs ∷ [])
  new_word = record {
    word = ((not_empty before, tt), refl);
    apart = subst (Apart next) (sym (append-nil rs)) run_apart;
    other = differs;
    live = λ xs r i j. ⊎_elim (λ (e : Leaf xs ≡ Leaf rs). live r (subst (In r) (same_leaf xs rs e) j))
        (λ (z : ⊥). absurd z) i;
  }

  pub put_run_brackets : IsTrue (is_rooted (rows_of table tokens) slot) → IsBrackets next (front ++ Leaf rs ∷ back)
  put_run_brackets rooted =
      word_brackets table next tokens b agree front back parts (Leaf rs ∷ []) new_word
      (subst IsDocument (sym put_run_is) (run_keeps (rows_of table tokens) slot dot run b.document fresh rooted))
