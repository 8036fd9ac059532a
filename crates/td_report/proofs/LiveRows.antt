-- The atoms that a document shows, found by their places.
use Rattle.std.proofs.Common.{◌≡◌, ◌∙◌, ℕ, List, [], ◌∷◌, ◌++◌, Option, Some, None, ap}
use Rattle.std.proofs.Common.{append_assoc, append-nil, arith, codes, refl, subst, sym}
use Rattle.std.specs.Prelude.{slice_get}
use Rattle.std.specs.List.{concat, flat_map}
use Rattle.std.specs.Option.{option_map}
use Rattle.std.proofs.lemmas.List.Concat.{flat_map-append}
use Rattle.std.proofs.lemmas.Option.{none-some, same_Some, slice_get-map}
use Rattle.td_base.specs.Value.{AtomIdValue}
use Rattle.td_base.proofs.Elements.{In-slice_get}
use Rattle.td_base.proofs.Lists.{In-filter}
use Rattle.td_doc.specs.Answers.{row_told}
use Rattle.td_doc.specs.Document.{DocRow, row_id, find_row, is_live, live_atoms, live_id_at, live_rows, IsDocument}
use Rattle.td_doc.specs.declared.doc.Row.{Row}
use Rattle.td_doc.proofs.SubtreeRows.{find_in}
use Rattle.td_script.specs.Characters.{line_feed, quote}
use Rattle.td_script.specs.Spelling.{spaced_text}
use Rattle.td_script.specs.Texts.{escaped}

-- the live row at a place, where one is shown
pub record ShownAt (rows : List DocRow) (k : ℕ) (x : AtomIdValue) : Type 0 where
  pub row : DocRow
  pub shown : slice_get (live_atoms rows) k ≡ Some row.atom
  pub found : find_row x rows ≡ Some row

shown_by : (rows : List DocRow) (k : ℕ) (x : AtomIdValue) → IsDocument rows → (o : Option DocRow)
    → slice_get (live_rows rows) k ≡ o
    → option_map row_id o ≡ Some x → ShownAt rows k x
shown_by rows k x d None at e = absurd (none-some x e)
shown_by rows k x d (Some r) at e = record {
  row = r;
  shown = slice_get-map (λ (q : DocRow). q.atom) (live_rows rows) k ∙ ap (option_map (λ (q : DocRow). q.atom)) at;
  found = subst (λ (y : AtomIdValue). find_row y rows ≡ Some r) (same_Some (row_id r) x e)
      (find_in rows r d.apart (In-filter is_live r rows (In-slice_get (live_rows rows) k r at)).0);
}

shown_at : (rows : List DocRow) (k : ℕ) (x : AtomIdValue) → IsDocument rows → live_id_at rows k ≡ Some x
    → ShownAt rows k x
shown_at rows k x d e = shown_by rows k x d (slice_get (live_rows rows) k) refl e

-- what is told of a row has its atom

mapped_twice : {A B C : Type 0} (f : A → B) (g : B → C) (o : Option A) → option_map g (option_map f o)
    ≡ option_map (λ (a : A). g (f a)) o
mapped_twice f g None = refl
mapped_twice f g (Some a) = refl

told_atom : (rows : List DocRow) (x : AtomIdValue)
    → option_map (λ (q : Row). q.atom) (row_told rows x) ≡ option_map (λ (r : DocRow). r.atom) (find_row x rows)
told_atom rows x = mapped_twice _ (λ (q : Row). q.atom) (find_row x rows)

-- so the atom told is the one at the place
pub atom_shown : (rows : List DocRow) (k : ℕ) (x : AtomIdValue) (told : Row) → IsDocument rows → live_id_at rows k
    ≡ Some x
    → row_told rows x ≡ Some told → slice_get (live_atoms rows) k ≡ Some told.atom
atom_shown rows k x told d live is =
    let s = shown_at rows k x d live in
    s.shown ∙ sym (ap (option_map (λ (r : DocRow). r.atom)) s.found) ∙ sym (told_atom rows x)
    ∙ ap (option_map (λ (q : Row). q.atom)) is

-- and it is told of
pub shown_is_told : (rows : List DocRow) (k : ℕ) (x : AtomIdValue) → IsDocument rows → live_id_at rows k ≡ Some x
    → ((told : Row) → row_told rows x ≡ Some told → ⊥) → ⊥
shown_is_told rows k x d live none = told_by (row_told rows x)
    (told_atom rows x ∙ ap (option_map (λ (r : DocRow). r.atom)) (shown_at rows k x d live).found) none
  where
    told_by : {a : List ℕ} (o : Option Row) → option_map (λ (q : Row). q.atom) o ≡ Some a
        → ((told : Row) → o ≡ Some told → ⊥) → ⊥
    told_by None e none = none-some _ e
    told_by (Some told) e none = none told refl

-- past the atoms shown there is none
none_shown : (rows : List DocRow) (k : ℕ) (o : Option DocRow) → slice_get (live_rows rows) k ≡ o
    → ((x : AtomIdValue) → option_map row_id o ≡ Some x → ⊥)
    → slice_get (live_atoms rows) k ≡ None
none_shown rows k None at none = slice_get-map (λ (q : DocRow). q.atom) (live_rows rows) k
    ∙ ap (option_map (λ (q : DocRow). q.atom)) at
none_shown rows k (Some r) at none = absurd (none (row_id r) refl)

pub none_past : (rows : List DocRow) (k : ℕ) → ((x : AtomIdValue) → live_id_at rows k ≡ Some x → ⊥)
    → slice_get (live_atoms rows) k ≡ None
none_past rows k none = none_shown rows k (slice_get (live_rows rows) k) refl none

-- atoms written one behind the other are their text written
pub written_together : (f : ℕ → List ℕ) (atoms : List (List ℕ)) → flat_map (flat_map f) atoms
    ≡ flat_map f (concat atoms)
written_together f [] = refl
written_together f (atom ∷ atoms) =
    ap (λ (rest : List ℕ). flat_map f atom ++ rest) (written_together f atoms)
    ∙ sym (flat_map-append f atom (concat atoms))

-- the line of the first atoms, written in pieces
pub head_written : (start : List ℕ) (atoms : List (List ℕ))
    → ((start ++ codes "head \"") ++ flat_map (flat_map escaped) atoms) ++ codes "\"\n" ≡ start
    ++ (codes "head" ++ (spaced_text atoms ++ line_feed ∷ []))
head_written start atoms =
    let text : List ℕ = flat_map escaped (concat atoms) in
    ap (λ (t : List ℕ). ((start ++ codes "head \"") ++ t) ++ codes "\"\n") (written_together escaped atoms)
    ∙ append_assoc (start ++ codes "head \"") text (codes "\"\n")
    ∙ append_assoc start (codes "head \"") (text ++ codes "\"\n")
    ∙ ap (λ (t : List ℕ). start ++ (codes "head \"" ++ t)) (sym (append_assoc text (quote ∷ []) (line_feed ∷ [])))

-- five pieces, one behind the other
pub five_behind : (a b c d e none l0 l1 l2 l3 l4 : List ℕ) → none ≡ [] → l0 ≡ none ++ a → l1 ≡ l0 ++ b → l2 ≡ l1 ++ c
    → l3 ≡ l2 ++ d → l4 ≡ l3 ++ e
    → l4 ≡ a ++ ((b ++ (c ++ (d ++ []))) ++ e)
five_behind a b c d e none l0 l1 l2 l3 l4 h0 h1 h2 h3 h4 h5 =
    let front : l3 ≡ ((a ++ b) ++ c) ++ d
    = h4 ∙ ap (λ (t : List ℕ). t ++ d) (h3 ∙ ap (λ (t : List ℕ). t ++ c)
    (h2 ∙ ap (λ (t : List ℕ). t ++ b) (h1 ∙ ap (λ (t : List ℕ). t ++ a) h0))) in
    h5 ∙ ap (λ (t : List ℕ). t ++ e) front ∙ grind (arith, append_assoc, append-nil)
