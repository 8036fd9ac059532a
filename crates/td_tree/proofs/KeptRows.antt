-- Rows kept as they came, with the first delete that named each, and beside them longer atoms and all deletes of some.
use Rattle.std.proofs.Common.{◌≡◌, ◌<◌, ◌≤◌, ◌+◌, ◌++◌, ◌∙◌, ℕ, zero, suc, List, [], ◌∷◌, length, set, get_or}
use Rattle.std.proofs.Common.{Option, None, ap, sym, refl, arith}
use Rattle.std.proofs.lemmas.List.{set-get_or}
use Rattle.td_base.specs.Value.{DotValue}
use Rattle.td_doc.specs.Deletion.{add_dot}
use Rattle.td_brackets.specs.Brackets.{Entry}
use Rattle.td_tree.specs.declared.tree_row.TreeRow.{TreeRow}
use Rattle.td_tree.specs.KeptRows.{deletes_of, entry_with, entries_from, AreNoneFrom}
use Rattle.td_tree.specs.RowAtom.{InRow, atom_from}
use Rattle.td_tree.specs.Parts.{nobody}
use Rattle.td_tree.proofs.Deleting.{deleted}

abbrev pub no_row : TreeRow
no_row = record { id = nobody.entry.id; deleted = None; atom = InRow [] }

-- the atoms kept beside rows, and the deletes, by number
abbrev pub Atoms : Type 0
Atoms = List (List ℕ)

abbrev pub Deletes : Type 0
Deletes = ℕ → Option (List DotValue)

-- there is an entry for each row
pub entries_long : (b : ℕ) (l : Atoms) (d : Deletes) (n : ℕ) (rs : List TreeRow)
    → length (entries_from b l d n rs) ≡ length rs
entries_long b l d n [] = refl
entries_long b l d n (r ∷ rs) = ap suc (entries_long b l d (suc n) rs)

-- which is the row with what is kept beside it
pub entry_at : (b : ℕ) (l : Atoms) (d : Deletes) (n : ℕ) (rs : List TreeRow) (r : ℕ) → r < length rs
    → get_or (entries_from b l d n rs) r nobody.entry ≡ entry_with b l (d (n + r)) (get_or rs r no_row)
entry_at b l d n [] r low = absurd (omega arith)
entry_at b l d n (x ∷ rs) zero low = λ i. entry_with b l (d (at i)) x
  where
    at : n ≡ n + zero
    at = omega arith
entry_at b l d n (x ∷ rs) (suc r) low = entry_at b l d (suc n) rs r (omega arith)
    ∙ (λ i. entry_with b l (d (at i)) (get_or rs r no_row))
  where
    at : suc n + r ≡ n + suc r
    at = omega arith

pub entry_of : (b : ℕ) (l : Atoms) (d : Deletes) (rs : List TreeRow) (r : ℕ) → r < length rs
    → get_or (entries_from b l d 0 rs) r nobody.entry ≡ entry_with b l (d r) (get_or rs r no_row)
entry_of b l d rs r low = entry_at b l d 0 rs r low ∙ (λ i. entry_with b l (d (at i)) (get_or rs r no_row))
  where
    at : 0 + r ≡ r
    at = omega arith

-- what is the same from the first row on
pub entries_kept : (b : ℕ) (l : Atoms) (d f : Deletes) (n : ℕ) (rs : List TreeRow) → ((s : ℕ) → n ≤ s → f s ≡ d s)
    → entries_from b l f n rs ≡ entries_from b l d n rs
entries_kept b l d f n [] same = refl
entries_kept b l d f n (x ∷ rs) same = λ i. entry_with b l (same n here i) x
    ∷ entries_kept b l d f (suc n) rs (λ s h. same s (omega (arith, h))) i
  where
    here : n ≤ n
    here = omega arith

-- more rows
pub entries_more : (b : ℕ) (l : Atoms) (d : Deletes) (n : ℕ) (rs more : List TreeRow)
    → entries_from b l d n (rs ++ more) ≡ entries_from b l d n rs ++ entries_from b l d (n + length rs) more
entries_more b l d n [] more = λ i. entries_from b l d (at i) more
  where
    at : n ≡ n + zero
    at = omega arith
entries_more b l d n (x ∷ rs) more = ap
    (λ (es : List Entry). entry_with b l (d n) x ∷ es)
    (entries_more b l d (suc n) rs more ∙ (λ i. entries_from b l d (suc n) rs ++ entries_from b l d (at i) more))
  where
    at : suc n + length rs ≡ n + suc (length rs)
    at = omega arith

-- a row put behind them, with no deletes beside it
pub entries_put : (b : ℕ) (l : Atoms) (d : Deletes) (rs : List TreeRow) (r : TreeRow) → AreNoneFrom (length rs) d
    → entries_from b l d 0 (rs ++ r ∷ []) ≡ entries_from b l d 0 rs ++ entry_with b l None r ∷ []
entries_put b l d rs r none = entries_more b l d 0 rs (r ∷ [])
    ∙ (λ i. entries_from b l d 0 rs ++ entry_with b l (none (0 + length rs) there i) r ∷ [])
  where
    there : length rs ≤ 0 + length rs
    there = omega arith

-- one row with another first delete, and other deletes beside it
pub entries_set : (b : ℕ) (l : Atoms) (d f : Deletes) (n : ℕ) (rs : List TreeRow) (r : ℕ) (first : Option DotValue)
    → r < length rs → ((s : ℕ) → (s ≡ n + r → ⊥) → f s ≡ d s)
    → entries_from b l f n (set rs r (record (get_or rs r no_row) { deleted = first }))
    ≡ set (entries_from b l d n rs) r (record (get_or (entries_from b l d n rs) r nobody.entry) {
      deletes = deletes_of (f (n + r)) first;
    })
entries_set b l d f n [] r first low others = absurd (omega arith)
entries_set b l d f n (x ∷ rs) zero first low others =
    λ i. record { id = x.id; atom = atom_from b l x.atom; deletes = deletes_of (f (at i)) first }
    ∷ entries_kept b l d f (suc n) rs (λ s h. others s (λ (e : s ≡ n + zero). omega (arith, h, e))) i
  where
    at : n ≡ n + zero
    at = omega arith
entries_set b l d f n (x ∷ rs) (suc r) first low others =
    λ i. entry_with b l (others n apart i) x
    ∷ (entries_set b l d f (suc n) rs r first (omega arith) (λ s h. others s (λ (e : s ≡ n + suc r). h (e ∙ at)))
    ∙ (λ m. set (entries_from b l d (suc n) rs) r (record (get_or (entries_from b l d (suc n) rs) r nobody.entry) {
      deletes = deletes_of (f (sym at m)) first;
    }))) i
  where
    at : n + suc r ≡ suc n + r
    at = omega arith

    apart : n ≡ n + suc r → ⊥
    apart e = omega arith

pub dot_added : (b : ℕ) (l : Atoms) (d f : Deletes) (rs : List TreeRow) (r : ℕ) (first : Option DotValue)
    (by : DotValue) → r < length rs
    → deletes_of (f r) first ≡ add_dot by (deletes_of (d r) (get_or rs r no_row).deleted)
    → ((s : ℕ) → (s ≡ r → ⊥) → f s ≡ d s)
    → entries_from b l f 0 (set rs r (record (get_or rs r no_row) { deleted = first }))
    ≡ set (entries_from b l d 0 rs) r (deleted (get_or (entries_from b l d 0 rs) r nobody.entry) by)
dot_added b l d f rs r first by low is others =
    entries_set b l d f 0 rs r first low (λ s h. others s (λ (e : s ≡ r). h (e ∙ at)))
    ∙ (λ i. set (entries_from b l d 0 rs) r
    (record (get_or (entries_from b l d 0 rs) r nobody.entry) { deletes = now i }))
  where
    at : r ≡ 0 + r
    at = omega arith

    now : deletes_of (f (0 + r)) first ≡ add_dot by (get_or (entries_from b l d 0 rs) r nobody.entry).deletes
    now = (λ i. deletes_of (f (sym at i)) first) ∙ is
        ∙ ap (add_dot by) (sym (ap (λ (e : Entry). e.deletes) (entry_of b l d rs r low)))

-- a row as it was, in what it shows
pub dots_kept : (b : ℕ) (l : Atoms) (d f : Deletes) (rs : List TreeRow) (r : ℕ) (first : Option DotValue)
    → r < length rs → deletes_of (f r) first ≡ deletes_of (d r) (get_or rs r no_row).deleted
    → ((s : ℕ) → (s ≡ r → ⊥) → f s ≡ d s)
    → entries_from b l f 0 (set rs r (record (get_or rs r no_row) { deleted = first })) ≡ entries_from b l d 0 rs
dots_kept b l d f rs r first low is others =
    entries_set b l d f 0 rs r first low (λ s h. others s (λ (e : s ≡ r). h (e ∙ at)))
    ∙ (λ i. set (entries_from b l d 0 rs) r
    (record (get_or (entries_from b l d 0 rs) r nobody.entry) { deletes = now i }))
    ∙ set-get_or (entries_from b l d 0 rs) r nobody.entry
  where
    at : r ≡ 0 + r
    at = omega arith

    now : deletes_of (f (0 + r)) first ≡ (get_or (entries_from b l d 0 rs) r nobody.entry).deletes
    now = (λ i. deletes_of (f (sym at i)) first) ∙ is
        ∙ sym (ap (λ (e : Entry). e.deletes) (entry_of b l d rs r low))
