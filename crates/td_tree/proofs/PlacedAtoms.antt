-- Atoms in their rows, and beside them: where a row finds its own, and where a new one is put.
use Rattle.std.proofs.Common.{◌≡◌, ◌<◌, ◌≤◌, ◌+◌, ◌-◌, ◌++◌, ◌∙◌, ℕ, zero, suc, List, [], ◌∷◌, length, set, get_or}
use Rattle.std.proofs.Common.{None, ap, refl, arith, length-append}
use Rattle.std.proofs.lemmas.List.{get_or_append_left, get_or-append_right, get_or_push}
use Rattle.std.specs.List.{AllByRecursion}
use Rattle.td_base.specs.Value.{AtomIdValue}
use Rattle.td_base.proofs.Passing.{all_append}
use Rattle.td_tree.specs.declared.row_atom.TheConstants.{MOST_LONG}
use Rattle.td_tree.specs.declared.tree_row.TreeRow.{TreeRow}
use Rattle.td_tree.specs.KeptRows.{entry_with, entries_from, AreNoneFrom, IsColumn}
use Rattle.td_tree.specs.RowAtom.{RowAtomValue, InRow, Beside, atom_from, IsFrom, IsPlaced}
use Rattle.td_tree.proofs.KeptRows.{Atoms, Deletes, no_row, entries_more, entries_put}

-- each row finds its atom among so many, from a number on
abbrev pub Find : ℕ → ℕ → List TreeRow → Type 0
Find b n rs = AllByRecursion (λ (row : TreeRow). IsFrom b n row.atom) rs

pub found_at : (b n : ℕ) (rs : List TreeRow) (r : ℕ) → r < length rs → Find b n rs
    → IsFrom b n (get_or rs r no_row).atom
found_at b n [] r low h = absurd (omega arith)
found_at b n (x ∷ rs) zero low h = h.0
found_at b n (x ∷ rs) (suc r) low h = found_at b n rs r (omega arith) h.1

-- a row keeps its atom when its deletes change
pub found_set : (b n : ℕ) (rs : List TreeRow) (r : ℕ) (row : TreeRow) → IsFrom b n row.atom → Find b n rs
    → Find b n (set rs r row)
found_set b n [] r row there h = h
found_set b n (x ∷ rs) zero row there h = (there, h.1)
found_set b n (x ∷ rs) (suc r) row there h = (h.0, found_set b n rs r row there h.1)

-- a longer stretch of numbers is found in too
more_from : (b n c m : ℕ) (a : RowAtomValue) → c ≤ b → b + n ≤ c + m → IsFrom b n a → IsFrom c m a
more_from b n c m (InRow bytes) low high h = tt
more_from b n c m (Beside number) low high h = (omega (arith, h.0), omega (arith, h.1))

pub found_more : (b n c m : ℕ) (rs : List TreeRow) → c ≤ b → b + n ≤ c + m → Find b n rs → Find c m rs
found_more b n c m [] low high h = tt
found_more b n c m (x ∷ rs) low high h =
    (more_from b n c m x.atom low high h.0, found_more b n c m rs low high h.1)

-- what was there is where it was
atom_kept : (b : ℕ) (l more : Atoms) (a : RowAtomValue) → IsFrom b (length l) a
    → atom_from b (l ++ more) a ≡ atom_from b l a
atom_kept b l more (InRow bytes) h = refl
atom_kept b l more (Beside number) h = get_or_append_left l more [] (number - b) (omega (arith, h.0, h.1))

pub entries_beside : (b : ℕ) (l more : Atoms) (d : Deletes) (n : ℕ) (rs : List TreeRow) → Find b (length l) rs
    → entries_from b (l ++ more) d n rs ≡ entries_from b l d n rs
entries_beside b l more d n [] h = refl
entries_beside b l more d n (x ∷ rs) h = λ i.
    record { id = x.id; atom = atom_kept b l more x.atom h.0 i; deletes = (entry_with b l (d n) x).deletes }
    ∷ entries_beside b l more d (suc n) rs h.1 i

-- and what has numbers behind it is found there
atom_behind : (l more : Atoms) (a : RowAtomValue) → IsFrom (length l) (length more) a
    → atom_from 0 (l ++ more) a ≡ atom_from (length l) more a
atom_behind l more (InRow bytes) h = refl
atom_behind l more (Beside number) h =
    (λ i. get_or (l ++ more) (same i) []) ∙ get_or-append_right l more (length l) number [] refl h.0
  where
    same : number - 0 ≡ number
    same = omega arith

pub entries_behind : (l more : Atoms) (d : Deletes) (n m : ℕ) (rs : List TreeRow) → Find (length l) (length more) rs
    → AreNoneFrom n d → entries_from 0 (l ++ more) d n rs ≡ entries_from (length l) more (λ _. None) m rs
entries_behind l more d n m [] h none = refl
entries_behind l more d n m (x ∷ rs) h none = λ i.
    record {
      id = x.id;
      atom = atom_behind l more x.atom h.0 i;
      deletes = (entry_with 0 l (none n here i) x).deletes;
    }
    ∷ entries_behind l more d (suc n) (suc m) rs h.1 (λ r low. none r (omega (arith, low))) i
  where
    here : n ≤ n
    here = omega arith

-- what a new atom, put in its row or beside it, leaves
pub entries_same : (b : ℕ) (l now : Atoms) (atom : List ℕ) (a : RowAtomValue) → IsPlaced b l now atom a
    → (d : Deletes) (n : ℕ) (rs : List TreeRow) → Find b (length l) rs
    → entries_from b now d n rs ≡ entries_from b l d n rs
entries_same b l now atom (InRow bytes) p d n rs h = ap (λ (m : Atoms). entries_from b m d n rs) p.0
entries_same b l now atom (Beside number) p d n rs h =
    ap (λ (m : Atoms). entries_from b m d n rs) p.0 ∙ entries_beside b l (atom ∷ []) d n rs h

-- it is found
pub atom_placed : (b : ℕ) (l now : Atoms) (atom : List ℕ) (a : RowAtomValue) → IsPlaced b l now atom a
    → atom_from b now a ≡ atom
atom_placed b l now atom (InRow bytes) p = p.1
atom_placed b l now atom (Beside number) p =
    (λ i. get_or (p.0 i) (number - b) []) ∙ get_or_push l atom [] (number - b) (omega (arith, p.1))

-- and so many are there then
pub placed_long : (b : ℕ) (l now : Atoms) (atom : List ℕ) (a : RowAtomValue) → IsPlaced b l now atom a
    → (length l ≤ length now) × (length now ≤ length l + 1) × IsFrom b (length now) a
placed_long b l now atom (InRow bytes) p =
    let same = ap (λ (m : Atoms). length m) p.0 in
    (omega (arith, same), omega (arith, same), tt)
placed_long b l now atom (Beside number) p =
    let long = ap (λ (m : Atoms). length m) p.0 ∙ length-append l (atom ∷ []) in
    (omega (arith, long), omega (arith, long), (omega (arith, p.1), omega (arith, long, p.1)))

-- a column with one more row
module _ (b : ℕ) (rs : List TreeRow) (l now : Atoms) (d : Deletes) (c : IsColumn b rs l d)
    (id : AtomIdValue) (atom : List ℕ) (a : RowAtomValue) (placed : IsPlaced b l now atom a) where
  abbrev row : TreeRow
  row = record { id = id; deleted = None; atom = a }

  pub column_more : b + length l < MOST_LONG → IsColumn b (rs ++ row ∷ []) now d
  column_more few =
      let put = placed_long b l now atom a placed in
      let more = length-append rs (row ∷ []) in
      record {
        found = all_append (λ (x : TreeRow). IsFrom b (length now) x.atom) rs (row ∷ [])
            (found_more b (length l) b (length now) rs (omega arith) (omega (arith, put.0)) c.found) (put.2, tt);
        beside = λ r h. c.beside r (omega (arith, more, h));
        fewer = omega (arith, put.1, more, c.fewer);
        few = omega (arith, put.1, few);
      }

  pub entries_one : entries_from b now d 0 (rs ++ row ∷ [])
      ≡ entries_from b l d 0 rs ++ record { id = id; atom = atom; deletes = [] } ∷ []
  entries_one = entries_put b now d rs row c.beside
      ∙ (λ i. entries_same b l now atom a placed d 0 rs c.found i
      ++ record { id = id; atom = atom_placed b l now atom a placed i; deletes = [] } ∷ [])

-- and with all that were to come behind it
module _ (rs new : List TreeRow) (l more : Atoms) (d : Deletes) (c : IsColumn 0 rs l d)
    (n : IsColumn (length l) new more (λ _. None)) where
  pub column_both : IsColumn 0 (rs ++ new) (l ++ more) d
  column_both =
      let rows = length-append rs new in
      let atoms = length-append l more in
      let n_few = n.few in
      let all : ℕ = length (l ++ more) in
      record {
        found = all_append (λ (x : TreeRow). IsFrom 0 all x.atom) rs new
            (found_more 0 (length l) 0 all rs (omega arith) (omega (arith, atoms)) c.found)
            (found_more (length l) (length more) 0 all new (omega arith) (omega (arith, atoms)) n.found);
        beside = λ r h. c.beside r (omega (arith, rows, h));
        fewer = omega (arith, rows, atoms, c.fewer, n.fewer);
        few = omega (arith, atoms, n_few);
      }

  pub entries_both : entries_from 0 (l ++ more) d 0 (rs ++ new)
      ≡ entries_from 0 l d 0 rs ++ entries_from (length l) more (λ _. None) 0 new
  entries_both = entries_more 0 (l ++ more) d 0 rs new
      ∙ (λ i. entries_beside 0 l more d 0 rs c.found i
      ++ entries_behind l more d (0 + length rs) 0 new n.found (λ r h. c.beside r (omega (arith, h))) i)
