-- What an item of a tree may be.
use Rattle.std.proofs.Common.{◌≡◌, ◌≢◌, ◌+◌, ◌-◌, ◌/◌, ◌%◌, ◌<◌, ◌≤◌, ℕ, zero, suc, List, [], ◌∷◌, ◌++◌}
use Rattle.std.proofs.Common.{length, get_or, refl, sym, ap, ◌∙◌, subst, inl, arith}
use Rattle.td_base.specs.Lists.{In}
use Rattle.td_base.proofs.Lists.{In-map, In-back}
use Rattle.td_list.specs.Items.{Item}
use Rattle.td_brackets.specs.Brackets.{Token, Open, Atom, Close, Leaf}
use Rattle.td_tree.specs.declared.tree_row.RowState.{RowState}
use Rattle.td_tree.specs.declared.tree_row.RowState.TheVariants.{Node, InArray, Gone}
use Rattle.td_tree.specs.Parts.{Parts, state_at, table, array_at, part, row_of_array, row_token}
use Rattle.td_tree.specs.Parts.{kind_token, token_of, tokens, IsPart, IsKind, IsAt, IsTree}
use Rattle.td_tree.proofs.ArrayParts.{part_halves, part_length}
use Rattle.td_tree.proofs.Trees.{node_not_array}

-- a leaf with its top, which stands in the middle
pub record IsLeafToken (p : Parts) (t : Token) (r : ℕ) : Type 0 where
  pub before : List ℕ
  pub after : List ℕ
  pub is : t ≡ Leaf (before ++ r ∷ after)
  pub half : length before ≡ length (before ++ r ∷ after) / 2

pub data Kind (p : Parts) (i : Item) : Type 0 where
  IsOpen : i.name % 3 ≡ 0 → token_of p i ≡ Open (i.name / 3) → Kind p i
  IsRow : i.name % 3 ≡ 1 → state_at p (i.name / 3) ≡ Node → token_of p i ≡ Atom (i.name / 3) → Kind p i
  IsLeaf : i.name % 3 ≡ 1 → state_at p (i.name / 3) ≢ Node → IsLeafToken p (token_of p i) (i.name / 3) → Kind p i
  IsClose : i.name % 3 ≡ 2 → token_of p i ≡ Close (i.name / 3) → Kind p i

leaf_parts : (p : Parts) (r a c w : ℕ) → w / 2 ≤ c → IsPart p a (c - w / 2) w → row_of_array p a c ≡ r
    → IsLeafToken p (Leaf (part (array_at p a) (c - w / 2) w)) r
leaf_parts p r a c w h l e =
    let xs : List ℕ = array_at p a in
    let from : ℕ = c - w / 2 in
    let some = l.some in
    let within = l.within in
    let middle : (c - w / 2) + w / 2 ≡ c = omega arith in
    let is : part xs from w ≡ part xs from (w / 2) ++ r ∷ part xs (from + w / 2 + 1) (w - w / 2 - 1) =
    part_halves xs from w some within ∙ ap (λ (x : ℕ). part xs from (w / 2)
    ++ x ∷ part xs (from + w / 2 + 1) (w - w / 2 - 1)) (ap (λ (k : ℕ). get_or xs k 0) middle ∙ e) in
    record {
      before = part xs from (w / 2);
      after = part xs (from + w / 2 + 1) (w - w / 2 - 1);
      is = ap Leaf is;
      half = part_length xs from (w / 2) (omega arith)
          ∙ ap (λ (n : ℕ). n / 2) (sym (part_length xs from w within) ∙ ap length is);
    }

kind_at : (p : Parts) (i : Item) → (k : ℕ) (s : RowState) → i.name % 3 ≡ k → k < 3 → state_at p (i.name / 3) ≡ s
    → token_of p i ≡ kind_token k (i.name / 3) (row_token p s (i.name / 3) i.weight)
    → IsKind p k s i.weight → IsAt p (i.name / 3) s → Kind p i
kind_at p i zero s e l f g h at = IsOpen e g
kind_at p i (suc zero) Node e l f g h at = IsRow e f g
kind_at p i (suc zero) (InArray a c) e l f g h at =
    IsLeaf e (λ n. node_not_array a c (sym n ∙ f))
    (subst (λ (t : Token). IsLeafToken p t (i.name / 3)) (sym g)
    (leaf_parts p (i.name / 3) a c i.weight h.0 h.1 at.2))
kind_at p i (suc zero) Gone e l f g h at = absurd h
kind_at p i (suc (suc k)) s e l f g h at = IsClose (omega arith) g

pub kind_of : (p : Parts) → IsTree p → (i : Item) → In i p.items → Kind p i
kind_of p t i m =
    let tok = t.each i m in
    kind_at p i (i.name % 3) (state_at p (i.name / 3)) refl (omega arith) refl refl tok.kind
    (t.at (i.name / 3) tok.known)

-- the rows of a leaf are live
pub leaf_live : (p : Parts) → IsTree p → (i : Item) → In i p.items → (r : ℕ) → (l : IsLeafToken p (token_of p i) r)
    → (table p r).deletes ≡ []
leaf_live p t i m r l =
    t.brackets.live (l.before ++ r ∷ l.after) r (subst (λ (x : Token). In x (tokens p)) l.is
    (In-map (token_of p) i p.items m)) (In-back r l.before (r ∷ l.after) (inl refl))
