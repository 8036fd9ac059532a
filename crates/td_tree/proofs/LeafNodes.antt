-- How many nodes an edit at an atom of a leaf adds.
use Rattle.std.proofs.Common.{◌≡◌, ◌≢◌, ◌<◌, ◌≤◌, ◌+◌, ◌^◌, ◌∙◌, ℕ, List, [], ◌∷◌, length}
use Rattle.std.proofs.Common.{Some, None, sym, ap, subst, ⊎_elim, arith}
use Rattle.std.proofs.lemmas.Option.{same_Some}
use Rattle.td_base.specs.Lists.{In}
use Rattle.td_base.specs.Value.{AtomIdValue}
use Rattle.td_base.proofs.Lists.{In-front, In-back}
use Rattle.td_path.specs.Slot.{slot_atom}
use Rattle.td_path.specs.declared.slot.Slot.{Slot}
use Rattle.td_path.specs.declared.slot.Slot.TheVariants.{Root, At}
use Rattle.td_base.specs.declared.bit.Bit.{Bit}
use Rattle.td_brackets.specs.Brackets.{Token, Leaf}
use Rattle.td_brackets.specs.RowNumbers.{row_numbers_at, row_numbers}
use Rattle.td_identities.specs.declared.identities.Identities.{Identities}
use Rattle.td_identities.specs.Identities.{number_of}
use Rattle.td_tree.specs.declared.tree_row.RowState.TheVariants.{Gone, Node}
use Rattle.td_tree.specs.Parts.{Parts, state_at, table, tokens, nodes_of, IsTree}
use Rattle.td_tree.specs.Whole.{IsWhole}
use Rattle.td_tree.specs.Nodes.{AddsFew, AddsFewIn}
use Rattle.td_tree.proofs.Shown.{shown_stays}

leaf_shown : (rs : List ℕ) (r : ℕ) (ts : List Token) → In (Leaf rs) ts → In r rs → In r (row_numbers ts)
leaf_shown rs r [] i j = absurd i
leaf_shown rs r (t ∷ ts) i j =
    ⊎_elim (λ (e : Leaf rs ≡ t). In-front r (row_numbers_at t) (row_numbers ts)
    (subst (λ (q : Token). In r (row_numbers_at q)) e j))
    (λ (k : In (Leaf rs) ts). In-back r (row_numbers_at t) (row_numbers ts) (leaf_shown rs r ts k j)) i

-- an identity is that of one row
one_row : (p : Parts) (identities : Identities) (seen : List ℕ) → IsWhole p identities seen → (r s : ℕ)
    → r < length p.rows → s < length p.rows → state_at p r ≢ Gone → state_at p s ≢ Gone
    → (table p r).id ≡ (table p s).id → r ≡ s
one_row p identities seen w r s l m g h e =
    ⊎_elim (λ (k : state_at p r ≡ Gone). absurd (g k))
    (λ (f : number_of identities (table p r).id ≡ Some r).
    ⊎_elim (λ (k : state_at p s ≡ Gone). absurd (h k))
    (λ (k : number_of identities (table p s).id ≡ Some s). same_Some r s (sym f ∙ ap (number_of identities) e ∙ k))
    (w.named.here s m)) (w.named.here r l)

-- a row, to which its leaf was opened, where it was in one
pub opened_few : (p q : Parts) (identities : Identities) (seen : List ℕ) → IsWhole p identities seen → (row : ℕ)
    → row < length p.rows → state_at p row ≢ Gone → (x : AtomIdValue) → (table p row).id ≡ x → IsTree q
    → ((rs : List ℕ) → In (Leaf rs) (tokens p) → In row rs → (d : ℕ) → length rs < 2 ^ d → q.nodes ≤ p.nodes + d)
    → (state_at p row ≡ Node → q ≡ p) → AddsFew p q x 0
opened_few p q identities seen w row l g x named t few same =
    record {
      in_leaf = λ count digits k h.
          let there = shown_stays p w.tree k.row (leaf_shown k.rows k.row (tokens p) k.leaf k.inside) in
          let one : k.row ≡ row = one_row p identities seen w k.row row there.0 l there.1 g (k.named ∙ sym named) in
          let more : q.nodes ≤ p.nodes + digits = few k.rows k.leaf (subst (λ (r : ℕ). In r k.rows) one k.inside)
          digits (subst (λ (n : ℕ). n < 2 ^ digits) (sym k.long) h) in
          let was : p.nodes ≡ nodes_of (tokens p) = w.tree.counted in
          let now : q.nodes ≡ nodes_of (tokens q) = t.counted in
          omega (arith, more, was, now);
      at_node = λ k.
          let one : k.row ≡ row =
          one_row p identities seen w k.row row k.known l
          (λ (e : state_at p k.row ≡ Gone). node_gone (sym k.node ∙ e)) g (k.named ∙ sym named) in
          let nothing : nodes_of (tokens q) ≡ nodes_of (tokens p) =
          ap (λ (r : Parts). nodes_of (tokens r)) (same (subst (λ (r : ℕ). state_at p r ≡ Node) one k.node)) in
          omega (arith, nothing);
    }
  where
    node_gone : Node ≡ Gone → ⊥
    node_gone e = cc

pub opened_at : (p now q : Parts) (identities : Identities) (seen : List ℕ) → p ≡ now → IsWhole p identities seen
    → (row : ℕ) → row < length now.rows → state_at now row ≢ Gone → (x : AtomIdValue) → (table now row).id ≡ x
    → IsTree q
    → ((rs : List ℕ) → In (Leaf rs) (tokens p) → In row rs → (d : ℕ) → length rs < 2 ^ d → q.nodes ≤ p.nodes + d)
    → (state_at p row ≡ Node → q ≡ p) → AddsFew now q x 0
opened_at p now q identities seen e w row l g x named t few same =
    opened_few now q identities seen (subst (λ (r : Parts). IsWhole r identities seen) e w) row l g x named t
    (subst (λ (r : Parts). (rs : List ℕ) → In (Leaf rs) (tokens r) → In row rs → (d : ℕ) → length rs < 2 ^ d
    → q.nodes ≤ r.nodes + d) e few)
    (subst (λ (r : Parts). state_at r row ≡ Node → q ≡ r) e same)

-- and an edit after that
pub few_more : (p q s : Parts) (x : AtomIdValue) (more : ℕ) → AddsFew p q x 0
    → nodes_of (tokens s) ≤ nodes_of (tokens q) + more → AddsFew p s x more
few_more p q s x more few m =
    record {
      in_leaf = λ count digits k h.
          let f : nodes_of (tokens q) ≤ nodes_of (tokens p) + digits + 0 = few.in_leaf count digits k h in
          omega (arith, f, m);
      at_node = λ k. let f : nodes_of (tokens q) ≤ nodes_of (tokens p) + 0 = few.at_node k in omega (arith, f, m);
    }

pub few_more_in : (p q s : Parts) (slot : Slot) (more : ℕ) → AddsFewIn p q slot 0
    → nodes_of (tokens s) ≤ nodes_of (tokens q) + more → AddsFewIn p s slot more
few_more_in p q s slot more few m =
    record {
      at_atom = λ x e. few_more p q s x more (few.at_atom x e) m;
      at_root = λ e. let f : nodes_of (tokens q) ≤ nodes_of (tokens p) + 0 = few.at_root e in omega (arith, f, m);
    }

-- at the root there is no atom
pub few_root : (p q : Parts) (slot : Slot) (more : ℕ) → slot ≡ Root → nodes_of (tokens q) ≤ nodes_of (tokens p) + more
    → AddsFewIn p q slot more
few_root p q slot more e m =
    record { at_atom = λ x f. absurd (none x (sym (ap slot_atom e) ∙ f)); at_root = λ f. m }
  where
    none : (x : AtomIdValue) → None ≡ Some x → ⊥
    none x e = cc

-- nothing was done
pub few_same : (p q : Parts) (x : AtomIdValue) (more : ℕ) → nodes_of (tokens q) ≤ nodes_of (tokens p)
    → AddsFew p q x more
few_same p q x more m =
    record { in_leaf = λ count digits k h. omega (arith, m); at_node = λ k. omega (arith, m) }

pub few_same_in : (p q : Parts) (slot : Slot) (more : ℕ) → nodes_of (tokens q) ≤ nodes_of (tokens p)
    → AddsFewIn p q slot more
few_same_in p q slot more m =
    record { at_atom = λ x e. few_same p q x more m; at_root = λ e. omega (arith, m) }

-- in a slot of the atom
pub few_at : (p q : Parts) (slot : Slot) (x : AtomIdValue) (bit : Bit) (more : ℕ) → slot ≡ At x bit
    → AddsFew p q x more → AddsFewIn p q slot more
few_at p q slot x bit more e few =
    record {
      at_atom = λ y f. subst (λ (z : AtomIdValue). AddsFew p q z more) (same_id x y (sym (ap slot_atom e) ∙ f)) few;
      at_root = λ f. absurd (no_root (sym e ∙ f));
    }
  where
    same_id : (x y : AtomIdValue) → Some x ≡ Some y → x ≡ y
    same_id x y e = cc

    no_root : At x bit ≡ Root → ⊥
    no_root f = cc
