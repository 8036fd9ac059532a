-- Which of two rows stands first, by their places among the items.
use Rattle.std.proofs.Common.{◌≡◌, ◌≢◌, ◌<◌, ◌≤◌, ◌∙◌, ℕ, List, [], ◌∷◌, ◌++◌, true, false, length, map}
use Rattle.std.proofs.Common.{nat_lt, Option, Some, None, refl, sym, ap, subst, inl, ⊎_elim, arith}
use Rattle.std.proofs.Common.{append_assoc, length-append}
use Rattle.std.proofs.lemmas.Bool.{cases_lt, lt-ltb, le-ltb}
use Rattle.std.proofs.lemmas.Cmp.{tied_itself}
use Rattle.std.specs.declared.cmp.Ordering.TheVariants.{Less}
use Rattle.std.specs.Ordering.{is_lt, ordering_reverse}
use Rattle.td_base.specs.Value.{AtomIdValue}
use Rattle.td_base.specs.Lists.{In, Successive}
use Rattle.td_base.proofs.Lists.{In-append, In-front, In-back, In-map, map_In, all_in, successive_back}
use Rattle.td_base.proofs.Elements.{same_head, same_tail, In-behind}
use Rattle.td_path.specs.Infix.{path_cmp}
use Rattle.td_path.proofs.InfixOrder.{path_total}
use Rattle.td_doc.specs.Document.{DocRow, find_row}
use Rattle.td_doc.specs.Answers.{stands_before, is_found_before}
use Rattle.td_doc.proofs.SubtreeRows.{find_in}
use Rattle.td_list.specs.Items.{Item, IsItem, items_before, items_from, items_after, place_of}
use Rattle.td_list.proofs.Parted.{parted, parts, before_at}
use Rattle.td_brackets.specs.Brackets.{Entry}
use Rattle.td_brackets.specs.RowNumbers.{entry_of}
use Rattle.td_brackets.proofs.Entries.{RowsAt, parted as rows_parted, found_at}
use Rattle.td_tree.specs.Parts.{Parts, table, doc_rows, IsTree}
use Rattle.td_tree.specs.Reading.{shown_at, shown, StandsAt}
use Rattle.td_tree.proofs.Orders.{item_in, place_parts}
use Rattle.td_tree.proofs.Shown.{entries, shown_inside}
use Rattle.td_tree.proofs.Trees.{one_item}

-- what stands in the front of a list has a place before what follows the front
earlier : (x y : ℕ) (items : List Item) → IsItem y (items_before x items) → place_of y items < place_of x items
earlier x y items h =
    let q = parted y (items_before x items) h in
    let is : items ≡ q.front ++ q.item ∷ (q.back ++ items_from x items) = sym (parts x items)
    ∙ ap (λ (front : List Item). front ++ items_from x items) q.is
    ∙ append_assoc q.front (q.item ∷ q.back) (items_from x items) in
    let place : place_of y items ≡ length q.front = ap (place_of y) is
    ∙ ap length (before_at y q.front q.item (q.back ++ items_from x items) q.named q.away) in
    let long : place_of x items ≡ length (q.front ++ q.item ∷ q.back) = ap length q.is in
    omega (arith, place, long, length-append q.front (q.item ∷ q.back))

-- of two ways to part a list, the one parted later has its element behind the other
behind_it : (a : List ℕ) (x : ℕ) (b c : List ℕ) (y : ℕ) (d : List ℕ) → a ++ x ∷ b ≡ c ++ y ∷ d → length a < length c
    → In y b
behind_it a x b [] y d e l = absurd (omega arith)
behind_it [] x b (z ∷ c) y d e l =
    subst (In y) (sym (same_tail x b z (c ++ y ∷ d) e)) (In-back y c (y ∷ d) (inl refl))
behind_it (w ∷ a) x b (z ∷ c) y d e l =
    behind_it a x b c y d (same_tail w (a ++ x ∷ b) z (c ++ y ∷ d) e) (omega arith)

same_there : (a : List ℕ) (x : ℕ) (b c : List ℕ) (y : ℕ) (d : List ℕ) → a ++ x ∷ b ≡ c ++ y ∷ d → length a ≡ length c
    → x ≡ y
same_there [] x b [] y d e l = same_head x b y d e
same_there [] x b (z ∷ c) y d e l = absurd (omega arith)
same_there (w ∷ a) x b [] y d e l = absurd (omega arith)
same_there (w ∷ a) x b (z ∷ c) y d e l =
    same_there a x b c y d (same_tail w (a ++ x ∷ b) z (c ++ y ∷ d) e) (omega arith)

-- what is no row stands before none, and none before it
pub none_before : (rows : List DocRow) (x y : AtomIdValue) → find_row x rows ≡ None → false ≡ stands_before rows x y
none_before rows x y e = sym (ap (λ (o : Option DocRow). is_found_before o (find_row y rows)) e)

pub before_none : (rows : List DocRow) (x y : AtomIdValue) → find_row y rows ≡ None → false ≡ stands_before rows x y
before_none rows x y e = at (find_row x rows) ∙ sym (ap (λ (o : Option DocRow). is_found_before (find_row x rows) o) e)
  where
    at : (o : Option DocRow) → false ≡ is_found_before o None
    at None = refl
    at (Some r) = refl

module _ (p : Parts) (t : IsTree p) where
  abbrev first : ℕ → ℕ → Type 0
  first r s = stands_before (doc_rows p) (table p r).id (table p s).id ≡ true

  abbrev not_first : ℕ → ℕ → Type 0
  not_first r s = stands_before (doc_rows p) (table p r).id (table p s).id ≡ false

  -- a row stands before those that are shown behind it
  order_of : (front : List ℕ) (r : ℕ) (back : List ℕ) (s : ℕ) → shown p p.items ≡ front ++ r ∷ back → In s back
      → first r s × not_first s r
  order_of front r back s e m =
      let rows = doc_rows p in
      let apart = t.brackets.document.apart in
      let same = entries p t ∙ ap (map (table p)) e in
      let k : RowsAt (table p) front r back rows = rows_parted (table p) front r back rows same apart in
      let here : find_row (table p r).id rows ≡ Some k.row = found_at (table p) front r back rows same apart in
      let q : (w : DocRow) × In w k.after × (table p s ≡ entry_of w) =
      map_In entry_of (table p s) k.after (subst (In (table p s)) (sym k.after_is) (In-map (table p) s back m)) in
      let there : find_row (table p s).id rows ≡ Some q.0 =
      ap (λ (z : Entry). find_row z.id rows) q.2
      ∙ find_in rows q.0 apart (subst (In q.0) (sym k.is) (In-behind q.0 k.before k.row k.after q.1)) in
      let less : path_cmp k.row.path q.0.path ≡ Less =
      all_in (λ (w : DocRow). path_cmp k.row.path w.path ≡ Less) k.after
      (successive_back (λ (v w : DocRow). path_cmp v.path w.path ≡ Less) k.before (k.row ∷ k.after)
      (subst (Successive (λ (v w : DocRow). path_cmp v.path w.path ≡ Less)) k.is t.brackets.document.ascending)).0
      q.0 q.1 in (
        (λ i. is_found_before (here i) (there i)) ∙ ap is_lt less,
        (λ i. is_found_before (there i) (here i))
            ∙ ap is_lt (path_total.antisymm q.0.path k.row.path ∙ ap ordering_reverse less),
      )

  -- no row stands before itself
  not_itself : (x : AtomIdValue) → stands_before (doc_rows p) x x ≡ false
  not_itself x = at (find_row x (doc_rows p))
    where
      at : (o : Option DocRow) → is_found_before o o ≡ false
      at None = refl
      at (Some r) = ap is_lt (tied_itself path_total r.path)

  module _ (r s : ℕ) where
    -- two rows of one item stand as they are counted
    pub order_in : (name other rest more : ℕ) → StandsAt p r name rest → StandsAt p s other more → name ≡ other
        → nat_lt rest more ≡ stands_before (doc_rows p) (table p r).id (table p s).id
    order_in name other rest more l m e =
        let one : l.item ≡ m.item =
        one_item p.items t.apart l.item m.item l.there m.there (l.named ∙ e ∙ sym m.named) in
        let is : l.before ++ r ∷ l.after ≡ m.before ++ s ∷ m.after = sym l.is ∙ ap (shown_at p) one ∙ m.is in
        ⊎_elim
        (λ (k : rest < more).
        let i = behind_it l.before r l.after m.before s m.after is (omega (arith, l.long, m.long, k)) in
        let o = order_of (shown p (items_before name p.items) ++ l.before) r
        (l.after ++ shown p (items_after name p.items)) s (place_parts p t r name rest l)
        (In-front s l.after (shown p (items_after name p.items)) i) in
        lt-ltb rest more k ∙ sym o.0)
        (λ (k : more ≤ rest).
        le-ltb rest more k
        ∙ ⊎_elim
        (λ (h : more < rest).
        let i = behind_it m.before s m.after l.before r l.after (sym is) (omega (arith, l.long, m.long, h)) in
        let o = order_of (shown p (items_before other p.items) ++ m.before) s
        (m.after ++ shown p (items_after other p.items)) r (place_parts p t s other more m)
        (In-front r m.after (shown p (items_after other p.items)) i) in
        sym o.1)
        (λ (h : rest ≤ more).
        let same : r ≡ s = same_there l.before r l.after m.before s m.after is (omega (arith, l.long, m.long, h, k)) in
        sym (ap (λ (z : ℕ). stands_before (doc_rows p) (table p r).id (table p z).id) (sym same)
        ∙ not_itself (table p r).id))
        (cases_lt more rest))
        (cases_lt rest more)

    -- a row of an item that stands behind that of the other
    shown_behind : (name rest other : ℕ) (m : Item) → StandsAt p r name rest → In m p.items → m.name ≡ other
        → In s (shown_at p m) → name ≢ other → place_of name p.items ≤ place_of other p.items
        → first r s × not_first s r
    shown_behind name rest other m l i e k differ le =
        let q = item_in p t l.item l.there in
        let there : In m (items_after name p.items) =
        ⊎_elim
        (λ (j : In m (items_before l.item.name p.items)).
        let named : IsItem other (items_before name p.items) =
        subst (λ (x : ℕ). IsItem other (items_before x p.items)) l.named
        (subst (λ (x : ℕ). IsItem x (items_before l.item.name p.items)) e
        (In-map (λ (z : Item). z.name) m (items_before l.item.name p.items) j)) in
        let less = earlier name other p.items named in
        absurd (omega arith))
        (⊎_elim (λ (j : m ≡ l.item). absurd (differ (sym l.named ∙ (sym (ap (λ (z : Item). z.name) j) ∙ e))))
        (λ (j : In m (items_after l.item.name p.items)).
        subst (λ (x : ℕ). In m (items_after x p.items)) l.named j))
        (In-append m (items_before l.item.name p.items) (l.item ∷ items_after l.item.name p.items)
        (subst (In m) q.is i)) in
        order_of (shown p (items_before name p.items) ++ l.before) r (l.after ++ shown p (items_after name p.items)) s
        (place_parts p t r name rest l)
        (In-back s l.after (shown p (items_after name p.items))
        (shown_inside p (items_after name p.items) m s there k))

  at_place : (r name rest : ℕ) (l : StandsAt p r name rest) → In r (shown_at p l.item)
  at_place r name rest l = subst (In r) (sym l.is) (In-back r l.before (r ∷ l.after) (inl refl))

  -- and two of different items as their items
  pub order_of_items : (r s name other rest more : ℕ) → StandsAt p r name rest → StandsAt p s other more
      → name ≢ other → nat_lt (place_of name p.items) (place_of other p.items)
      ≡ stands_before (doc_rows p) (table p r).id (table p s).id
  order_of_items r s name other rest more l m differ =
      ⊎_elim
      (λ (k : place_of name p.items < place_of other p.items).
      let o = shown_behind r s name rest other m.item l m.there m.named (at_place s other more m) differ
      (omega (arith, k)) in
      lt-ltb (place_of name p.items) (place_of other p.items) k ∙ sym o.0)
      (λ (k : place_of other p.items ≤ place_of name p.items).
      let o = shown_behind s r other more name l.item m l.there l.named (at_place r name rest l)
      (λ e. differ (sym e)) k in
      le-ltb (place_of name p.items) (place_of other p.items) k ∙ sym o.1)
      (cases_lt (place_of name p.items) (place_of other p.items))
