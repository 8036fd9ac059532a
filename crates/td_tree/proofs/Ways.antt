-- A leaf opened down to one of its rows, step by step, in the piece that is to come in its place.
use Rattle.std.proofs.Common.{◌≡◌, ◌≢◌, ◌+◌, ◌-◌, ◌/◌, ◌<◌, ◌≤◌, ℕ, zero, suc, List, [], ◌∷◌, ◌++◌, Bool, true}
use Rattle.std.proofs.Common.{false, if◌then◌else◌, nat_lt, length, get_or, set, take, drop, refl, sym, ap}
use Rattle.std.proofs.Common.{◌∙◌, subst, ⊎_elim, arith, append_assoc, length-append}
use Rattle.std.proofs.lemmas.Bool.{ltb-true, ltb-false, cases_eq}
use Rattle.td_base.specs.Lists.{In}
use Rattle.td_base.proofs.Lists.{In-append}
use Rattle.td_list.specs.Items.{Item, IsItem, AreApart, items_before, items_after, weight_of}
use Rattle.td_list.proofs.Names.{weight-append, apart-parts, apart-front, apart-back, item-append, item-front}
use Rattle.td_tree.specs.declared.stretch.Stretch.{Stretch}
use Rattle.td_tree.specs.declared.tree_row.RowState.TheVariants.{Node}
use Rattle.td_tree.specs.Parts.{RowValue, Parts, nobody, row_of_array, leaf_item, leaf_items}
use Rattle.td_tree.specs.Parts.{atom_item, open_item, close_item, node_items, IsPart, IsTree}
use Rattle.td_tree.specs.Ways.{nodes_at, opened_items, leaf_name, with_way, IsWay}
use Rattle.td_tree.proofs.Lists.{PartedAt}
use Rattle.td_tree.proofs.Opened.{IsOpened, is_opened, top_below}
use Rattle.td_tree.proofs.Opening.{parted_tree, more_nodes}
use Rattle.td_tree.proofs.Pieces.{node_items_weigh, leaf_items_weigh}
use Rattle.td_tree.proofs.Openings.{IsOnTheWay, begins, opened_more, goes_half, arrives, arrives_few}

pub nodes-append : (tops : List ℕ) (r : ℕ) (rows : List RowValue)
    → nodes_at (tops ++ r ∷ []) rows ≡ set (nodes_at tops rows) r
    (record { entry = (get_or (nodes_at tops rows) r nobody).entry; state = Node })
nodes-append [] r rows = refl
nodes-append (top ∷ tops) r rows = nodes-append tops r
    (set rows top (record { entry = (get_or rows top nobody).entry; state = Node }))

-- on the way down: so far the piece is a leaf on the way among what was opened
pub record IsGoing (p : Parts) (whole leaf : Stretch) (index : ℕ) (piece : List Item) (place : ℕ)
    (tops : List ℕ) : Type 0 where
  pub way : IsOnTheWay p (with_way p whole piece tops) whole leaf index
  pub known : (r : ℕ) → In r tops → r < length p.rows
  pub weighs : weight_of piece ≡ whole.len
  pub front : List Item
  pub back : List Item
  pub is : piece ≡ front ++ leaf_item p leaf.array leaf.from leaf.len ∷ back
  pub stands : length front ≡ place

leaf_some : (p : Parts) (a from n : ℕ) → 0 < n → leaf_items p a from n ≡ leaf_item p a from n ∷ []
leaf_some p a from zero some = absurd (omega arith)
leaf_some p a from (suc n) some = refl

take_front : (front rest : List Item) → take (length front) (front ++ rest) ≡ front
take_front [] rest = refl
take_front (i ∷ front) rest = ap (λ (is : List Item). i ∷ is) (take_front front rest)

drop_front : (front back : List Item) (x : Item) → drop (length front + 1) (front ++ x ∷ back) ≡ back
drop_front front back x = ap (λ (n : ℕ). drop n (front ++ x ∷ back)) (up (length front)) ∙ behind front
  where
    up : (n : ℕ) → n + 1 ≡ suc n
    up n = omega arith

    behind : (front : List Item) → drop (suc (length front)) (front ++ x ∷ back) ≡ back
    behind [] = refl
    behind (i ∷ front) = behind front

-- a leaf that is opened weighs as much as before
opened_weighs : (p : Parts) (a from n : ℕ) → 0 < n → weight_of (opened_items p a from n) ≡ n
opened_weighs p a from n some =
    let node = node_items_weigh (row_of_array p a (from + n / 2)) (leaf_items p a from (n / 2))
    (leaf_items p a (from + n / 2 + 1) (n - n / 2 - 1)) in
    let left = leaf_items_weigh p a from (n / 2) in
    let right = leaf_items_weigh p a (from + n / 2 + 1) (n - n / 2 - 1) in
    omega (arith, some)

-- the whole leaf in its own place
pub sets_out : (p : Parts) → IsTree p → (whole : Stretch) (index : ℕ) → IsPart p whole.array whole.from whole.len
    → In (leaf_item p whole.array whole.from whole.len) p.items
    → whole.from ≤ index → index < whole.from + whole.len
    → IsGoing p whole whole index (leaf_item p whole.array whole.from whole.len ∷ []) 0 []
sets_out p t whole index l there low high =
    let leaf : Item = leaf_item p whole.array whole.from whole.len in
    let at : PartedAt leaf p.items = parted_tree p t leaf there in
    let items : p.items ≡ items_before (leaf_name p whole) p.items
    ++ ((leaf ∷ []) ++ items_after (leaf_name p whole) p.items) =
    at.is ∙ (λ i. sym at.before i ++ leaf ∷ sym at.after i) in
    let same : p ≡ with_way p whole (leaf ∷ []) [] =
    λ i. record { items = items i; rows = p.rows; arrays = p.arrays; nodes = none p.nodes i; count = p.count } in
    record {
      way = subst (λ (q : Parts). IsOnTheWay p q whole whole index) same (begins p t whole index l there low high);
      known = λ r m. absurd m;
      weighs = omega arith;
      front = [];
      back = [];
      is = refl;
      stands = refl;
    }
  where
    none : (n : ℕ) → n ≡ n + 0
    none n = omega arith

module _ (p : Parts) (t : IsTree p) (whole leaf : Stretch) (index place : ℕ) (piece : List Item) (tops : List ℕ)
    (g : IsGoing p whole leaf index piece place tops) where
  abbrev q : Parts
  q = with_way p whole piece tops

  abbrev F : List Item
  F = items_before (leaf_name p whole) p.items

  abbrev B : List Item
  B = items_after (leaf_name p whole) p.items

  abbrev top : ℕ
  top = row_of_array p leaf.array (leaf.from + leaf.len / 2)

  abbrev before : Item
  before = leaf_item p leaf.array leaf.from (leaf.len / 2)

  abbrev after : Item
  after = leaf_item p leaf.array (leaf.from + leaf.len / 2 + 1) (leaf.len - leaf.len / 2 - 1)

  abbrev behind : List Item
  behind = leaf_items p leaf.array (leaf.from + leaf.len / 2 + 1) (leaf.len - leaf.len / 2 - 1)

  abbrev node : List Item
  node = opened_items p leaf.array leaf.from leaf.len

  -- after one step more
  abbrev pub next_piece : List Item
  next_piece = g.front ++ (opened_items p leaf.array leaf.from leaf.len ++ g.back)

  abbrev pub next_tops : List ℕ
  next_tops = tops ++ row_of_array p leaf.array (leaf.from + leaf.len / 2) ∷ []

  tree : IsTree q
  tree = g.way.kept.tree

  parts : q.items ≡ (F ++ g.front) ++ leaf_item q leaf.array leaf.from leaf.len ∷ (g.back ++ B)
  parts = ap (λ (is : List Item). F ++ (is ++ B)) g.is
      ∙ regroup F g.front (leaf_item p leaf.array leaf.from leaf.len) g.back B
    where
      regroup : (a b : List Item) (i : Item) (d e : List Item) → a ++ ((b ++ i ∷ d) ++ e) ≡ (a ++ b) ++ i ∷ (d ++ e)
      regroup a b i d e = ap (λ (is : List Item). a ++ is) (append_assoc b (i ∷ d) e)
          ∙ sym (append_assoc a b (i ∷ (d ++ e)))

  pub step : IsOpened q (with_way p whole next_piece next_tops) leaf.array leaf.from leaf.len
  step =
      subst (λ (s : Parts). IsOpened q s leaf.array leaf.from leaf.len)
      (λ i. record {
        items = sym (regroup F g.front node g.back B) i;
        rows = sym (nodes-append tops top p.rows) i;
        arrays = p.arrays;
        nodes = sym counts i;
        count = p.count;
      })
      (is_opened q tree leaf.array leaf.from leaf.len g.way.is (F ++ g.front) (g.back ++ B) parts)
    where
      regroup : (a b n d e : List Item) → a ++ ((b ++ (n ++ d)) ++ e) ≡ (a ++ b) ++ (n ++ (d ++ e))
      regroup a b n d e = simp append_assoc

      counts : p.nodes + length next_tops ≡ p.nodes + length tops + 1
      counts = let l = length-append tops (top ∷ []) in omega arith

  -- the piece with the leaf opened in it
  pub laid : take place piece ++ opened_items p leaf.array leaf.from leaf.len ++ drop (place + 1) piece ≡ next_piece
  laid =
      let leaf_there : Item = leaf_item p leaf.array leaf.from leaf.len in
      let front : take place piece ≡ g.front = (λ i. take (sym g.stands i) (g.is i))
      ∙ take_front g.front (leaf_there ∷ g.back) in
      let back : drop (place + 1) piece ≡ g.back = (λ i. drop (sym g.stands i + 1) (g.is i))
      ∙ drop_front g.front g.back leaf_there in
      (λ i. front i ++ node ++ back i) ∙ append_assoc g.front node g.back

  pub top_known : row_of_array p leaf.array (leaf.from + leaf.len / 2) < length p.rows
  top_known =
      let b = top_below q tree leaf.array leaf.from leaf.len g.way.is (F ++ g.front) (g.back ++ B) parts in
      let l = g.way.kept.long in
      omega arith

  pub next_known : (r : ℕ) → In r next_tops → r < length p.rows
  next_known r m = ⊎_elim (λ (i : In r tops). g.known r i)
      (λ (i : In r (top ∷ [])). ⊎_elim (λ (e : r ≡ top). subst (λ (x : ℕ). x < length p.rows) (sym e) top_known)
      (λ (n : In r []). absurd n) i) (In-append r tops (top ∷ []) m)

  pub next_weighs : weight_of next_piece ≡ whole.len
  next_weighs =
      let was = ap weight_of g.is ∙ weight-append g.front (leaf_item p leaf.array leaf.from leaf.len ∷ g.back) in
      let now = weight-append g.front (node ++ g.back) in
      let mid = weight-append node g.back in
      let one = opened_weighs p leaf.array leaf.from leaf.len g.way.is.some in
      let all = g.weighs in
      omega arith

  -- at the half with the row
  go_left : 0 < leaf.len / 2 → (next : Stretch) → next
      ≡ record { array = leaf.array; from = leaf.from; len = leaf.len / 2 }
      → IsOnTheWay p (with_way p whole next_piece next_tops) whole next index
      → IsGoing p whole next index next_piece (place + 1) next_tops
  go_left some next e w = record {
    way = w;
    known = next_known;
    weighs = next_weighs;
    front = g.front ++ open_item top ∷ [];
    back = atom_item top 1 ∷ (behind ++ close_item top ∷ []) ++ g.back;
    is =
        ap (λ (left : List Item). g.front ++ (node_items top left behind ++ g.back))
        (leaf_some p leaf.array leaf.from (leaf.len / 2) some)
        ∙ regroup g.front (open_item top) (leaf_item p leaf.array leaf.from (leaf.len / 2)) (atom_item top 1)
        (behind ++ close_item top ∷ []) g.back
        ∙ ap (λ (s : Stretch). (g.front ++ open_item top ∷ [])
        ++ leaf_item p s.array s.from s.len ∷ (atom_item top 1 ∷ (behind ++ close_item top ∷ []) ++ g.back))
        (sym e);
    stands = length-append g.front (open_item top ∷ []) ∙ ap (λ (n : ℕ). n + 1) g.stands;
  }
    where
      regroup : (f : List Item) (o l a : Item) (r b : List Item) → f ++ ((o ∷ (l ∷ [] ++ a ∷ r)) ++ b) ≡ (f ++ o ∷ [])
          ++ l ∷ ((a ∷ r) ++ b)
      regroup f o l a r b = sym (append_assoc f (o ∷ []) (l ∷ ((a ∷ r) ++ b)))

  go_right : 0 < leaf.len / 2 → 0 < leaf.len - leaf.len / 2 - 1 → (next : Stretch) → next
      ≡ record { array = leaf.array; from = leaf.from + leaf.len / 2 + 1; len = leaf.len - leaf.len / 2 - 1 }
      → IsOnTheWay p (with_way p whole next_piece next_tops) whole next index
      → IsGoing p whole next index next_piece (place + 3) next_tops
  go_right left right next e w = record {
    way = w;
    known = next_known;
    weighs = next_weighs;
    front = g.front ++ (open_item top ∷ (before ∷ (atom_item top 1 ∷ [])));
    back = close_item top ∷ g.back;
    is =
        (λ i. g.front ++ (node_items top (leaf_some p leaf.array leaf.from (leaf.len / 2) left i)
        (leaf_some p leaf.array (leaf.from + leaf.len / 2 + 1) (leaf.len - leaf.len / 2 - 1) right i) ++ g.back))
        ∙ regroup g.front (open_item top) before (atom_item top 1) after (close_item top) g.back
        ∙ ap (λ (s : Stretch). (g.front ++ (open_item top ∷ (before ∷ (atom_item top 1 ∷ []))))
        ++ leaf_item p s.array s.from s.len ∷ (close_item top ∷ g.back)) (sym e);
    stands = length-append g.front (open_item top ∷ (before ∷ (atom_item top 1 ∷ []))) ∙ ap (λ (n : ℕ). n + 3) g.stands;
  }
    where
      regroup : (f : List Item) (o l a r c : Item) (b : List Item) → f
          ++ ((o ∷ (l ∷ [] ++ a ∷ (r ∷ [] ++ c ∷ []))) ++ b) ≡ (f ++ (o ∷ (l ∷ (a ∷ [])))) ++ r ∷ (c ∷ b)
      regroup f o l a r c b = sym (append_assoc f (o ∷ (l ∷ (a ∷ []))) (r ∷ (c ∷ b)))

  pub goes_further : (next : Stretch) (to : ℕ) → leaf.from + leaf.len / 2 ≢ index
      → next ≡ (if nat_lt index (leaf.from + leaf.len / 2) then record
      { array = leaf.array; from = leaf.from; len = leaf.len / 2 } else record
      { array = leaf.array; from = leaf.from + leaf.len / 2 + 1; len = leaf.len - leaf.len / 2 - 1 })
      → to ≡ place + (if nat_lt index (leaf.from + leaf.len / 2) then 1 else 3)
      → IsGoing p whole next index next_piece to next_tops
  goes_further next to d e f = at (nat_lt index (leaf.from + leaf.len / 2)) refl
    where
      w : IsOnTheWay p (with_way p whole next_piece next_tops) whole next index
      w = goes_half p q (with_way p whole next_piece next_tops) whole leaf next index g.way step d e

      at : (b : Bool) → nat_lt index (leaf.from + leaf.len / 2) ≡ b → IsGoing p whole next index next_piece to next_tops
      at true h =
          let below : index < leaf.from + leaf.len / 2 = ltb-true index (leaf.from + leaf.len / 2) h in
          let low = g.way.low in
          subst (λ (n : ℕ). IsGoing p whole next index next_piece n next_tops)
          (sym (f ∙ ap (λ (b : Bool). place + (if b then 1 else 3)) h))
          (go_left (omega arith) next (e ∙ ap (λ (b : Bool). if b then record
          { array = leaf.array; from = leaf.from; len = leaf.len / 2 } else record
          { array = leaf.array; from = leaf.from + leaf.len / 2 + 1; len = leaf.len - leaf.len / 2 - 1 }) h) w)
      at false h =
          let above : leaf.from + leaf.len / 2 ≤ index = ltb-false index (leaf.from + leaf.len / 2) h in
          let high = g.way.high in
          let beyond : leaf.from + leaf.len / 2 < index = other (leaf.from + leaf.len / 2) index above d in
          subst (λ (n : ℕ). IsGoing p whole next index next_piece n next_tops)
          (sym (f ∙ ap (λ (b : Bool). place + (if b then 1 else 3)) h))
          (go_right (omega arith) (omega arith) next (e ∙ ap
          (λ (b : Bool). if b then record { array = leaf.array; from = leaf.from; len = leaf.len / 2 } else record
          { array = leaf.array; from = leaf.from + leaf.len / 2 + 1; len = leaf.len - leaf.len / 2 - 1 }) h) w)
        where
          other : (a b : ℕ) → a ≤ b → a ≢ b → a < b
          other a b l n = ⊎_elim (λ (e : a ≡ b). absurd (n e)) (λ (e : a ≢ b). omega arith) (cases_eq a b)

  -- at the row itself
  pub has_arrived : leaf.from + leaf.len / 2 ≡ index → IsPart p whole.array whole.from whole.len → IsTree p
      → IsWay p whole index next_piece next_tops
  has_arrived e l u =
      let s : Parts = with_way p whole next_piece next_tops in
      let apart : AreApart (F ++ (next_piece ++ B)) = step.tree.apart in
      record {
        kept = opened_more p q s leaf.array leaf.from leaf.len g.way.kept g.way.is step;
        node = arrives p q s whole leaf index g.way step e;
        few = λ d h. let n = arrives_few p q s whole leaf index g.way (omega (arith, step.nodes)) d h in omega arith;
        some = let w = next_weighs in has_some next_piece w;
        apart = apart-front next_piece B (apart-back F (next_piece ++ B) apart);
        new = λ x i j. ⊎_elim (λ (m : IsItem x F). apart-parts F (next_piece ++ B) apart x m
            (item-front x next_piece B i)) (λ (m : IsItem x B). apart-parts next_piece B
            (apart-back F (next_piece ++ B) apart) x i m) (item-append x F B j);
        light = let w = next_weighs in let c = u.light in let m = u.most in let a = u.short whole.array l.array in
            let b = l.within in omega arith;
        known = next_known;
        counted = let m = more_nodes q tree in let n = step.nodes in omega arith;
      }
    where
      has_some : (items : List Item) → weight_of items ≡ whole.len → 0 < length items
      has_some [] w = let s = l.some in omega arith
      has_some (i ∷ items) w = omega arith
