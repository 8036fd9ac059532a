-- The stretch of a slot, before its leaf is put.
use Rattle.std.proofs.Common.{◌≡◌, ◌≢◌, ◌⊎◌, ◌+◌, ◌*◌, ◌/◌, ◌<◌, ◌≤◌, ◌^◌, ℕ, zero, suc, List, [], ◌∷◌, ◌++◌}
use Rattle.std.proofs.Common.{length, get_or, refl, sym, ap, ◌∙◌, subst, inl, inr, ⊎_elim, arith, append_assoc}
use Rattle.std.proofs.Common.{length-append, Option, Some, None, false, true≢false}
use Rattle.std.specs.Prelude.{◌==◌}
use Rattle.td_base.specs.Lists.{In, Successive}
use Rattle.td_base.proofs.Lists.{In-append, In-front, In-back, map_In, all_in}
use Rattle.td_path.specs.declared.slot.Slot.{Slot}
use Rattle.td_list.specs.Items.{Item, IsItem, AreApart, AreNew, items_before, items_from_end}
use Rattle.td_list.specs.Items.{first_name, place_of, replace, weight_of}
use Rattle.td_list.proofs.Names.{weight-append, apart-parts, item-back}
use Rattle.td_list.proofs.Parted.{before_at}
use Rattle.td_brackets.specs.Brackets.{Token, Open, Atom, Close, Leaf, Entry, numbers_of, IsBrackets}
use Rattle.td_brackets.specs.Laws.{live_number, live_numbers}
use Rattle.td_tree.specs.Parts.{RowValue, Parts, nobody, row_at, state_at, IsFlattened, array_at, table}
use Rattle.td_tree.specs.Parts.{tokens_of, tokens, nodes_of, atom_item, leaf_items, IsTree}
use Rattle.td_tree.specs.Walks.{IsStretch}
use Rattle.td_tree.specs.declared.tree_row.RowState.TheVariants.{InArray, Gone}
use Rattle.std.proofs.lemmas.List.{get_or_push}
use Rattle.td_brackets.specs.RowNumbers.{row_numbers}
use Rattle.td_brackets.proofs.Entries.{row_numbers-append}
use Rattle.td_brackets.proofs.Flattened.{live_apart}
use Rattle.td_tree.specs.Stretches.{open_numbers, leaf_of, IsFound, IsSlotStretch}
use Rattle.td_tree.proofs.ItemTokens.{tokens-append}
use Rattle.td_tree.proofs.Lists.{rest_back}
use Rattle.td_tree.proofs.Pieces.{nodes-append}
use Rattle.td_tree.proofs.Gathered.{in_place, alone, live_number_in, weight_count, is_gathered}
use Rattle.td_tree.proofs.Grown.{number_known, rows_long}

pub opens_long : (ts : List Token) → length (open_numbers ts) ≡ nodes_of ts
opens_long [] = refl
opens_long (Open r ∷ ts) = let ih = opens_long ts in omega arith
opens_long (Atom r ∷ ts) = let ih = opens_long ts in omega arith
opens_long (Close r ∷ ts) = let ih = opens_long ts in omega arith
opens_long (Leaf rs ∷ ts) = let ih = opens_long ts in omega arith

pub open_in : (ts : List Token) (r : ℕ) → In r (open_numbers ts) → In r (numbers_of ts)
open_in [] r i = absurd i
open_in (Open s ∷ ts) r i = ⊎_elim (λ (e : r ≡ s). inl e) (λ (k : In r (open_numbers ts)). inr (open_in ts r k)) i
open_in (Atom s ∷ ts) r i = open_in ts r i
open_in (Close s ∷ ts) r i = open_in ts r i
open_in (Leaf rs ∷ ts) r i = In-back r rs (numbers_of ts) (open_in ts r i)

-- a row of tokens has brackets or is one of a leaf's, which are live
pub open_or_live : (table : ℕ → Entry) (ts : List Token) (r : ℕ) → In r (numbers_of ts) → In r (open_numbers ts)
    ⊎ In r (live_numbers table ts)
open_or_live table [] r i = absurd i
open_or_live table (Open s ∷ ts) r i = ⊎_elim (λ (e : r ≡ s). inl (inl e))
    (λ (k : In r (numbers_of ts)). ⊎_elim (λ (l : In r (open_numbers ts)). inl (inr l))
    (λ (l : In r (live_numbers table ts)). inr l) (open_or_live table ts r k)) i
open_or_live table (Atom s ∷ ts) r i = ⊎_elim (λ (l : In r (open_numbers ts)). inl l)
    (λ (l : In r (live_numbers table ts)). inr (In-back r (live_number table (Atom s)) (live_numbers table ts) l))
    (open_or_live table ts r i)
open_or_live table (Close s ∷ ts) r i = open_or_live table ts r i
open_or_live table (Leaf rs ∷ ts) r i =
    ⊎_elim (λ (k : In r rs). inr (In-front r rs (live_numbers table ts) k))
    (λ (k : In r (numbers_of ts)). ⊎_elim (λ (l : In r (open_numbers ts)). inl l)
    (λ (l : In r (live_numbers table ts)). inr (In-back r rs (live_numbers table ts) l))
    (open_or_live table ts r k)) (In-append r rs (numbers_of ts) i)

-- rows with identities of their own stand at one place each
pub apart_places : (table : ℕ → Entry) (xs : List ℕ) → Successive (λ (r s : ℕ). (table r).id ≢ (table s).id) xs
    → (i j : ℕ) → i < length xs → j < length xs → get_or xs i 0 ≡ get_or xs j 0 → i ≡ j
apart_places table [] a i j l m e = absurd (omega arith)
apart_places table (x ∷ xs) a zero zero l m e = refl
apart_places table (x ∷ xs) a zero (suc j) l m e =
    absurd (all_in (λ (y : ℕ). (table x).id ≢ (table y).id) xs a.0 (get_or xs j 0) (in_place xs 0 j (omega arith))
    (ap (λ (y : ℕ). (table y).id) e))
apart_places table (x ∷ xs) a (suc i) zero l m e =
    absurd (all_in (λ (y : ℕ). (table x).id ≢ (table y).id) xs a.0 (get_or xs i 0) (in_place xs 0 i (omega arith))
    (ap (λ (y : ℕ). (table y).id) (sym e)))
apart_places table (x ∷ xs) a (suc i) (suc j) l m e =
    ap suc (apart_places table xs a.1 i j (omega arith) (omega arith) e)

-- the leaf as that of the array
pub leaf_is : (q : Parts) (a : ℕ) (L : List ℕ) → array_at q a ≡ L → leaf_of L ≡ leaf_items q a 0 (length L)
leaf_is q a [] e = refl
leaf_is q a (x ∷ xs) e = ap (λ (ys : List ℕ). atom_item (get_or ys (length (x ∷ xs) / 2) 0) (length (x ∷ xs)) ∷ [])
    (sym e) ∙ at (length (x ∷ xs)) (length (x ∷ xs) / 2) refl (omega arith)
  where
    at : (n h : ℕ) → n ≡ length (x ∷ xs) → h ≡ 0 + n / 2 → atom_item (get_or (array_at q a) h 0) n ∷ []
        ≡ leaf_items q a 0 n
    at zero h f g = absurd (omega arith)
    at (suc n) h f g = ap (λ (k : ℕ). atom_item (get_or (array_at q a) k 0) (suc n) ∷ []) g

pub not_none : (n : ℕ) → (n == 0) ≡ false → 0 < n
not_none zero e = absurd (true≢false e)
not_none (suc n) e = omega arith

pub leaf_some : (L : List ℕ) → 0 < length L → leaf_of L ≡ atom_item (get_or L (length L / 2) 0) (length L) ∷ []
leaf_some [] h = absurd (omega arith)
leaf_some (x ∷ xs) h = refl

pub leaf_name : (L : List ℕ) (x : ℕ) → IsItem x (leaf_of L) → (0 < length L) × (x ≡ 3 * get_or L (length L / 2) 0 + 1)
leaf_name [] x i = absurd i
leaf_name (y ∷ ys) x i = ⊎_elim (λ (e : x ≡ 3 * get_or (y ∷ ys) (length (y ∷ ys) / 2) 0 + 1). (omega arith, e))
    (λ (z : ⊥). absurd z) i

module _ (p : Parts) (t : IsTree p) (slot : Slot) (first : ℕ) (end : Option ℕ) (s : IsSlotStretch p slot first end)
  where
    abbrev st : IsStretch p (Some first) end
    st = s.stretch

    abbrev L : List ℕ
    L = live_numbers (table p) (tokens_of p s.stretch.inner)

    apart : AreApart (st.front ++ (st.inner ++ st.back))
    apart = subst AreApart st.is t.apart

    same_some : (x y : ℕ) → Some x ≡ Some y → x ≡ y
    same_some x y e = cc

    -- its first item
    begin : (inner : List Item) → 0 < length inner → first_name (inner ++ st.back) ≡ Some first → (i : Item)
        × (rest : List Item) × (inner ≡ i ∷ rest) × (i.name ≡ first)
    begin [] l e = absurd (omega arith)
    begin (i ∷ rest) l e = (i, rest, refl, same_some i.name first e)

    abbrev head : (i : Item) × (rest : List Item) × (st.inner ≡ i ∷ rest) × (i.name ≡ first)
    head = begin st.inner s.some st.starts

    parts : p.items ≡ st.front ++ head.0 ∷ (head.1 ++ st.back)
    parts = st.is ∙ ap (λ (xs : List Item). st.front ++ (xs ++ st.back)) head.2

    pub before_is : items_before first p.items ≡ st.front
    before_is =
        ap (items_before first) parts
        ∙ before_at first st.front head.0 (head.1 ++ st.back) head.3
        (λ k. apart-parts st.front (head.0 ∷ (head.1 ++ st.back)) (subst AreApart parts t.apart) first k
        (inl (sym head.3)))

    pub end_is : items_from_end end p.items ≡ st.back
    end_is =
        (λ i. items_from_end (sym st.ends i) ((st.is ∙ sym (append_assoc st.front st.inner st.back)) i))
        ∙ rest_back (st.front ++ st.inner) st.back (subst AreApart
        (st.is ∙ sym (append_assoc st.front st.inner st.back)) t.apart)

    pub first_there : IsItem first p.items
    first_there = subst (IsItem first) (sym parts)
        (item-back first st.front (head.0 ∷ (head.1 ++ st.back)) (inl (sym head.3)))

    pub end_there : (x : ℕ) → end ≡ Some x → IsItem x p.items × (place_of first p.items ≤ place_of x p.items)
    end_there x e = at st.back (st.ends ∙ e) (st.is ∙ sym (append_assoc st.front st.inner st.back))
      where
        no : (x : ℕ) → None ≡ Some x → ⊥
        no x e = cc

        at : (back : List Item) → first_name back ≡ Some x → p.items ≡ (st.front ++ st.inner) ++ back → IsItem x p.items
            × (place_of first p.items ≤ place_of x p.items)
        at [] f is = absurd (no x f)
        at (i ∷ back) f is =
            let name : i.name ≡ x = same_some i.name x f in
            let apart' : AreApart ((st.front ++ st.inner) ++ i ∷ back) = subst AreApart is t.apart in
            let before : items_before x p.items ≡ st.front ++ st.inner =
            ap (items_before x) is ∙ before_at x (st.front ++ st.inner) i back name
            (λ k. apart-parts (st.front ++ st.inner) (i ∷ back) apart' x k (inl (sym name))) in
            let one = ap (λ (xs : List Item). length xs) before in
            let two = ap (λ (xs : List Item). length xs) before_is in
            let three = length-append st.front st.inner in
            (subst (IsItem x) (sym is) (item-back x (st.front ++ st.inner) (i ∷ back) (inl (sym name))), omega arith)

    in_inner : (i : Item) → In i st.inner → In i p.items
    in_inner i m = subst (In i) (sym st.is) (In-back i st.front (st.inner ++ st.back) (In-front i st.inner st.back m))

    pub live_below : (k : ℕ) → k < length L → get_or L k 0 < length p.rows
    live_below k m = number_known p t st.inner in_inner (get_or L k 0)
        (live_number_in p t st.front st.inner st.back st.is s.word slot s.flat (get_or L k 0) (in_place L 0 k m))

    pub live_few : length L ≤ 2 ^ 30
    live_few =
        let heavy = weight_count p t st.inner in_inner in
        let light = t.light in
        let most = t.most in
        let one = ap weight_of st.is ∙ weight-append st.front (st.inner ++ st.back) in
        let two = weight-append st.inner st.back in
        omega arith

    pub opens_few : length (open_numbers (tokens_of p st.inner)) ≤ p.nodes
    opens_few =
        let c = t.counted in
        let one = ap (λ (items : List Item). nodes_of (tokens_of p items)) st.is
        ∙ ap nodes_of (tokens-append p st.front (st.inner ++ st.back))
        ∙ nodes-append (tokens_of p st.front) (tokens_of p (st.inner ++ st.back)) in
        let two = ap nodes_of (tokens-append p st.inner st.back)
        ∙ nodes-append (tokens_of p st.inner) (tokens_of p st.back) in
        let three = opens_long (tokens_of p st.inner) in
        omega arith

    pub open_below : (r : ℕ) → In r (open_numbers (tokens_of p st.inner)) → r < length p.rows
    open_below r m = number_known p t st.inner in_inner r (open_in (tokens_of p st.inner) r m)

    pub leaf_new : AreNew (leaf_of L) (items_before first p.items ++ items_from_end end p.items)
    leaf_new = subst (AreNew (leaf_of L)) (λ i. sym before_is i ++ sym end_is i) (λ x i j. new x i j)
      where
        new : (x : ℕ) → IsItem x (leaf_of L) → IsItem x (st.front ++ st.back) → ⊥
        new x i j =
            let n = leaf_name L x i in
            let k = map_In (λ (y : Item). y.name) x (st.front ++ st.back) j in
            let top : ℕ = get_or L (length L / 2) 0 in
            alone p t st.front st.inner st.back st.is s.word slot s.flat k.0 (In-append k.0 st.front st.back k.1) top
            (live_number_in p t st.front st.inner st.back st.is s.word slot s.flat top
            (in_place L 0 (length L / 2) (half (length L) n.0))) (inl (third top k.0.name x n.1 k.2))
          where
            half : (n : ℕ) → 0 < n → n / 2 < n
            half n h = omega arith

            third : (u m x : ℕ) → x ≡ 3 * u + 1 → x ≡ m → u ≡ m / 3
            third u m x e f = omega arith

    in_outer : (i : Item) → In i p.items → In i p.items
    in_outer i m = m

    was_tokens : tokens p ≡ tokens_of p st.front ++ (tokens_of p st.inner ++ tokens_of p st.back)
    was_tokens = ap (tokens_of p) st.is ∙ tokens-append p st.front (st.inner ++ st.back)
        ∙ ap (λ (q : List Token). tokens_of p st.front ++ q) (tokens-append p st.inner st.back)

    pub live_places : (i j : ℕ) → i < length L → j < length L → get_or L i 0 ≡ get_or L j 0 → i ≡ j
    live_places = apart_places (table p) L (live_apart (table p) (tokens_of p st.front) (tokens_of p st.inner)
        (tokens_of p st.back) s.word (subst (IsBrackets (table p)) was_tokens t.brackets))

    pub dead_below : (live nodes : List ℕ) (dead : ℕ) → IsFound p (tokens_of p st.inner) live nodes dead
        → dead ≤ p.count
    dead_below live nodes dead f =
        let d = f.dead_is in
        let all = t.all in
        let long = rows_long (table p) [] (tokens p) in
        let one = ap (λ (ts : List Token). length (row_numbers ts)) was_tokens
        ∙ ap (λ (xs : List ℕ). length xs) (row_numbers-append (tokens_of p st.front)
        (tokens_of p st.inner ++ tokens_of p st.back)) in
        let two = ap (λ (xs : List ℕ). length xs) (row_numbers-append (tokens_of p st.inner) (tokens_of p st.back)) in
        let three = length-append (row_numbers (tokens_of p st.front))
        (row_numbers (tokens_of p st.inner ++ tokens_of p st.back)) in
        let four = length-append (row_numbers (tokens_of p st.inner)) (row_numbers (tokens_of p st.back)) in
        omega arith

    -- what the steps make of it
    pub flattened : (q : Parts) → q.items ≡ replace first end (leaf_of L) p.items → q.arrays ≡ p.arrays ++ L ∷ []
        → (rows : List RowValue) → length rows ≡ length p.rows → ((r : ℕ) → (get_or rows r nobody).entry ≡ table p r)
        → ((r : ℕ) → In r (open_numbers (tokens_of p st.inner)) → (get_or rows r nobody).state ≡ Gone)
        → ((r : ℕ) → (In r (open_numbers (tokens_of p st.inner)) → ⊥) → get_or rows r nobody ≡ row_at p r)
        → length q.rows ≡ length rows → ((r : ℕ) → table q r ≡ (get_or rows r nobody).entry)
        → ((j : ℕ) → j < length L → state_at q (get_or L j 0) ≡ InArray (length p.arrays) j)
        → ((r : ℕ) → (In r L → ⊥) → row_at q r ≡ get_or rows r nobody)
        → q.nodes + length (open_numbers (tokens_of p st.inner)) ≡ p.nodes → (live nodes : List ℕ) (dead : ℕ)
        → IsFound p (tokens_of p st.inner) live nodes dead → q.count + dead ≡ p.count → IsFlattened p q slot
    flattened q items arrays rows long1 entries1 gone others1 long2 entries2 inside others2 nodes live opens dead f
        count =
        is_gathered p t st.front st.inner st.back st.is s.word slot s.flat q
        (items ∙ (λ i. before_is i ++ leaf_of L ++ end_is i) ∙ append_assoc st.front (leaf_of L) st.back
        ∙ ap (λ (xs : List Item). st.front ++ (xs ++ st.back))
        (leaf_is q (length p.arrays) L (ap (λ (xs : List (List ℕ)). get_or xs (length p.arrays) []) arrays
        ∙ get_or_push p.arrays L [] (length p.arrays) refl)))
        arrays (λ i r. (entries2 r ∙ entries1 r) i) (long2 ∙ long1) inside
        (λ r m n. ap (λ (v : RowValue). v.state) (others2 r n)
        ∙ ⊎_elim (λ (k : In r (open_numbers (tokens_of p st.inner))). gone r k) (λ (k : In r L). absurd (n k))
        (open_or_live (table p) (tokens_of p st.inner) r m))
        (λ r n. others2 r (λ k. n (live_number_in p t st.front st.inner st.back st.is s.word slot s.flat r k))
        ∙ others1 r (λ k. n (open_in (tokens_of p st.inner) r k)))
        (let o = opens_long (tokens_of p st.inner) in omega arith)
        (let d = f.dead_is in let l = ap (λ (xs : List ℕ). length xs) f.live_is in omega arith)
