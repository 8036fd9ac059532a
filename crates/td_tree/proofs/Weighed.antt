-- The weight of the tokens is the number of live rows, and a unit of it leads to its row.
use Rattle.std.proofs.Common.{◌≡◌, ◌-◌, ◌<◌, ◌≤◌, ℕ, zero, suc, List, [], ◌∷◌, ◌++◌, Bool, true, false}
use Rattle.std.proofs.Common.{if◌then◌else◌, length, nat_lt, refl, sym, ap, ◌∙◌, subst, inl, inr, arith}
use Rattle.std.proofs.Common.{length-append, Option, Some, None, slice_get}
use Rattle.std.specs.Option.{option_map}
use Rattle.std.proofs.lemmas.Bool.{ltb-true, ltb-false}
use Rattle.std.proofs.lemmas.Option.{slice_get-map}
use Rattle.std.proofs.lemmas.List.{length-map}
use Rattle.td_base.specs.Lists.{In}
use Rattle.td_base.proofs.Elements.{get_front}
use Rattle.td_base.proofs.Lists.{In-map}
use Rattle.td_base.specs.RunAtoms.{NamedAtom}
use Rattle.td_doc.specs.Document.{DocRow, row_id, live_rows, live_id_at, is_empty_list}
use Rattle.td_doc.specs.Array.{named}
use Rattle.td_list.specs.Items.{Item, IsItem, weight_of, share_at}
use Rattle.td_list.specs.declared.item.Share.{Share}
use Rattle.td_brackets.specs.Brackets.{Token, Open, Atom, Close, Leaf, Entry, atom_of, rows_of}
use Rattle.td_brackets.specs.RowNumbers.{row_numbers_at}
use Rattle.td_brackets.specs.Laws.{live_number, live_numbers}
use Rattle.td_tree.specs.Parts.{Parts, table, token_of, tokens_of, token_weight, IsToken}
use Rattle.td_brackets.proofs.Flattened.{live_atoms}

-- the k-th of two lists

pub get_back : {X : Type 0} (xs ys : List X) (k : ℕ) → length xs ≤ k → slice_get (xs ++ ys) k
    ≡ slice_get ys (k - length xs)
get_back [] ys k h = ap (slice_get ys) (minus_none k)
  where
    minus_none : (k : ℕ) → k ≡ k - 0
    minus_none k = omega arith
get_back (x ∷ xs) ys zero h = absurd (omega arith)
get_back (x ∷ xs) ys (suc k) h = get_back xs ys k (omega arith) ∙ ap (slice_get ys) (minus_one k (length xs))
  where
    minus_one : (k n : ℕ) → k - n ≡ suc k - suc n
    minus_one k n = omega arith

number_count : (table : ℕ → Entry) (t : Token) → length (live_number table t) ≡ token_weight table t
number_count table (Open r) = refl
number_count table (Atom r) = counted (is_empty_list (table r).deletes)
  where
    counted : (b : Bool) → length (if b then r ∷ [] else []) ≡ (if b then 1 else 0)
    counted true = refl
    counted false = refl
number_count table (Close r) = refl
number_count table (Leaf rs) = refl

module _ (p : Parts) where
  -- what is weighed
  pub weight_is : (items : List Item) → ((i : Item) → In i items → IsToken p i) → weight_of items
      ≡ length (live_numbers (table p) (tokens_of p items))
  weight_is [] h = refl
  weight_is (i ∷ items) h =
      let ih = weight_is items (λ j m. h j (inr m)) in
      let w = (h i (inl refl)).weighed in
      let c = number_count (table p) (token_of p i) in
      let l = length-append (live_number (table p) (token_of p i)) (live_numbers (table p) (tokens_of p items)) in
      omega arith

  -- the item with a unit of weight, and its row
  pub record Shared (items : List Item) (k : ℕ) (s : Share) : Type 0 where
    pub item : Item
    pub there : In item items
    pub name : item.name ≡ s.name
    pub within : s.rest < item.weight
    pub is : slice_get (live_numbers (table p) (tokens_of p items)) k
        ≡ slice_get (live_number (table p) (token_of p item)) s.rest

  shared_at : (i : Item) (items : List Item) (k : ℕ) (s : Share) → IsToken p i → (b : Bool) → nat_lt k i.weight ≡ b
      → Some s ≡ (if b then Some (record { name = i.name; rest = k }) else share_at (k - i.weight) items)
      → (Some s ≡ share_at (k - i.weight) items → Shared items (k - i.weight) s) → Shared (i ∷ items) k s
  shared_at i items k s token true e h ih =
      let is : s ≡ record { name = i.name; rest = k } = same_share s (record { name = i.name; rest = k }) h in
      let below : k < i.weight = ltb-true k i.weight e in
      let count = number_count (table p) (token_of p i) in
      let w = token.weighed in
      record {
        item = i;
        there = inl refl;
        name = ap (λ (r : Share). r.name) (sym is);
        within = subst (λ (r : Share). r.rest < i.weight) (sym is) below;
        is = get_front (live_number (table p) (token_of p i)) (live_numbers (table p) (tokens_of p items)) k
            (omega arith)
            ∙ ap (λ (r : Share). slice_get (live_number (table p) (token_of p i)) r.rest) (sym is);
      }
    where
      same_share : (s t : Share) → Some s ≡ Some t → s ≡ t
      same_share s t e = cc
  shared_at i items k s token false e h ih =
      let r = ih h in
      let above : i.weight ≤ k = ltb-false k i.weight e in
      let count = number_count (table p) (token_of p i) in
      let w = token.weighed in
      let same : length (live_number (table p) (token_of p i)) ≡ i.weight = omega arith in
      record {
        item = r.item;
        there = inr r.there;
        name = r.name;
        within = r.within;
        is = get_back (live_number (table p) (token_of p i)) (live_numbers (table p) (tokens_of p items)) k
            (omega arith)
            ∙ ap (λ (n : ℕ). slice_get (live_numbers (table p) (tokens_of p items)) (k - n)) same ∙ r.is;
      }

  pub shared : (items : List Item) → ((i : Item) → In i items → IsToken p i) → (k : ℕ) (s : Share) → Some s
      ≡ share_at k items → Shared items k s
  shared [] h k s e = absurd (no s e)
    where
      no : (s : Share) → Some s ≡ None → ⊥
      no s e = cc
  shared (i ∷ items) h k s e = shared_at i items k s (h i (inl refl)) (nat_lt k i.weight) refl e
      (λ g. shared items (λ j m. h j (inr m)) (k - i.weight) s g)

  beyond_at : (i : Item) (items : List Item) (k : ℕ) → IsToken p i → (b : Bool) → nat_lt k i.weight ≡ b
      → None ≡ (if b then Some (record { name = i.name; rest = k }) else share_at (k - i.weight) items)
      → (None ≡ share_at (k - i.weight) items → slice_get (live_numbers (table p) (tokens_of p items)) (k - i.weight)
      ≡ None)
      → slice_get (live_numbers (table p) (tokens_of p (i ∷ items))) k ≡ None
  beyond_at i items k token true e h ih = absurd (no (record { name = i.name; rest = k }) h)
    where
      no : (s : Share) → None ≡ Some s → ⊥
      no s e = cc
  beyond_at i items k token false e h ih =
      let above : i.weight ≤ k = ltb-false k i.weight e in
      let count = number_count (table p) (token_of p i) in
      let w = token.weighed in
      let same : length (live_number (table p) (token_of p i)) ≡ i.weight = omega arith in
      get_back (live_number (table p) (token_of p i)) (live_numbers (table p) (tokens_of p items)) k (omega arith)
      ∙ ap (λ (n : ℕ). slice_get (live_numbers (table p) (tokens_of p items)) (k - n)) same ∙ ih h

  pub beyond : (items : List Item) → ((i : Item) → In i items → IsToken p i) → (k : ℕ) → None ≡ share_at k items
      → slice_get (live_numbers (table p) (tokens_of p items)) k ≡ None
  beyond [] h k e = refl
  beyond (i ∷ items) h k e = beyond_at i items k (h i (inl refl)) (nat_lt k i.weight) refl e
      (λ g. beyond items (λ j m. h j (inr m)) (k - i.weight) g)

-- the live rows are those of the numbers
pub live_count : (table : ℕ → Entry) (tokens : List Token) → length (live_rows (rows_of table tokens))
    ≡ length (live_numbers table tokens)
live_count table tokens = sym (length-map (live_rows (rows_of table tokens)) named)
    ∙ ap (λ (xs : List NamedAtom). length xs) (live_atoms table [] tokens)
    ∙ length-map (live_numbers table tokens) (atom_of table)

pub live_id_is : (table : ℕ → Entry) (tokens : List Token) (k : ℕ) → live_id_at (rows_of table tokens) k
    ≡ option_map (λ (r : ℕ). (table r).id) (slice_get (live_numbers table tokens) k)
live_id_is table tokens k =
    through (slice_get (live_rows (rows_of table tokens)) k)
    ∙ ap (option_map (λ (a : NamedAtom). a.id)) (sym (slice_get-map named (live_rows (rows_of table tokens)) k)
    ∙ ap (λ (xs : List NamedAtom). slice_get xs k) (live_atoms table [] tokens)
    ∙ slice_get-map (atom_of table) (live_numbers table tokens) k)
    ∙ sym (over (slice_get (live_numbers table tokens) k))
  where
    through : (o : Option DocRow) → option_map row_id o ≡ option_map (λ (a : NamedAtom). a.id) (option_map named o)
    through None = refl
    through (Some r) = refl

    over : (o : Option ℕ) → option_map (λ (r : ℕ). (table r).id) o
        ≡ option_map (λ (a : NamedAtom). a.id) (option_map (atom_of table) o)
    over None = refl
    over (Some r) = refl

-- a unit of weight leads to its row among the rows of the item

unit_kind : (table : ℕ → Entry) (t : Token) (k : ℕ) → k < token_weight table t → slice_get (live_number table t) k
    ≡ slice_get (row_numbers_at t) k
unit_kind table (Open r) k h = absurd (omega arith)
unit_kind table (Atom r) k h = live (is_empty_list (table r).deletes) h
  where
    live : (b : Bool) → k < (if b then 1 else 0) → slice_get (if b then r ∷ [] else []) k ≡ slice_get (r ∷ []) k
    live true h = refl
    live false h = absurd (omega arith)
unit_kind table (Close r) k h = absurd (omega arith)
unit_kind table (Leaf rs) k h = refl

pub live_row_is : (p : Parts) → ((i : Item) → In i p.items → IsToken p i) → (k : ℕ) (s : Share) → Some s
    ≡ share_at k p.items → (result : Option ℕ)
    → ((i : Item) → In i p.items → i.name ≡ s.name → result ≡ slice_get (row_numbers_at (token_of p i)) s.rest)
    → live_id_at (rows_of (table p) (tokens_of p p.items)) k ≡ option_map (λ (r : ℕ). (table p r).id) result
live_row_is p each k s e result h =
    let w = shared p p.items each k s e in
    let weighed = (each w.item w.there).weighed in
    live_id_is (table p) (tokens_of p p.items) k
    ∙ ap (option_map (λ (r : ℕ). (table p r).id))
    (w.is ∙ unit_kind (table p) (token_of p w.item) s.rest (subst (λ (n : ℕ). s.rest < n) weighed w.within)
    ∙ sym (h w.item w.there w.name))

pub no_live_row : (p : Parts) → ((i : Item) → In i p.items → IsToken p i) → (k : ℕ) → None ≡ share_at k p.items
    → live_id_at (rows_of (table p) (tokens_of p p.items)) k ≡ None
no_live_row p each k e = live_id_is (table p) (tokens_of p p.items) k
    ∙ ap (option_map (λ (r : ℕ). (table p r).id)) (beyond p p.items each k e)

pub share_there : (p : Parts) → ((i : Item) → In i p.items → IsToken p i) → (k : ℕ) (s : Share) → Some s
    ≡ share_at k p.items → IsItem s.name p.items
share_there p each k s e =
    let w = shared p p.items each k s e in
    subst (λ (x : ℕ). IsItem x p.items) w.name (In-map (λ (i : Item). i.name) w.item p.items w.there)

pub live_is : (p : Parts) → ((i : Item) → In i p.items → IsToken p i) → weight_of p.items
    ≡ length (live_rows (rows_of (table p) (tokens_of p p.items)))
live_is p each = weight_is p p.items each ∙ sym (live_count (table p) (tokens_of p p.items))
