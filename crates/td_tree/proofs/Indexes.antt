-- The live rows before a row, counted by weight.
use Rattle.std.proofs.Common.{◌≡◌, ◌+◌, ◌≤◌, ◌^◌, ◌∙◌, ℕ, suc, List, [], ◌∷◌, ◌++◌, if◌then◌else◌}
use Rattle.std.proofs.Common.{length, map, refl, sym, ap, subst, inl, inr, arith}
use Rattle.td_base.specs.Value.{DotValue}
use Rattle.td_base.specs.Lists.{In}
use Rattle.td_base.proofs.Lists.{In-front, In-map}
use Rattle.td_doc.specs.Document.{is_empty_list}
use Rattle.td_doc.specs.Answers.{live_before}
use Rattle.td_list.specs.Items.{Item, weight_of, items_before, items_from, items_after}
use Rattle.td_list.proofs.Names.{weight-append}
use Rattle.td_list.proofs.Parted.{parts}
use Rattle.td_brackets.specs.Brackets.{Token, Open, Atom, Close, Leaf, Entry}
use Rattle.td_brackets.specs.RowNumbers.{row_numbers_at}
use Rattle.td_brackets.proofs.Entries.{live_count, live_before_is}
use Rattle.td_tree.specs.Parts.{Parts, table, token_of, tokens, token_weight, doc_rows, IsTree}
use Rattle.td_tree.specs.Reading.{shown_at, shown, StandsAt}
use Rattle.td_tree.proofs.Shown.{entries}
use Rattle.td_tree.proofs.Orders.{place_parts}

count-append : (table : ℕ → Entry) (xs ys : List ℕ) → live_count table (xs ++ ys)
    ≡ live_count table xs + live_count table ys
count-append table [] ys = omega arith
count-append table (x ∷ xs) ys = let ih = count-append table xs ys in omega arith

one_live : (e : Entry) → e.deletes ≡ [] → ◌≡◌ {A = ℕ} (if is_empty_list e.deletes then 1 else 0) 1
one_live e h = subst (λ (d : List DotValue). ◌≡◌ {A = ℕ} (if is_empty_list d then 1 else 0) 1) (sym h) refl

one_more : (n : ℕ) → 1 + n ≡ suc n
one_more n = omega arith

all_live : (table : ℕ → Entry) (rs : List ℕ) → ((r : ℕ) → In r rs → (table r).deletes ≡ []) → live_count table rs
    ≡ length rs
all_live table [] h = refl
all_live table (r ∷ rs) h = (λ i. one_live (table r) (h r (inl refl)) i + all_live table rs (λ s j. h s (inr j)) i)
    ∙ one_more (length rs)

weight_counts : (table : ℕ → Entry) (t : Token)
    → ((rs : List ℕ) (r : ℕ) → Leaf rs ≡ t → In r rs → (table r).deletes ≡ []) → token_weight table t
    ≡ live_count table (row_numbers_at t)
weight_counts table (Open r) h = refl
weight_counts table (Atom r) h = omega arith
weight_counts table (Close r) h = refl
weight_counts table (Leaf rs) h = sym (all_live table rs (λ r i. h rs r refl i))

front_counts : (table : ℕ → Entry) (t : Token) (before : List ℕ) (r : ℕ) (after : List ℕ) → row_numbers_at t ≡ before
    ++ r ∷ after
    → ((rs : List ℕ) (r : ℕ) → Leaf rs ≡ t → In r rs → (table r).deletes ≡ []) → live_count table before ≡ length before
front_counts table t [] r after e h = refl
front_counts table (Open x) (b ∷ before) r after e h = absurd cc
front_counts table (Atom x) (b ∷ before) r after e h = absurd (no before (tails x b before e))
  where
    tails : (x b : ℕ) (before : List ℕ) → x ∷ [] ≡ b ∷ (before ++ r ∷ after) → [] ≡ before ++ r ∷ after
    tails x b before e = cc

    no : (before : List ℕ) → [] ≡ before ++ r ∷ after → ⊥
    no [] e = cc
    no (c ∷ before) e = cc
front_counts table (Close x) (b ∷ before) r after e h = absurd cc
front_counts table (Leaf rs) (b ∷ before) r after e h =
    all_live table (b ∷ before) (λ s i. h rs s refl (subst (In s) (sym e) (In-front s (b ∷ before) (r ∷ after) i)))

module _ (p : Parts) (t : IsTree p) where
  token_live : (i : Item) → In i p.items → (rs : List ℕ) (r : ℕ) → Leaf rs ≡ token_of p i → In r rs
      → (table p r).deletes ≡ []
  token_live i m rs r e j = t.brackets.live rs r
      (subst (λ (q : Token). In q (tokens p)) (sym e) (In-map (token_of p) i p.items m)) j

  weigh_count : (items : List Item) → ((i : Item) → In i items → In i p.items) → weight_of items
      ≡ live_count (table p) (shown p items)
  weigh_count [] h = refl
  weigh_count (i ∷ items) h =
      let ih = weigh_count items (λ j m. h j (inr m)) in
      let m = h i (inl refl) in
      let w = (t.each i m).weighed ∙ weight_counts (table p) (token_of p i) (token_live i m) in
      let a = count-append (table p) (shown_at p i) (shown p items) in
      omega arith

  before_in : (name : ℕ) (i : Item) → In i (items_before name p.items) → In i p.items
  before_in name i m = subst (In i) (parts name p.items)
      (In-front i (items_before name p.items) (items_from name p.items) m)

  pub index_is : (r name rest : ℕ) → StandsAt p r name rest → weight_of (items_before name p.items) + rest
      ≡ live_before (table p r).id (doc_rows p)
  index_is r name rest l =
      let e = place_parts p t r name rest l in
      let all = live_before_is (table p) (shown p (items_before name p.items) ++ l.before) r
      (l.after ++ shown p (items_after name p.items)) (doc_rows p) (entries p t ∙ ap (map (table p)) e)
      t.brackets.document.apart in
      let a = count-append (table p) (shown p (items_before name p.items)) l.before in
      let w = weigh_count (items_before name p.items) (before_in name) in
      let b = front_counts (table p) (token_of p l.item) l.before r l.after l.is (token_live l.item l.there) in
      let long = l.long in
      omega arith

  pub light_before : (name : ℕ) → weight_of (items_before name p.items) ≤ 2 ^ 30
  light_before name =
      let a = weight-append (items_before name p.items) (items_from name p.items) in
      let e = ap weight_of (parts name p.items) in
      let light = t.light in
      let most = t.most in
      omega arith
