-- Leaves opened one after another, down to a row.
use Rattle.std.proofs.Common.{◌≡◌, ◌≢◌, ◌+◌, ◌-◌, ◌*◌, ◌/◌, ◌<◌, ◌≤◌, ◌^◌, ℕ, zero, suc, List, []}
use Rattle.std.proofs.Common.{◌∷◌, ◌++◌, Bool, true, false, if◌then◌else◌, nat_lt, length, get_or}
use Rattle.std.proofs.Common.{refl, sym, ap, ◌∙◌, subst, ⊎_elim, arith}
use Rattle.std.proofs.lemmas.Bool.{ltb-true, ltb-false, cases_eq}
use native.Mathlib.Numerals.{unary_clauses}
use Rattle.td_base.specs.Lists.{In, Successive}
use Rattle.td_base.proofs.Lists.{In-front, In-back, In-map, across}
use Rattle.td_brackets.specs.Brackets.{Token, Leaf, Entry, numbers_at, numbers_of}
use Rattle.td_tree.specs.declared.stretch.Stretch.{Stretch}
use Rattle.td_tree.specs.declared.tree_row.RowState.TheVariants.{Node, InArray, Gone}
use Rattle.td_tree.specs.Parts.{RowValue, Parts, state_at, array_at, part, row_of_array, table}
use Rattle.td_tree.specs.Parts.{token_of, tokens, IsPart, leaf_item, IsTree, IsMoreOpen}
use Rattle.td_tree.proofs.ArrayParts.{part_in, part_length}
use Rattle.td_tree.proofs.ItemTokens.{leaf_token}
use Rattle.td_tree.proofs.Opened.{IsOpened}

pub not_opened : (p : Parts) → IsTree p → IsMoreOpen p p
not_opened p t = record { tree = t; rows = refl; entries = refl; long = refl; gone = λ r e. e }

gone_not_array : (a i : ℕ) → Gone ≡ InArray a i → ⊥
gone_not_array a i e = cc

pub opened_more : (p q s : Parts) (a from n : ℕ) → IsMoreOpen p q → IsPart q a from n → IsOpened q s a from n
    → IsMoreOpen p s
opened_more p q s a from n m l o = record {
  tree = o.tree;
  rows = o.rows ∙ m.rows;
  entries = o.entries ∙ m.entries;
  long = o.long ∙ m.long;
  gone = λ r e.
      ⊎_elim
      (λ (f : r ≡ row_of_array q a (from + n / 2)).
      let some = l.some in
      absurd (gone_not_array a (from + n / 2) (sym (m.gone r e) ∙ ap (state_at q) f
      ∙ l.stand (from + n / 2) (omega arith) (omega arith))))
      (λ (f : r ≢ row_of_array q a (from + n / 2)). ap (λ (v : RowValue). v.state) (o.others r f) ∙ m.gone r e)
      (cases_eq r (row_of_array q a (from + n / 2)));
}

-- a leaf on the way down: there, with the row in it, and so many steps from the first
pub record IsOnTheWay (p q : Parts) (whole leaf : Stretch) (index : ℕ) : Type 0 where
  pub kept : IsMoreOpen p q
  pub array : leaf.array ≡ whole.array
  pub rows : row_of_array q whole.array index ≡ row_of_array p whole.array index
  pub is : IsPart q leaf.array leaf.from leaf.len
  pub there : In (leaf_item q leaf.array leaf.from leaf.len) q.items
  pub low : leaf.from ≤ index
  pub high : index < leaf.from + leaf.len
  pub few : (d : ℕ) → whole.len < 2 ^ d → (e : ℕ) × (leaf.len < 2 ^ e) × (q.nodes + e ≤ p.nodes + d)

pub begins : (p : Parts) → IsTree p → (whole : Stretch) (index : ℕ) → IsPart p whole.array whole.from whole.len
    → In (leaf_item p whole.array whole.from whole.len) p.items → whole.from ≤ index → index < whole.from + whole.len
    → IsOnTheWay p p whole whole index
begins p t whole index l i low high = record {
  kept = not_opened p t;
  array = refl;
  rows = refl;
  is = l;
  there = i;
  low = low;
  high = high;
  few = λ d h. (d, h, omega arith);
}

half_few : (n e : ℕ) → 0 < n → n < 2 ^ e → (f : ℕ) × (e ≡ suc f) × (n / 2 < 2 ^ f) × (n - n / 2 - 1 < 2 ^ f)
half_few n zero s h = absurd (none n s h)
  where
    none : (n : ℕ) → 0 < n → n < 2 ^ 0 → ⊥
    none n s h = omega arith
half_few n (suc f) s h = (f, refl, less n (2 ^ f) (simp unary_clauses at h), rest n (2 ^ f) (simp unary_clauses at h))
  where
    less : (n m : ℕ) → n < m * 2 → n / 2 < m
    less n m h = omega arith

    rest : (n m : ℕ) → n < m * 2 → n - n / 2 - 1 < m
    rest n m h = omega arith

abbrev half_at : Stretch → ℕ → Bool → Stretch
half_at leaf index b =
    if b then record { array = leaf.array; from = leaf.from; len = leaf.len / 2 }
    else record { array = leaf.array; from = leaf.from + leaf.len / 2 + 1; len = leaf.len - leaf.len / 2 - 1 }

-- one step further
pub goes_on : (p q s : Parts) (whole leaf : Stretch) (index : ℕ) → IsOnTheWay p q whole leaf index
    → IsOpened q s leaf.array leaf.from leaf.len → (leaf.from + leaf.len / 2 ≢ index)
    → (b : Bool) → nat_lt index (leaf.from + leaf.len / 2) ≡ b → IsOnTheWay p s whole (half_at leaf index b) index
goes_on p q s whole leaf index w o d true e =
    let below : index < leaf.from + leaf.len / 2 = ltb-true index (leaf.from + leaf.len / 2) e in
    let low = w.low in
    let some : 0 < leaf.len / 2 = omega arith in
    let half : IsPart s leaf.array leaf.from (leaf.len / 2)
    × In (leaf_item s leaf.array leaf.from (leaf.len / 2)) s.items = o.before some in
    record {
      kept = opened_more p q s leaf.array leaf.from leaf.len w.kept w.is o;
      array = w.array;
      rows = ap (λ (arrays : List (List ℕ)). get_or (get_or arrays whole.array []) index 0) o.arrays ∙ w.rows;
      is = half.0;
      there = half.1;
      low = low;
      high = below;
      few = λ k h.
          let f : (x : ℕ) × (leaf.len < 2 ^ x) × (q.nodes + x ≤ p.nodes + k) = w.few k h in
          let g : (y : ℕ) × (f.0 ≡ suc y) × (leaf.len / 2 < 2 ^ y)
          × (leaf.len - leaf.len / 2 - 1 < 2 ^ y) = half_few leaf.len f.0 w.is.some f.1 in
          (g.0, g.2, step q.nodes s.nodes f.0 g.0 (p.nodes + k) o.nodes g.1 f.2);
    }
  where
    step : (a b x y m : ℕ) → b ≡ a + 1 → x ≡ suc y → a + x ≤ m → b + y ≤ m
    step a b x y m e f h = omega arith
goes_on p q s whole leaf index w o d false e =
    let above : leaf.from + leaf.len / 2 ≤ index = ltb-false index (leaf.from + leaf.len / 2) e in
    let high = w.high in
    let beyond : leaf.from + leaf.len / 2 < index = other (leaf.from + leaf.len / 2) index above d in
    let some : 0 < leaf.len - leaf.len / 2 - 1 = omega arith in
    let half : IsPart s leaf.array (leaf.from + leaf.len / 2 + 1) (leaf.len - leaf.len / 2 - 1)
    × In (leaf_item s leaf.array (leaf.from + leaf.len / 2 + 1) (leaf.len - leaf.len / 2 - 1)) s.items =
    o.after some in
    record {
      kept = opened_more p q s leaf.array leaf.from leaf.len w.kept w.is o;
      array = w.array;
      rows = ap (λ (arrays : List (List ℕ)). get_or (get_or arrays whole.array []) index 0) o.arrays ∙ w.rows;
      is = half.0;
      there = half.1;
      low = omega arith;
      high = omega arith;
      few = λ k h.
          let f : (x : ℕ) × (leaf.len < 2 ^ x) × (q.nodes + x ≤ p.nodes + k) = w.few k h in
          let g : (y : ℕ) × (f.0 ≡ suc y) × (leaf.len / 2 < 2 ^ y)
          × (leaf.len - leaf.len / 2 - 1 < 2 ^ y) = half_few leaf.len f.0 w.is.some f.1 in
          (g.0, g.3, step q.nodes s.nodes f.0 g.0 (p.nodes + k) o.nodes g.1 f.2);
    }
  where
    step : (a b x y m : ℕ) → b ≡ a + 1 → x ≡ suc y → a + x ≤ m → b + y ≤ m
    step a b x y m e f h = omega arith

    other : (a b : ℕ) → a ≤ b → a ≢ b → a < b
    other a b h n = ⊎_elim (λ (e : a ≡ b). absurd (n e)) (λ (e : a ≢ b). omega arith) (cases_eq a b)

pub goes_half : (p q s : Parts) (whole leaf next : Stretch) (index : ℕ) → IsOnTheWay p q whole leaf index
    → IsOpened q s leaf.array leaf.from leaf.len → (leaf.from + leaf.len / 2 ≢ index)
    → next ≡ (if nat_lt index (leaf.from + leaf.len / 2) then record
    { array = leaf.array; from = leaf.from; len = leaf.len / 2 } else record
    { array = leaf.array; from = leaf.from + leaf.len / 2 + 1; len = leaf.len - leaf.len / 2 - 1 })
    → IsOnTheWay p s whole next index
goes_half p q s whole leaf next index w o d e =
    subst (λ (x : Stretch). IsOnTheWay p s whole x index) (sym e)
    (goes_on p q s whole leaf index w o d (nat_lt index (leaf.from + leaf.len / 2)) refl)

pub half_shorter : (leaf next : Stretch) (index : ℕ) → 0 < leaf.len
    → next ≡ (if nat_lt index (leaf.from + leaf.len / 2) then record
    { array = leaf.array; from = leaf.from; len = leaf.len / 2 } else record
    { array = leaf.array; from = leaf.from + leaf.len / 2 + 1; len = leaf.len - leaf.len / 2 - 1 })
    → next.len < leaf.len
half_shorter leaf next index s e = subst (λ (x : Stretch). x.len < leaf.len) (sym e)
    (at (nat_lt index (leaf.from + leaf.len / 2)))
  where
    at : (b : Bool) → (half_at leaf index b).len < leaf.len
    at true = omega arith
    at false = omega arith

-- at the row
pub arrives : (p q s : Parts) (whole leaf : Stretch) (index : ℕ) → IsOnTheWay p q whole leaf index
    → IsOpened q s leaf.array leaf.from leaf.len → leaf.from + leaf.len / 2 ≡ index
    → state_at s (row_of_array p whole.array index) ≡ Node
arrives p q s whole leaf index w o e = ap (state_at s) (sym w.rows ∙ (λ i. row_of_array q (sym w.array i) (sym e i)))
    ∙ o.node

pub arrives_few : (p q s : Parts) (whole leaf : Stretch) (index : ℕ) → IsOnTheWay p q whole leaf index
    → s.nodes ≤ q.nodes + 1 → (d : ℕ) → whole.len < 2 ^ d → s.nodes ≤ p.nodes + d
arrives_few p q s whole leaf index w o d h =
    let f : (x : ℕ) × (leaf.len < 2 ^ x) × (q.nodes + x ≤ p.nodes + d) = w.few d h in
    let some = w.is.some in
    let g : (y : ℕ) × (f.0 ≡ suc y) × (leaf.len / 2 < 2 ^ y)
    × (leaf.len - leaf.len / 2 - 1 < 2 ^ y) = half_few leaf.len f.0 some f.1 in
    step q.nodes s.nodes f.0 g.0 (p.nodes + d) o g.1 f.2
  where
    step : (a b x y m : ℕ) → b ≤ a + 1 → x ≡ suc y → a + x ≤ m → b ≤ m
    step a b x y m e f h = omega arith

-- the leaf of a row is one
pub one_leaf : (table : ℕ → Entry) (ts : List Token) (rs ss : List ℕ) (x : ℕ)
    → Successive (λ (r s : ℕ). (table r).id ≢ (table s).id) (numbers_of ts) → In (Leaf rs) ts → In (Leaf ss) ts
    → In x rs → In x ss → rs ≡ ss
one_leaf table [] rs ss x a i j k l = absurd i
one_leaf table (t ∷ ts) rs ss x a i j k l =
    ⊎_elim
    (λ (e : Leaf rs ≡ t).
    ⊎_elim (λ (f : Leaf ss ≡ t). same rs ss (e ∙ sym f))
    (λ (m : In (Leaf ss) ts). absurd (across (λ (r s : ℕ). (table r).id ≢ (table s).id) (numbers_at t) (numbers_of ts)
    a x x (subst (λ (q : Token). In x (numbers_at q)) e k) (inside ts ss m l) refl)) j)
    (λ (m : In (Leaf rs) ts).
    ⊎_elim (λ (f : Leaf ss ≡ t). absurd (across (λ (r s : ℕ). (table r).id ≢ (table s).id) (numbers_at t)
    (numbers_of ts) a x x (subst (λ (q : Token). In x (numbers_at q)) f l) (inside ts rs m k) refl))
    (λ (n : In (Leaf ss) ts). one_leaf table ts rs ss x (rest (numbers_at t) (numbers_of ts) a) m n k l) j) i
  where
    same : (rs ss : List ℕ) → Leaf rs ≡ Leaf ss → rs ≡ ss
    same rs ss e = cc

    inside : (ts : List Token) (rs : List ℕ) → In (Leaf rs) ts → In x rs → In x (numbers_of ts)
    inside [] rs i k = absurd i
    inside (t ∷ ts) rs i k = ⊎_elim (λ (e : Leaf rs ≡ t). In-front x (numbers_at t) (numbers_of ts)
        (subst (λ (q : Token). In x (numbers_at q)) e k))
        (λ (m : In (Leaf rs) ts). In-back x (numbers_at t) (numbers_of ts) (inside ts rs m k)) i

    rest : (xs ys : List ℕ) → Successive (λ (r s : ℕ). (table r).id ≢ (table s).id) (xs ++ ys)
        → Successive (λ (r s : ℕ). (table r).id ≢ (table s).id) ys
    rest [] ys a = a
    rest (y ∷ xs) ys a = rest xs ys a.1

-- the leaf in which a row of an array stands is as long as the leaf that has the row
pub leaf_long : (p : Parts) → IsTree p → (a from n index : ℕ) → IsPart p a from n → In (leaf_item p a from n) p.items
    → from ≤ index → index < from + n
    → (rs : List ℕ) → In (Leaf rs) (tokens p) → In (row_of_array p a index) rs → length rs ≡ n
leaf_long p t a from n index l i low high rs j k =
    let here : In (Leaf (part (array_at p a) from n)) (tokens p) =
    subst (λ (x : Token). In x (tokens p)) (leaf_token p a from n l)
    (In-map (token_of p) (leaf_item p a from n) p.items i) in
    ap length (one_leaf (table p) (tokens p) rs (part (array_at p a) from n) (row_of_array p a index) t.brackets.apart
    j here k (part_in (array_at p a) from n index low high l.within)) ∙ part_length (array_at p a) from n l.within
