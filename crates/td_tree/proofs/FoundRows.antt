-- What stands in a stretch of items.
use Rattle.std.proofs.Common.{◌≡◌, ◌+◌, ◌<◌, ◌≤◌, ◌^◌, ℕ, List, [], ◌∷◌, ◌++◌, length, take, drop, get_or, refl, sym}
use Rattle.std.proofs.Common.{ap, ◌∙◌, subst, arith, append_assoc, length-append, take-append-drop, Option}
use Rattle.std.proofs.lemmas.List.{append-nil, map_more}
use Rattle.td_list.specs.Items.{Item}
use Rattle.td_brackets.specs.Brackets.{Token, Open, Atom, Close, Leaf, Entry}
use Rattle.td_brackets.specs.Laws.{live_number, live_numbers}
use Rattle.td_brackets.specs.RowNumbers.{row_numbers_at, row_numbers}
use Rattle.td_brackets.proofs.Entries.{row_numbers-append}
use Rattle.td_tree.specs.Parts.{Parts, table, token_of, tokens_of, IsTree}
use Rattle.td_tree.specs.Stretches.{open_numbers, IsFound, IsFoundAt, IsFoundAmong}
use Rattle.td_tree.specs.Walks.{IsStretch}
use Rattle.td_tree.proofs.ItemTokens.{tokens-append}
use Rattle.td_tree.proofs.CountedRows.{rows_of_items, counted-append, counted_few}
use Rattle.td_tree.proofs.Walked.{Walked}
use Rattle.td_list.specs.Places.{nothing}

-- one more
lives-append : (table : ℕ → Entry) (xs ys : List Token) → live_numbers table (xs ++ ys) ≡ live_numbers table xs
    ++ live_numbers table ys
lives-append table [] ys = refl
lives-append table (t ∷ xs) ys = ap (λ (q : List ℕ). live_number table t ++ q) (lives-append table xs ys)
    ∙ sym (append_assoc (live_number table t) (live_numbers table xs) (live_numbers table ys))

opens-append : (xs ys : List Token) → open_numbers (xs ++ ys) ≡ open_numbers xs ++ open_numbers ys
opens-append [] ys = refl
opens-append (Open r ∷ xs) ys = ap (λ (q : List ℕ). r ∷ q) (opens-append xs ys)
opens-append (Atom r ∷ xs) ys = opens-append xs ys
opens-append (Close r ∷ xs) ys = opens-append xs ys
opens-append (Leaf rs ∷ xs) ys = opens-append xs ys

pub found_none : (p : Parts) → IsFound p [] [] [] 0
found_none p = record { live_is = refl; nodes_are = refl; dead_is = refl }

-- one after another
both_found : (p : Parts) (xs ys : List Token) (live nodes : List ℕ) (dead : ℕ) (live' nodes' : List ℕ) (dead' : ℕ)
    (live'' nodes'' : List ℕ) (dead'' : ℕ) → IsFoundAmong p xs live nodes dead live' nodes' dead'
    → IsFoundAmong p ys live' nodes' dead' live'' nodes'' dead''
    → IsFoundAmong p (xs ++ ys) live nodes dead live'' nodes'' dead''
both_found p xs ys live nodes dead live' nodes' dead' live'' nodes'' dead'' f g =
    let lives = lives-append (table p) xs ys in
    let opens = opens-append xs ys in
    let one = ap (λ (rs : List ℕ). length rs) lives in
    let two = length-append (live_numbers (table p) xs) (live_numbers (table p) ys) in
    let three = ap (λ (rs : List ℕ). length rs) (row_numbers-append xs ys) in
    let four = length-append (row_numbers xs) (row_numbers ys) in
    let five = f.dead_is in
    let six = g.dead_is in
    record {
      live_is = g.live_is ∙ ap (λ (q : List ℕ). q ++ live_numbers (table p) ys) f.live_is
          ∙ append_assoc live (live_numbers (table p) xs) (live_numbers (table p) ys)
          ∙ ap (λ (q : List ℕ). live ++ q) (sym lives);
      nodes_are = g.nodes_are ∙ ap (λ (q : List ℕ). q ++ open_numbers ys) f.nodes_are
          ∙ append_assoc nodes (open_numbers xs) (open_numbers ys) ∙ ap (λ (q : List ℕ). nodes ++ q) (sym opens);
      dead_is = omega arith;
    }

one_found : (p : Parts) (t : Token) (live nodes : List ℕ) (dead : ℕ) (live' nodes' : List ℕ) (dead' : ℕ)
    → IsFoundAt p t live nodes dead live' nodes' dead' → IsFoundAmong p (t ∷ []) live nodes dead live' nodes' dead'
one_found p t live nodes dead live' nodes' dead' f =
    let one = length-append (live_number (table p) t) [] in
    let two = length-append (row_numbers_at t) [] in
    let three = f.dead_is in
    record {
      live_is = f.live_is ∙ ap (λ (q : List ℕ). live ++ q) (sym (append-nil (live_number (table p) t)));
      nodes_are = f.nodes_are;
      dead_is = omega arith;
    }

pub found_nothing : (p : Parts) (live nodes : List ℕ) (dead : ℕ) → IsFoundAmong p [] live nodes dead live nodes dead
found_nothing p live nodes dead = record {
  live_is = sym (append-nil live);
  nodes_are = sym (append-nil nodes);
  dead_is = refl;
}

-- one more item of those that are gone through
pub found_next : (p : Parts) (items : List Item) (k : ℕ) → k < length items
    → (live nodes : List ℕ) (dead : ℕ) (live' nodes' : List ℕ) (dead' : ℕ) (live'' nodes'' : List ℕ) (dead'' : ℕ)
    → IsFoundAmong p (tokens_of p (take k items)) live nodes dead live' nodes' dead'
    → IsFoundAt p (token_of p (get_or items k nothing)) live' nodes' dead' live'' nodes'' dead''
    → IsFoundAmong p (tokens_of p (take (k + 1) items)) live nodes dead live'' nodes'' dead''
found_next p items k b live nodes dead live' nodes' dead' live'' nodes'' dead'' f g =
    subst (λ (ts : List Token). IsFoundAmong p ts live nodes dead live'' nodes'' dead'')
    (sym (map_more (token_of p) items k nothing b))
    (both_found p (tokens_of p (take k items)) (token_of p (get_or items k nothing) ∷ []) live nodes dead live' nodes'
    dead' live'' nodes'' dead'' f
    (one_found p (token_of p (get_or items k nothing)) live' nodes' dead' live'' nodes'' dead'' g))

-- some of them have no more rows than all
pub dead_below : (p : Parts) (items : List Item) (k : ℕ) (live nodes : List ℕ) (dead : ℕ) (live' nodes' : List ℕ)
    (dead' : ℕ) → dead + length (row_numbers (tokens_of p items)) ≤ 2 ^ 30
    → IsFoundAmong p (tokens_of p (take k items)) live nodes dead live' nodes' dead' → dead' < 2 ^ 31
dead_below p items k live nodes dead live' nodes' dead' few f =
    let one = ap (rows_of_items p) (take-append-drop k items) in
    let two = counted-append p (take k items) (drop k items) in
    let three = f.dead_is in
    omega arith

-- the items that follow
pub found_more : (p : Parts) (done items : List Item) (live nodes : List ℕ) (dead : ℕ) (live' nodes' : List ℕ)
    (dead' : ℕ) → IsFound p (tokens_of p done) live nodes dead
    → IsFoundAmong p (tokens_of p items) live nodes dead live' nodes' dead'
    → IsFound p (tokens_of p (done ++ items)) live' nodes' dead'
found_more p done items live nodes dead live' nodes' dead' f g =
    let was = ap (λ (xs : List ℕ). length xs) f.live_is in
    let count = f.dead_is in
    let old : IsFoundAmong p (tokens_of p done) [] [] 0 live nodes dead =
    record { live_is = f.live_is; nodes_are = f.nodes_are; dead_is = omega arith } in
    let all = both_found p (tokens_of p done) (tokens_of p items) [] [] 0 live nodes dead live' nodes' dead' old g in
    let now = ap (λ (xs : List ℕ). length xs) all.live_is in
    let sum = all.dead_is in
    subst (λ (ts : List Token). IsFound p ts live' nodes' dead') (sym (tokens-append p done items))
    (record { live_is = all.live_is; nodes_are = all.nodes_are; dead_is = omega (arith, now, sum) })

-- the tombstones that were found, and the rows of items that follow, are no more than there are rows
pub rows_few : (p : Parts) (t : IsTree p) (first end : Option ℕ) (s : IsStretch p first end) (at : Option ℕ)
    (w : Walked p s.inner s.back at) (items more : List Item) → w.rest ≡ items ++ more
    → (live nodes : List ℕ) (dead : ℕ) → IsFound p (tokens_of p w.done) live nodes dead
    → dead + length (row_numbers (tokens_of p items)) ≤ 2 ^ 30
rows_few p t first end s at w items more e live nodes dead f =
    let few = counted_few p t first end s at w items more e in
    let found = f.dead_is in
    omega arith
