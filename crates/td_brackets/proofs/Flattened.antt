-- A word of tokens made one leaf of its live rows: the rows of that leaf are the array of the flatten, and brackets
-- stay brackets.
use Rattle.std.proofs.Common.{◌≡◌, ◌≢◌, ◌⊎◌, ℕ, List, [], ◌∷◌, ◌++◌, Bool, true, false, cond, map}
use Rattle.std.proofs.Common.{refl, sym, ap, ◌∙◌, subst, inl, inr, ⊎_elim, true≢false}
use Rattle.std.proofs.lemmas.List.{map-append}
use Rattle.std.proofs.lemmas.List.Elements.{filter-append}
use Rattle.td_base.specs.declared.bit.Bit.TheVariants.{Left}
use Rattle.td_base.specs.Value.{DotValue}
use Rattle.td_base.specs.Lists.{In, Successive}
use Rattle.td_base.proofs.Lists.{In-append, In-front, In-back, across, successive_back, successive_front}
use Rattle.td_base.proofs.Lists.{successive_append, successive_filter, successive_map, map_successive}
use Rattle.td_path.specs.declared.slot_path.SlotPath.{SlotPath}
use Rattle.td_doc.specs.Document.{DocRow, row_id, is_live, is_empty_list, live_rows, IsDocument}
use Rattle.td_doc.specs.Array.{named, array}
use Rattle.td_base.specs.RunAtoms.{NamedAtom}
use Rattle.td_doc.proofs.ArrayRows.{array_names, array_live}
use Rattle.td_brackets.specs.Brackets.{Token, Open, Atom, Close, Leaf, Entry, Level, move, move_all}
use Rattle.td_brackets.specs.Brackets.{IsWord, atom_of, numbers_at, numbers_of, slot_of, row_of, row_at}
use Rattle.td_brackets.specs.Brackets.{outer, rows_from, rows_of, IsBrackets}
use Rattle.td_brackets.specs.Laws.{leaf_word, live_number, live_numbers}
use Rattle.td_brackets.proofs.Words.{rows-append, word_put, word_cut}
use Rattle.td_brackets.proofs.Sides.{row_named}
use Rattle.td_brackets.proofs.NodeRows.{numbers-append}
use Rattle.td_brackets.proofs.Leaves.{leaf_word_fits, leaf_word_rows}
use Rattle.td_brackets.proofs.Once.{Apart, stand_once, atom_of_level, word_numbers}

shown_at : (table : ℕ → Entry) (slot : SlotPath) (r : ℕ) (b : Bool) → map named (cond b (row_of table slot r ∷ []) [])
    ≡ map (atom_of table) (cond b (r ∷ []) [])
shown_at table slot r true = λ i. record { id = row_named table slot r i; atom = (table r).atom } ∷ []
shown_at table slot r false = refl

live_at : (table : ℕ → Entry) (stack : List Level) (t : Token) → map named (live_rows (row_at table stack t))
    ≡ map (atom_of table) (live_number table t)
live_at table stack (Open r) = refl
live_at table stack (Atom r) = shown_at table (slot_of table (outer stack)) r (is_empty_list (table r).deletes)
live_at table stack (Close r) = refl
live_at table stack (Leaf rs) = ap (map named) (array_live (slot_of table stack) (map (atom_of table) rs))
    ∙ array_names (slot_of table stack) (map (atom_of table) rs)

pub live_atoms : (table : ℕ → Entry) (stack : List Level) (tokens : List Token)
    → map named (live_rows (rows_from table stack tokens)) ≡ map (atom_of table) (live_numbers table tokens)
live_atoms table stack [] = refl
live_atoms table stack (t ∷ tokens) =
    ap (map named) (filter-append is_live (row_at table stack t) (rows_from table (move stack t) tokens))
    ∙ map-append named (live_rows (row_at table stack t)) (live_rows (rows_from table (move stack t) tokens))
    ∙ (λ i. live_at table stack t i ++ live_atoms table (move stack t) tokens i)
    ∙ sym (map-append (atom_of table) (live_number table t) (live_numbers table tokens))

-- one leaf has the rows of the array into which a flatten makes what stands there
pub flattened_leaf : (table : ℕ → Entry) (stack : List Level) (tokens : List Token)
    → rows_from table stack (leaf_word (live_numbers table tokens))
    ≡ array (slot_of table stack) (map named (live_rows (rows_from table stack tokens)))
flattened_leaf table stack tokens = leaf_word_rows table stack (live_numbers table tokens)
    ∙ ap (array (slot_of table stack)) (sym (live_atoms table stack tokens))

-- a live number is of an atom or of a leaf

record FromToken (table : ℕ → Entry) (s : ℕ) (tokens : List Token) : Type 0 where
  place : (In (Atom s) tokens × ((table s).deletes ≡ [])) ⊎ ((rs : List ℕ) × In (Leaf rs) tokens × In s rs)

no_deletes : (xs : List DotValue) → is_empty_list xs ≡ true → xs ≡ []
no_deletes [] e = refl
no_deletes (x ∷ xs) e = absurd (true≢false (sym e))

cond_in : (s r : ℕ) (b : Bool) → In s (cond b (r ∷ []) []) → (b ≡ true) × (s ≡ r)
cond_in s r true i = ⊎_elim (λ (e : s ≡ r). (refl, e)) (λ (z : ⊥). absurd z) i
cond_in s r false i = absurd i

later : (table : ℕ → Entry) (s : ℕ) (t : Token) (tokens : List Token) → FromToken table s tokens
    → FromToken table s (t ∷ tokens)
later table s t tokens f = record {
  place = ⊎_elim
      (λ (k : In (Atom s) tokens × ((table s).deletes ≡ [])). inl (inr k.0, k.1))
      (λ (k : (rs : List ℕ) × In (Leaf rs) tokens × In s rs). inr (k.0, inr k.1, k.2)) f.place;
}

live_from : (table : ℕ → Entry) (s : ℕ) (tokens : List Token) → In s (live_numbers table tokens)
    → FromToken table s tokens
live_from table s [] i = absurd i
live_from table s (Open r ∷ tokens) i = later table s (Open r) tokens (live_from table s tokens i)
live_from table s (Atom r ∷ tokens) i =
    ⊎_elim (λ (k : In s (cond (is_empty_list (table r).deletes) (r ∷ []) [])).
    let c = cond_in s r (is_empty_list (table r).deletes) k in
    record {
      place = inl (inl (ap Atom c.1), ap (λ (y : ℕ). (table y).deletes) c.1 ∙ no_deletes (table r).deletes c.0);
    })
    (λ (k : In s (live_numbers table tokens)). later table s (Atom r) tokens (live_from table s tokens k))
    (In-append s (cond (is_empty_list (table r).deletes) (r ∷ []) []) (live_numbers table tokens) i)
live_from table s (Close r ∷ tokens) i = later table s (Close r) tokens (live_from table s tokens i)
live_from table s (Leaf rs ∷ tokens) i =
    ⊎_elim (λ (k : In s rs). record { place = inr (rs, inl refl, k) })
    (λ (k : In s (live_numbers table tokens)). later table s (Leaf rs) tokens (live_from table s tokens k))
    (In-append s rs (live_numbers table tokens) i)

leaf_numbers : (rs : List ℕ) (s : ℕ) (tokens : List Token) → In (Leaf rs) tokens → In s rs → In s (numbers_of tokens)
leaf_numbers rs s [] i j = absurd i
leaf_numbers rs s (t ∷ tokens) i j =
    ⊎_elim (λ (e : Leaf rs ≡ t). In-front s (numbers_at t) (numbers_of tokens)
    (subst (λ (q : Token). In s (numbers_at q)) e j))
    (λ (k : In (Leaf rs) tokens). In-back s (numbers_at t) (numbers_of tokens) (leaf_numbers rs s tokens k j)) i

-- a word in brackets, replaced by one leaf

module _ (table : ℕ → Entry) (front word back : List Token) (w : IsWord word)
    (b : IsBrackets table (front ++ (word ++ back))) where
  abbrev live : List ℕ
  live = live_numbers table word

  abbrev pub flat : List Token
  flat = front ++ (leaf_word live ++ back)

  abbrev under : List Level
  under = move_all [] front

  pub live_in : (s : ℕ) → In s live → In s (numbers_of word)
  live_in s i =
      ⊎_elim (λ (k : In (Atom s) word × ((table s).deletes ≡ [])). ⊎_elim
      (λ (l : In {X = Level} (s, Left) []). absurd l) (λ (n : In s (numbers_of word)). n)
      (atom_of_level table [] word w.0 s k.0))
      (λ (k : (rs : List ℕ) × In (Leaf rs) word × In s rs). leaf_numbers k.0 s word k.1 k.2)
      (live_from table s word i).place

  live_bare : (s : ℕ) → In s live → (table s).deletes ≡ []
  live_bare s i =
      ⊎_elim (λ (k : In (Atom s) word × ((table s).deletes ≡ [])). k.1)
      (λ (k : (rs : List ℕ) × In (Leaf rs) word × In s rs). b.live k.0 s
      (In-back (Leaf k.0) front (word ++ back) (In-front (Leaf k.0) word back k.1)) k.2)
      (live_from table s word i).place

  parts : numbers_of (front ++ (word ++ back)) ≡ numbers_of front ++ (numbers_of word ++ numbers_of back)
  parts = numbers-append front (word ++ back) ∙ ap (λ (q : List ℕ). numbers_of front ++ q) (numbers-append word back)

  was : Apart table (numbers_of front ++ (numbers_of word ++ numbers_of back))
  was = subst (Apart table) parts b.apart

  -- live rows are apart, since rows are
  pub live_apart : Apart table live
  live_apart =
      let rows : List DocRow = rows_from table under word in
      let all : Successive (λ (q r : DocRow). row_id q ≢ row_id r)
      (rows_of table front ++ (rows ++ rows_from table (move_all under word) back)) =
      subst (Successive (λ (q r : DocRow). row_id q ≢ row_id r))
      (rows-append table [] front (word ++ back) ∙ ap (λ (q : List DocRow). rows_of table front ++ q)
      (rows-append table under word back)) b.document.apart in
      let some : Successive (λ (q r : DocRow). row_id q ≢ row_id r) rows =
      successive_front (λ (q r : DocRow). row_id q ≢ row_id r) rows (rows_from table (move_all under word) back)
      (successive_back (λ (q r : DocRow). row_id q ≢ row_id r) (rows_of table front)
      (rows ++ rows_from table (move_all under word) back) all) in
      let shown : Successive (λ (q r : DocRow). row_id q ≢ row_id r) (live_rows rows) =
      successive_filter (λ (q r : DocRow). row_id q ≢ row_id r) is_live rows some in
      let names : Successive (λ (c d : NamedAtom). c.id ≢ d.id) (map named (live_rows rows)) =
      successive_map (λ (c d : NamedAtom). c.id ≢ d.id) named (live_rows rows) shown in
      map_successive (λ (c d : NamedAtom). c.id ≢ d.id) (atom_of table) live
      (subst (Successive (λ (c d : NamedAtom). c.id ≢ d.id)) (live_atoms table under word) names)

  flat_apart : Apart table (numbers_of flat)
  flat_apart =
      let behind : Apart table (numbers_of word ++ numbers_of back) =
      successive_back (λ (r s : ℕ). (table r).id ≢ (table s).id) (numbers_of front)
      (numbers_of word ++ numbers_of back) was in
      subst (Apart table) (sym (numbers-append front (leaf_word live ++ back)
      ∙ ap (λ (q : List ℕ). numbers_of front ++ q) (numbers-append (leaf_word live) back
      ∙ ap (λ (q : List ℕ). q ++ numbers_of back) (word_numbers table live))))
      (successive_append (λ (r s : ℕ). (table r).id ≢ (table s).id) (numbers_of front) (live ++ numbers_of back)
      (successive_front (λ (r s : ℕ). (table r).id ≢ (table s).id) (numbers_of front)
      (numbers_of word ++ numbers_of back) was)
      (successive_append (λ (r s : ℕ). (table r).id ≢ (table s).id) live (numbers_of back) live_apart
      (successive_back (λ (r s : ℕ). (table r).id ≢ (table s).id) (numbers_of word) (numbers_of back) behind)
      (λ x y i j. across (λ (r s : ℕ). (table r).id ≢ (table s).id) (numbers_of word) (numbers_of back) behind x y
      (live_in x i) j))
      (λ x y i j. across (λ (r s : ℕ). (table r).id ≢ (table s).id) (numbers_of front)
      (numbers_of word ++ numbers_of back) was x y i
      (⊎_elim (λ (k : In y live). In-front y (numbers_of word) (numbers_of back) (live_in y k))
      (λ (k : In y (numbers_of back)). In-back y (numbers_of word) (numbers_of back) k)
      (In-append y live (numbers_of back) j))))

  leaf_of : (xs : List ℕ) (rs : List ℕ) (r : ℕ) → In (Leaf rs) (leaf_word xs) → In r rs → In r xs
  leaf_of [] rs r i j = absurd i
  leaf_of (x ∷ xs) rs r i j = ⊎_elim (λ (e : Leaf rs ≡ Leaf (x ∷ xs)). subst (In r) (same rs (x ∷ xs) e) j)
      (λ (z : ⊥). absurd z) i
    where
      same : (p q : List ℕ) → Leaf p ≡ Leaf q → p ≡ q
      same p q e = cc

  pub flat_brackets : IsDocument (rows_of table flat) → IsBrackets table flat
  flat_brackets document =
      let word_now : IsWord flat = word_put front back (leaf_word live) (word_cut front back word b.word w)
      (leaf_word_fits live) in
      record {
        word = word_now;
        once = stand_once table [] flat word_now.0 flat_apart;
        apart = flat_apart;
        live = λ rs r i j. ⊎_elim (λ (k : In (Leaf rs) front). b.live rs r (In-front (Leaf rs) front (word ++ back) k)
            j)
            (λ (k : In (Leaf rs) (leaf_word live ++ back)).
            ⊎_elim (λ (l : In (Leaf rs) (leaf_word live)). live_bare r (leaf_of live rs r l j))
            (λ (l : In (Leaf rs) back). b.live rs r (In-back (Leaf rs) front (word ++ back)
            (In-back (Leaf rs) word back l)) j)
            (In-append (Leaf rs) (leaf_word live) back k))
            (In-append (Leaf rs) front (leaf_word live ++ back) i);
        document = document;
      }
