-- The rows that stand between the brackets of a row are those of its two slots.
use Rattle.std.proofs.Common.{◌≡◌, ◌⊎◌, ℕ, List, [], ◌∷◌, ◌++◌, true, refl, sym, ap, ◌∙◌, subst, inl, inr, ⊎_elim}
use Rattle.std.proofs.Common.{append_assoc, ◌/◌, zero, suc, map, length, take, drop, take-append-drop}
use Rattle.std.specs.declared.cmp.Ordering.TheVariants.{Less}
use Rattle.td_base.specs.declared.bit.Bit.{Bit}
use Rattle.td_base.specs.declared.bit.Bit.TheVariants.{Left, Right}
use Rattle.td_base.specs.Value.{AtomIdValue}
use Rattle.td_base.specs.Lists.{In}
use Rattle.td_base.proofs.Lists.{In-append, In-front, In-back, map_In}
use Rattle.td_path.specs.Infix.{Pair, Pairs, path_cmp}
use Rattle.td_path.specs.SlotPaths.{goes_on, path_in}
use Rattle.td_path.specs.declared.slot_path.SlotPath.{SlotPath}
use Rattle.td_path.specs.declared.slot_path.SlotPath.TheVariants.{Root as Whole, Below}
use Rattle.td_path.proofs.InfixOrder.{goes_on_parts, right_after, left_before}
use Rattle.td_doc.specs.Document.{DocRow, last_id, row_id}
use Rattle.td_doc.specs.Array.{row_in, around, array_upto}
use Rattle.td_base.specs.RunAtoms.{NamedAtom}
use Rattle.td_doc.proofs.ArrayRows.{Starts, starts_here, array_starts}
use Rattle.td_doc.proofs.PathEnds.{last_id-append}
use Rattle.td_brackets.specs.Brackets.{Token, Open, Atom, Close, Leaf, Entry, Level, numbers_of, leaf_rows, atom_of}
use Rattle.td_brackets.specs.Brackets.{move_all, Fits, AllFit, slot_of, row_of, outer, rows_from}

pub starts_deeper : (slot : SlotPath) (x : AtomIdValue) (side : Bit) (path : Pairs)
    → Starts (Below (path_in slot x) side) path → Starts slot path
starts_deeper slot x side path s = record {
  id = x;
  rest = (side, s.id) ∷ s.rest;
  is = s.is ∙ append_assoc (path_in slot x) ((side, s.id) ∷ []) s.rest;
}

pub on_right : (node path : Pairs) → goes_on node Right path ≡ true → path_cmp node path ≡ Less
on_right node path h = let g = goes_on_parts node Right path h in
    subst (λ (p : Pairs). path_cmp node p ≡ Less) (sym g.is) (right_after node g.id g.rest)

pub on_left : (node path : Pairs) → goes_on node Left path ≡ true → path_cmp path node ≡ Less
on_left node path h = let g = goes_on_parts node Left path h in
    subst (λ (p : Pairs). path_cmp p node ≡ Less) (sym g.is) (left_before node g.id g.rest)

-- the identity of a row is the last of its path

pub last_in : (slot : SlotPath) (x y : AtomIdValue) → last_id y (path_in slot x) ≡ x
last_in Whole x y = refl
last_in (Below front bit) x y = last_id-append y front (bit, x)

pub row_named : (table : ℕ → Entry) (slot : SlotPath) (r : ℕ) → row_id (row_of table slot r) ≡ (table r).id
row_named table slot r = last_in slot (table r).id _

-- the path of a row of an array: what is above the slot, and atoms of the array

abbrev above : SlotPath → Pairs
above Whole = []
above (Below front bit) = front

abbrev Names : SlotPath → List NamedAtom → Pair → Type 0
Names slot atoms p = In p (above slot) ⊎ ((a : NamedAtom) × In a atoms × (a.id ≡ p.1))

in_path : (slot : SlotPath) (a : NamedAtom) (p : Pair) → In p (path_in slot a.id) → In p (above slot) ⊎ (a.id ≡ p.1)
in_path Whole a p i = ⊎_elim (λ (e : p ≡ (Right, a.id)). inr (sym (ap (λ (q : Pair). q.1) e))) (λ (z : ⊥). absurd z) i
in_path (Below front bit) a p i =
    ⊎_elim (λ (k : In p front). inl k) (λ (k : In p ((bit, a.id) ∷ [])). ⊎_elim
    (λ (e : p ≡ (bit, a.id)). inr (sym (ap (λ (q : Pair). q.1) e))) (λ (z : ⊥). absurd z) k)
    (In-append p front ((bit, a.id) ∷ []) i)

names_up : (slot : SlotPath) (before : List NamedAtom) (m : NamedAtom) (after part : List NamedAtom) (side : Bit)
    (p : Pair) → ((a : NamedAtom) → In a part → In a (before ++ m ∷ after))
    → Names (Below (path_in slot m.id) side) part p → Names slot (before ++ m ∷ after) p
names_up slot before m after part side p sub d =
    ⊎_elim (λ (i : In p (path_in slot m.id)). ⊎_elim (λ (k : In p (above slot)). inl k)
    (λ (e : m.id ≡ p.1). inr (m, In-back m before (m ∷ after) (inl refl), e)) (in_path slot m p i))
    (λ (k : (a : NamedAtom) × In a part × (a.id ≡ p.1)). inr (k.0, sub k.0 k.1, k.2)) d

around_names : (f : SlotPath → List NamedAtom → List DocRow)
    → ((slot : SlotPath) (atoms : List NamedAtom) (q : DocRow) → In q (f slot atoms) → (p : Pair) → In p q.path
    → Names slot atoms p)
    → (slot : SlotPath) (before rest : List NamedAtom) (q : DocRow) → In q (around f slot before rest) → (p : Pair)
    → In p q.path → Names slot (before ++ rest) p
around_names f ih slot before [] q i p j = absurd i
around_names f ih slot before (m ∷ after) q i p j =
    ⊎_elim (λ (k : In q (f (Below (path_in slot m.id) Left) before)). names_up slot before m after before Left p
    (λ a l. In-front a before (m ∷ after) l) (ih (Below (path_in slot m.id) Left) before q k p j))
    (λ (k : In q (row_in slot m ∷ f (Below (path_in slot m.id) Right) after)).
    ⊎_elim (λ (e : q ≡ row_in slot m). ⊎_elim (λ (l : In p (above slot)). inl l)
    (λ (l : m.id ≡ p.1). inr (m, In-back m before (m ∷ after) (inl refl), l))
    (in_path slot m p (subst (λ (d : DocRow). In p d.path) e j)))
    (λ (l : In q (f (Below (path_in slot m.id) Right) after)). names_up slot before m after after Right p
    (λ a n. In-back a before (m ∷ after) (inr n)) (ih (Below (path_in slot m.id) Right) after q l p j)) k)
    (In-append q (f (Below (path_in slot m.id) Left) before)
    (row_in slot m ∷ f (Below (path_in slot m.id) Right) after) i)

array_names_path : (n : ℕ) (slot : SlotPath) (atoms : List NamedAtom) (q : DocRow) → In q (array_upto n slot atoms)
    → (p : Pair) → In p q.path → Names slot atoms p
array_names_path zero slot atoms q i p j = absurd i
array_names_path (suc n) slot atoms q i p j =
    subst (λ (l : List NamedAtom). Names slot l p) (take-append-drop (length atoms / 2) atoms)
    (around_names (array_upto n) (array_names_path n) slot (take (length atoms / 2) atoms)
    (drop (length atoms / 2) atoms) q i p j)

module _ (table : ℕ → Entry) where
  -- what stands in the slot of some levels stands in that of the levels round them
  pub starts_up : (up base : List Level) (path : Pairs) → Starts (slot_of table (up ++ base)) path
      → Starts (slot_of table base) path
  starts_up [] base path s = s
  starts_up (l ∷ up) base path s = starts_up up base path
      (starts_deeper (slot_of table (up ++ base)) (table l.0).id l.1 path s)

  atom_starts : (up base : List Level) (r : ℕ) → Fits up (Atom r)
      → Starts (slot_of table base) (path_in (slot_of table (outer (up ++ base))) (table r).id)
  atom_starts [] base r h = absurd h
  atom_starts (l ∷ up) base r h = starts_up up base (path_in (slot_of table (up ++ base)) (table r).id)
      (starts_here (slot_of table (up ++ base)) (table r).id)

  -- each row of a word stands in the slot where the word stands
  pub inside : (up base : List Level) (tokens : List Token) → AllFit up tokens → (q : DocRow)
      → In q (rows_from table (up ++ base) tokens) → Starts (slot_of table base) q.path
  inside up base [] h q i = absurd i
  inside up base (Open r ∷ tokens) h q i = inside ((r, Left) ∷ up) base tokens h.1 q i
  inside [] base (Atom r ∷ tokens) h q i = absurd h.0
  inside (l ∷ up) base (Atom r ∷ tokens) h q i =
      ⊎_elim (λ (e : q ≡ row_of table (slot_of table (up ++ base)) r). subst
      (λ (p : DocRow). Starts (slot_of table base) p.path) (sym e) (atom_starts (l ∷ up) base r h.0))
      (λ (k : In q (rows_from table (((l.0, Right) ∷ up) ++ base) tokens)). inside ((l.0, Right) ∷ up) base tokens h.1
      q k) i
  inside [] base (Close r ∷ tokens) h q i = absurd h.0
  inside (l ∷ up) base (Close r ∷ tokens) h q i = inside up base tokens h.1 q i
  inside up base (Leaf rs ∷ tokens) h q i =
      ⊎_elim (λ (k : In q (leaf_rows table (slot_of table (up ++ base)) rs)). starts_up up base q.path
      (array_starts (length (map (atom_of table) rs)) (slot_of table (up ++ base)) (map (atom_of table) rs) q k))
      (λ (k : In q (rows_from table (up ++ base) tokens)). inside up base tokens h.1 q k)
      (In-append q (leaf_rows table (slot_of table (up ++ base)) rs) (rows_from table (up ++ base) tokens) i)

  -- the levels that the path of a row names are open, or opened before it

  abbrev pub IsOpened : ℕ → List Level → List Token → Type 0
  IsOpened s stack tokens = ((b : Bit) × In (s, b) stack) ⊎ In s (numbers_of tokens)

  record OnPath (stack : List Level) (p : Pair) : Type 0 where
    level : Level
    there : In level stack
    named : (table level.0).id ≡ p.1

  on_path : (stack : List Level) (x : AtomIdValue) (p : Pair) → In p (path_in (slot_of table stack) x) → (p.1 ≡ x)
      ⊎ OnPath stack p
  on_path [] x p i = ⊎_elim (λ (e : p ≡ (Right, x)). inl (ap (λ (q : Pair). q.1) e)) (λ (z : ⊥). absurd z) i
  on_path (l ∷ stack) x p i =
      ⊎_elim
      (λ (k : In p (path_in (slot_of table stack) (table l.0).id)).
      ⊎_elim (λ (e : p.1 ≡ (table l.0).id). inr (record { level = l; there = inl refl; named = sym e }))
      (λ (o : OnPath stack p). inr (record { level = o.level; there = inr o.there; named = o.named }))
      (on_path stack (table l.0).id p k))
      (λ (k : In p ((l.1, x) ∷ [])). ⊎_elim (λ (e : p ≡ (l.1, x)). inl (ap (λ (q : Pair). q.1) e))
      (λ (z : ⊥). absurd z) k)
      (In-append p (path_in (slot_of table stack) (table l.0).id) ((l.1, x) ∷ []) i)

  pub record Opened (stack : List Level) (tokens : List Token) (x : AtomIdValue) : Type 0 where
    pub row : ℕ
    pub opened : IsOpened row stack tokens
    pub named : (table row).id ≡ x

  later : (stack next : List Level) (t : Token) (tokens : List Token) (x : AtomIdValue)
      → ((s : ℕ) → IsOpened s next tokens → IsOpened s stack (t ∷ tokens)) → Opened next tokens x
      → Opened stack (t ∷ tokens) x
  later stack next t tokens x f o = record { row = o.row; opened = f o.row o.opened; named = o.named }

  pub after_open : (stack : List Level) (r : ℕ) (tokens : List Token) (s : ℕ) → IsOpened s ((r, Left) ∷ stack) tokens
      → IsOpened s stack (Open r ∷ tokens)
  after_open stack r tokens s o =
      ⊎_elim
      (λ (l : (b : Bit) × In (s, b) ((r, Left) ∷ stack)).
      ⊎_elim (λ (e : ◌≡◌ {A = Level} (s, l.0) (r, Left)). inr (inl (ap (λ (k : Level). k.0) e)))
      (λ (k : In (s, l.0) stack). inl (l.0, k)) l.1)
      (λ (i : In s (numbers_of tokens)). inr (inr i)) o

  pub after_atom : (l : Level) (stack : List Level) (r : ℕ) (tokens : List Token) (s : ℕ)
      → IsOpened s ((l.0, Right) ∷ stack) tokens → IsOpened s (l ∷ stack) (Atom r ∷ tokens)
  after_atom l stack r tokens s o =
      ⊎_elim
      (λ (k : (b : Bit) × In (s, b) ((l.0, Right) ∷ stack)).
      ⊎_elim (λ (e : ◌≡◌ {A = Level} (s, k.0) (l.0, Right)). inl (l.1, inl (λ i. ((e i).0, l.1))))
      (λ (j : In (s, k.0) stack). inl (k.0, inr j)) k.1)
      (λ (i : In s (numbers_of tokens)). inr i) o

  pub after_close : (l : Level) (stack : List Level) (r : ℕ) (tokens : List Token) (s : ℕ) → IsOpened s stack tokens
      → IsOpened s (l ∷ stack) (Close r ∷ tokens)
  after_close l stack r tokens s o = ⊎_elim (λ (k : (b : Bit) × In (s, b) stack). inl (k.0, inr k.1))
      (λ (i : In s (numbers_of tokens)). inr i) o

  pub after_leaf : (stack : List Level) (rs : List ℕ) (tokens : List Token) (s : ℕ) → IsOpened s stack tokens
      → IsOpened s stack (Leaf rs ∷ tokens)
  after_leaf stack rs tokens s o = ⊎_elim (λ (k : (b : Bit) × In (s, b) stack). inl k)
      (λ (i : In s (numbers_of tokens)). inr (In-back s rs (numbers_of tokens) i)) o

  here : (l : Level) (stack : List Level) (r : ℕ) (tokens : List Token) (p : Pair) → l ≡ (r, Left)
      → In p (path_in (slot_of table stack) (table r).id) → Opened (l ∷ stack) (Atom r ∷ tokens) p.1
  here l stack r tokens p fits i =
      ⊎_elim (λ (e : p.1 ≡ (table r).id). record { row = r; opened = inl (Left, inl (sym fits)); named = sym e })
      (λ (o : OnPath stack p). record { row = o.level.0; opened = inl (o.level.1, inr o.there); named = o.named })
      (on_path stack (table r).id p i)

  -- the path of a row of a leaf names open levels and rows of the leaf

  in_above : (stack : List Level) (p : Pair) → In p (above (slot_of table stack)) → OnPath stack p
  in_above [] p i = absurd i
  in_above (l ∷ stack) p i =
      ⊎_elim (λ (e : p.1 ≡ (table l.0).id). record { level = l; there = inl refl; named = sym e })
      (λ (o : OnPath stack p). record { level = o.level; there = inr o.there; named = o.named })
      (on_path stack (table l.0).id p i)

  in_leaf : (stack : List Level) (rs : List ℕ) (tokens : List Token) (p : Pair) → In p (above (slot_of table stack))
      ⊎ ((a : NamedAtom) × In a (map (atom_of table) rs) × (a.id ≡ p.1)) → Opened stack (Leaf rs ∷ tokens) p.1
  in_leaf stack rs tokens p d =
      ⊎_elim (λ (i : In p (above (slot_of table stack))). let o = in_above stack p i in
      record { row = o.level.0; opened = inl (o.level.1, o.there); named = o.named })
      (λ (k : (a : NamedAtom) × In a (map (atom_of table) rs) × (a.id ≡ p.1)).
      let r = map_In (atom_of table) k.0 rs k.1 in
      record {
        row = r.0;
        opened = inr (In-front r.0 rs (numbers_of tokens) r.1);
        named = ap (λ (a : NamedAtom). a.id) (sym r.2) ∙ k.2;
      })
      d

  pub path_opened : (stack : List Level) (tokens : List Token) → AllFit stack tokens → (q : DocRow)
      → In q (rows_from table stack tokens) → (p : Pair) → In p q.path → Opened stack tokens p.1
  path_opened stack [] h q i p j = absurd i
  path_opened stack (Open r ∷ tokens) h q i p j =
      later stack ((r, Left) ∷ stack) (Open r) tokens p.1 (after_open stack r tokens)
      (path_opened ((r, Left) ∷ stack) tokens h.1 q i p j)
  path_opened [] (Atom r ∷ tokens) h q i p j = absurd h.0
  path_opened (l ∷ stack) (Atom r ∷ tokens) h q i p j =
      ⊎_elim (λ (e : q ≡ row_of table (slot_of table stack) r). here l stack r tokens p h.0
      (subst (λ (d : DocRow). In p d.path) e j))
      (λ (k : In q (rows_from table ((l.0, Right) ∷ stack) tokens)). later (l ∷ stack) ((l.0, Right) ∷ stack) (Atom r)
      tokens p.1 (after_atom l stack r tokens) (path_opened ((l.0, Right) ∷ stack) tokens h.1 q k p j)) i
  path_opened [] (Close r ∷ tokens) h q i p j = absurd h.0
  path_opened (l ∷ stack) (Close r ∷ tokens) h q i p j =
      later (l ∷ stack) stack (Close r) tokens p.1 (after_close l stack r tokens) (path_opened stack tokens h.1 q i p j)
  path_opened stack (Leaf rs ∷ tokens) h q i p j =
      ⊎_elim (λ (k : In q (leaf_rows table (slot_of table stack) rs)). in_leaf stack rs tokens p
      (array_names_path (length (map (atom_of table) rs)) (slot_of table stack) (map (atom_of table) rs) q k p j))
      (λ (k : In q (rows_from table stack tokens)). later stack stack (Leaf rs) tokens p.1
      (after_leaf stack rs tokens) (path_opened stack tokens h.1 q k p j))
      (In-append q (leaf_rows table (slot_of table stack) rs) (rows_from table stack tokens) i)

  -- levels are opened before
  pub level_opened : (stack : List Level) (tokens : List Token) → AllFit stack tokens → (s : ℕ) (b : Bit)
      → In (s, b) (move_all stack tokens) → IsOpened s stack tokens
  level_opened stack [] h s b i = inl (b, i)
  level_opened stack (Open r ∷ tokens) h s b i =
      after_open stack r tokens s (level_opened ((r, Left) ∷ stack) tokens h.1 s b i)
  level_opened [] (Atom r ∷ tokens) h s b i = absurd h.0
  level_opened (l ∷ stack) (Atom r ∷ tokens) h s b i =
      after_atom l stack r tokens s (level_opened ((l.0, Right) ∷ stack) tokens h.1 s b i)
  level_opened [] (Close r ∷ tokens) h s b i = absurd h.0
  level_opened (l ∷ stack) (Close r ∷ tokens) h s b i =
      after_close l stack r tokens s (level_opened stack tokens h.1 s b i)
  level_opened stack (Leaf rs ∷ tokens) h s b i = after_leaf stack rs tokens s (level_opened stack tokens h.1 s b i)

-- what goes on from a row's path names the row

path_ends : (slot : SlotPath) (x : AtomIdValue) (rest : Pairs) → (p : Pair) × In p (path_in slot x ++ rest) × (p.1 ≡ x)
path_ends Whole x rest = ((Right, x), inl refl, refl)
path_ends (Below front bit) x rest = (
  (bit, x),
  In-front (bit, x) (front ++ (bit, x) ∷ []) rest
      (In-back (bit, x) front ((bit, x) ∷ []) (inl refl)),
  refl,
)

pub names_it : (slot : SlotPath) (x : AtomIdValue) (side : Bit) (path : Pairs) → goes_on (path_in slot x) side path
    ≡ true → (p : Pair) × In p path × (p.1 ≡ x)
names_it slot x side path h =
    let g = goes_on_parts (path_in slot x) side path h in
    let e = path_ends slot x ((side, g.id) ∷ g.rest) in
    (e.0, subst (In e.0) (sym g.is) e.1, e.2)
