-- The rows of an array of new identities hang below one node that no row had, so they stand together.
use Rattle.std.proofs.Common.{◌≡◌, ◌≢◌, ◌⊎◌, ◌/◌, ℕ, List, [], ◌∷◌, ◌++◌, true, false, ◌&&◌, take, drop, length}
use Rattle.std.proofs.Common.{Option, Some, None, refl, sym, ap, ◌∙◌, subst, inl, inr, ⊎_elim, true≢false}
use Rattle.std.specs.Prelude.{IsSome, IsTrue}
use Rattle.std.specs.Option.{option_map}
use Rattle.std.specs.declared.cmp.Ordering.TheVariants.{Less}
use Rattle.std.proofs.lemmas.List.{append-nil, append_assoc, take-append-drop}
use Rattle.td_base.specs.declared.bit.Bit.{Bit}
use Rattle.td_base.specs.declared.bit.Bit.TheVariants.{Left, Right}
use Rattle.td_base.specs.Value.{DotValue, AtomIdValue}
use Rattle.td_base.specs.Lists.{In, Successive}
use Rattle.td_base.proofs.Lists.{In-append, In-front, In-back, all_in}
use Rattle.td_path.specs.Infix.{Pair, Pairs, path_cmp}
use Rattle.td_path.specs.SlotPaths.{path_in}
use Rattle.td_path.specs.declared.slot.Slot.{Slot}
use Rattle.td_path.specs.declared.slot.Slot.TheVariants.{Root, At}
use Rattle.td_path.specs.declared.slot_path.SlotPath.{SlotPath}
use Rattle.td_path.specs.declared.slot_path.SlotPath.TheVariants.{Root as Whole, Below}
use Rattle.td_path.proofs.InfixOrder.{path_total, same_pair_refl}
use Rattle.td_doc.specs.Document.{DocRow, last_id, row_id, find_row, IsDocument}
use Rattle.td_base.specs.RunAtoms.{NamedAtom, run_atoms}
use Rattle.td_doc.specs.Array.{row_in, around, array_upto, array}
use Rattle.td_doc.specs.Insertion.{put_rows, put_array_below, insert_run}
use Rattle.td_doc.specs.Answers.{IsFresh, is_rooted}
use Rattle.td_doc.specs.Stretches.{IsPutTogether}
use Rattle.td_doc.specs.Subtrees.{begins}
use Rattle.td_doc.proofs.PutRows.{Before, three_ways, put_between}
use Rattle.td_doc.proofs.ArrayRows.{nobody, Starts, array_starts, array_ascends, named_row}
use Rattle.td_doc.proofs.Placement.{put_array, run_between}
use Rattle.td_doc.proofs.Rules.{IsNewIn, run_is_new}
use Rattle.std.proofs.lemmas.Bool.{false_from_ne_true}
use Rattle.td_doc.proofs.SubtreeRows.{begins_between, begins_parts}

-- a row outside the subtree of a node stands on one side of all that is in it

begins_more : (node rest : Pairs) → begins node (node ++ rest) ≡ true
begins_more [] rest = refl
begins_more (c ∷ node) rest = ap (λ b. b && begins node (node ++ rest)) (same_pair_refl c) ∙ begins_more node rest

begins_itself : (node : Pairs) → begins node node ≡ true
begins_itself node = subst (λ (p : Pairs). begins node p ≡ true) (append-nil node) (begins_more node [])

before_all : (node p q : Pairs) → begins node p ≡ false → path_cmp p node ≡ Less → begins node q ≡ true → path_cmp p q
    ≡ Less
before_all node p q out h i =
    ⊎_elim (λ (k : path_cmp p q ≡ Less). k)
    (λ (k : (p ≡ q) ⊎ (path_cmp q p ≡ Less)).
    absurd (⊎_elim (λ (e : p ≡ q). true≢false (sym i ∙ ap (begins node) (sym e) ∙ out))
    (λ (m : path_cmp q p ≡ Less). true≢false (sym (begins_between node q p node i (begins_itself node) m h) ∙ out)) k))
    (three_ways p q)

after_all : (node p q : Pairs) → begins node p ≡ false → path_cmp node p ≡ Less → begins node q ≡ true → path_cmp q p
    ≡ Less
after_all node p q out h i =
    ⊎_elim (λ (k : path_cmp q p ≡ Less). k)
    (λ (k : (q ≡ p) ⊎ (path_cmp p q ≡ Less)).
    absurd (⊎_elim (λ (e : q ≡ p). true≢false (sym i ∙ ap (begins node) e ∙ out))
    (λ (m : path_cmp p q ≡ Less). true≢false (sym (begins_between node node p q (begins_itself node) i h m) ∙ out)) k))
    (three_ways q p)

-- the rows before a node of which there is no row, and those after it

record Sides (node : Pairs) (rows : List DocRow) : Type 0 where
  front : List DocRow
  back : List DocRow
  is : rows ≡ front ++ back
  before : (r : DocRow) → In r front → path_cmp r.path node ≡ Less
  after : (r : DocRow) → In r back → path_cmp node r.path ≡ Less

module _ (node : Pairs) (r : DocRow) (rows : List DocRow) (first : (x : DocRow) → In x rows → Before r x) where
  all_after : path_cmp node r.path ≡ Less → Sides node (r ∷ rows)
  all_after h = record {
    front = [];
    back = r ∷ rows;
    is = refl;
    before = λ x i. absurd i;
    after = λ x i. ⊎_elim (λ (e : x ≡ r). subst (λ (q : DocRow). path_cmp node q.path ≡ Less) (sym e) h)
        (λ (j : In x rows). path_total.trans node r.path x.path h (first x j)) i;
  }

  one_before : path_cmp r.path node ≡ Less → Sides node rows → Sides node (r ∷ rows)
  one_before h s = record {
    front = r ∷ s.front;
    back = s.back;
    is = ap (λ (q : List DocRow). r ∷ q) s.is;
    before = λ x i. ⊎_elim (λ (e : x ≡ r). subst (λ (q : DocRow). path_cmp q.path node ≡ Less) (sym e) h)
        (λ (j : In x s.front). s.before x j) i;
    after = s.after;
  }

sides : (node : Pairs) (rows : List DocRow) → Successive Before rows
    → ((r : DocRow) → In r rows → begins node r.path ≡ false) → Sides node rows
sides node [] up out = record { front = []; back = []; is = refl; before = λ x i. absurd i; after = λ x i. absurd i }
sides node (r ∷ rows) up out =
    ⊎_elim (λ (h : path_cmp r.path node ≡ Less). one_before node r rows (λ x i. all_in (Before r) rows up.0 x i) h
    (sides node rows up.1 (λ x i. out x (inr i))))
    (λ (k : (r.path ≡ node) ⊎ (path_cmp node r.path ≡ Less)).
    ⊎_elim (λ (e : r.path ≡ node). absurd (true≢false
    (sym (ap (begins node) e ∙ begins_itself node) ∙ out r (inl refl))))
    (λ (h : path_cmp node r.path ≡ Less). all_after node r rows (λ x i. all_in (Before r) rows up.0 x i) h) k)
    (three_ways r.path node)

-- the node below which an array hangs

begins_side : (node path : Pairs) (side : Bit) → Starts (Below node side) path → begins node path ≡ true
begins_side node path side s = ap (begins node) (s.is ∙ append_assoc node ((side, s.id) ∷ []) s.rest)
    ∙ begins_more node ((side, s.id) ∷ s.rest)

-- an atom of the array below whose node all its rows hang
record Top (slot : SlotPath) (atoms : List NamedAtom) (rows : List DocRow) : Type 0 where
  atom : NamedAtom
  is : In atom atoms
  all : (r : DocRow) → In r rows → begins (path_in slot atom.id) r.path ≡ true

top_of : (n : ℕ) (slot : SlotPath) (atoms before after : List NamedAtom) → before ++ after ≡ atoms
    → (around (array_upto n) slot before after ≡ []) ⊎ Top slot atoms (around (array_upto n) slot before after)
top_of n slot atoms before [] e = inl refl
top_of n slot atoms before (middle ∷ after) e =
    let node : Pairs = path_in slot middle.id in
    let left : List DocRow = array_upto n (Below node Left) before in
    let right : List DocRow = array_upto n (Below node Right) after in
    inr (record {
      atom = middle;
      is = subst (In middle) e (In-back middle before (middle ∷ after) (inl refl));
      all = λ r i. ⊎_elim (λ (j : In r left). begins_side node r.path Left
          (array_starts n (Below node Left) before r j))
          (λ (j : (r ≡ row_in slot middle) ⊎ In r right).
          ⊎_elim (λ (q : r ≡ row_in slot middle). subst (λ (x : DocRow). begins node x.path ≡ true) (sym q)
          (begins_itself node))
          (λ (k : In r right). begins_side node r.path Right (array_starts n (Below node Right) after r k)) j)
          (In-append r left (row_in slot middle ∷ right) i);
    })

array_top : (slot : SlotPath) (atoms : List NamedAtom) → (array slot atoms ≡ []) ⊎ Top slot atoms (array slot atoms)
array_top slot [] = inl refl
array_top slot (a ∷ atoms) =
    let half = length (a ∷ atoms) / 2 in
    top_of (length atoms) slot (a ∷ atoms) (take half (a ∷ atoms)) (drop half (a ∷ atoms))
    (take-append-drop half (a ∷ atoms))

-- no row hangs below the node of a new identity

node_id : (slot : SlotPath) (a : NamedAtom) (r : DocRow) → r.path ≡ path_in slot a.id → row_id r ≡ a.id
node_id slot a r e = ap (λ (p : Pairs). last_id nobody p) e ∙ ap (λ (b : NamedAtom). b.id) (named_row slot a)

not_empty : (front : Pairs) (p : Pair) → front ++ p ∷ [] ≢ []
not_empty [] p e = cc
not_empty (c ∷ front) p e = cc

node_some : (slot : SlotPath) (x : AtomIdValue) → path_in slot x ≢ []
node_some Whole x e = cc
node_some (Below front bit) x e = not_empty front (bit, x) e

module _ (rows : List DocRow) (d : IsDocument rows) (slot : SlotPath) (a : NamedAtom)
    (new : (x : DocRow) → In x rows → a.id ≢ row_id x) where
  no_node : (r : DocRow) → In r rows → r.path ≢ path_in slot a.id
  no_node r i e = new r i (sym (node_id slot a r e))

  no_more : (r : DocRow) → In r rows → (more : Pairs) → r.path ≢ path_in slot a.id ++ more
  no_more r i [] e = no_node r i (e ∙ append-nil (path_in slot a.id))
  no_more r i (next ∷ more) e =
      let above = d.rooted r (path_in slot a.id) next more i e (node_some slot a.id) in
      no_node above.0 above.1 above.2

  none_below : (r : DocRow) → In r rows → begins (path_in slot a.id) r.path ≡ false
  none_below r i = false_from_ne_true _ (λ h. let m = begins_parts (path_in slot a.id) r.path h in no_more r i m.0 m.1)

-- an array of new identities stands together

module _ (rows : List DocRow) (d : IsDocument rows) (atoms : List NamedAtom) (new : IsNewIn atoms rows) where
  together_at : (slot : SlotPath) (front back : List DocRow) → rows ≡ front ++ back → put_rows (array slot atoms) rows
      ≡ front ++ array slot atoms ++ back
      → IsPutTogether atoms rows (put_rows (array slot atoms) rows)
  together_at slot front back was is = record {
    front = front;
    back = back;
    was = was;
    is = run_between atoms front back (put_rows (array slot atoms) rows) (record { slot = slot; is = is });
  }

  nothing_put : (slot : SlotPath) → array slot atoms ≡ [] → IsPutTogether atoms rows (put_rows (array slot atoms) rows)
  nothing_put slot none = together_at slot [] rows refl
      (ap (λ (q : List DocRow). put_rows q rows) none ∙ ap (λ (q : List DocRow). q ++ rows) (sym none))

  below_top : (slot : SlotPath) → Top slot atoms (array slot atoms)
      → IsPutTogether atoms rows (put_rows (array slot atoms) rows)
  below_top slot t =
      let node : Pairs = path_in slot t.atom.id in
      let out : (r : DocRow) → In r rows → begins node r.path
      ≡ false = none_below rows d slot t.atom (new t.atom t.is) in
      let s = sides node rows d.ascending out in
      together_at slot s.front s.back s.is
      (ap (put_rows (array slot atoms)) s.is
      ∙ put_between (array slot atoms) s.front s.back (array_ascends (length atoms) slot atoms)
      (λ r n i j. before_all node r.path n.path (out r (subst (In r) (sym s.is) (In-front r s.front s.back i)))
      (s.before r i) (t.all n j))
      (λ n r j i. after_all node r.path n.path (out r (subst (In r) (sym s.is) (In-back r s.front s.back i)))
      (s.after r i) (t.all n j)))

  array_together : (slot : SlotPath) → IsPutTogether atoms rows (put_rows (array slot atoms) rows)
  array_together slot = ⊎_elim (nothing_put slot) (below_top slot) (array_top slot atoms)

  put_at : (x : AtomIdValue) (bit : Bit) (o : Option DocRow) → IsSome o
      → IsPutTogether atoms rows (put_array_below (option_map (λ (r : DocRow). Below r.path bit) o) atoms rows)
  put_at x bit None some = absurd (true≢false (sym some))
  put_at x bit (Some r) some = array_together (Below r.path bit)

  put_together : (slot : Slot) → IsTrue (is_rooted rows slot) → IsPutTogether atoms rows (put_array slot atoms rows)
  put_together Root rooted = array_together Whole
  put_together (At x bit) rooted = put_at x bit (find_row x rows) rooted

-- a new run stands together in any slot whose atom is a row
pub run_together : (rows : List DocRow) (slot : Slot) (dot : DotValue) (run : List (List ℕ)) → IsDocument rows
    → IsFresh rows dot → IsTrue (is_rooted rows slot)
    → IsPutTogether (run_atoms dot run) rows (insert_run slot dot run rows)
run_together rows slot dot run d new rooted = put_together rows d (run_atoms dot run) (run_is_new rows dot run new)
    slot rooted
