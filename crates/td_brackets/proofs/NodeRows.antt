-- The rows of a document, parted by the brackets of one of them: those before it, on its left, itself, on its right,
-- and behind.
use Rattle.std.proofs.Common.{◌≡◌, ◌≢◌, ◌⊎◌, ℕ, List, [], ◌∷◌, ◌++◌, Bool, true, false, filter, cond, Option, Some}
use Rattle.std.proofs.Common.{refl, sym, ap, ◌∙◌, subst, inl, inr, ⊎_elim, append_assoc, map, None, true≢false}
use Rattle.std.proofs.lemmas.List.{append-nil}
use Rattle.std.proofs.lemmas.List.Elements.{filter-append}
use Rattle.std.specs.Option.{option_map}
use Rattle.td_base.specs.declared.bit.Bit.{Bit}
use Rattle.td_base.specs.declared.bit.Bit.TheVariants.{Left, Right}
use Rattle.td_base.specs.Value.{AtomIdValue}
use Rattle.td_base.specs.Lists.{In, Successive}
use Rattle.td_base.proofs.Lists.{In-back, across, all_in, successive_back}
use Rattle.td_path.specs.SlotPaths.{goes_on}
use Rattle.td_path.specs.declared.slot.Slot.TheVariants.{At}
use Rattle.td_path.specs.declared.slot_path.SlotPath.TheVariants.{Below}
use Rattle.td_doc.specs.Document.{DocRow, row_id, find_row, is_empty_list}
use Rattle.td_doc.specs.Slots.{slot_path, rows_below, rows_in_slot}
use Rattle.td_doc.specs.Allocation.{first_id, next_id}
use Rattle.td_doc.specs.Array.{named}
use Rattle.td_base.specs.RunAtoms.{NamedAtom}
use Rattle.td_doc.proofs.ArrayRows.{array_names, starts_contained}
use Rattle.td_doc.proofs.PutRows.{Before, Differ, not_before_itself, not_both_before}
use Rattle.td_doc.proofs.Placement.{find_at, self_id, has_id-false}
use Rattle.td_base.proofs.Searches.{filter_all, filter_none}
use Rattle.std.proofs.lemmas.Bool.{false_from_ne_true}
use Rattle.td_brackets.specs.Brackets.{Token, Open, Atom, Close, Leaf, Entry, Level, numbers_at, numbers_of}
use Rattle.td_brackets.specs.Brackets.{leaf_rows, atom_of, move, move_all, AllFit, IsWord, slot_of, row_of}
use Rattle.td_brackets.specs.Brackets.{outer, rows_from, rows_of, IsBrackets, next_row}
use Rattle.td_brackets.proofs.Words.{rows-append, fit-append, word_moves, Node, node}
use Rattle.td_brackets.proofs.Sides.{on_right, on_left, row_named, inside, path_opened, level_opened, names_it}

-- the rows of a token and what follows it, where the open rows are known
pub rows_then : (table : ℕ → Entry) (stack next : List Level) (xs ys : List Token) → move_all stack xs ≡ next
    → rows_from table stack (xs ++ ys) ≡ rows_from table stack xs ++ rows_from table next ys
rows_then table stack next xs ys e = rows-append table stack xs ys
    ∙ ap (λ (s : List Level). rows_from table stack xs ++ rows_from table s ys) e

pub numbers-append : (xs ys : List Token) → numbers_of (xs ++ ys) ≡ numbers_of xs ++ numbers_of ys
numbers-append [] ys = refl
numbers-append (t ∷ xs) ys = ap (λ (q : List ℕ). numbers_at t ++ q) (numbers-append xs ys)
    ∙ sym (append_assoc (numbers_at t) (numbers_of xs) (numbers_of ys))

pub next_at : (front : List DocRow) (r : DocRow) (back : List DocRow)
    → ((s : DocRow) → In s front → row_id s ≢ row_id r) → next_id (row_id r) (front ++ r ∷ back) ≡ first_id back
next_at [] r back h = ap (λ b. cond b (first_id back) (next_id (row_id r) back)) (self_id r)
next_at (s ∷ front) r back h =
    ap (λ b. cond b (first_id (front ++ r ∷ back)) (next_id (row_id r) (front ++ r ∷ back)))
    (has_id-false (row_id r) s (h s (inl refl))) ∙ next_at front r back (λ q i. h q (inr i))

module _ (table : ℕ → Entry) (front tokens : List Token) (x : ℕ) (b : IsBrackets table (front ++ Open x ∷ tokens)) where
  abbrev pub n : Node x front tokens
  n = node front tokens x b.word

  abbrev pub base : List Level
  base = move_all [] front

  abbrev pub all : List DocRow
  all = rows_of table (front ++ Open x ∷ tokens)

  abbrev pub front_rows : List DocRow
  front_rows = rows_from table [] front

  abbrev pub left_rows : List DocRow
  left_rows = rows_from table ((x, Left) ∷ base) n.left

  abbrev pub row : DocRow
  row = row_of table (slot_of table base) x

  abbrev pub right_rows : List DocRow
  right_rows = rows_from table ((x, Right) ∷ base) n.right

  abbrev pub back_rows : List DocRow
  back_rows = rows_from table base n.back

  pub behind : rows_from table base (Open x ∷ tokens) ≡ left_rows ++ row ∷ (right_rows ++ back_rows)
  behind =
      ap (λ (q : List Token). rows_from table ((x, Left) ∷ base) q) n.is
      ∙ rows_then table ((x, Left) ∷ base) ((x, Left) ∷ base) n.left (Atom x ∷ (n.right ++ Close x ∷ n.back))
      (word_moves ((x, Left) ∷ base) n.left n.left_word)
      ∙ ap (λ (q : List DocRow). left_rows ++ row ∷ q)
      (rows_then table ((x, Right) ∷ base) ((x, Right) ∷ base) n.right (Close x ∷ n.back)
      (word_moves ((x, Right) ∷ base) n.right n.right_word))

  pub parted : all ≡ front_rows ++ (left_rows ++ row ∷ (right_rows ++ back_rows))
  parted = rows-append table [] front (Open x ∷ tokens) ∙ ap (λ (q : List DocRow). front_rows ++ q) behind

  pub regrouped : all ≡ (front_rows ++ left_rows) ++ row ∷ (right_rows ++ back_rows)
  regrouped = parted ∙ sym (append_assoc front_rows left_rows (row ∷ (right_rows ++ back_rows)))

  pub after_row : (q : DocRow) → In q (right_rows ++ back_rows) → Before row q
  after_row q i = all_in (Before row) (right_rows ++ back_rows)
      (successive_back Before (front_rows ++ left_rows) (row ∷ (right_rows ++ back_rows))
      (subst (Successive Before) regrouped b.document.ascending)).0 q i

  pub before_row : (q : DocRow) → In q (front_rows ++ left_rows) → Before q row
  before_row q i = across Before (front_rows ++ left_rows) (row ∷ (right_rows ++ back_rows))
      (subst (Successive Before) regrouped b.document.ascending) q row i (inl refl)

  -- the front fits, and so does the back

  pub front_fits : AllFit [] front
  front_fits = (fit-append [] front (Open x ∷ tokens) b.word.0).0

  rest_fits : AllFit ((x, Left) ∷ base) (n.left ++ Atom x ∷ (n.right ++ Close x ∷ n.back))
  rest_fits = subst (AllFit ((x, Left) ∷ base)) n.is (fit-append [] front (Open x ∷ tokens) b.word.0).1.1

  right_fits : AllFit ((x, Right) ∷ base) (n.right ++ Close x ∷ n.back)
  right_fits = (subst (λ (s : List Level). AllFit s (Atom x ∷ (n.right ++ Close x ∷ n.back)))
      (word_moves ((x, Left) ∷ base) n.left n.left_word)
      (fit-append ((x, Left) ∷ base) n.left (Atom x ∷ (n.right ++ Close x ∷ n.back)) rest_fits).1).1

  pub back_fits : AllFit base n.back
  back_fits = (subst (λ (s : List Level). AllFit s (Close x ∷ n.back))
      (word_moves ((x, Right) ∷ base) n.right n.right_word)
      (fit-append ((x, Right) ∷ base) n.right (Close x ∷ n.back) right_fits).1).1

  -- the row stands once

  numbers_are : numbers_of (front ++ Open x ∷ tokens) ≡ numbers_of front ++ x ∷ numbers_of tokens
  numbers_are = numbers-append front (Open x ∷ tokens)

  behind_numbers : (s : ℕ) → In s (numbers_of n.back) → In s (numbers_of tokens)
  behind_numbers s i =
      subst (λ (q : List Token). In s (numbers_of q)) (sym n.is)
      (subst (In s) (sym (numbers-append n.left (Atom x ∷ (n.right ++ Close x ∷ n.back))))
      (In-back s (numbers_of n.left) (numbers_of (n.right ++ Close x ∷ n.back))
      (subst (In s) (sym (numbers-append n.right (Close x ∷ n.back)))
      (In-back s (numbers_of n.right) (numbers_of n.back) i))))

  parted_apart : Successive (λ (r s : ℕ). (table r).id ≢ (table s).id) (numbers_of front ++ x ∷ numbers_of tokens)
  parted_apart = subst (Successive (λ (r s : ℕ). (table r).id ≢ (table s).id)) numbers_are b.apart

  the_row : (s : ℕ) → (In s (numbers_of front) ⊎ In s (numbers_of n.back)) → (table s).id ≡ (table x).id → ⊥
  the_row s i e =
      ⊎_elim (λ (k : In s (numbers_of front)). across (λ (r s : ℕ). (table r).id ≢ (table s).id) (numbers_of front)
      (x ∷ numbers_of tokens) parted_apart s x k (inl refl) e)
      (λ (k : In s (numbers_of n.back)). all_in (λ (s : ℕ). (table x).id ≢ (table s).id) (numbers_of tokens)
      (successive_back (λ (r s : ℕ). (table r).id ≢ (table s).id) (numbers_of front) (x ∷ numbers_of tokens)
      parted_apart).0 s (behind_numbers s k) (sym e)) i

  -- which rows the two slots of the row contain

  pub front_outside : (side : Bit) (q : DocRow) → In q front_rows → goes_on row.path side q.path ≡ false
  front_outside side q i = false_from_ne_true (goes_on row.path side q.path) (λ h.
      let p = names_it (slot_of table base) (table x).id side q.path h in
      let o = path_opened table [] front front_fits q i p.0 p.1 in
      the_row o.row (inl (⊎_elim (λ (k : (c : Bit) × In {X = Level} (o.row, c) []). absurd k.1)
      (λ (k : In o.row (numbers_of front)). k) o.opened)) (o.named ∙ p.2))

  pub back_outside : (side : Bit) (q : DocRow) → In q back_rows → goes_on row.path side q.path ≡ false
  back_outside side q i = false_from_ne_true (goes_on row.path side q.path) (λ h.
      let p = names_it (slot_of table base) (table x).id side q.path h in
      let o = path_opened table base n.back back_fits q i p.0 p.1 in
      the_row o.row (⊎_elim
      (λ (k : (c : Bit) × In {X = Level} (o.row, c) base). inl
      (⊎_elim (λ (l : (c : Bit) × In {X = Level} (o.row, c) []). absurd l.1)
      (λ (l : In o.row (numbers_of front)). l) (level_opened table [] front front_fits o.row k.0 k.1)))
      (λ (k : In o.row (numbers_of n.back)). inr k) o.opened) (o.named ∙ p.2))

  pub itself_outside : (side : Bit) → goes_on row.path side row.path ≡ false
  itself_outside Left = false_from_ne_true (goes_on row.path Left row.path)
      (λ h. not_before_itself row.path (on_left row.path row.path h))
  itself_outside Right = false_from_ne_true (goes_on row.path Right row.path)
      (λ h. not_before_itself row.path (on_right row.path row.path h))

  pub left_inside : (q : DocRow) → In q left_rows → goes_on row.path Left q.path ≡ true
  left_inside q i = starts_contained (Below row.path Left) q.path
      (inside table [] ((x, Left) ∷ base) n.left n.left_word.0 q i)

  pub right_inside : (q : DocRow) → In q right_rows → goes_on row.path Right q.path ≡ true
  right_inside q i = starts_contained (Below row.path Right) q.path
      (inside table [] ((x, Right) ∷ base) n.right n.right_word.0 q i)

  pub left_not_right : (q : DocRow) → In q left_rows → goes_on row.path Right q.path ≡ false
  left_not_right q i = false_from_ne_true (goes_on row.path Right q.path)
      (λ h. not_both_before q.path row.path (on_left row.path q.path (left_inside q i)) (on_right row.path q.path h))

  pub right_not_left : (q : DocRow) → In q right_rows → goes_on row.path Left q.path ≡ false
  right_not_left q i = false_from_ne_true (goes_on row.path Left q.path)
      (λ h. not_both_before q.path row.path (on_left row.path q.path h) (on_right row.path q.path (right_inside q i)))

  in_five : (test : DocRow → Bool) → filter test all ≡ filter test front_rows
      ++ (filter test left_rows ++ (filter test (row ∷ []) ++ (filter test right_rows ++ filter test back_rows)))
  in_five test =
      ap (filter test) parted ∙ filter-append test front_rows (left_rows ++ row ∷ (right_rows ++ back_rows))
      ∙ ap (λ (q : List DocRow). filter test front_rows ++ q)
      (filter-append test left_rows (row ∷ (right_rows ++ back_rows))
      ∙ ap (λ (q : List DocRow). filter test left_rows ++ q)
      (filter-append test (row ∷ []) (right_rows ++ back_rows)
      ∙ ap (λ (q : List DocRow). filter test (row ∷ []) ++ q) (filter-append test right_rows back_rows)))

  only_row : (side : Bit) (q : DocRow) → In q (row ∷ []) → goes_on row.path side q.path ≡ false
  only_row side q i = ⊎_elim (λ (e : q ≡ row). subst (λ (p : DocRow). goes_on row.path side p.path ≡ false) (sym e)
      (itself_outside side)) (λ (z : ⊥). absurd z) i

  pub below_right : filter (λ (q : DocRow). goes_on row.path Right q.path) all ≡ right_rows
  below_right =
      let test : DocRow → Bool = λ (q : DocRow). goes_on row.path Right q.path in
      in_five test
      ∙ (λ i. filter_none test front_rows (front_outside Right) i
      ++ (filter_none test left_rows left_not_right i
      ++ (filter_none test (row ∷ []) (only_row Right) i
      ++ (filter_all test right_rows right_inside i ++ filter_none test back_rows (back_outside Right) i))))
      ∙ append-nil right_rows

  pub below_left : filter (λ (q : DocRow). goes_on row.path Left q.path) all ≡ left_rows
  below_left =
      let test : DocRow → Bool = λ (q : DocRow). goes_on row.path Left q.path in
      in_five test
      ∙ (λ i. filter_none test front_rows (front_outside Left) i
      ++ (filter_all test left_rows left_inside i ++ (filter_none test (row ∷ []) (only_row Left) i
      ++ (filter_none test right_rows right_not_left i ++ filter_none test back_rows (back_outside Left) i))))
      ∙ append-nil left_rows

  -- the row is found

  pub found : find_row (table x).id all ≡ Some row
  found =
      ap (λ (y : AtomIdValue). find_row y all) (sym (row_named table (slot_of table base) x))
      ∙ ap (find_row (row_id row)) regrouped
      ∙ find_at (front_rows ++ left_rows) row (right_rows ++ back_rows)
      (λ s i. across Differ (front_rows ++ left_rows) (row ∷ (right_rows ++ back_rows))
      (subst (Successive Differ) regrouped b.document.apart) s row i (inl refl))

  pub slot_is : (side : Bit) → slot_path all (At (table x).id side) ≡ Some (Below row.path side)
  slot_is side = ap (λ (o : Option DocRow). option_map (λ (r : DocRow). Below r.path side) o) found

  pub right_slot : rows_in_slot all (At (table x).id Right) ≡ right_rows
  right_slot = ap (rows_below all) (slot_is Right) ∙ below_right

  pub left_slot : rows_in_slot all (At (table x).id Left) ≡ left_rows
  left_slot = ap (rows_below all) (slot_is Left) ∙ below_left

  -- the row that follows
  pub follows : next_id (table x).id all ≡ first_id (right_rows ++ back_rows)
  follows =
      ap (λ (y : AtomIdValue). next_id y all) (sym (row_named table (slot_of table base) x))
      ∙ ap (next_id (row_id row)) regrouped
      ∙ next_at (front_rows ++ left_rows) row (right_rows ++ back_rows)
      (λ s i. across Differ (front_rows ++ left_rows) (row ∷ (right_rows ++ back_rows))
      (subst (Successive Differ) regrouped b.document.apart) s row i (inl refl))

-- the first row is the next atom

some_first : (rows : List DocRow) (others : List NamedAtom) (back : List DocRow) (a : NamedAtom) → map named rows
    ≡ a ∷ others → first_id (rows ++ back) ≡ Some a.id
some_first [] others back a e = absurd (nothing (a ∷ others) e)
  where
    nothing : (l : List NamedAtom) → [] ≡ a ∷ others → ⊥
    nothing l e = cc
some_first (r ∷ rows) others back a e = ap Some (same (named r) a (map named rows) others e)
  where
    same : (c d : NamedAtom) (p q : List NamedAtom) → c ∷ p ≡ d ∷ q → c.id ≡ d.id
    same c d p q e = ap (λ (k : NamedAtom). k.id) (heads c d p q e)
      where
        heads : (c d : NamedAtom) (p q : List NamedAtom) → c ∷ p ≡ d ∷ q → c ≡ d
        heads c d p q e = cc

pub first_is : (table : ℕ → Entry) (stack : List Level) (tokens : List Token)
    → first_id (rows_from table stack tokens) ≡ option_map (λ (r : ℕ). (table r).id) (next_row tokens)
first_is table stack [] = refl
first_is table stack (Open r ∷ tokens) = first_is table ((r, Left) ∷ stack) tokens
first_is table stack (Atom r ∷ tokens) = ap Some (row_named table (slot_of table (outer stack)) r)
first_is table stack (Close r ∷ tokens) = first_is table (move stack (Close r)) tokens
first_is table stack (Leaf [] ∷ tokens) = first_is table stack tokens
first_is table stack (Leaf (r ∷ rs) ∷ tokens) =
    some_first (leaf_rows table (slot_of table stack) (r ∷ rs)) (map (atom_of table) rs)
    (rows_from table stack tokens) (atom_of table r)
    (array_names (slot_of table stack) (map (atom_of table) (r ∷ rs)))

-- a slot is empty where its closing token follows directly

nonempty : {X : Type 0} (xs : List X) (y : X) (ys : List X) → is_empty_list (xs ++ y ∷ ys) ≡ false
nonempty [] y ys = refl
nonempty (x ∷ xs) y ys = refl

pub word_rows : (table : ℕ → Entry) (base : List Level) (tokens : List Token) → IsWord tokens
    → is_empty_list (rows_from table base tokens) ≡ is_empty_list tokens
word_rows table under [] w = refl
word_rows table under (Open s ∷ tokens) w =
    let m = node [] tokens s w in
    ap (λ (q : List Token). is_empty_list (rows_from table ((s, Left) ∷ under) q)) m.is
    ∙ ap is_empty_list (rows_then table ((s, Left) ∷ under) ((s, Left) ∷ under) m.left
    (Atom s ∷ (m.right ++ Close s ∷ m.back)) (word_moves ((s, Left) ∷ under) m.left m.left_word))
    ∙ nonempty (rows_from table ((s, Left) ∷ under) m.left) (row_of table (slot_of table under) s)
    (rows_from table ((s, Right) ∷ under) (m.right ++ Close s ∷ m.back))
word_rows table under (Atom s ∷ tokens) w = absurd w.0.0
word_rows table under (Close s ∷ tokens) w = absurd w.0.0
word_rows table under (Leaf [] ∷ tokens) w = absurd (true≢false w.0.0)
word_rows table under (Leaf (r ∷ rs) ∷ tokens) w =
    first_some (rows_from table under (Leaf (r ∷ rs) ∷ tokens)) (table r).id
    (first_is table under (Leaf (r ∷ rs) ∷ tokens))
  where
    first_some : (rows : List DocRow) (x : AtomIdValue) → first_id rows ≡ Some x → is_empty_list rows ≡ false
    first_some [] x e = absurd (none_some x e)
      where
        none_some : (x : AtomIdValue) → None ≡ Some x → ⊥
        none_some x e = cc
    first_some (q ∷ rows) x e = refl
