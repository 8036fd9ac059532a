-- What new rows leave: brackets, whose rows are those of the insertion.
use Rattle.std.proofs.Common.{◌≡◌, ◌≢◌, ◌⊎◌, ℕ, List, [], ◌∷◌, ◌++◌, Some, map, refl}
use Rattle.std.proofs.Common.{sym, ap, ◌∙◌, subst, inl, inr, ⊎_elim}
use Rattle.std.specs.Prelude.{IsNone, IsTrue}
use Rattle.td_base.specs.declared.bit.Bit.{Bit}
use Rattle.td_base.specs.declared.bit.Bit.TheVariants.{Left, Right}
use Rattle.td_base.specs.Value.{AtomIdValue}
use Rattle.td_base.specs.Lists.{In}
use Rattle.td_base.proofs.Lists.{In-append, In-front, In-back, In-map, map_In, all_in, all_of, across}
use Rattle.td_base.proofs.Lists.{successive_back, successive_front, successive_append}
use Rattle.std.specs.declared.cmp.Ordering.TheVariants.{Less}
use Rattle.td_path.specs.Infix.{path_cmp}
use Rattle.td_path.specs.SlotPaths.{path_in}
use Rattle.td_path.specs.declared.slot.Slot.{Slot}
use Rattle.td_path.specs.declared.slot_path.SlotPath.{SlotPath}
use Rattle.td_path.specs.declared.slot_path.SlotPath.TheVariants.{Below}
use Rattle.td_doc.specs.Document.{DocRow, row_id, find_row, IsDocument}
use Rattle.td_doc.specs.Slots.{slot_path}
use Rattle.td_doc.specs.Answers.{is_rooted}
use Rattle.td_doc.specs.Array.{named, array}
use Rattle.td_base.specs.RunAtoms.{NamedAtom}
use Rattle.td_doc.specs.Insertion.{insert_atom}
use Rattle.td_doc.proofs.ArrayRows.{array_names}
use Rattle.td_doc.proofs.Rules.{insert_keeps, fresh}
use Rattle.td_brackets.specs.Brackets.{Token, Open, Atom, Close, Leaf, Entry, Level, move_all, AllFit}
use Rattle.td_brackets.specs.Brackets.{IsWord, atom_of, leaf_rows, numbers_at, numbers_of, slot_of}
use Rattle.td_brackets.specs.Brackets.{row_of, rows_from, rows_of, IsBrackets}
use Rattle.td_brackets.specs.Laws.{Standing, AllAfter}
use Rattle.td_brackets.proofs.Words.{fit-append, rows-append, word_put, group, group_word}
use Rattle.td_brackets.proofs.Sides.{row_named, IsOpened, level_opened, after_open, after_atom, after_close, after_leaf}
use Rattle.td_brackets.proofs.NodeRows.{numbers-append, parted, front_rows, left_rows, row}
use Rattle.td_brackets.proofs.Standing.{inserted}
use Rattle.td_brackets.proofs.SidesOf.{split_at}
use Rattle.td_brackets.proofs.Once.{Apart, stand_once}

-- another table that agrees on the rows that stand there

module _ (table next : ℕ → Entry) where
  slot_same : (stack : List Level) → ((s : ℕ) (b : Bit) → In (s, b) stack → next s ≡ table s) → slot_of next stack
      ≡ slot_of table stack
  slot_same [] h = refl
  slot_same (l ∷ stack) h = λ i. Below (path_in (slot_same stack (λ s b k. h s b (inr k)) i)
      (h l.0 l.1 (inl refl) i).id) l.1

  entry_same : (slot slot' : SlotPath) (r : ℕ) → slot ≡ slot' → next r ≡ table r → row_of next slot r
      ≡ row_of table slot' r
  entry_same slot slot' r e f = λ i. record {
    path = path_in (e i) (f i).id;
    atom = (f i).atom;
    deletes = (f i).deletes;
  }

  atoms_same : (rs : List ℕ) → ((r : ℕ) → In r rs → next r ≡ table r) → map (atom_of next) rs ≡ map (atom_of table) rs
  atoms_same [] h = refl
  atoms_same (r ∷ rs) h = λ i. record { id = (h r (inl refl) i).id; atom = (h r (inl refl) i).atom } ∷ atoms_same rs
      (λ s k. h s (inr k)) i

  leaf_same : (rs : List ℕ) (slot slot' : SlotPath) → slot ≡ slot' → ((r : ℕ) → In r rs → next r ≡ table r)
      → leaf_rows next slot rs ≡ leaf_rows table slot' rs
  leaf_same rs slot slot' e h = λ i. array (e i) (atoms_same rs h i)

  pub rows_same : (stack : List Level) (tokens : List Token) → AllFit stack tokens
      → ((s : ℕ) → IsOpened table s stack tokens → next s ≡ table s) → rows_from next stack tokens
      ≡ rows_from table stack tokens
  rows_same stack [] h agree = refl
  rows_same stack (Open r ∷ tokens) h agree = rows_same ((r, Left) ∷ stack) tokens h.1
      (λ s o. agree s (after_open table stack r tokens s o))
  rows_same [] (Atom r ∷ tokens) h agree = absurd h.0
  rows_same (l ∷ stack) (Atom r ∷ tokens) h agree =
      let here : row_of next (slot_of next stack) r ≡ row_of table (slot_of table stack) r =
      entry_same (slot_of next stack) (slot_of table stack) r
      (slot_same stack (λ s b k. agree s (inl (b, inr k)))) (agree r (inl (Left, inl (sym h.0)))) in
      λ i. here i ∷ rows_same ((l.0, Right) ∷ stack) tokens h.1
      (λ s o. agree s (after_atom table l stack r tokens s o)) i
  rows_same [] (Close r ∷ tokens) h agree = absurd h.0
  rows_same (l ∷ stack) (Close r ∷ tokens) h agree =
      rows_same stack tokens h.1 (λ s o. agree s (after_close table l stack r tokens s o))
  rows_same stack (Leaf rs ∷ tokens) h agree =
      λ i. leaf_same rs (slot_of next stack) (slot_of table stack) (slot_same stack (λ s b k. agree s (inl (b, k))))
      (λ r k. agree r (inr (In-front r rs (numbers_of tokens) k))) i
      ++ rows_same stack tokens h.1 (λ s o. agree s (after_leaf table stack rs tokens s o)) i

pub none_open : (table : ℕ → Entry) (s : ℕ) (tokens : List Token) → IsOpened table s [] tokens
    → In s (numbers_of tokens)
none_open table s tokens o = ⊎_elim (λ (k : (b : Bit) × In {X = Level} (s, b) []). absurd k.1)
    (λ (k : In s (numbers_of tokens)). k) o

-- so is a place among them
pub same_standing : (table next : ℕ → Entry) (tokens : List Token) (stack : List Level) (id : AtomIdValue)
    (front back : List Token) → IsWord tokens → ((s : ℕ) → In s (numbers_of tokens) → next s ≡ table s)
    → Standing table tokens stack id front back → AllAfter table stack id back
    → Standing next tokens stack id front back × AllAfter next stack id back
    × (slot_of next stack ≡ slot_of table stack)
same_standing table next tokens stack id front back w agree p after = (
  record {
    is = p.is;
    moved = p.moved;
    before = λ q i. subst (λ (k : SlotPath). path_cmp q.path (path_in k id) ≡ Less) (sym slot)
        (p.before q (subst (In q) (rows_same table next [] front fits.0 (λ s o. agree s (first s o))) i));
  },
  (λ q i. subst (λ (k : SlotPath). path_cmp (path_in k id) q.path ≡ Less) (sym slot)
      (after q (subst (In q) (rows_same table next stack back
      (subst (λ (k : List Level). AllFit k back) p.moved fits.1) (λ s o. agree s (behind s o))) i))),
  slot,
)
  where
    fits : AllFit [] front × AllFit (move_all [] front) back
    fits = fit-append [] front back (subst (AllFit []) p.is w.0)

    all_numbers : numbers_of tokens ≡ numbers_of front ++ numbers_of back
    all_numbers = ap numbers_of p.is ∙ numbers-append front back

    first : (s : ℕ) → IsOpened table s [] front → In s (numbers_of tokens)
    first s o = subst (In s) (sym all_numbers) (In-front s (numbers_of front) (numbers_of back)
        (none_open table s front o))

    level : (s : ℕ) (b : Bit) → In {X = Level} (s, b) stack → In s (numbers_of tokens)
    level s b i = first s (level_opened table [] front fits.0 s b (subst (In {X = Level} (s, b)) (sym p.moved) i))

    behind : (s : ℕ) → IsOpened table s stack back → In s (numbers_of tokens)
    behind s o = ⊎_elim (λ (k : (b : Bit) × In {X = Level} (s, b) stack). level s k.0 k.1)
        (λ (k : In s (numbers_of back)). subst (In s) (sym all_numbers)
        (In-back s (numbers_of front) (numbers_of back) k)) o

    slot : slot_of next stack ≡ slot_of table stack
    slot = slot_same table next stack (λ s b i. agree s (level s b i))

-- each number has its row

pub from_token : (s : ℕ) (tokens : List Token) → In s (numbers_of tokens) → In (Open s) tokens
    ⊎ ((rs : List ℕ) × In (Leaf rs) tokens × In s rs)
from_token s [] i = absurd i
from_token s (Open r ∷ tokens) i = ⊎_elim (λ (e : s ≡ r). inl (inl (ap Open e)))
    (λ (k : In s (numbers_of tokens)). ⊎_elim (λ (m : In (Open s) tokens). inl (inr m))
    (λ (m : (rs : List ℕ) × In (Leaf rs) tokens × In s rs). inr (m.0, inr m.1, m.2)) (from_token s tokens k)) i
from_token s (Atom r ∷ tokens) i = ⊎_elim (λ (m : In (Open s) tokens). inl (inr m))
    (λ (m : (rs : List ℕ) × In (Leaf rs) tokens × In s rs). inr (m.0, inr m.1, m.2)) (from_token s tokens i)
from_token s (Close r ∷ tokens) i = ⊎_elim (λ (m : In (Open s) tokens). inl (inr m))
    (λ (m : (rs : List ℕ) × In (Leaf rs) tokens × In s rs). inr (m.0, inr m.1, m.2)) (from_token s tokens i)
from_token s (Leaf qs ∷ tokens) i =
    ⊎_elim (λ (k : In s qs). inr (qs, inl refl, k))
    (λ (k : In s (numbers_of tokens)). ⊎_elim (λ (m : In (Open s) tokens). inl (inr m))
    (λ (m : (rs : List ℕ) × In (Leaf rs) tokens × In s rs). inr (m.0, inr m.1, m.2)) (from_token s tokens k))
    (In-append s qs (numbers_of tokens) i)

pub record HasRow (table : ℕ → Entry) (s : ℕ) (rows : List DocRow) : Type 0 where
  pub one : DocRow
  pub inside : In one rows
  pub is : row_id one ≡ (table s).id

leaf_row : (table : ℕ → Entry) (slot : SlotPath) (s : ℕ) (rs : List ℕ) → In s rs
    → HasRow table s (leaf_rows table slot rs)
leaf_row table slot s rs i =
    let names : In (atom_of table s) (map named (leaf_rows table slot rs)) =
    subst (In (atom_of table s)) (sym (array_names slot (map (atom_of table) rs))) (In-map (atom_of table) s rs i)
    in
    let r = map_In named (atom_of table s) (leaf_rows table slot rs) names in
    record { one = r.0; inside = r.1; is = sym (ap (λ (a : NamedAtom). a.id) r.2) }

leaf_somewhere : (table : ℕ → Entry) (stack : List Level) (tokens : List Token) (s : ℕ) (rs : List ℕ)
    → In (Leaf rs) tokens → In s rs → HasRow table s (rows_from table stack tokens)
leaf_somewhere table stack tokens s rs i j =
    let a = split_at (Leaf rs) tokens i in
    let under : List Level = move_all stack a.front in
    let r = leaf_row table (slot_of table under) s rs j in
    record {
      one = r.one;
      inside = subst (λ (q : List Token). In r.one (rows_from table stack q)) (sym a.is)
          (subst (In r.one) (sym (rows-append table stack a.front (Leaf rs ∷ a.back)))
          (In-back r.one (rows_from table stack a.front)
          (leaf_rows table (slot_of table under) rs ++ rows_from table under a.back)
          (In-front r.one (leaf_rows table (slot_of table under) rs) (rows_from table under a.back) r.inside)));
      is = r.is;
    }

open_somewhere : (table : ℕ → Entry) (tokens : List Token) (s : ℕ) → IsBrackets table tokens → In (Open s) tokens
    → HasRow table s (rows_of table tokens)
open_somewhere table tokens s b i =
    let a = split_at (Open s) tokens i in
    let b' : IsBrackets table (a.front ++ Open s ∷ a.back) = subst (IsBrackets table) a.is b in
    let one : DocRow = row table a.front a.back s b' in
    record {
      one = one;
      inside = subst (λ (q : List Token). In one (rows_of table q)) (sym a.is)
          (subst (In one) (sym (parted table a.front a.back s b'))
          (In-back one (front_rows table a.front a.back s b') _
          (In-back one (left_rows table a.front a.back s b') _ (inl refl))));
      is = row_named table (slot_of table (move_all [] a.front)) s;
    }

pub number_row : (table : ℕ → Entry) (tokens : List Token) (s : ℕ) → IsBrackets table tokens
    → In s (numbers_of tokens) → HasRow table s (rows_of table tokens)
number_row table tokens s b i =
    ⊎_elim (λ (m : In (Open s) tokens). open_somewhere table tokens s b m)
    (λ (m : (rs : List ℕ) × In (Leaf rs) tokens × In s rs). leaf_somewhere table [] tokens s m.0 m.1 m.2)
    (from_token s tokens i)

-- new tokens

module _ (next : ℕ → Entry) where
  abbrev Other : ℕ → ℕ → Type 0
  Other x y = (next x).id ≢ (next y).id

  between : (front mid back : List ℕ) → Apart next (front ++ back) → Apart next mid
      → ((x y : ℕ) → In x mid → In y (front ++ back) → Other x y) → Apart next (front ++ (mid ++ back))
  between front mid back old new other =
      successive_append Other front (mid ++ back) (successive_front Other front back old)
      (successive_append Other mid back new (successive_back Other front back old)
      (λ x y i j. other x y i (In-back y front back j)))
      (λ x y i j.
      ⊎_elim (λ (k : In y mid). λ (e : (next x).id ≡ (next y).id). other y x k (In-front x front back i) (sym e))
      (λ (k : In y back). across Other front back old x y i k) (In-append y mid back j))

-- one of the rows of a leaf
pub in_leaf : (rs : List ℕ) (r : ℕ) (part : List Token) → In (Leaf rs) part → In r rs → In r (numbers_of part)
in_leaf rs r [] i j = absurd i
in_leaf rs r (t ∷ part) i j = ⊎_elim (λ (e : Leaf rs ≡ t). In-front r (numbers_at t) (numbers_of part)
    (subst (λ (q : Token). In r (numbers_at q)) e j))
    (λ (k : In (Leaf rs) part). In-back r (numbers_at t) (numbers_of part) (in_leaf rs r part k j)) i

module _ (table next : ℕ → Entry) (tokens : List Token) (b : IsBrackets table tokens)
    (agree : (s : ℕ) → In s (numbers_of tokens) → next s ≡ table s)
    (front back : List Token) (parts : tokens ≡ front ++ back) where
  pub same_rows : rows_of next tokens ≡ rows_of table tokens
  same_rows = rows_same table next [] tokens b.word.0 (λ s o. agree s (none_open table s tokens o))

  old_apart : (xs : List ℕ) → ((s : ℕ) → In s xs → In s (numbers_of tokens)) → Apart table xs → Apart next xs
  old_apart [] sub h = tt
  old_apart (x ∷ xs) sub h = (
    all_of (λ (s : ℕ). (next x).id ≢ (next s).id) xs
        (λ y i e. all_in (λ (s : ℕ). (table x).id ≢ (table s).id) xs h.0 y i
        (sym (ap (λ (k : Entry). k.id) (agree x (sub x (inl refl)))) ∙ e
        ∙ ap (λ (k : Entry). k.id) (agree y (sub y (inr i))))),
    old_apart xs (λ s i. sub s (inr i)) h.1,
  )

  old_numbers : numbers_of tokens ≡ numbers_of front ++ numbers_of back
  old_numbers = ap numbers_of parts ∙ numbers-append front back

  -- a word of new rows, put among the tokens
  pub record IsNewWord (W : List Token) : Type 0 where
    pub word : IsWord W
    pub apart : Apart next (numbers_of W)
    pub other : (r s : ℕ) → In r (numbers_of W) → In s (numbers_of tokens) → (next r).id ≢ (next s).id
    pub live : (rs : List ℕ) (r : ℕ) → In (Leaf rs) W → In r rs → (next r).deletes ≡ []

  module _ (W : List Token) (new : IsNewWord W) where
    put_apart : Apart next (numbers_of (front ++ (W ++ back)))
    put_apart =
        subst (Apart next) (sym (numbers-append front (W ++ back)
        ∙ ap (λ (xs : List ℕ). numbers_of front ++ xs) (numbers-append W back)))
        (between next (numbers_of front) (numbers_of W) (numbers_of back)
        (subst (Apart next) old_numbers (old_apart (numbers_of tokens) (λ s i. i) b.apart)) new.apart
        (λ r s i j. new.other r s i (subst (In s) (sym old_numbers) j)))

    old_live : (rs : List ℕ) (r : ℕ) → In (Leaf rs) tokens → In r rs → (next r).deletes ≡ []
    old_live rs r i j = ap (λ (e : Entry). e.deletes) (agree r (in_leaf rs r tokens i j)) ∙ b.live rs r i j

    put_live : (rs : List ℕ) (r : ℕ) → In (Leaf rs) (front ++ (W ++ back)) → In r rs → (next r).deletes ≡ []
    put_live rs r i j =
        ⊎_elim (λ (k : In (Leaf rs) front). old_live rs r
        (subst (In (Leaf rs)) (sym parts) (In-front (Leaf rs) front back k)) j)
        (λ (k : In (Leaf rs) (W ++ back)).
        ⊎_elim (λ (l : In (Leaf rs) W). new.live rs r l j)
        (λ (l : In (Leaf rs) back). old_live rs r (subst (In (Leaf rs)) (sym parts)
        (In-back (Leaf rs) front back l)) j)
        (In-append (Leaf rs) W back k)) (In-append (Leaf rs) front (W ++ back) i)

    pub word_brackets : IsDocument (rows_of next (front ++ (W ++ back))) → IsBrackets next (front ++ (W ++ back))
    word_brackets d =
        let word : IsWord (front ++ (W ++ back)) = word_put front back W (subst IsWord parts b.word) new.word in
        record {
          word = word;
          once = stand_once next [] (front ++ (W ++ back)) word.0 put_apart;
          apart = put_apart;
          live = put_live;
          document = d;
        }

-- a new row

module _ (table next : ℕ → Entry) (tokens : List Token) (b : IsBrackets table tokens) (new : ℕ) (id : AtomIdValue)
    (atom : List ℕ)
    (agree : (s : ℕ) → In s (numbers_of tokens) → next s ≡ table s)
    (is : next new ≡ record { id = id; atom = atom; deletes = [] })
    (unknown : IsNone (find_row id (rows_of table tokens)))
    (front back : List Token) (parts : tokens ≡ front ++ back) where
  rows : rows_of next tokens ≡ rows_of table tokens
  rows = same_rows table next tokens b agree front back parts

  differs : (s : ℕ) → In s (numbers_of tokens) → (next new).id ≢ (next s).id
  differs s i e =
      let r = number_row table tokens s b i in
      fresh id (rows_of table tokens) unknown r.one r.inside
      (sym (ap (λ (k : Entry). k.id) is) ∙ e ∙ ap (λ (k : Entry). k.id) (agree s i) ∙ sym r.is)

  pub put_rows_are : (stack : List Level) (slot : Slot) → Standing next tokens stack (next new).id front back
      → AllAfter next stack (next new).id back → slot_path (rows_of table tokens) slot ≡ Some (slot_of next stack)
      → rows_of next (front ++ (group new ++ back)) ≡ insert_atom slot id atom (rows_of table tokens)
  put_rows_are stack slot p after there =
      inserted next tokens stack new front back slot id atom p after
      (ap (λ (q : List DocRow). slot_path q slot) rows ∙ there) is ∙ ap (insert_atom slot id atom) rows

  no_leaf : (rs : List ℕ) → In (Leaf rs) (group new) → ⊥
  no_leaf rs i =
      ⊎_elim (λ (e : Leaf rs ≡ Open new). no_open e) (λ (l : In (Leaf rs) (Atom new ∷ Close new ∷ [])).
      ⊎_elim (λ (e : Leaf rs ≡ Atom new). no_atom e) (λ (m : In (Leaf rs) (Close new ∷ [])).
      ⊎_elim (λ (e : Leaf rs ≡ Close new). no_close e) (λ (z : ⊥). z) m) l) i
    where
      no_open : Leaf rs ≡ Open new → ⊥
      no_open e = cc

      no_atom : Leaf rs ≡ Atom new → ⊥
      no_atom e = cc

      no_close : Leaf rs ≡ Close new → ⊥
      no_close e = cc

  new_word : IsNewWord table next tokens b agree front back parts (group new)
  new_word = record {
    word = group_word new;
    apart = (tt, tt);
    other = λ r s i j. ⊎_elim (λ (e : r ≡ new). subst (λ (x : ℕ). (next x).id ≢ (next s).id) (sym e) (differs s j))
        (λ (z : ⊥). absurd z) i;
    live = λ rs r i j. absurd (no_leaf rs i);
  }

  pub put_brackets : (stack : List Level) (slot : Slot) → Standing next tokens stack (next new).id front back
      → AllAfter next stack (next new).id back → slot_path (rows_of table tokens) slot ≡ Some (slot_of next stack)
      → IsTrue (is_rooted (rows_of table tokens) slot) → IsBrackets next (front ++ (group new ++ back))
  put_brackets stack slot p after there rooted =
      word_brackets table next tokens b agree front back parts (group new) new_word
      (subst IsDocument (sym (put_rows_are stack slot p after there))
      (insert_keeps (rows_of table tokens) slot id atom b.document unknown rooted))
