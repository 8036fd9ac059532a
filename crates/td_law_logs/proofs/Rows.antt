-- Rows of one document: where they stand, which slots have them, and which slots overlap.
use Rattle.std.proofs.Common.{◌≡◌, List, [], ◌∷◌, ◌++◌, true, false, ◌||◌, Option, Some, None, refl}
use Rattle.std.proofs.Common.{sym, ap, ◌∙◌, subst, ⊎_elim, true≢false, append_assoc}
use Rattle.std.proofs.lemmas.Bool.{or_left, or_right, cases_Bool}
use Rattle.std.specs.Option.{option_map, is_some}
use Rattle.td_base.specs.declared.bit.Bit.{Bit}
use Rattle.td_base.specs.Value.{AtomIdValue}
use Rattle.td_base.specs.Lists.{In}
use Rattle.td_base.proofs.Lists.{In-filter, filter_In}
use Rattle.td_path.specs.Infix.{Pair, Pairs}
use Rattle.td_path.specs.SlotPaths.{goes_on, slot_contains}
use Rattle.td_path.specs.declared.slot.Slot.{Slot}
use Rattle.td_path.specs.declared.slot.Slot.TheVariants.{Root, At}
use Rattle.td_path.specs.declared.slot_path.SlotPath.{SlotPath}
use Rattle.td_path.specs.declared.slot_path.SlotPath.TheVariants.{Root as Whole, Below}
use Rattle.td_path.proofs.InfixOrder.{goes_on_from, goes_on_parts}
use Rattle.td_doc.specs.Document.{DocRow, row_id, last_id, find_row, IsPath, IsDocument}
use Rattle.td_doc.specs.Slots.{slot_path, rows_below, rows_in_slot, is_within, contains_slot, overlaps}
use Rattle.td_path.specs.Slot.{same_slot, is_root}
use Rattle.td_doc.proofs.Rules.{found}
use Rattle.td_doc.proofs.SubtreeRows.{find_in, within_is}
use Rattle.td_doc.proofs.ApartSlots.{no_common_row}
use Rattle.td_law_logs.proofs.DocumentFacts.{id_at}
use Rattle.td_law_logs.specs.Places.{passes, slot_holds, place_of}
use Rattle.td_law_logs.proofs.Words.{atom_at}
use Rattle.td_law_logs.proofs.DocumentFacts.{nobody}
use Rattle.td_law_logs.proofs.Passes.{passes_parts, passes_from}
use Rattle.td_path.proofs.SlotEquals.{same_slot_refl}
use Rattle.std.proofs.lemmas.Option.{same_Some, none-some}

-- a path with a pair, by its last pair
pub record Ends (path : Pairs) (x : AtomIdValue) : Type 0 where
  pub front : Pairs
  pub side : Bit
  pub is : path ≡ front ++ (side, x) ∷ []

ends_from : (y : AtomIdValue) (t : Pair) (path : Pairs) → Ends (t ∷ path) (last_id y (t ∷ path))
ends_from y t [] = record { front = []; side = t.0; is = refl }
ends_from y t (u ∷ path) = let e = ends_from t.1 u path in
    record { front = t ∷ e.front; side = e.side; is = λ i. t ∷ e.is i }

pub row_ends : (r : DocRow) → IsPath r.path → Ends r.path (row_id r)
row_ends r h = cases r.path h
  where
    cases : (p : Pairs) → IsPath p → Ends p (last_id nobody p)
    cases [] k = absurd k
    cases (t ∷ p) k = ends_from nobody t p

-- the row of a place
pub record Standing (doc : List DocRow) (x : AtomIdValue) (path : Pairs) : Type 0 where
  pub row : DocRow
  pub inside : In row doc
  pub named : row_id row ≡ x
  pub stands : row.path ≡ path
  pub found : find_row x doc ≡ Some row

pub standing : (doc : List DocRow) (x : AtomIdValue) (path : Pairs) → place_of x doc ≡ Some path → Standing doc x path
standing doc x path h = at (find_row x doc) refl h
  where
    at : (o : Option DocRow) → find_row x doc ≡ o → option_map (λ (r : DocRow). r.path) o ≡ Some path
        → Standing doc x path
    at None e k = absurd (none-some path k)
    at (Some r) e k = let f = found x r doc e in
        record { row = r; inside = f.0; named = f.1; stands = same_Some r.path path k; found = e }

module _ (doc : List DocRow) (d : IsDocument doc) where
  pub place_is : (r : DocRow) → In r doc → place_of (row_id r) doc ≡ Some r.path
  place_is r i = ap (option_map (λ (q : DocRow). q.path)) (find_in doc r d.apart i)

  pub place_at : (r : DocRow) (x : AtomIdValue) → In r doc → row_id r ≡ x → place_of x doc ≡ Some r.path
  place_at r x i e = subst (λ z. place_of z doc ≡ Some r.path) e (place_is r i)

  -- a node on the way to a row is where it stands
  pub on_way : (r : DocRow) (front : Pairs) (side : Bit) (y : AtomIdValue) (next : Pair) (rest : Pairs) → In r doc
      → r.path ≡ front ++ (side, y) ∷ next ∷ rest
      → (q : DocRow) × In q doc × (q.path ≡ front ++ (side, y) ∷ []) × (row_id q ≡ y)
  on_way r front side y next rest i e =
      let q = d.rooted r (front ++ (side, y) ∷ []) next rest i
      (e ∙ sym (append_assoc front ((side, y) ∷ []) (next ∷ rest))) (no_pairs front (side, y)) in
      (q.0, q.1, q.2, id_at q.0 front (side, y) q.2)
    where
      no_pairs : (p : Pairs) (u : Pair) → p ++ u ∷ [] ≡ [] → ⊥
      no_pairs [] u k = cc
      no_pairs (z ∷ p) u k = cc

  pub above_place : (x : AtomIdValue) (path front : Pairs) (side : Bit) (y : AtomIdValue) (next : Pair) (rest : Pairs)
      → place_of x doc ≡ Some path → path ≡ front ++ (side, y) ∷ next ∷ rest
      → place_of y doc ≡ Some (front ++ (side, y) ∷ [])
  above_place x path front side y next rest h e =
      let s = standing doc x path h in
      let q = on_way s.row front side y next rest s.inside (s.stands ∙ e) in
      place_at q.0 y q.1 q.3 ∙ ap (λ (p : Pairs). Some p) q.2

  -- a slot by the path of its atom has what goes through it
  pub holds_of : (slot : Slot) (sp : SlotPath) (path : Pairs) → slot_path doc slot ≡ Some sp
      → slot_contains sp path ≡ true → slot_holds slot path ≡ true
  holds_of Root sp path e h = refl
  holds_of (At x bit) sp path e h = at (find_row x doc) refl e
    where
      at : (o : Option DocRow) → find_row x doc ≡ o → option_map (λ (q : DocRow). Below q.path bit) o ≡ Some sp
          → passes x bit path ≡ true
      at None f k = absurd (none-some sp k)
      at (Some r) f k =
          let w = found x r doc f in
          let b : Below r.path bit ≡ sp = same_Some (Below r.path bit) sp k in
          let g = goes_on_parts r.path bit path (subst (λ (z : SlotPath). slot_contains z path ≡ true) (sym b) h) in
          let n = row_ends r (d.paths r w.0) in
          let e1 : r.path ≡ n.front ++ (n.side, x) ∷ [] =
          n.is ∙ ap (λ (z : AtomIdValue). n.front ++ (n.side, z) ∷ []) w.1 in
          let e2 : path ≡ n.front ++ (n.side, x) ∷ (bit, g.id) ∷ g.rest =
          g.is ∙ ap (λ (p : Pairs). p ++ (bit, g.id) ∷ g.rest) e1
          ∙ append_assoc n.front ((n.side, x) ∷ []) ((bit, g.id) ∷ g.rest) in
          subst (λ (p : Pairs). passes x bit p ≡ true) (sym e2) (passes_from x bit n.front n.side g.id g.rest)

  -- the slot of a row that it has, by its atom's path
  pub record Contains (slot : Slot) (path : Pairs) : Type 0 where
    pub sp : SlotPath
    pub at : slot_path doc slot ≡ Some sp
    pub contains : slot_contains sp path ≡ true

  pub contains_of : (slot : Slot) (r : DocRow) → In r doc → slot_holds slot r.path ≡ true → Contains slot r.path
  contains_of Root r i h = record { sp = Whole; at = refl; contains = refl }
  contains_of (At x bit) r i h =
      let p = passes_parts x bit r.path h in
      let q = on_way r p.front p.side x (bit, p.next) p.rest i p.is in
      let f : find_row x doc ≡ Some q.0 = subst (λ z. find_row z doc ≡ Some q.0) q.3 (find_in doc q.0 d.apart q.1) in
      let e : r.path ≡ q.0.path ++ (bit, p.next) ∷ p.rest =
      p.is ∙ (sym (append_assoc p.front ((p.side, x) ∷ []) ((bit, p.next) ∷ p.rest))
      ∙ ap (λ (z : Pairs). z ++ (bit, p.next) ∷ p.rest) (sym q.2)) in
      record {
        sp = Below q.0.path bit;
        at = ap (option_map (λ (z : DocRow). Below z.path bit)) f;
        contains = subst (λ (z : Pairs). goes_on q.0.path bit z ≡ true) (sym e)
            (goes_on_from q.0.path bit p.next p.rest);
      }

  pub contains_by : (slot : Slot) (sp : SlotPath) (r : DocRow) → In r doc → slot_path doc slot ≡ Some sp
      → slot_holds slot r.path ≡ true → slot_contains sp r.path ≡ true
  contains_by slot sp r i e h = let c = contains_of slot r i h in
      subst (λ (z : SlotPath). slot_contains z r.path ≡ true) (same_Some c.sp sp (sym c.at ∙ e)) c.contains

  pub within_of : (slot : Slot) (r : DocRow) → In r doc → slot_holds slot r.path ≡ true
      → is_within doc (row_id r) slot ≡ true
  within_of slot r i h =
      let c = contains_of slot r i h in
      ap (λ (o : Option SlotPath). is_some (find_row (row_id r) (rows_below doc o))) c.at
      ∙ within_is doc c.sp r d.apart i ∙ c.contains

  pub in_slot : (slot : Slot) (r : DocRow) → In r doc → slot_holds slot r.path ≡ true → In r (rows_in_slot doc slot)
  in_slot slot r i h =
      let c = contains_of slot r i h in
      subst (λ (o : Option SlotPath). In r (rows_below doc o)) (sym c.at)
      (filter_In (λ (q : DocRow). slot_contains c.sp q.path) r doc i c.contains)

  pub held_in : (slot : Slot) (r : DocRow) → In r (rows_in_slot doc slot) → In r doc × (slot_holds slot r.path ≡ true)
  held_in slot r i = at (slot_path doc slot) refl i
    where
      at : (o : Option SlotPath) → slot_path doc slot ≡ o → In r (rows_below doc o)
          → In r doc × (slot_holds slot r.path ≡ true)
      at None e j = absurd j
      at (Some sp) e j = let f = In-filter (λ (q : DocRow). slot_contains sp q.path) r doc j in
          (f.0, holds_of slot sp r.path e f.1)

  -- overlaps

  pub both_hold : (s t : Slot) (x : AtomIdValue) (path : Pairs) → place_of x doc ≡ Some path
      → slot_holds s path ≡ true → slot_holds t path ≡ true → overlaps doc s t ≡ true
  both_hold s t x path h j k =
      let w = standing doc x path h in
      let a = within_of s w.row w.inside (subst (λ (p : Pairs). slot_holds s p ≡ true) (sym w.stands) j) in
      let b = within_of t w.row w.inside (subst (λ (p : Pairs). slot_holds t p ≡ true) (sym w.stands) k) in
      ⊎_elim (λ (e : overlaps doc s t ≡ true). e)
      (λ (e : overlaps doc s t ≡ false). absurd (true≢false (sym b ∙ no_common_row doc d s t (row_id w.row) e a)))
      (cases_Bool (overlaps doc s t))

  pub contains_root : (s : Slot) → contains_slot doc Root s ≡ true
  contains_root s = or_left (same_slot Root s || true) _ (or_right (same_slot Root s) true refl)

  pub root_first : (s : Slot) → overlaps doc Root s ≡ true
  root_first s = or_left (contains_slot doc Root s) _ (contains_root s)

  pub root_second : (s : Slot) → overlaps doc s Root ≡ true
  root_second s = or_right (contains_slot doc s Root) _ (contains_root s)

  pub same_overlap : (s t : Slot) → s ≡ t → overlaps doc s t ≡ true
  same_overlap s t e =
      or_left (contains_slot doc s t) _
      (or_left (same_slot s t || is_root s) _ (or_left (same_slot s t) _ (same_slot_refl s t e)))

  -- the atom of the second slot is in the first
  pub atom_overlap : (s t : Slot) (path : Pairs) → place_of (atom_at t) doc ≡ Some path → slot_holds s path ≡ true
      → overlaps doc s t ≡ true
  atom_overlap s Root path h k = root_second s
  atom_overlap s (At y c) path h k =
      let w = standing doc y path h in
      let i = within_of s w.row w.inside (subst (λ (p : Pairs). slot_holds s p ≡ true) (sym w.stands) k) in
      or_left (contains_slot doc s (At y c)) _
      (or_right (same_slot s (At y c) || is_root s) _ (subst (λ z. is_within doc z s ≡ true) w.named i))

  pub atom_overlap_back : (s t : Slot) (path : Pairs) → place_of (atom_at t) doc ≡ Some path
      → slot_holds s path ≡ true → overlaps doc t s ≡ true
  atom_overlap_back s Root path h k = root_first s
  atom_overlap_back s (At y c) path h k =
      let w = standing doc y path h in
      let i = within_of s w.row w.inside (subst (λ (p : Pairs). slot_holds s p ≡ true) (sym w.stands) k) in
      or_right (contains_slot doc (At y c) s) _
      (or_right (same_slot s (At y c) || is_root s) _ (subst (λ z. is_within doc z s ≡ true) w.named i))
