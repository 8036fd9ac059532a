-- Each slot with a row is the own slot of one of its rows, a slot contains the own slots of its rows, and a row is in
-- its own.
use Rattle.std.proofs.Common.{◌≡◌, ◌≢◌, ◌⊎◌, List, [], ◌∷◌, ◌++◌, true, false, ◌||◌, Option, Some, None, refl}
use Rattle.std.proofs.Common.{sym, ap, ◌∙◌, subst, inl, inr, ⊎_elim, true≢false, append_assoc}
use Rattle.std.specs.Prelude.{is_some}
use Rattle.std.specs.Option.{option_map}
use Rattle.std.proofs.lemmas.Bool.{or_left, or_right}
use Rattle.td_base.specs.declared.bit.Bit.{Bit}
use Rattle.td_base.specs.Lists.{In}
use Rattle.td_base.specs.Value.{AtomIdValue}
use Rattle.td_base.proofs.Lists.{In-filter, filter_In}
use Rattle.td_path.specs.Infix.{Pair, Pairs}
use Rattle.td_path.specs.SlotPaths.{goes_on, slot_contains}
use Rattle.td_path.specs.Slot.{same_slot, is_root}
use Rattle.td_path.specs.declared.slot.Slot.{Slot}
use Rattle.td_path.specs.declared.slot.Slot.TheVariants.{Root, At}
use Rattle.td_path.specs.declared.slot_path.SlotPath.TheVariants.{Root as Whole, Below}
use Rattle.td_path.proofs.InfixOrder.{goes_on_from, goes_on_parts}
use Rattle.td_path.proofs.SlotEquals.{same_slot_refl}
use Rattle.td_doc.specs.Document.{DocRow, last_id, row_id, find_row, is_empty_list, IsPath, IsDocument}
use Rattle.td_doc.specs.Slots.{rows_below, rows_in_slot, is_empty_slot, is_within, contains_slot, last_slot, own_slot}
use Rattle.td_doc.proofs.Rules.{found}
use Rattle.td_doc.proofs.SubtreeRows.{within_is, find_in}

abbrev nobody : AtomIdValue
nobody = record { dot = record { site = 0; seq = 0 }; offset = 0 }

-- the own slot by the path that stands above the last pair
above_last : (slot : Slot) (p : Pair) (path : Pairs) (q : Pair) → last_slot slot ((p ∷ path) ++ q ∷ [])
    ≡ At (last_id p.1 path) q.0
above_last slot p [] q = refl
above_last slot p (r ∷ path) q = above_last (At p.1 r.0) r path q

-- a path below a row's
above : (a : DocRow) → IsPath a.path → (q : Pair) → last_slot Root (a.path ++ q ∷ []) ≡ At (row_id a) q.0
above a path q = at a.path path
  where
    at : (p : Pairs) → IsPath p → last_slot Root (p ++ q ∷ []) ≡ At (last_id nobody p) q.0
    at [] h = absurd h
    at (x ∷ p) h = above_last Root x p q

-- a row of the slot that stands right in it
pub record IsOwner (rows : List DocRow) (slot : Slot) : Type 0 where
  pub row : DocRow
  pub there : In row rows
  pub own : own_slot row ≡ slot

some_in : {X : Type 0} (xs : List X) → is_empty_list xs ≡ false → (x : X) × In x xs
some_in [] h = absurd (true≢false h)
some_in (x ∷ xs) h = (x, inl refl)

module _ (rows : List DocRow) (d : IsDocument rows) where
  root_at : (r : DocRow) → In r rows → (p : Pairs) → r.path ≡ p → IsPath p → IsOwner rows Root
  root_at r i [] e path = absurd path
  root_at r i (p ∷ []) e path = record { row = r; there = i; own = ap (last_slot Root) e }
  root_at r i (p ∷ q ∷ rest) e path =
      let s = d.rooted r (p ∷ []) q rest i e (λ (k : p ∷ [] ≡ []). some k) in
      record { row = s.0; there = s.1; own = ap (last_slot Root) s.2 }
    where
      some : {X : Type 0} {x : X} {xs : List X} → x ∷ xs ≡ [] → ⊥
      some k = cc

  at_at : (x : AtomIdValue) (bit : Bit) (a : DocRow) → In a rows → row_id a ≡ x → (r : DocRow) → In r rows
      → (id : AtomIdValue) (rest : Pairs)
      → r.path ≡ a.path ++ (bit, id) ∷ rest → IsOwner rows (At x bit)
  at_at x bit a j e r i id [] is =
      record {
        row = r;
        there = i;
        own = ap (last_slot Root) is ∙ above a (d.paths a j) (bit, id)
            ∙ ap (λ (y : AtomIdValue). At y bit) e;
      }
  at_at x bit a j e r i id (q ∷ rest) is =
      let s = d.rooted r (a.path ++ (bit, id) ∷ []) q rest i
      (is ∙ sym (append_assoc a.path ((bit, id) ∷ []) (q ∷ rest))) (some a.path (bit, id)) in
      record {
        row = s.0;
        there = s.1;
        own = ap (last_slot Root) s.2 ∙ above a (d.paths a j) (bit, id)
            ∙ ap (λ (y : AtomIdValue). At y bit) e;
      }
    where
      some : (p : Pairs) (z : Pair) → p ++ z ∷ [] ≢ []
      some [] z k = cc
      some (y ∷ p) z k = cc

  slot_at : (x : AtomIdValue) (bit : Bit) (o : Option DocRow) → find_row x rows ≡ o
      → is_empty_list (rows_below rows (option_map (λ (r : DocRow). Below r.path bit) o)) ≡ false
      → IsOwner rows (At x bit)
  slot_at x bit None e some = absurd (true≢false some)
  slot_at x bit (Some a) e some =
      let r = some_in (rows_below rows (Some (Below a.path bit))) some in
      let i = In-filter (λ (q : DocRow). slot_contains (Below a.path bit) q.path) r.0 rows r.1 in
      let g = goes_on_parts a.path bit r.0.path i.1 in
      let f = found x a rows e in
      at_at x bit a f.0 f.1 r.0 i.0 g.id g.rest g.is

  -- each slot with a row is the own slot of a row
  pub owner_of : (t : Slot) → is_empty_slot rows t ≡ false → IsOwner rows t
  owner_of Root some =
      let r = some_in (rows_in_slot rows Root) some in
      let i = (In-filter (λ (q : DocRow). slot_contains Whole q.path) r.0 rows r.1).0 in
      root_at r.0 i r.0.path refl (d.paths r.0 i)
  owner_of (At x bit) some = slot_at x bit (find_row x rows) refl some

  -- ---- a slot contains the own slots of its rows

  -- the path without its last pair, which is below the slot's atom too, or the atom's
  record IsLast (front : Pairs) (q : Pair) (rest : Pairs) : Type 0 where
    init : Pairs
    last : Pair
    is : front ++ q ∷ rest ≡ init ++ last ∷ []
    below : ((init ≡ front) × (last ≡ q)) ⊎ ((more : Pairs) × (init ≡ front ++ q ∷ more))

  last_of : (front : Pairs) (q : Pair) (rest : Pairs) → IsLast front q rest
  last_of front q [] = record { init = front; last = q; is = refl; below = inl (refl, refl) }
  last_of front q (z ∷ rest) =
      let k = last_of (front ++ q ∷ []) z rest in
      let e : front ++ q ∷ z ∷ rest ≡ (front ++ q ∷ []) ++ z ∷ rest = sym (append_assoc front (q ∷ []) (z ∷ rest)) in
      record {
        init = k.init;
        last = k.last;
        is = e ∙ k.is;
        below = inr (⊎_elim
            (λ (h : (k.init ≡ front ++ q ∷ []) × (k.last ≡ z)). ([], h.0))
            (λ (h : (more : Pairs) × (k.init ≡ (front ++ q ∷ []) ++ z ∷ more)).
            (z ∷ h.0, h.1 ∙ append_assoc front (q ∷ []) (z ∷ h.0)))
            k.below);
      }

  own_at : (x : AtomIdValue) (bit : Bit) (a : DocRow) → find_row x rows ≡ Some a → (r : DocRow) → In r rows
      → goes_on a.path bit r.path ≡ true
      → contains_slot rows (At x bit) (own_slot r) ≡ true
  own_at x bit a e r i h =
      let f = found x a rows e in
      let g = goes_on_parts a.path bit r.path h in
      let k = last_of a.path (bit, g.id) g.rest in
      let is : r.path ≡ k.init ++ k.last ∷ [] = g.is ∙ k.is in
      ⊎_elim
      (λ (l : (k.init ≡ a.path) × (k.last ≡ (bit, g.id))).
      let own : own_slot r ≡ At x bit =
      ap (last_slot Root) (is ∙ (λ j. l.0 j ++ l.1 j ∷ [])) ∙ above a (d.paths a f.0) (bit, g.id)
      ∙ ap (λ (y : AtomIdValue). At y bit) f.1 in
      or_left (same_slot (At x bit) (own_slot r) || is_root (At x bit)) _
      (or_left (same_slot (At x bit) (own_slot r)) _ (same_slot_refl (At x bit) (own_slot r) (sym own))))
      (λ (l : (more : Pairs) × (k.init ≡ a.path ++ (bit, g.id) ∷ more)).
      let s = d.rooted r k.init k.last [] i is (λ (z : k.init ≡ []). some a.path (bit, g.id) l.0 (sym l.1 ∙ z)) in
      let own : own_slot r ≡ At (row_id s.0) k.last.0 =
      ap (last_slot Root) (is ∙ ap (λ (p : Pairs). p ++ k.last ∷ []) (sym s.2)) ∙ above s.0 (d.paths s.0 s.1) k.last in
      let inside : slot_contains (Below a.path bit) s.0.path ≡ true =
      subst (λ (p : Pairs). goes_on a.path bit p ≡ true) (sym (s.2 ∙ l.1)) (goes_on_from a.path bit g.id l.0) in
      let within : is_within rows (row_id s.0) (At x bit) ≡ true =
      ap (λ (o : Option DocRow). is_some (find_row (row_id s.0)
      (rows_below rows (option_map (λ (q : DocRow). Below q.path bit) o)))) e
      ∙ within_is rows (Below a.path bit) s.0 d.apart s.1 ∙ inside in
      subst (λ (t : Slot). contains_slot rows (At x bit) t ≡ true) (sym own)
      (or_right (same_slot (At x bit) (At (row_id s.0) k.last.0) || is_root (At x bit)) _ within))
      k.below
    where
      some : (p : Pairs) (z : Pair) (more : Pairs) → p ++ z ∷ more ≢ []
      some [] z more k = cc
      some (y ∷ p) z more k = cc

  contains_at : (x : AtomIdValue) (bit : Bit) (r : DocRow) (o : Option DocRow) → find_row x rows ≡ o
      → In r (rows_below rows (option_map (λ (q : DocRow). Below q.path bit) o))
      → contains_slot rows (At x bit) (own_slot r) ≡ true
  contains_at x bit r None e i = absurd i
  contains_at x bit r (Some a) e i =
      let f = In-filter (λ (q : DocRow). slot_contains (Below a.path bit) q.path) r rows i in own_at x bit a e r f.0 f.1

  pub contains_own : (t : Slot) (r : DocRow) → In r (rows_in_slot rows t) → contains_slot rows t (own_slot r) ≡ true
  contains_own Root r i = or_left (same_slot Root (own_slot r) || true) _
      (or_right (same_slot Root (own_slot r)) true refl)
  contains_own (At x bit) r i = contains_at x bit r (find_row x rows) refl i

  -- ---- the own slot of a row has the row

  own_below : (a : DocRow) → In a rows → (s : DocRow) → In s rows → (last : Pair) → a.path ≡ s.path ++ last ∷ []
      → In a (rows_in_slot rows (At (row_id s) last.0))
  own_below a i s j last e =
      let goes : goes_on s.path last.0 a.path ≡ true =
      subst (λ (p : Pairs). goes_on s.path last.0 p ≡ true) (sym e) (goes_on_from s.path last.0 last.1 []) in
      subst (λ (o : Option DocRow). In a (rows_below rows (option_map (λ (q : DocRow). Below q.path last.0) o)))
      (sym (find_in rows s d.apart j))
      (filter_In (λ (q : DocRow). slot_contains (Below s.path last.0) q.path) a rows i goes)

  own_at_path : (a : DocRow) → In a rows → (p : Pairs) → a.path ≡ p → IsPath p → In a (rows_in_slot rows (own_slot a))
  own_at_path a i [] e path = absurd path
  own_at_path a i (q ∷ []) e path =
      subst (λ (s : Slot). In a (rows_in_slot rows s)) (sym (ap (last_slot Root) e))
      (filter_In (λ (q : DocRow). slot_contains Whole q.path) a rows i refl)
  own_at_path a i (q ∷ z ∷ rest) e path =
      let k = last_of (q ∷ []) z rest in
      let is : a.path ≡ k.init ++ k.last ∷ [] = e ∙ k.is in
      let s = d.rooted a k.init k.last [] i is
      (λ (h : k.init ≡ []).
      ⊎_elim (λ (l : (k.init ≡ q ∷ []) × (k.last ≡ z)). some (sym l.0 ∙ h))
      (λ (l : (more : Pairs) × (k.init ≡ (q ∷ []) ++ z ∷ more)). some (sym l.1 ∙ h)) k.below) in
      let path_is : a.path ≡ s.0.path ++ k.last ∷ [] = is ∙ ap (λ (p : Pairs). p ++ k.last ∷ []) (sym s.2) in
      let own : own_slot a ≡ At (row_id s.0) k.last.0 = ap (last_slot Root) path_is
      ∙ above s.0 (d.paths s.0 s.1) k.last in
      subst (λ (t : Slot). In a (rows_in_slot rows t)) (sym own) (own_below a i s.0 s.1 k.last path_is)
    where
      some : {X : Type 0} {x : X} {xs : List X} → x ∷ xs ≡ [] → ⊥
      some h = cc

  pub own_has : (a : DocRow) → In a rows → In a (rows_in_slot rows (own_slot a))
  own_has a i = own_at_path a i a.path refl (d.paths a i)
