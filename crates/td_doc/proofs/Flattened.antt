-- What a flatten leaves is a document, in which the rows that stay have their identities, their atoms and their order.
use Rattle.std.proofs.Common.{◌≡◌, ◌≢◌, ℕ, List, [], ◌∷◌, ◌++◌, Bool, true, false, ◌||◌, not, cond, map}
use Rattle.std.proofs.Common.{filter, length, Option, Some, None, refl, sym, ap, ◌∙◌, subst, inl, inr}
use Rattle.std.proofs.Common.{⊎_elim, true≢false, arith, append_assoc, length-append}
use Rattle.std.specs.List.{concat}
use Rattle.std.specs.Option.{option_map}
use Rattle.std.proofs.lemmas.List.{append-nil, map-append}
use Rattle.std.proofs.lemmas.Bool.{not-true, false_from_ne_true}
use Rattle.td_base.specs.declared.bit.Bit.{Bit}
use Rattle.td_base.specs.Value.{DotValue, AtomIdValue}
use Rattle.td_base.specs.Lists.{In, Successive}
use Rattle.td_base.proofs.Lists.{In-filter, filter_In, map_In, all_in, successive_filter, successive_map}
use Rattle.td_path.specs.Infix.{Pair, Pairs}
use Rattle.td_path.specs.SlotPaths.{goes_on, slot_contains}
use Rattle.td_path.specs.declared.slot.Slot.{Slot}
use Rattle.td_path.specs.declared.slot.Slot.TheVariants.{Root, At}
use Rattle.td_path.specs.declared.slot_path.SlotPath.{SlotPath}
use Rattle.td_path.specs.declared.slot_path.SlotPath.TheVariants.{Root as Whole, Below}
use Rattle.td_path.proofs.InfixOrder.{goes_on_from, goes_on_parts}
use Rattle.td_doc.specs.Document.{DocRow, row_id, find_row, is_empty_list, is_live, live_rows, text_of, IsDocument}
use Rattle.td_doc.specs.Slots.{slot_path, rows_below, rows_in_slot}
use Rattle.td_doc.specs.Array.{named, array}
use Rattle.td_base.specs.RunAtoms.{NamedAtom}
use Rattle.td_doc.specs.Flatten.{rows_beside, flatten_below, flatten}
use Rattle.td_doc.specs.Stretches.{IsReplaced, is_in, kept_rows}
use Rattle.td_doc.proofs.PutRows.{Before, Differ}
use Rattle.td_doc.proofs.ArrayRows.{array_names, array_bare, array_live}
use Rattle.td_doc.proofs.Rules.{HangsIn, hangs_whole, found, array_document}
use Rattle.td_doc.proofs.SlotRows.{Split, split, split_flatten, front_outside, back_outside, flatten_replaces}
use Rattle.td_base.proofs.Searches.{filter_all, filter_parts}
use Rattle.std.proofs.Math.Bool.{or-true, or-false}

-- what goes on in a slot

pub contains_more : (slot : SlotPath) (p more : Pairs) → slot_contains slot p ≡ true → slot_contains slot (p ++ more)
    ≡ true
contains_more Whole p more h = refl
contains_more (Below front bit) p more h =
    let g = goes_on_parts front bit p h in
    let longer : p ++ more ≡ front ++ (bit, g.id) ∷ (g.rest ++ more) = ap (λ (q : Pairs). q ++ more) g.is
    ∙ append_assoc front ((bit, g.id) ∷ g.rest) more in
    subst (λ (q : Pairs). goes_on front bit q ≡ true) (sym longer) (goes_on_from front bit g.id (g.rest ++ more))

pub not_in_own_slots : (p : Pairs) (bit : Bit) → goes_on p bit p ≡ true → ⊥
not_in_own_slots p bit h = let g = goes_on_parts p bit p h in too_long p (bit, g.id) g.rest g.is
  where
    too_long : (p : Pairs) (q : Pair) (rest : Pairs) → p ≡ p ++ q ∷ rest → ⊥
    too_long p q rest e = let same : length p ≡ length (p ++ q ∷ rest) = ap length e in
        absurd (omega (arith, same, length-append p (q ∷ rest)))

pub beside : (slot : SlotPath) (rows : List DocRow) (r : DocRow) → In r (rows_beside slot rows) → In r rows
    × (slot_contains slot r.path ≡ false)
beside slot rows r i = let f = In-filter (λ (x : DocRow). not (slot_contains slot x.path)) r rows i in
    (f.0, not-true (slot_contains slot r.path) f.1)

pub stays_beside : (slot : SlotPath) (rows : List DocRow) (r : DocRow) → In r rows → slot_contains slot r.path ≡ false
    → In r (rows_beside slot rows)
stays_beside slot rows r i h = filter_In (λ (x : DocRow). not (slot_contains slot x.path)) r rows i (ap not h)

-- the rows outside a slot are a document
beside_document : (slot : SlotPath) (rows : List DocRow) → IsDocument rows → IsDocument (rows_beside slot rows)
beside_document slot rows d = record {
  ascending = successive_filter Before (λ (x : DocRow). not (slot_contains slot x.path)) rows d.ascending;
  apart = successive_filter Differ (λ (x : DocRow). not (slot_contains slot x.path)) rows d.apart;
  paths = λ r i. d.paths r (beside slot rows r i).0;
  rooted = λ r front next rest i e some.
      let b = beside slot rows r i in
      let at = d.rooted r front next rest b.0 e some in (
        at.0,
        stays_beside slot rows at.0 at.1 (false_from_ne_true (slot_contains slot at.0.path)
            (λ h. true≢false (sym (contains_more slot front (next ∷ rest)
            (subst (λ (p : Pairs). slot_contains slot p ≡ true) at.2 h)) ∙ ap (slot_contains slot) (sym e) ∙ b.1))),
        at.2,
      );
  deletes = λ r i. d.deletes r (beside slot rows r i).0;
}

-- the slot's atom and what is above it stay
hangs_beside : (rows : List DocRow) → IsDocument rows → (r : DocRow) (bit : Bit) → In r rows
    → HangsIn (Below r.path bit) (rows_beside (Below r.path bit) rows)
hangs_beside rows d r bit i = record { is_path = d.paths r i; above = λ front a some. at front a.0 a.1 some }
  where
    out : (p more : Pairs) → r.path ≡ p ++ more → goes_on r.path bit p ≡ false
    out p more e = false_from_ne_true (goes_on r.path bit p)
        (λ h. not_in_own_slots r.path bit (ap (goes_on r.path bit) e ∙ contains_more (Below r.path bit) p more h))

    at : (front rest : Pairs) → r.path ≡ front ++ rest → front ≢ [] → (s : DocRow)
        × In s (rows_beside (Below r.path bit) rows) × (s.path ≡ front)
    at front [] e some = (
      r,
      stays_beside (Below r.path bit) rows r i (out r.path [] (sym (append-nil r.path))),
      e
          ∙ append-nil front,
    )
    at front (next ∷ rest) e some =
        let s = d.rooted r front next rest i e some in (
          s.0,
          stays_beside (Below r.path bit) rows s.0 s.1 (ap (goes_on r.path bit) s.2 ∙ out front (next ∷ rest) e),
          s.2,
        )

-- rows with one identity are one row
pub same_row : (rows : List DocRow) → Successive Differ rows → (r s : DocRow) → In r rows → In s rows → row_id r
    ≡ row_id s → r ≡ s
same_row [] apart r s i j e = absurd i
same_row (x ∷ rows) apart r s i j e =
    ⊎_elim
    (λ (p : r ≡ x). ⊎_elim (λ (q : s ≡ x). p ∙ sym q)
    (λ (k : In s rows). absurd (all_in (Differ x) rows apart.0 s k (ap row_id (sym p) ∙ e))) j)
    (λ (k : In r rows). ⊎_elim (λ (q : s ≡ x). absurd (all_in (Differ x) rows apart.0 r k (sym (e ∙ ap row_id q))))
    (λ (m : In s rows). same_row rows apart.1 r s k m e) j)
    i

-- the atoms of the live rows in a slot
abbrev live_in : SlotPath → List DocRow → List NamedAtom
live_in slot rows = map named (live_rows (rows_below rows (Some slot)))

live_from : (slot : SlotPath) (rows : List DocRow) (a : NamedAtom) → In a (live_in slot rows) → (r : DocRow)
    × In r rows × (slot_contains slot r.path ≡ true) × (a ≡ named r)
live_from slot rows a i =
    let m = map_In named a (live_rows (rows_below rows (Some slot))) i in
    let l = In-filter is_live m.0 (rows_below rows (Some slot)) m.1 in
    let c = In-filter (λ (x : DocRow). slot_contains slot x.path) m.0 rows l.0 in
    (m.0, c.0, c.1, m.2)

flatten_at_document : (slot : SlotPath) (rows : List DocRow) → IsDocument rows → HangsIn slot (rows_beside slot rows)
    → IsDocument (flatten_below (Some slot) rows)
flatten_at_document slot rows d h =
    array_document slot (live_in slot rows) (rows_beside slot rows) (beside_document slot rows d) h
    (successive_map (λ (a b : NamedAtom). a.id ≢ b.id) named (live_rows (rows_below rows (Some slot)))
    (successive_filter Differ is_live (rows_below rows (Some slot))
    (successive_filter Differ (λ (x : DocRow). slot_contains slot x.path) rows d.apart)))
    (λ a i x j e.
    let l = live_from slot rows a i in
    let b = beside slot rows x j in
    let one : l.0 ≡ x = same_row rows d.apart l.0 x l.1 b.0 (sym (ap (λ (c : NamedAtom). c.id) l.3) ∙ e) in
    true≢false (sym l.2 ∙ ap (λ (r : DocRow). slot_contains slot r.path) one ∙ b.1))

flatten_below_document : (rows : List DocRow) (x : AtomIdValue) (bit : Bit) → IsDocument rows → (o : Option DocRow)
    → find_row x rows ≡ o → IsDocument (flatten_below (option_map (λ (r : DocRow). Below r.path bit) o) rows)
flatten_below_document rows x bit d None e = d
flatten_below_document rows x bit d (Some r) e =
    flatten_at_document (Below r.path bit) rows d (hangs_beside rows d r bit (found x r rows e).0)

-- a flatten leaves a document
pub flatten_document : (rows : List DocRow) (slot : Slot) → IsDocument rows → IsDocument (flatten slot rows)
flatten_document rows Root d = flatten_at_document Whole rows d (hangs_whole (rows_beside Whole rows))
flatten_document rows (At x bit) d = flatten_below_document rows x bit d (find_row x rows) refl

-- which rows stay

abbrev stay : Option SlotPath → DocRow → Bool
stay o r = is_live r || not (is_in o r)

abbrev Same : {X : Type 0} → (DocRow → X) → List DocRow → List DocRow → Type 0
Same f xs ys = map f xs ≡ map f ys

map_parts : {X : Type 0} (f : DocRow → X) (xs ys zs : List DocRow) → map f (xs ++ ys ++ zs) ≡ map f xs ++ map f ys
    ++ map f zs
map_parts f xs ys zs = map-append f (xs ++ ys) zs ∙ ap (λ q. q ++ map f zs) (map-append f xs ys)

module _ (slot : SlotPath) (rows : List DocRow) (s : Split slot rows) where
  stay_outside : (r : DocRow) → slot_contains slot r.path ≡ false → stay (Some slot) r ≡ true
  stay_outside r h = ap (λ b. is_live r || not b) h ∙ or-true (is_live r)

  stay_inside : (xs : List DocRow) → ((r : DocRow) → In r xs → slot_contains slot r.path ≡ true)
      → filter (stay (Some slot)) xs ≡ live_rows xs
  stay_inside [] h = refl
  stay_inside (x ∷ xs) h = λ i. cond ((ap (λ b. is_live x || not b) (h x (inl refl)) ∙ or-false (is_live x)) i)
      (x ∷ stay_inside xs (λ r j. h r (inr j)) i) (stay_inside xs (λ r j. h r (inr j)) i)

  kept_split : filter (stay (Some slot)) rows ≡ s.front ++ live_rows s.inside ++ s.back
  kept_split =
      ap (filter (stay (Some slot))) s.is ∙ filter_parts (stay (Some slot)) s.front s.inside s.back
      ∙ (λ i. filter_all (stay (Some slot)) s.front (λ r j. stay_outside r (front_outside slot rows s r j)) i
      ++ stay_inside s.inside s.within i ++ filter_all (stay (Some slot)) s.back
      (λ r j. stay_outside r (back_outside slot rows s r j)) i)

  same_but_paths : {X : Type 0} (f : DocRow → X)
      → Same f (array slot (map named (live_rows s.inside))) (live_rows s.inside)
      → Same f (flatten_below (Some slot) rows) (filter (stay (Some slot)) rows)
  same_but_paths f e =
      ap (map f) (split_flatten slot rows s) ∙ map_parts f s.front (array slot (map named (live_rows s.inside))) s.back
      ∙ ap (λ q. map f s.front ++ q ++ map f s.back) e ∙ sym (map_parts f s.front (live_rows s.inside) s.back)
      ∙ ap (map f) (sym kept_split)

  same_live : map named (live_rows (flatten_below (Some slot) rows)) ≡ map named (live_rows rows)
  same_live =
      ap (λ (q : List DocRow). map named (live_rows q)) (split_flatten slot rows s)
      ∙ ap (map named) (filter_parts is_live s.front (array slot (map named (live_rows s.inside))) s.back)
      ∙ map_parts named (live_rows s.front) (live_rows (array slot (map named (live_rows s.inside)))) (live_rows s.back)
      ∙ ap (λ (q : List NamedAtom). map named (live_rows s.front) ++ q ++ map named (live_rows s.back))
      (ap (map named) (array_live slot (map named (live_rows s.inside)))
      ∙ array_names slot (map named (live_rows s.inside)))
      ∙ sym (map_parts named (live_rows s.front) (live_rows s.inside) (live_rows s.back))
      ∙ ap (map named) (sym (filter_parts is_live s.front s.inside s.back))
      ∙ ap (λ (q : List DocRow). map named (live_rows q)) (sym s.is)

all_stay : (rows : List DocRow) → filter (stay None) rows ≡ rows
all_stay rows = filter_all (stay None) rows (λ r i. or-true (is_live r))

-- no deletes

bare_same : (xs ys : List DocRow) → ((r : DocRow) → In r xs → r.deletes ≡ [])
    → ((r : DocRow) → In r ys → r.deletes ≡ []) → map named xs ≡ map named ys → map (λ (r : DocRow). r.deletes) xs
    ≡ map (λ (r : DocRow). r.deletes) ys
bare_same [] [] h k e = refl
bare_same [] (y ∷ ys) h k e = absurd (none (named y) (map named ys) e)
  where
    none : (a : NamedAtom) (atoms : List NamedAtom) → [] ≡ a ∷ atoms → ⊥
    none a atoms e = cc
bare_same (x ∷ xs) [] h k e = absurd (none (named x) (map named xs) e)
  where
    none : (a : NamedAtom) (atoms : List NamedAtom) → a ∷ atoms ≡ [] → ⊥
    none a atoms e = cc
bare_same (x ∷ xs) (y ∷ ys) h k e =
    let same = bare_same xs ys (λ r i. h r (inr i)) (λ r i. k r (inr i))
    (tails (named x) (named y) (map named xs) (map named ys) e) in
    λ i. (h x (inl refl) ∙ sym (k y (inl refl))) i ∷ same i
  where
    tails : (a b : NamedAtom) (xs ys : List NamedAtom) → a ∷ xs ≡ b ∷ ys → xs ≡ ys
    tails a b xs ys e = cc

empty_list : (dots : List DotValue) → is_empty_list dots ≡ true → dots ≡ []
empty_list [] h = refl
empty_list (d ∷ dots) h = absurd (true≢false (sym h))

live_bare : (rows : List DocRow) (r : DocRow) → In r (live_rows rows) → r.deletes ≡ []
live_bare rows r i = empty_list r.deletes (In-filter is_live r rows i).1

-- as the definitions have it

kept_at : {X : Type 0} (f : DocRow → X) (rows : List DocRow) → Successive Before rows → (o : Option SlotPath)
    → ((slot : SlotPath) (xs : List DocRow) → ((r : DocRow) → In r xs → r.deletes ≡ [])
    → Same f (array slot (map named xs)) xs) → Same f (flatten_below o rows) (filter (stay o) rows)
kept_at f rows up None e = ap (map f) (sym (all_stay rows))
kept_at f rows up (Some slot) e = let s = split slot rows up in
    same_but_paths slot rows s f (e slot (live_rows s.inside) (λ r i. live_bare s.inside r i))

pub flatten_names : (rows : List DocRow) (slot : Slot) → Successive Before rows → map named (flatten slot rows)
    ≡ map named (kept_rows rows slot)
flatten_names rows slot up = kept_at named rows up (slot_path rows slot) (λ path xs h. array_names path (map named xs))

pub flatten_deletes : (rows : List DocRow) (slot : Slot) → Successive Before rows
    → map (λ (r : DocRow). r.deletes) (flatten slot rows) ≡ map (λ (r : DocRow). r.deletes) (kept_rows rows slot)
flatten_deletes rows slot up =
    kept_at (λ (r : DocRow). r.deletes) rows up (slot_path rows slot)
    (λ path xs h. bare_same (array path (map named xs)) xs
    (λ r i. array_bare (length (map named xs)) path (map named xs) r i) h (array_names path (map named xs)))

live_at : (rows : List DocRow) → Successive Before rows → (o : Option SlotPath)
    → map named (live_rows (flatten_below o rows)) ≡ map named (live_rows rows)
live_at rows up None = refl
live_at rows up (Some slot) = same_live slot rows (split slot rows up)

pub flatten_live : (rows : List DocRow) (slot : Slot) → Successive Before rows
    → map named (live_rows (flatten slot rows)) ≡ map named (live_rows rows)
flatten_live rows slot up = live_at rows up (slot_path rows slot)

map_map : (rows : List DocRow) → map (λ (a : NamedAtom). a.atom) (map named rows) ≡ map (λ (r : DocRow). r.atom) rows
map_map [] = refl
map_map (r ∷ rows) = ap (λ (q : List (List ℕ)). r.atom ∷ q) (map_map rows)

pub flatten_text : (rows : List DocRow) (slot : Slot) → Successive Before rows → text_of (flatten slot rows)
    ≡ text_of rows
flatten_text rows slot up = ap concat (sym (map_map (live_rows (flatten slot rows)))
    ∙ ap (map (λ (a : NamedAtom). a.atom)) (flatten_live rows slot up) ∙ map_map (live_rows rows))

-- of a document

pub flatten_in_place : (rows : List DocRow) (slot : Slot) (path : SlotPath) → IsDocument rows → slot_path rows slot
    ≡ Some path
    → IsReplaced (rows_in_slot rows slot) (array path (map named (live_rows (rows_in_slot rows slot)))) rows
    (flatten slot rows)
flatten_in_place rows slot path d e = flatten_replaces rows slot path d.ascending e

pub flatten_keeps_names : (rows : List DocRow) (slot : Slot) → IsDocument rows → map named (flatten slot rows)
    ≡ map named (kept_rows rows slot)
flatten_keeps_names rows slot d = flatten_names rows slot d.ascending

pub flatten_keeps_deletes : (rows : List DocRow) (slot : Slot) → IsDocument rows
    → map (λ (r : DocRow). r.deletes) (flatten slot rows) ≡ map (λ (r : DocRow). r.deletes) (kept_rows rows slot)
flatten_keeps_deletes rows slot d = flatten_deletes rows slot d.ascending

pub flatten_keeps_live : (rows : List DocRow) (slot : Slot) → IsDocument rows
    → map named (live_rows (flatten slot rows)) ≡ map named (live_rows rows)
flatten_keeps_live rows slot d = flatten_live rows slot d.ascending

pub flatten_keeps_text : (rows : List DocRow) (slot : Slot) → IsDocument rows → text_of (flatten slot rows)
    ≡ text_of rows
flatten_keeps_text rows slot d = flatten_text rows slot d.ascending
