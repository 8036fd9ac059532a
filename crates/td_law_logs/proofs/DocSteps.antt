-- Where rows stand after one step of a document.
use Rattle.std.proofs.Common.{◌≡◌, List, [], ◌∷◌, true, map, Option, Some, None, refl, sym}
use Rattle.std.proofs.Common.{ap, ◌∙◌, subst, inl, inr, ⊎_elim, true≢false}
use Rattle.std.specs.Prelude.{IsSome}
use Rattle.std.specs.Option.{option_map}
use Rattle.std.proofs.lemmas.Option.{none-some}
use Rattle.td_base.specs.declared.bit.Bit.{Bit}
use Rattle.td_base.specs.Value.{AtomIdValue}
use Rattle.td_base.specs.Lists.{In, Successive}
use Rattle.td_base.proofs.Lists.{map_In, In-filter, filter_In, all_in, successive_filter}
use Rattle.td_path.specs.Infix.{Pairs}
use Rattle.td_path.specs.SlotPaths.{slot_contains}
use Rattle.td_path.specs.declared.slot.Slot.{Slot}
use Rattle.td_path.specs.declared.slot.Slot.TheVariants.{Root, At}
use Rattle.td_path.specs.declared.slot_path.SlotPath.{SlotPath}
use Rattle.td_path.specs.declared.slot_path.SlotPath.TheVariants.{Below}
use Rattle.td_doc.specs.Document.{DocRow, row_id, find_row, is_live, live_rows, IsDocument}
use Rattle.td_doc.specs.Array.{named, array}
use Rattle.td_base.specs.RunAtoms.{NamedAtom}
use Rattle.td_doc.specs.Insertion.{put_rows}
use Rattle.td_doc.specs.Flatten.{rows_beside, flatten_below}
use Rattle.td_doc.specs.Slots.{slot_path, rows_below}
use Rattle.td_doc.proofs.PutRows.{Before, not_both_before, in_puts, puts_in}
use Rattle.td_doc.proofs.ArrayRows.{array_names}
use Rattle.td_doc.proofs.Flattened.{beside, same_row}
use Rattle.td_doc.proofs.Rules.{found, in_found}
use Rattle.td_doc.proofs.SubtreeRows.{find_in}
use Rattle.td_machine.proofs.Stays.{Stays}
use Rattle.td_law_logs.specs.Places.{names_atom, place_of, slot_holds}
use Rattle.td_law_logs.proofs.Words.{atom_at}
use Rattle.td_law_logs.proofs.Rows.{Standing, standing, contains_by}

pub slot_by_place : (rows : List DocRow) (x : AtomIdValue) (bit : Bit)
    → slot_path rows (At x bit) ≡ option_map (λ (p : Pairs). Below p bit) (place_of x rows)
slot_by_place rows x bit = at (find_row x rows)
  where
    at : (o : Option DocRow)
        → option_map (λ (r : DocRow). Below r.path bit) o ≡ option_map (λ (p : Pairs). Below p bit)
        (option_map (λ (r : DocRow). r.path) o)
    at None = refl
    at (Some r) = refl

-- a slot whose atom stands in the same place has the same path
pub slot_same : (rows others : List DocRow) (slot : Slot)
    → (names_atom slot ≡ true → place_of (atom_at slot) rows ≡ place_of (atom_at slot) others)
    → slot_path rows slot ≡ slot_path others slot
slot_same rows others Root h = refl
slot_same rows others (At x bit) h = slot_by_place rows x bit
    ∙ (ap (option_map (λ (p : Pairs). Below p bit)) (h refl) ∙ sym (slot_by_place others x bit))

some_of : (o : Option DocRow) → IsSome o → (s : DocRow) × (o ≡ Some s)
some_of None h = absurd (true≢false (sym h))
some_of (Some s) h = (s, refl)

pub place_some : (rows : List DocRow) (x : AtomIdValue) (s : DocRow) → find_row x rows ≡ Some s
    → place_of x rows ≡ Some s.path
place_some rows x s e = ap (option_map (λ (r : DocRow). r.path)) e

pub place_none : (rows : List DocRow) (x : AtomIdValue) → find_row x rows ≡ None → place_of x rows ≡ None
place_none rows x e = ap (option_map (λ (r : DocRow). r.path)) e

-- a row with this identity is there
pub row_found : (rows : List DocRow) (r : DocRow) (x : AtomIdValue) → In r rows → row_id r ≡ x
    → (s : DocRow) × (find_row x rows ≡ Some s)
row_found rows r x i e = some_of (find_row x rows) (subst (λ z. IsSome (find_row z rows)) e (in_found r rows i))

pub array_found : (sp : SlotPath) (atoms : List NamedAtom) (a : NamedAtom) → In a atoms
    → (s : DocRow) × (find_row a.id (array sp atoms) ≡ Some s)
array_found sp atoms a i =
    let n = map_In named a (array sp atoms) (subst (In a) (sym (array_names sp atoms)) i) in
    row_found (array sp atoms) n.0 a.id n.1 (ap (λ (b : NamedAtom). b.id) (sym n.2))

-- what is put stands where the array has it
pub new_place : (sp : SlotPath) (atoms : List NamedAtom) (rows : List DocRow) (a : NamedAtom)
    → IsDocument (put_rows (array sp atoms) rows) → In a atoms
    → place_of a.id (put_rows (array sp atoms) rows) ≡ place_of a.id (array sp atoms)
new_place sp atoms rows a d i =
    let s = array_found sp atoms a i in
    let f = found a.id s.0 (array sp atoms) s.1 in
    let g : find_row a.id (put_rows (array sp atoms) rows) ≡ Some s.0 =
    subst (λ z. find_row z (put_rows (array sp atoms) rows) ≡ Some s.0) f.1
    (find_in (put_rows (array sp atoms) rows) s.0 d.apart (puts_in (array sp atoms) rows s.0 (inl f.0))) in
    place_some (put_rows (array sp atoms) rows) a.id s.0 g ∙ sym (place_some (array sp atoms) a.id s.0 s.1)

-- what stays, and is no new row, stands where it stood
pub stay_place : (rows after : List DocRow) (x : AtomIdValue) → Stays rows after x
    → ((s : DocRow) → In s after → row_id s ≡ x → (q : DocRow) × In q rows × (row_id q ≡ x))
    → place_of x after ≡ place_of x rows
stay_place rows after x st back = at (find_row x rows) (find_row x after) refl refl
  where
    at : (o p : Option DocRow) → find_row x rows ≡ o → find_row x after ≡ p → place_of x after ≡ place_of x rows
    at (Some r) p e f = let s = st r e in
        place_some after x s.0 s.1 ∙ (ap (λ (z : Pairs). Some z) s.2 ∙ sym (place_some rows x r e))
    at None None e f = place_none after x f ∙ sym (place_none rows x e)
    at None (Some s) e f =
        let w = found x s after f in
        let q = back s w.0 w.1 in
        let g = row_found rows q.0 x q.1 q.2 in
        absurd (none-some g.0 (sym e ∙ g.1))

abbrev pub live_in : SlotPath → List DocRow → List NamedAtom
live_in sp rows = map named (live_rows (rows_below rows (Some sp)))

-- a row in the flattened slot stands where the array has it, or is gone
pub flat_place : (rows : List DocRow) (slot : Slot) (sp : SlotPath) (x : AtomIdValue) (path : Pairs) → IsDocument rows
    → IsDocument (flatten_below (Some sp) rows) → slot_path rows slot ≡ Some sp
    → place_of x rows ≡ Some path → slot_holds slot path ≡ true
    → place_of x (flatten_below (Some sp) rows) ≡ place_of x (array sp (live_in sp rows))
flat_place rows slot sp x path d e at_slot here holds =
    at (find_row x (array sp (live_in sp rows))) (find_row x (flatten_below (Some sp) rows)) refl refl
  where
    w : Standing rows x path
    w = standing rows x path here

    inside : slot_contains sp path ≡ true
    inside = subst (λ (p : Pairs). slot_contains sp p ≡ true) w.stands
        (contains_by rows d slot sp w.row w.inside at_slot
        (subst (λ (p : Pairs). slot_holds slot p ≡ true) (sym w.stands) holds))

    at : (o p : Option DocRow) → find_row x (array sp (live_in sp rows)) ≡ o
        → find_row x (flatten_below (Some sp) rows) ≡ p
        → place_of x (flatten_below (Some sp) rows) ≡ place_of x (array sp (live_in sp rows))
    at (Some s) p f g =
        let q = found x s (array sp (live_in sp rows)) f in
        let h : find_row x (flatten_below (Some sp) rows) ≡ Some s =
        subst (λ z. find_row z (flatten_below (Some sp) rows) ≡ Some s) q.1
        (find_in (flatten_below (Some sp) rows) s e.apart
        (puts_in (array sp (live_in sp rows)) (rows_beside sp rows) s (inl q.0))) in
        place_some (flatten_below (Some sp) rows) x s h ∙ sym (place_some (array sp (live_in sp rows)) x s f)
    at None None f g = place_none (flatten_below (Some sp) rows) x g
        ∙ sym (place_none (array sp (live_in sp rows)) x f)
    at None (Some s) f g =
        let q = found x s (flatten_below (Some sp) rows) g in
        absurd (⊎_elim
        (λ (k : In s (array sp (live_in sp rows))). let h = row_found (array sp (live_in sp rows)) s x k q.1 in
        none-some h.0 (sym f ∙ h.1))
        (λ (k : In s (rows_beside sp rows)).
        let b = beside sp rows s k in
        let same : s ≡ w.row = same_row rows d.apart s w.row b.0 w.inside (q.1 ∙ sym w.named) in
        true≢false
        (sym inside
        ∙ (ap (slot_contains sp) (sym w.stands)
        ∙ (ap (λ (z : DocRow). slot_contains sp z.path) (sym same) ∙ b.1))))
        (in_puts (array sp (live_in sp rows)) (rows_beside sp rows) s q.0))

-- two lists in one strict order with the same elements are one
pub rising_same : {X : Type 0} (R : X → X → Type 0) → ((x y : X) → R x y → R y x → ⊥) → (xs ys : List X)
    → Successive R xs → Successive R ys → ((x : X) → In x xs → In x ys) → ((y : X) → In y ys → In y xs) → xs ≡ ys
rising_same R apart [] [] a b f g = refl
rising_same R apart [] (y ∷ ys) a b f g = absurd (g y (inl refl))
rising_same R apart (x ∷ xs) [] a b f g = absurd (f x (inl refl))
rising_same R apart (x ∷ xs) (y ∷ ys) a b f g =
    let e : x ≡ y =
    ⊎_elim (λ (k : x ≡ y). k)
    (λ (k : In x ys). ⊎_elim (λ (m : y ≡ x). sym m)
    (λ (m : In y xs). absurd (apart x y (all_in (R x) xs a.0 y m) (all_in (R y) ys b.0 x k))) (g y (inl refl)))
    (f x (inl refl)) in
    let rest = rising_same R apart xs ys a.1 b.1
    (λ z i. ⊎_elim
    (λ (k : z ≡ y). absurd (let h : R x z = all_in (R x) xs a.0 z i in
    let m : R x x = subst (R x) (k ∙ sym e) h in apart x x m m)) (λ k. k) (f z (inr i)))
    (λ z i. ⊎_elim
    (λ (k : z ≡ x). absurd (let h : R y z = all_in (R y) ys b.0 z i in let m : R y y = subst (R y) (k ∙ e) h in
    apart y y m m)) (λ k. k) (g z (inr i))) in
    λ i. e i ∷ rest i

pub live_ascend : (rows : List DocRow) (sp : SlotPath) → IsDocument rows
    → Successive Before (live_rows (rows_below rows (Some sp)))
live_ascend rows sp d = successive_filter Before is_live (rows_below rows (Some sp))
    (successive_filter Before (λ (r : DocRow). slot_contains sp r.path) rows d.ascending)

pub live_parts : (rows : List DocRow) (sp : SlotPath) (r : DocRow) → In r (live_rows (rows_below rows (Some sp)))
    → In r rows × (slot_contains sp r.path ≡ true) × (is_live r ≡ true)
live_parts rows sp r i =
    let l = In-filter is_live r (rows_below rows (Some sp)) i in
    let b = In-filter (λ (q : DocRow). slot_contains sp q.path) r rows l.0 in
    (b.0, b.1, l.1)

pub live_from : (rows : List DocRow) (sp : SlotPath) (r : DocRow) → In r rows → slot_contains sp r.path ≡ true
    → is_live r ≡ true → In r (live_rows (rows_below rows (Some sp)))
live_from rows sp r i h l =
    filter_In is_live r (rows_below rows (Some sp)) (filter_In (λ (q : DocRow). slot_contains sp q.path) r rows i h) l

pub before_not : (x y : DocRow) → Before x y → Before y x → ⊥
before_not x y h k = not_both_before x.path y.path h k
