-- The slot in which a row stands: that of its insert for the middle atom of a run, one at an atom of the same run for
-- the others.
use Rattle.std.proofs.Common.{◌≡◌, ◌⊎◌, ◌<◌, ◌+◌, ◌/◌, ◌++◌, ℕ, zero, suc, List, [], ◌∷◌, length, take}
use Rattle.std.proofs.Common.{drop, true, false, ◌&&◌, Option, Some, None, refl, sym, ap, ◌∙◌, subst}
use Rattle.std.proofs.Common.{inl, inr, ⊎_elim, true≢false, append_assoc, arith}
use Rattle.std.proofs.lemmas.Bool.{or_left, or_right, and_parts, or_cases}
use Rattle.std.specs.Option.{option_map}
use Rattle.td_base.specs.declared.bit.Bit.{Bit}
use Rattle.td_base.specs.declared.bit.Bit.TheVariants.{Left, Right}
use Rattle.td_base.specs.Value.{DotValue, AtomIdValue}
use Rattle.td_base.specs.Equality.{same_bit, same_id}
use Rattle.td_base.specs.Lists.{In}
use Rattle.td_base.proofs.Lists.{In-append}
use Rattle.td_path.specs.Infix.{Pair, Pairs}
use Rattle.td_path.specs.SlotPaths.{path_in}
use Rattle.td_path.specs.declared.slot.Slot.{Slot}
use Rattle.td_path.specs.declared.slot.Slot.TheVariants.{Root, At}
use Rattle.td_path.specs.declared.slot_path.SlotPath.{SlotPath}
use Rattle.td_path.specs.declared.slot_path.SlotPath.TheVariants.{Root as Whole, Below}
use Rattle.td_doc.specs.Document.{DocRow, find_row, IsDocument}
use Rattle.td_doc.specs.Slots.{slot_path, last_slot}
use Rattle.td_doc.specs.Array.{row_in, around, array_upto, array}
use Rattle.td_base.specs.RunAtoms.{NamedAtom, run_atoms_from, run_atoms}
use Rattle.td_doc.proofs.PathEnds.{last_slot-append}
use Rattle.td_doc.proofs.ArrayPlaces.{Halves, halved}
use Rattle.td_doc.proofs.Rules.{found}
use Rattle.td_law_logs.specs.Places.{passes, slot_holds}
use Rattle.td_law_logs.proofs.Passes.{passes_from}
use Rattle.td_law_logs.proofs.Rows.{row_ends}
use Rattle.td_base.proofs.Equals.{same_id_true, same_bit_true}
use Rattle.td_law_logs.proofs.RowsBefore.{in_drop}
use Rattle.std.proofs.lemmas.Option.{same_Some, none-some}

-- ---- the own slot of a path

pub record OwnAt (path : Pairs) (z : AtomIdValue) (bit : Bit) : Type 0 where
  pub front : Pairs
  pub side : Bit
  pub id : AtomIdValue
  pub is : path ≡ front ++ (side, z) ∷ (bit, id) ∷ []

at_same : (x z : AtomIdValue) (b c : Bit) → At x b ≡ At z c → (x ≡ z) × (b ≡ c)
at_same x z b c e = (cc, cc)

own_from : (p q : Pair) (rest : Pairs) (z : AtomIdValue) (bit : Bit) → last_slot (At p.1 q.0) (q ∷ rest) ≡ At z bit
    → OwnAt (p ∷ q ∷ rest) z bit
own_from p q [] z bit h =
    let e = at_same p.1 z q.0 bit h in
    record { front = []; side = p.0; id = q.1; is = λ i. (p.0, e.0 i) ∷ (e.1 i, q.1) ∷ [] }
own_from p q (r ∷ rest) z bit h =
    let o = own_from q r rest z bit h in
    record { front = p ∷ o.front; side = o.side; id = o.id; is = λ i. p ∷ o.is i }

pub own_at : (path : Pairs) (z : AtomIdValue) (bit : Bit) → last_slot Root path ≡ At z bit → OwnAt path z bit
own_at [] z bit h = absurd cc
own_at (p ∷ []) z bit h = absurd cc
own_at (p ∷ q ∷ rest) z bit h = own_from p q rest z bit h

-- a row stands in its own slot
pub own_holds : (slot : Slot) (path : Pairs) → last_slot Root path ≡ slot → slot_holds slot path ≡ true
own_holds Root path h = refl
own_holds (At z bit) path h =
    let o = own_at path z bit h in
    subst (λ (p : Pairs). passes z bit p ≡ true) (sym o.is) (passes_from z bit o.front o.side o.id [])

-- a slot that has a row has the slot in which the row stands
pub top_two : (x : AtomIdValue) (b : Bit) (front : Pairs) (s : Bit) (z : AtomIdValue) (bit : Bit) (y : AtomIdValue)
    → passes x b (front ++ (s, z) ∷ (bit, y) ∷ []) ≡ true
    → ((z ≡ x) × (bit ≡ b)) ⊎ (passes x b (front ++ (s, z) ∷ []) ≡ true)
top_two x b [] s z bit y h =
    ⊎_elim (λ (k : (same_id z x && same_bit bit b) ≡ true). let p = and_parts _ _ k in
    inl (same_id_true z x p.0, same_bit_true bit b p.1)) (λ (k : false ≡ true). absurd (true≢false (sym k)))
    (or_cases _ _ h)
top_two x b (u ∷ []) s z bit y h =
    ⊎_elim (λ (k : (same_id u.1 x && same_bit s b) ≡ true). inr (or_left _ _ k))
    (λ (k : passes x b ((s, z) ∷ (bit, y) ∷ []) ≡ true). ⊎_elim (λ (m : (z ≡ x) × (bit ≡ b)). inl m)
    (λ (m : passes x b ((s, z) ∷ []) ≡ true). inr (or_right _ _ m)) (top_two x b [] s z bit y k)) (or_cases _ _ h)
top_two x b (u ∷ v ∷ front) s z bit y h =
    ⊎_elim (λ (k : (same_id u.1 x && same_bit v.0 b) ≡ true). inr (or_left _ _ k))
    (λ (k : passes x b (v ∷ front ++ (s, z) ∷ (bit, y) ∷ []) ≡ true). ⊎_elim (λ (m : (z ≡ x) × (bit ≡ b)). inl m)
    (λ (m : passes x b (v ∷ front ++ (s, z) ∷ []) ≡ true). inr (or_right _ _ m))
    (top_two x b (v ∷ front) s z bit y k)) (or_cases _ _ h)

-- what stands right in a slot has it as its own
pub in_own : (rows : List DocRow) → IsDocument rows → (slot : Slot) (sp : SlotPath) (id : AtomIdValue)
    → slot_path rows slot ≡ Some sp → last_slot Root (path_in sp id) ≡ slot
in_own rows d Root sp id e = subst (λ (z : SlotPath). last_slot Root (path_in z id) ≡ Root)
    (same_Some Whole sp e) refl
in_own rows d (At x bit) sp id e = from (find_row x rows) refl e
  where
    from : (o : Option DocRow) → find_row x rows ≡ o → option_map (λ (r : DocRow). Below r.path bit) o ≡ Some sp
        → last_slot Root (path_in sp id) ≡ At x bit
    from None f k = absurd (none-some sp k)
    from (Some r) f k =
        let w = found x r rows f in
        let n = row_ends r (d.paths r w.0) in
        let e1 : r.path ≡ n.front ++ (n.side, x) ∷ [] =
        n.is ∙ ap (λ (z : AtomIdValue). n.front ++ (n.side, z) ∷ []) w.1 in
        let e2 : r.path ++ (bit, id) ∷ [] ≡ n.front ++ (n.side, x) ∷ (bit, id) ∷ [] =
        ap (λ (p : Pairs). p ++ (bit, id) ∷ []) e1 ∙ append_assoc n.front ((n.side, x) ∷ []) ((bit, id) ∷ []) in
        subst (λ (z : SlotPath). last_slot Root (path_in z id) ≡ At x bit) (same_Some (Below r.path bit) sp k)
        (ap (last_slot Root) e2 ∙ last_slot-append Root n.front (n.side, x) (bit, id))

-- ---- the rows of an array

-- the row of the middle atom, or one that hangs right at another atom of the array
pub data TopCase (sp : SlotPath) (atoms : List NamedAtom) (r : DocRow) : Type 0 where
  middle_row : (m : NamedAtom) (rest : List NamedAtom) → drop (length atoms / 2) atoms ≡ m ∷ rest → r ≡ row_in sp m
      → TopCase sp atoms r
  hung_row : (y : NamedAtom) → In y atoms → (front : Pairs) (side bit : Bit) (id : AtomIdValue)
      → r.path ≡ front ++ (side, y.id) ∷ (bit, id) ∷ [] → TopCase sp atoms r

node_ends : (sp : SlotPath) (id : AtomIdValue)
    → (front : Pairs) × (side : Bit) × (path_in sp id ≡ front ++ (side, id) ∷ [])
node_ends Whole id = ([], Right, refl)
node_ends (Below path bit) id = (path, bit, refl)

in_take : (k : ℕ) (xs : List NamedAtom) (y : NamedAtom) → In y (take k xs) → In y xs
in_take zero xs y i = absurd i
in_take (suc k) [] y i = absurd i
in_take (suc k) (x ∷ xs) y i = ⊎_elim (λ (e : y ≡ x). inl e) (λ (j : In y (take k xs)). inr (in_take k xs y j)) i

below_case : (sp : SlotPath) (atoms part : List NamedAtom) (m : NamedAtom) (side : Bit) (r : DocRow) → In m atoms
    → ((y : NamedAtom) → In y part → In y atoms) → TopCase (Below (path_in sp m.id) side) part r → TopCase sp atoms r
below_case sp atoms part m side r i up (middle_row k rest e f) =
    let n = node_ends sp m.id in
    let path : r.path ≡ n.0 ++ (n.1, m.id) ∷ (side, k.id) ∷ [] = ap (λ (q : DocRow). q.path) f
    ∙ (ap (λ (p : Pairs). p ++ (side, k.id) ∷ []) n.2
    ∙ append_assoc n.0 ((n.1, m.id) ∷ []) ((side, k.id) ∷ [])) in
    hung_row m i n.0 n.1 side k.id path
below_case sp atoms part m side r i up (hung_row y j front s bit id e) = hung_row y (up y j) front s bit id e

around_case : (n : ℕ) (sp : SlotPath) (atoms before rest : List NamedAtom) (r : DocRow)
    → ((t : SlotPath) (l : List NamedAtom) (q : DocRow) → In q (array_upto n t l) → TopCase t l q)
    → drop (length atoms / 2) atoms ≡ rest → ((y : NamedAtom) → In y before → In y atoms)
    → ((y : NamedAtom) → In y rest → In y atoms)
    → In r (around (array_upto n) sp before rest) → TopCase sp atoms r
around_case n sp atoms before [] r ih e up down i = absurd i
around_case n sp atoms before (m ∷ after) r ih e up down i =
    ⊎_elim
    (λ (k : In r (array_upto n (Below (path_in sp m.id) Left) before)). below_case sp atoms before m Left r
    (down m (inl refl)) up (ih (Below (path_in sp m.id) Left) before r k))
    (λ (k : In r (row_in sp m ∷ array_upto n (Below (path_in sp m.id) Right) after)).
    ⊎_elim (λ (f : r ≡ row_in sp m). middle_row m after e f)
    (λ (j : In r (array_upto n (Below (path_in sp m.id) Right) after)). below_case sp atoms after m Right r
    (down m (inl refl)) (λ y l. down y (inr l)) (ih (Below (path_in sp m.id) Right) after r j)) k)
    (In-append r (array_upto n (Below (path_in sp m.id) Left) before)
    (row_in sp m ∷ array_upto n (Below (path_in sp m.id) Right) after) i)

pub top_case : (n : ℕ) (sp : SlotPath) (atoms : List NamedAtom) (r : DocRow) → In r (array_upto n sp atoms)
    → TopCase sp atoms r
top_case zero sp atoms r i = absurd i
top_case (suc n) sp atoms r i =
    around_case n sp atoms (take (length atoms / 2) atoms) (drop (length atoms / 2) atoms) r
    (λ t l q j. top_case n t l q j) refl (in_take (length atoms / 2) atoms) (in_drop (length atoms / 2) atoms) i

-- ---- the middle atom of a run

pub run_length : (d : DotValue) (o : ℕ) (run : List (List ℕ)) → length (run_atoms_from d o run) ≡ length run
run_length d o [] = refl
run_length d o (atom ∷ run) = ap suc (run_length d (suc o) run)

pub record DropAt (d : DotValue) (o : ℕ) (run : List (List ℕ)) (k : ℕ) : Type 0 where
  pub atom : NamedAtom
  pub is : drop k (run_atoms_from d o run) ≡ atom ∷ drop (k + 1) (run_atoms_from d o run)
  pub id : atom.id ≡ record { dot = d; offset = o + k }
  pub among : In atom (run_atoms_from d o run)

pub drop_at : (d : DotValue) (o : ℕ) (run : List (List ℕ)) (k : ℕ) → k < length run → DropAt d o run k
drop_at d o [] k h = absurd (omega arith)
drop_at d o (atom ∷ run) zero h =
    let e : o ≡ o + 0 = omega arith in
    record {
      atom = record { id = record { dot = d; offset = o }; atom = atom };
      is = refl;
      id =
          λ i. record { dot = d; offset = e i };
      among = inl refl;
    }
drop_at d o (atom ∷ run) (suc k) h =
    let r = drop_at d (suc o) run k (omega (arith, h)) in
    let e : suc o + k ≡ o + suc k = omega arith in
    let next : suc k + 1 ≡ suc (k + 1) = omega arith in
    record {
      atom = r.atom;
      is = r.is ∙ ap (λ (j : ℕ). r.atom ∷ drop j (run_atoms_from d o (atom ∷ run))) (sym next);
      id = r.id ∙ (λ i. record { dot = d; offset = e i });
      among = inr r.among;
    }

half_below : (k : ℕ) → 0 < k → k / 2 < k
half_below k h = omega (arith, h)

pub record Middle (d : DotValue) (run : List (List ℕ)) : Type 0 where
  pub atom : NamedAtom
  pub halves : Halves (run_atoms d run) atom
  pub id : atom.id ≡ record { dot = d; offset = length run / 2 }
  pub among : In atom (run_atoms d run)

pub middle_of : (d : DotValue) (run : List (List ℕ)) → 0 < length run → Middle d run
middle_of d run h =
    let n = run_length d 0 run in
    let half : length run / 2 < length run = half_below (length run) h in
    let r = drop_at d 0 run (length run / 2) half in
    let e : 0 + length run / 2 ≡ length run / 2 = omega arith in
    record {
      atom = r.atom;
      halves = record {
        some = omega (arith, n, h);
        is = ap (λ (k : ℕ). drop (k / 2) (run_atoms d run)) n
            ∙ (r.is ∙ ap (λ (k : ℕ). r.atom ∷ drop (k / 2 + 1) (run_atoms d run)) (sym n));
      };
      id = r.id ∙ (λ i. record { dot = d; offset = e i });
      among = r.among;
    }

in_mid : {X : Type 0} (xs : List X) (x : X) (ys : List X) → In x (xs ++ x ∷ ys)
in_mid [] x ys = inl refl
in_mid (z ∷ xs) x ys = inr (in_mid xs x ys)

pub middle_in : (d : DotValue) (run : List (List ℕ)) (m : Middle d run) (sp : SlotPath)
    → In (row_in sp m.atom) (array sp (run_atoms d run))
middle_in d run m sp =
    subst (λ (rows : List DocRow). In (row_in sp m.atom) rows) (sym (halved sp (run_atoms d run) m.atom m.halves))
    (in_mid (array (Below (path_in sp m.atom.id) Left) (take (length (run_atoms d run) / 2) (run_atoms d run)))
    (row_in sp m.atom)
    (array (Below (path_in sp m.atom.id) Right) (drop (length (run_atoms d run) / 2 + 1) (run_atoms d run))))
