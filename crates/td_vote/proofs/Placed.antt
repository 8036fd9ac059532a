-- What a replica asks of its holds, by those beside a place, and the holds with one more or one less.
use Rattle.std.proofs.Common.{◌≡◌, ◌⊎◌, ◌<◌, ◌≤◌, ◌+◌, ℕ, List, ◌∷◌, ◌++◌, Bool, true, false, not, length}
use Rattle.std.proofs.Common.{take, drop, refl, sym, ap, ◌∙◌, subst, inl, inr, ⊎_elim, arith}
use Rattle.std.proofs.Common.{true≢false, length-drop, ◌||◌}
use Rattle.std.proofs.lemmas.Bool.{or_left, or_right}
use Rattle.std.proofs.lemmas.List.{get_or-take, get_or-drop, length-take-le, take-append-drop, reverse-reverse}
use Rattle.std.proofs.lemmas.List.Sorted.{IsPermutation-reverse}
use Rattle.std.specs.List.{AllWithin, insert, list_any}
use Rattle.std.specs.List.Sorted.{IsPartitionedBy}
use Rattle.std.specs.Prelude.{reverse}
use Rattle.td_base.specs.declared.bit.Bit.TheVariants.{Left}
use Rattle.td_base.specs.Lists.{In, Successive}
use Rattle.td_base.specs.Value.{DotValue, AtomIdValue}
use Rattle.td_base.proofs.Lists.{In-append, In-front, In-back, In-filter, filter_In, all_of, any_found, any_from}
use Rattle.td_base.proofs.Lists.{successive_append, successive_back, successive_front, successive_imp}
use Rattle.td_base.proofs.Lists.{across, In-permutation}
use Rattle.td_base.proofs.Elements.{successive_among, both_tests, some_of}
use Rattle.td_base.proofs.Searches.{In-take, In-drop, passing_first}
use Rattle.td_path.proofs.SlotEquals.{same_slot_refl}
use Rattle.td_path.specs.Slot.{same_slot, is_root}
use Rattle.td_path.specs.declared.slot.Slot.{Slot}
use Rattle.td_path.specs.declared.slot.Slot.TheVariants.{Root, At}
use Rattle.td_doc.specs.Document.{DocRow, IsDocument, find_row}
use Rattle.td_doc.specs.Answers.{is_rooted}
use Rattle.td_doc.specs.Slots.{is_within, is_atom_within, contains_slot, overlaps}
use Rattle.td_machine.specs.Hold.{Hold, held_by, held_slot, held_row, held_over, is_of, release}
use Rattle.td_machine.proofs.Holding.{apart_pair}
use Rattle.td_vote.specs.ByPlace.{place_before, AreInPlace, AreHeldApart, AreSame, ArePlaced, IsBeside}
use Rattle.td_vote.specs.ByPlace.{AreOverlapping, IsFree}
use Rattle.td_vote.specs.Holds.{HoldsValue}
use Rattle.td_vote.proofs.Between.{not_before_itself, before_twice, either_way, contains_from}
use Rattle.td_vote.proofs.Beside.{index_of}
use Rattle.td_vote.proofs.Least.{held_same, held_alike}

-- ---- lists told from their end

pub in_reverse : {X : Type 0} (x : X) (xs : List X) → In x xs → In x (reverse xs)
in_reverse x xs i = In-permutation xs (reverse xs) x (IsPermutation-reverse xs) i

pub from_reverse : {X : Type 0} (x : X) (xs : List X) → In x (reverse xs) → In x xs
from_reverse x xs i = subst (In x) (reverse-reverse xs) (in_reverse x (reverse xs) i)

-- ---- the holds by place are those of the replica

pub by_place_apart : (rows : List DocRow) (v : HoldsValue) → AreSame v.by_place v.holds → ArePlaced rows v
    → AreHeldApart rows v.by_place
by_place_apart rows v same p = record {
  document = p.apart.document;
  rooted = λ h i. p.apart.rooted h (same.to h i);
  apart = successive_among (λ (g h : Hold). place_before rows g.slot h.slot ≡ true)
      (λ (g h : Hold). overlaps rows g.slot h.slot ≡ false) v.by_place
      (λ g h i j b. apart_pair rows g h v.holds p.apart.apart (same.to g i) (same.to h j)
      (λ e. not_before_itself rows p.apart.document h.slot
      (ap (λ (k : Hold). place_before rows k.slot h.slot) (sym e) ∙ b))) p.order;
}

pub any_same : (some others : List Hold) → AreSame some others → (test : Hold → Bool) → list_any test some
    ≡ list_any test others
any_same some others same test = both_tests (list_any test some) (list_any test others)
    (λ h. let g = any_found test some h in any_from test others g.0 (same.to g.0 g.1) g.2)
    (λ h. let g = any_found test others h in any_from test some g.0 (same.back g.0 g.1) g.2)

pub least_of_same : (some others : List Hold) → AreSame some others → (test : Slot → Bool) → held_by test some
    ≡ held_by test others
least_of_same some others same test = held_same test some others (λ h i k. same.to h i) (λ h i k. same.back h i)

-- those before a slot stand first
pub before_first : (rows : List DocRow) → IsDocument rows → (s : Slot) (holds : List Hold) → AreInPlace rows holds
    → IsPartitionedBy (λ (h : Hold). place_before rows h.slot s) holds
before_first rows d s holds order = passing_first (λ (h : Hold). place_before rows h.slot s) holds
    (successive_imp (λ (g h : Hold). place_before rows g.slot h.slot ≡ true)
    (λ (g h : Hold). place_before rows h.slot s ≡ true → place_before rows g.slot s ≡ true)
    (λ g h b k. before_twice rows d g.slot h.slot s b k) holds order)

-- ---- by the holds beside a place

module _ (rows : List DocRow) (all some : List Hold) where
  pub any_beside : (s : Slot) → IsBeside rows s all some
      → list_any (λ (h : Hold). overlaps rows h.slot s) some ≡ list_any (λ (h : Hold). overlaps rows h.slot s) all
  any_beside s b =
      let test : Hold → Bool = λ h. overlaps rows h.slot s in
      both_tests (list_any test some) (list_any test all)
      (λ h. let g = any_found test some h in any_from test all g.0 (b.inside g.0 g.1) g.2)
      (λ h. let g = any_found test all h in b.overlap g.0 g.1 g.2)

  pub slot_beside : (s : Slot) → IsBeside rows s all some → held_slot rows s (reverse some) ≡ held_slot rows s all
  slot_beside s b = held_same (λ (t : Slot). contains_slot rows t s) (reverse some) all
      (λ h i k. b.inside h (from_reverse h some i)) (λ h i k. in_reverse h some (b.contains h i k))

  -- what contains a row contains the slots at it
  round_row : (d : IsDocument rows) (x : AtomIdValue) (t : Slot) → is_within rows x t ≡ true
      → contains_slot rows t (At x Left) ≡ true
  round_row d x Root h = or_left (same_slot Root (At x Left) || true) (is_within rows x Root)
      (or_right (same_slot Root (At x Left)) true refl)
  round_row d x (At y b) h = contains_from rows d y b x Left h

  pub row_beside : IsDocument rows → (x : AtomIdValue) → IsBeside rows (At x Left) all some
      → held_row rows x (reverse some) ≡ held_row rows x all
  row_beside d x b = held_same (λ (t : Slot). is_within rows x t) (reverse some) all
      (λ h i k. b.inside h (from_reverse h some i))
      (λ h i k. in_reverse h some (b.contains h i (round_row d x h.slot k)))

  pub least_over : (s : Slot) → AreOverlapping rows s all some
      → held_by (λ (t : Slot). true) (reverse some) ≡ held_over rows s all
  least_over s b = held_alike (λ (t : Slot). true) (λ (t : Slot). overlaps rows t s) (reverse some) all
      (λ h i k. b.inside h (from_reverse h some i)) (λ h i k. (in_reverse h some (b.every h i k), refl))

-- ---- one hold more

in_insert : (xs : List Hold) (i : ℕ) (own h : Hold) → In h (insert xs i own) → (h ≡ own) ⊎ In h xs
in_insert xs i own h m =
    ⊎_elim (λ (k : In h (take i xs)). inr (In-take h i xs k))
    (λ (k : In h (own ∷ drop i xs)).
    ⊎_elim (λ (e : h ≡ own). inl e) (λ (j : In h (drop i xs)). inr (In-drop h i xs j)) k)
    (In-append h (take i xs) (own ∷ drop i xs) m)

insert_in : (xs : List Hold) (i : ℕ) (own h : Hold) → (h ≡ own) ⊎ In h xs → In h (insert xs i own)
insert_in xs i own h (inl e) = In-back h (take i xs) (own ∷ drop i xs) (inl e)
insert_in xs i own h (inr m) =
    ⊎_elim (λ (k : In h (take i xs)). In-front h (take i xs) (own ∷ drop i xs) k)
    (λ (k : In h (drop i xs)). In-back h (take i xs) (own ∷ drop i xs) (inr k))
    (In-append h (take i xs) (drop i xs) (subst (In h) (sym (take-append-drop i xs)) m))

pub same_more : (xs holds : List Hold) (i : ℕ) (own : Hold) → AreSame xs holds
    → AreSame (insert xs i own) (own ∷ holds)
same_more xs holds i own same = record {
  to = λ h m. ⊎_elim (λ (e : h ≡ own). inl e) (λ (k : In h xs). inr (same.to h k)) (in_insert xs i own h m);
  back = λ h m. insert_in xs i own h
      (⊎_elim (λ (e : h ≡ own). inl e) (λ (k : In h holds). inr (same.back h k)) m);
}

-- a slot apart from the others has its place among them
module _ (rows : List DocRow) (holds : List Hold) (a : AreHeldApart rows holds) (order : AreInPlace rows holds)
    (own : Hold) (rooted : is_rooted rows own.slot ≡ true) (free : IsFree rows own.slot holds) where
  -- behind each that it does not stand behind
  turned : (h : Hold) → In h holds → place_before rows h.slot own.slot ≡ false
      → place_before rows own.slot h.slot ≡ true
  turned h i b = at h.slot own.slot (a.rooted h i) rooted (free h i) b
    where
      at : (s t : Slot) → is_rooted rows s ≡ true → is_rooted rows t ≡ true → overlaps rows s t ≡ false
          → place_before rows s t ≡ false → place_before rows t s ≡ true
      at Root t r q o b = absurd (true≢false (sym (or_left (contains_slot rows Root t) (contains_slot rows t Root)
          (whole t)) ∙ o))
        where
          whole : (t : Slot) → contains_slot rows Root t ≡ true
          whole t =
              or_left (same_slot Root t || true) (is_atom_within rows Root t) (or_right (same_slot Root t) true refl)
      at (At x b) Root r q o k = absurd (true≢false (sym (or_right (contains_slot rows (At x b) Root)
          (contains_slot rows Root (At x b)) (or_left (false || true) (is_atom_within rows Root (At x b)) refl)) ∙ o))
      at (At x b) (At y c) r q o k =
          let u = some_of (find_row x rows) r in
          let w = some_of (find_row y rows) q in
          ⊎_elim (λ (g : place_before rows (At y c) (At x b) ≡ true). g)
          (λ (e : At x b ≡ At y c).
          absurd (true≢false (sym (ap (λ (t : Slot). overlaps rows t (At y c)) e ∙ itself (At y c)) ∙ o)))
          (either_way rows a.document x b y c u.0 w.0 u.1 w.1 k)
        where
          itself : (t : Slot) → overlaps rows t t ≡ true
          itself t = or_left (contains_slot rows t t) (contains_slot rows t t)
              (or_left (same_slot t t || is_root t) (is_atom_within rows t t)
              (or_left (same_slot t t) (is_root t) (same_slot_refl t t refl)))

  pub placed_more : (i : ℕ) → i ≤ length holds
      → AllWithin (λ (h : Hold). place_before rows h.slot own.slot ≡ true) holds 0 i
      → AllWithin (λ (h : Hold). place_before rows h.slot own.slot ≡ false) holds i (length holds)
      → AreInPlace rows (insert holds i own)
  placed_more i le before behind =
      let R : Hold → Hold → Type 0 = λ (g h : Hold). place_before rows g.slot h.slot ≡ true in
      let parts : Successive R (take i holds ++ drop i holds) =
      subst (Successive R) (sym (take-append-drop i holds)) order in
      successive_append R (take i holds) (own ∷ drop i holds) (successive_front R (take i holds) (drop i holds) parts) (
        all_of (R own) (drop i holds) (λ h m. turned h (In-drop h i holds m) (later h m)),
        successive_back R (take i holds) (drop i holds) parts,
      )
      (λ g h m n. ⊎_elim (λ (e : h ≡ own). subst (λ (k : Hold). R g k) (sym e) (earlier g m))
      (λ (k : In h (drop i holds)). across R (take i holds) (drop i holds) parts g h m k) n)
    where
      earlier : (g : Hold) → In g (take i holds) → place_before rows g.slot own.slot ≡ true
      earlier g m =
          let k = index_of g (take i holds) m in
          let below : k.place < i = omega (arith, k.below, length-take-le i holds le) in
          ap (λ (h : Hold). place_before rows h.slot own.slot)
          (sym (k.is g) ∙ get_or-take i holds k.place g below)
          ∙ before k.place g (omega arith) below

      later : (h : Hold) → In h (drop i holds) → place_before rows h.slot own.slot ≡ false
      later h m =
          let k = index_of h (drop i holds) m in
          ap (λ (g : Hold). place_before rows g.slot own.slot)
          (sym (k.is h) ∙ get_or-drop i holds k.place h)
          ∙ behind (i + k.place) h (omega arith) (omega (arith, k.below, length-drop i holds))

-- ---- one less

pub same_less : (p : DotValue) (some others : List Hold) → AreSame some others
    → AreSame (release p some) (release p others)
same_less p some others same = record {
  to = λ h i. kept some others same.to h i;
  back = λ h i. kept others some same.back h i;
}
  where
    kept : (xs ys : List Hold) → ((h : Hold) → In h xs → In h ys) → (h : Hold) → In h (release p xs)
        → In h (release p ys)
    kept xs ys f h i =
        let k = In-filter (λ (g : Hold). not (is_of p g)) h xs i in
        filter_In (λ (g : Hold). not (is_of p g)) h ys (f h k.0) k.1
