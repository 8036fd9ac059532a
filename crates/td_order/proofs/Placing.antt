-- Placing an insert keeps the atoms in the order of their keys.
use Rattle.std.proofs.Common.{◌≡◌, ◌⊎◌, ◌<◌, ℕ, suc, List, [], ◌∷◌, ◌++◌, Bool, true, false, cond, not}
use Rattle.std.proofs.Common.{◌&&◌, refl, sym, ap, ◌∙◌, subst, inl, inr, ⊎_elim, arith}
use Rattle.std.proofs.lemmas.Bool.{and_parts, and_from, not-true, not_from_false}
use Rattle.td_order.proofs.Lex.{lex_append}
use Rattle.td_order.proofs.ListLemmas.{In-put_after_last, In-put_before_first, put_after_last-In, put_before_first-In}
use Rattle.td_order.proofs.Keys.{Key, StepLt, KeyLt, key_strict, step_strict, step, id_of}
use Rattle.td_path.proofs.SlotEquals.{same_slot_true, same_slot_refl}
use Rattle.td_order.proofs.Fits.{slot_key, OlderRank, Names, Fits, ids_dot}
use Rattle.td_base.specs.Value.{AtomIdValue}
use Rattle.td_base.specs.declared.bit.Bit.TheVariants.{Left, Right}
use Rattle.td_base.specs.Lists.{In, Successive}
use Rattle.td_base.proofs.Lists.{In-filter, filter_In, In-append, In-front, In-back, all_of}
use Rattle.td_path.specs.declared.slot.Slot.{Slot}
use Rattle.td_path.specs.declared.slot.Slot.TheVariants.{Root, At}
use Rattle.td_op.specs.declared.insertion.Insertion.{Insertion}
use Rattle.td_base.specs.Order.{dot_lt}
use Rattle.td_base.specs.Equality.{same_id}
use Rattle.td_path.specs.Slot.{same_slot}
use Rattle.td_base.specs.RunAtoms.{run_ids_from}
use Rattle.td_op.specs.Insertion.{ids_of}
use Rattle.td_order.specs.Place.{precedes, siblings, smaller_siblings, place, put_beside, has_some}
use Rattle.td_order.specs.Order.{placed}

-- what a list has after placing
In-put_beside : (s : Slot) (ids list : List AtomIdValue) (y : AtomIdValue) → In y (put_beside s ids list) → In y ids
    ⊎ In y list
In-put_beside Root ids list y h = In-append y ids list h
In-put_beside (At x Left) ids list y h = In-put_before_first (same_id x) ids y list h
In-put_beside (At x Right) ids list y h = In-put_after_last (same_id x) ids y list h

put_beside-In : (s : Slot) (ids list : List AtomIdValue) (y : AtomIdValue) → In y ids ⊎ In y list
    → In y (put_beside s ids list)
put_beside-In Root ids list y h = ⊎_elim (λ i. In-front y ids list i) (λ j. In-back y ids list j) h
put_beside-In (At x Left) ids list y h = put_before_first-In (same_id x) ids y list h
put_beside-In (At x Right) ids list y h = put_after_last-In (same_id x) ids y list h

pub of_three : (P : List AtomIdValue → Type 0) (a b : Bool) (x y z : List AtomIdValue) → P x → P y → P z
    → P (cond a x (cond b y z))
of_three P true b x y z p q r = p
of_three P false true x y z p q r = q
of_three P false false x y z p q r = r

pub In-place : (os : List Insertion) (list : List AtomIdValue) (a : Insertion) (y : AtomIdValue)
    → In y (place os list a) → In y (ids_of a) ⊎ In y list
In-place os list a y =
    of_three (λ zs. In y zs → In y (ids_of a) ⊎ In y list) (has_some (smaller_siblings os a))
    (has_some (siblings os a)) _ _ _
    (λ h. In-put_after_last _ (ids_of a) y list h) (λ h. In-put_before_first _ (ids_of a) y list h)
    (λ h. In-put_beside a.slot (ids_of a) list y h)

pub place-In : (os : List Insertion) (list : List AtomIdValue) (a : Insertion) (y : AtomIdValue) → In y (ids_of a)
    ⊎ In y list → In y (place os list a)
place-In os list a y h =
    of_three (λ zs. In y zs) (has_some (smaller_siblings os a)) (has_some (siblings os a)) _ _ _
    (put_after_last-In _ (ids_of a) y list h) (put_before_first-In _ (ids_of a) y list h)
    (put_beside-In a.slot (ids_of a) list y h)

pub In-placed : (os : List Insertion) (y : AtomIdValue) → In y (placed os) → Names os y
In-placed [] y h = absurd h
In-placed (a ∷ os) y h = ⊎_elim (λ i. (a, inl refl, i)) (λ j. let r = In-placed os y j in (r.0, inr r.1, r.2))
    (In-place os (placed os) a y h)

pub placed-In : (os : List Insertion) (y : AtomIdValue) → Names os y → In y (placed os)
placed-In [] y n = absurd n.1
placed-In (a ∷ os) y n =
    place-In os (placed os) a y
    (⊎_elim (λ (e : n.0 ≡ a). inl (subst (λ (c : Insertion). In y (ids_of c)) e n.2))
    (λ k. inr (placed-In os y (n.0, k, n.2))) n.1)

-- a sibling of a: of its slot, and not in its past
pub record Sibling (os : List Insertion) (a c : Insertion) : Type 0 where
  pub inside : In c os
  pub slot : c.slot ≡ a.slot
  pub apart : precedes c a ≡ false

pub sibling_of : (os : List Insertion) (a c : Insertion) → In c (siblings os a) → Sibling os a c
sibling_of os a c h =
    let r = In-filter (λ c. same_slot c.slot a.slot && not (precedes c a)) c os h in
    let p = and_parts _ _ r.1 in
    record { inside = r.0; slot = same_slot_true c.slot a.slot p.0; apart = not-true (precedes c a) p.1 }

pub of_sibling : (os : List Insertion) (a c : Insertion) → Sibling os a c → In c (siblings os a)
of_sibling os a c h =
    filter_In (λ c. same_slot c.slot a.slot && not (precedes c a)) c os h.inside
    (and_from _ _ (same_slot_refl c.slot a.slot h.slot) (not_from_false (precedes c a) h.apart))

pub smaller_of : (os : List Insertion) (a c : Insertion) → In c (smaller_siblings os a) → Sibling os a c
    × (dot_lt c.dot a.dot ≡ true)
smaller_of os a c h = let r = In-filter (λ c. dot_lt c.dot a.dot) c (siblings os a) h in (sibling_of os a c r.0, r.1)

pub of_smaller : (os : List Insertion) (a c : Insertion) → Sibling os a c → dot_lt c.dot a.dot ≡ true
    → In c (smaller_siblings os a)
of_smaller os a c h e = filter_In (λ c. dot_lt c.dot a.dot) c (siblings os a) (of_sibling os a c h) e

pub older_apart : (s : Slot) (c a : ℕ) → OlderRank s c a → c ≡ a → ⊥
older_apart Root c a h e = omega arith
older_apart (At x Left) c a h e = omega arith
older_apart (At x Right) c a h e = omega arith

module _ (K : AtomIdValue → ℕ → Key) (rank : Insertion → ℕ) where
  abbrev pub IdLt : AtomIdValue → AtomIdValue → Type 0
  IdLt y z = KeyLt (K y 1) (K z 1)

  pub id_trans : (x y z : AtomIdValue) → IdLt x y → IdLt y z → IdLt x z
  id_trans x y z h k = key_strict.trans (K x 1) (K y 1) (K z 1) h k

  -- an atom of a, as a key
  pub atom_key : (os : List Insertion) (a : Insertion) → Fits K rank a os → (z : AtomIdValue) → In z (ids_of a)
      → (o : ℕ) × (K z 1 ≡ slot_key K a.slot ++ (step (rank a) a.dot o 1 ∷ []))
  atom_key os a f z i = let o = ids_dot a.dot 0 a.run z i in (o.0, ap (λ x. K x 1) o.1 ∙ f.key o.0 1)

  pub ids_rise_from : (a : Insertion) → ((offset side : ℕ) → K (id_of a.dot offset) side ≡ slot_key K a.slot
      ++ (step (rank a) a.dot offset side ∷ []))
      → (k : ℕ) (run : List (List ℕ)) → Successive IdLt (run_ids_from a.dot k run)
  ids_rise_from a key k [] = tt
  ids_rise_from a key k (x ∷ run) = (
    all_of (IdLt (id_of a.dot k)) (run_ids_from a.dot (suc k) run) (λ y i.
        let o = ids_dot a.dot (suc k) run y i in
        let lt : k < o.0 = omega (arith, o.2) in
        let less : KeyLt (slot_key K a.slot ++ (step (rank a) a.dot k 1 ∷ []))
        (slot_key K a.slot ++ (step (rank a) a.dot o.0 1 ∷ [])) =
        lex_append StepLt step_strict (slot_key K a.slot) _ _ (inl (inr (refl, inr (refl, inr (refl, inl lt))))) in
        subst (λ (w : AtomIdValue). IdLt (id_of a.dot k) w) (sym o.1)
        (subst (λ (v : Key). KeyLt v (K (id_of a.dot o.0) 1)) (sym (key k 1))
        (subst (λ (v : Key). KeyLt (slot_key K a.slot ++ (step (rank a) a.dot k 1 ∷ [])) v) (sym (key o.0 1))
        less))),
    ids_rise_from a key (suc k) run,
  )
