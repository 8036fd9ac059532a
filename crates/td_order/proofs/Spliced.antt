-- Placing puts the atoms of an insertion next to each other and moves no other, so each atom is placed once.
use Rattle.std.specs.Prelude.{◌↔◌}
use Rattle.std.proofs.Common.{◌≡◌, ◌≢◌, ◌⊎◌, ℕ, suc, List, [], ◌∷◌, ◌++◌, Bool, true, false, cond, Option}
use Rattle.std.proofs.Common.{Some, None, refl, sym, ap, ◌∙◌, subst, inl, inr, ⊎_elim, arith}
use Rattle.std.proofs.lemmas.List.{append-nil}
use Rattle.std.specs.List.{cons_option, list_any}
use Rattle.td_base.specs.declared.bit.Bit.TheVariants.{Left, Right}
use Rattle.td_base.specs.Value.{DotValue, AtomIdValue}
use Rattle.td_base.specs.Lists.{In, Successive, IsSpliced}
use Rattle.td_base.proofs.Lists.{In-front, In-back, In-append, successive_append, all_in}
use Rattle.td_base.proofs.Lists.{all_of, across, successive_back, successive_front}
use Rattle.td_path.specs.declared.slot.Slot.{Slot}
use Rattle.td_path.specs.declared.slot.Slot.TheVariants.{Root, At}
use Rattle.td_op.specs.Op.{OpValue}
use Rattle.td_op.specs.declared.insertion.Insertion.{Insertion}
use Rattle.td_order.specs.Insertions.{IsAtomOf}
use Rattle.td_base.specs.RunAtoms.{run_ids_from}
use Rattle.td_op.specs.Insertion.{ids_of, insertion_of, insertions}
use Rattle.td_base.specs.Equality.{same_id}
use Rattle.td_order.specs.LineUp.{line_up, DotsDiffer}
use Rattle.td_order.specs.Place.{place, put_after_last, put_before_first, put_beside}
use Rattle.td_order.specs.Place.{siblings, smaller_siblings, has_some}
use Rattle.td_order.specs.Order.{placed, order}
use Rattle.td_order.proofs.Fits.{ids_dot}
use Rattle.td_order.proofs.Placing.{In-placed, placed-In}
use Rattle.td_op.proofs.InsertionLemmas.{from_op, In-insertions, insertions-In}
use Rattle.td_order.proofs.LineUpLemmas.{In-line_up, line_up-In, apart_line_up}
use Rattle.td_order.proofs.Keys.{id_of}

at_front : {X : Type 0} (xs list : List X) → IsSpliced xs list (xs ++ list)
at_front xs list = record { front = []; back = list; was = refl; is = refl }

one_further : {X : Type 0} (xs : List X) (y : X) (ys all : List X) → IsSpliced xs ys all
    → IsSpliced xs (y ∷ ys) (y ∷ all)
one_further xs y ys all s = record { front = y ∷ s.front; back = s.back; was = λ i. y ∷ s.was i; is = λ i. y ∷ s.is i }

alone : {X : Type 0} (xs : List X) → IsSpliced xs [] xs
alone xs = record { front = []; back = []; was = refl; is = sym (append-nil xs) }

either : {X : Type 0} (xs list : List X) (b : Bool) (u v : List X) → IsSpliced xs list u → IsSpliced xs list v
    → IsSpliced xs list (cond b u v)
either xs list true u v p q = p
either xs list false u v p q = q

after_spliced : {X : Type 0} (test : X → Bool) (xs list : List X) → IsSpliced xs list (put_after_last test xs list)
after_spliced test xs [] = alone xs
after_spliced test xs (y ∷ ys) =
    either xs (y ∷ ys) (list_any test (y ∷ ys)) _ _
    (one_further xs y ys (put_after_last test xs ys) (after_spliced test xs ys)) (at_front xs (y ∷ ys))

before_spliced : {X : Type 0} (test : X → Bool) (xs list : List X) → IsSpliced xs list (put_before_first test xs list)
before_spliced test xs [] = alone xs
before_spliced test xs (y ∷ ys) =
    either xs (y ∷ ys) (test y) _ _ (at_front xs (y ∷ ys))
    (one_further xs y ys (put_before_first test xs ys) (before_spliced test xs ys))

beside_spliced : (slot : Slot) (xs list : List AtomIdValue) → IsSpliced xs list (put_beside slot xs list)
beside_spliced Root xs list = at_front xs list
beside_spliced (At x Left) xs list = before_spliced (same_id x) xs list
beside_spliced (At x Right) xs list = after_spliced (same_id x) xs list

pub place_spliced : (before : List Insertion) (list : List AtomIdValue) (a : Insertion)
    → IsSpliced (ids_of a) list (place before list a)
place_spliced before list a =
    either (ids_of a) list (has_some (smaller_siblings before a)) _ _ (after_spliced _ (ids_of a) list)
    (either (ids_of a) list (has_some (siblings before a)) _ _ (before_spliced _ (ids_of a) list)
    (beside_spliced a.slot (ids_of a) list))

abbrev pub Distinct : {X : Type 0} → List X → Type 0
Distinct xs = Successive (λ x y. x ≢ y) xs

append_distinct : {X : Type 0} (xs ys : List X) → Distinct xs → Distinct ys → ((x : X) → In x xs → In x ys → ⊥)
    → Distinct (xs ++ ys)
append_distinct {X} xs ys d e n = successive_append (λ (x y : X). x ≢ y) xs ys d e
    (λ x y i j p. n x i (subst (λ z. In z ys) (sym p) j))

In-append_at : {X : Type 0} (x : X) (xs ys zs : List X) → zs ≡ xs ++ ys → In x xs ⊎ In x ys → In x zs
In-append_at x xs ys zs e h = subst (λ w. In x w) (sym e) (⊎_elim (λ i. In-front x xs ys i) (λ j. In-back x xs ys j) h)

spliced_distinct : {X : Type 0} (xs list all : List X) → IsSpliced xs list all → Distinct xs → Distinct list
    → ((x : X) → In x xs → In x list → ⊥) → Distinct all
spliced_distinct {X} xs list all s d e n =
    let D : X → X → Type 0 = λ x y. x ≢ y in
    let whole : Distinct (s.front ++ s.back) = subst (λ w. Distinct w) s.was e in
    let end : Distinct (xs ++ s.back) =
    append_distinct xs s.back d (successive_back D s.front s.back whole)
    (λ x i j. n x i (In-append_at x s.front s.back list s.was (inr j))) in
    subst (λ w. Distinct w) (sym s.is)
    (append_distinct s.front (xs ++ s.back) (successive_front D s.front s.back whole) end
    (λ x i j. ⊎_elim (λ k. n x k (In-append_at x s.front s.back list s.was (inl i)))
    (λ k. across D s.front s.back whole x x i k refl) (In-append x xs s.back j)))

ids_distinct : (d : DotValue) (k : ℕ) (run : List (List ℕ)) → Distinct (run_ids_from d k run)
ids_distinct d k [] = tt
ids_distinct d k (atom ∷ run) = (
  all_of (λ (y : AtomIdValue). id_of d k ≢ y) (run_ids_from d (suc k) run) (λ y i e.
      let o = ids_dot d (suc k) run y i in
      let same : k ≡ o.0 = ap (λ (x : AtomIdValue). x.offset) (e ∙ o.1) in
      omega (arith, same, o.2)),
  ids_distinct d (suc k) run,
)

abbrev InsertionsDiffer : List Insertion → Type 0
InsertionsDiffer list = Successive (λ (a c : Insertion). a.dot ≢ c.dot) list

insertions_differ_at : (o : OpValue) (ops : List OpValue) (m : Option Insertion) → insertion_of o ≡ m
    → ((p : OpValue) → In p ops → o.dot ≢ p.dot) → InsertionsDiffer (insertions ops)
    → InsertionsDiffer (cons_option m (insertions ops))
insertions_differ_at o ops None e h rest = rest
insertions_differ_at o ops (Some a) e h rest = (
  all_of (λ (c : Insertion). a.dot ≢ c.dot) (insertions ops)
      (λ c i d. let p = In-insertions ops c i in h p.0 p.1
      (sym (from_op o a e).dot ∙ (d ∙ (from_op p.0 c p.2).dot))),
  rest,
)

insertions_differ : (ops : List OpValue) → DotsDiffer ops → InsertionsDiffer (insertions ops)
insertions_differ [] d = tt
insertions_differ (o ∷ ops) d = insertions_differ_at o ops (insertion_of o) refl
    (all_in (λ (p : OpValue). o.dot ≢ p.dot) ops d.0) (insertions_differ ops d.1)

dot_of_id : (a : Insertion) (x : AtomIdValue) → In x (ids_of a) → x.dot ≡ a.dot
dot_of_id a x i = ap (λ (y : AtomIdValue). y.dot) (ids_dot a.dot 0 a.run x i).1

placed_distinct : (list : List Insertion) → InsertionsDiffer list → Distinct (placed list)
placed_distinct [] d = tt
placed_distinct (a ∷ list) d =
    spliced_distinct (ids_of a) (placed list) (place list (placed list) a) (place_spliced list (placed list) a)
    (ids_distinct a.dot 0 a.run) (placed_distinct list d.1)
    (λ x i j. let n = In-placed list x j in all_in (λ (c : Insertion). a.dot ≢ c.dot) list d.0 n.0 n.1
    (sym (dot_of_id a x i) ∙ dot_of_id n.0 x n.2))

pub order_distinct : (ops : List OpValue) → DotsDiffer ops → Distinct (order ops)
order_distinct ops d = placed_distinct (insertions (line_up ops))
    (insertions_differ (line_up ops) (apart_line_up ops d))

pub order_atoms : (ops : List OpValue) (x : AtomIdValue) → In x (order ops) → IsAtomOf ops x
order_atoms ops x i =
    let n = In-placed (insertions (line_up ops)) x i in
    let o = In-insertions (line_up ops) n.0 n.1 in
    record { insertion = n.0; inside = record { op = o.0; inside = In-line_up ops o.0 o.1; is = o.2 }; among = n.2 }

pub atoms_order : (ops : List OpValue) (x : AtomIdValue) → IsAtomOf ops x → In x (order ops)
atoms_order ops x a =
    placed-In (insertions (line_up ops)) x (
      a.insertion,
      insertions-In (line_up ops) a.inside.op a.insertion
          (line_up-In ops a.inside.op a.inside.inside) a.inside.is,
      a.among,
    )

pub order_members : (ops : List OpValue) (x : AtomIdValue) → In x (order ops) ↔ IsAtomOf ops x
order_members ops x = (order_atoms ops x, atoms_order ops x)

pub ruleset each_once = (order_members, order_distinct)
