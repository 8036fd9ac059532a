-- Tests for the conditions of a family, which compute at operations that are written out.
use Rattle.std.proofs.Common.{◌≡◌, ◌≤◌, ◌+◌, ℕ, List, [], ◌∷◌, Bool, true, false, ◌&&◌, ◌||◌, not, length, nat_eq}
use Rattle.std.proofs.Common.{nat_le, Option, Some, None, sym, subst, inl, inr, ⊎_elim, true≢false}
use Rattle.std.proofs.lemmas.Bool.{leb-true, eqb-true, and_parts, and_from, or_cases}
use Rattle.std.specs.Prelude.{IfSome}
use Rattle.std.specs.List.{list_all, list_any}
use Rattle.td_base.specs.Lists.{In, IsSublist, done, kept, left_out}
use Rattle.td_base.proofs.Lists.{any_found, all_of}
use Rattle.td_clock.specs.Vector.{vector_covers, vector_get}
use Rattle.td_path.specs.declared.slot.Slot.{Slot}
use Rattle.td_path.specs.declared.slot.Slot.TheVariants.{Root, At}
use Rattle.td_op.specs.Op.{OpValue, IsOp, body_site}
use Rattle.td_op.specs.Past.{in_past}
use Rattle.td_op.specs.declared.insertion.Insertion.{Insertion}
use Rattle.td_op.specs.Insertion.{ids_of, insertions}
use Rattle.td_base.specs.Equality.{same_dot, same_id}
use Rattle.td_path.specs.Slot.{same_slot}
use Rattle.td_order.specs.LineUp.{DotsDiffer}
use Rattle.td_order.specs.Place.{precedes, has_some}
use Rattle.td_order.specs.Causal.{HasEpochs, IsCausal, IsPart, IsRootedIn, IsWellRooted}
use Rattle.td_base.proofs.Equals.{same_dot_true, same_dot_refl, same_id_true}
use Rattle.td_path.proofs.SlotEquals.{same_slot_refl}
use Rattle.td_order.proofs.InsertionLemmas.{of_insertion, to_insertion}
use Rattle.td_order.proofs.SetOfOps.{one_op}
use Rattle.td_order.proofs.LineUpLemmas.{OtherDot}
use Rattle.td_base.proofs.Searches.{each_passes}

-- where one thing passes, so does the other
abbrev pub implies : Bool → Bool → Bool
implies a b = not a || b

implied : (a b : Bool) → implies a b ≡ true → a ≡ true → b ≡ true
implied true b h e = h
implied false b h e = absurd (true≢false (sym e))

abbrev pub site_fits : Option ℕ → ℕ → Bool
site_fits None n = true
site_fits (Some site) n = nat_le site n

fits_if : (m : Option ℕ) (n : ℕ) → site_fits m n ≡ true → IfSome m (λ site. site ≤ n)
fits_if None n h = tt
fits_if (Some site) n h = leb-true site n h

abbrev pub valid_test : OpValue → Bool
valid_test x = nat_le x.dot.site (length x.deps) && (site_fits (body_site x.body) (length x.deps) && nat_eq
    (vector_get x.deps x.dot.site + 1) x.dot.seq)

valid_from : (x : OpValue) → valid_test x ≡ true → IsOp x
valid_from x h =
    let p = and_parts _ _ h in
    let q = and_parts _ _ p.1 in
    record {
      own = leb-true x.dot.site (length x.deps) p.0;
      named = fits_if (body_site x.body) (length x.deps) q.0;
      next = eqb-true (vector_get x.deps x.dot.site + 1) x.dot.seq q.1;
    }

abbrev pub pairs_pass : {X : Type 0} → (X → X → Bool) → List X → Bool
pairs_pass {X} test xs = list_all (λ (x : X). list_all (test x) xs) xs

pair_passes : {X : Type 0} (test : X → X → Bool) (xs : List X) → pairs_pass test xs ≡ true → (x y : X) → In x xs
    → In y xs → test x y ≡ true
pair_passes {X} test xs h x y i j = each_passes (test x) xs (each_passes (λ (z : X). list_all (test z) xs) xs h x i) y j

abbrev pub knows_test : OpValue → OpValue → Bool
knows_test x y = nat_eq (length x.deps) (length y.deps) && implies (in_past x y) (vector_covers y.deps x.deps)

abbrev pub causal_test : List OpValue → Bool
causal_test ops = list_all valid_test ops && pairs_pass knows_test ops

causal_from : (ops : List OpValue) → causal_test ops ≡ true → IsCausal ops
causal_from ops h =
    let p = and_parts _ _ h in
    record {
      valid = λ x i. valid_from x (each_passes valid_test ops p.0 x i);
      one_size = λ x y i j. eqb-true (length x.deps) (length y.deps)
          (and_parts _ _ (pair_passes knows_test ops p.1 x y i j)).0;
      knows = λ x y i j past. implied (in_past x y) (vector_covers y.deps x.deps)
          (and_parts _ _ (pair_passes knows_test ops p.1 x y i j)).1 past;
    }

abbrev pub differ_test : List OpValue → Bool
differ_test [] = true
differ_test (x ∷ ops) = list_all (λ (y : OpValue). not (same_dot x.dot y.dot)) ops && differ_test ops

not_both : (b : Bool) → not b ≡ true → b ≡ true → ⊥
not_both true h e = true≢false (sym h)
not_both false h e = true≢false (sym e)

pub differ_from : (ops : List OpValue) → differ_test ops ≡ true → DotsDiffer ops
differ_from [] h = tt
differ_from (x ∷ ops) h =
    let p = and_parts (list_all (λ (y : OpValue). not (same_dot x.dot y.dot)) ops) (differ_test ops) h in (
      all_of (OtherDot x) ops (λ y i e. not_both (same_dot x.dot y.dot)
          (each_passes (λ (z : OpValue). not (same_dot x.dot z.dot)) ops p.0 y i)
          (subst (λ d. same_dot x.dot d ≡ true) e (same_dot_refl x.dot))),
      differ_from ops p.1,
    )

abbrev pub rooted_test : List OpValue → Insertion → Slot → Bool
rooted_test ops a Root = true
rooted_test ops a (At x bit) = list_any (λ (c : Insertion). precedes c a && list_any (same_id x) (ids_of c))
    (insertions ops)

rooted_from : (ops : List OpValue) (a : Insertion) (s : Slot) → rooted_test ops a s ≡ true → IsRootedIn ops a s
rooted_from ops a Root h = tt
rooted_from ops a (At x bit) h =
    let c = any_found (λ (c : Insertion). precedes c a && list_any (same_id x) (ids_of c)) (insertions ops) h in
    let p = and_parts _ _ c.2 in
    let y = any_found (same_id x) (ids_of c.0) p.1 in (
      record {
        insertion = c.0;
        inside = to_insertion ops c.0 c.1;
        among = subst (λ z. In z (ids_of c.0)) (sym (same_id_true x y.0 y.2)) y.1;
      },
      p.0,
    )

abbrev pub insertion_test : List OpValue → Insertion → Bool
insertion_test ops a = has_some a.run && rooted_test ops a a.slot

abbrev pub roots_test : List OpValue → Bool
roots_test ops = differ_test ops && (causal_test ops && list_all (insertion_test ops) (insertions ops))

not_empty : {X : Type 0} (xs : List X) → has_some xs ≡ true → xs ≡ [] → ⊥
not_empty xs h e = true≢false (sym (subst (λ ys. has_some ys ≡ true) e h))

pub well_rooted_from : (ops : List OpValue) → roots_test ops ≡ true → IsWellRooted ops
well_rooted_from ops h =
    let p = and_parts _ _ h in
    let q = and_parts _ _ p.1 in
    record {
      apart = differ_from ops p.0;
      causal = causal_from ops q.0;
      full = λ a i e. not_empty a.run (and_parts _ _
          (each_passes (insertion_test ops) (insertions ops) q.1 a (of_insertion ops a i))).0 e;
      rooted = λ a i. rooted_from ops a a.slot (and_parts _ _
          (each_passes (insertion_test ops) (insertions ops) q.1 a (of_insertion ops a i))).1;
    }

abbrev pub epoch_test : Insertion → Insertion → Insertion → Bool
epoch_test c d e = implies (same_slot c.slot d.slot && (same_slot e.slot d.slot && precedes c d))
    (precedes c e || precedes e d)

abbrev pub epochs_test : List OpValue → Bool
epochs_test ops = list_all (λ (c : Insertion). pairs_pass (epoch_test c) (insertions ops)) (insertions ops)

pub epochs_from : (ops : List OpValue) → epochs_test ops ≡ true → HasEpochs ops
epochs_from ops h c d e i j k s t past =
    or_cases (precedes c e) (precedes e d)
    (implied (same_slot c.slot d.slot && (same_slot e.slot d.slot && precedes c d)) (precedes c e || precedes e d)
    (pair_passes (epoch_test c) (insertions ops)
    (each_passes (λ (z : Insertion). pairs_pass (epoch_test z) (insertions ops)) (insertions ops) h c
    (of_insertion ops c i)) d e (of_insertion ops d j) (of_insertion ops e k))
    (and_from _ _ (same_slot_refl c.slot d.slot s) (and_from _ _ (same_slot_refl e.slot d.slot t) past)))

in_whole : {X : Type 0} (part all : List X) → IsSublist part all → (x : X) → In x part → In x all
in_whole part all done x i = i
in_whole part all (kept {xs = xs} {ys = ys} w s) x i = ⊎_elim (λ e. inl e) (λ k. inr (in_whole xs ys s x k)) i
in_whole part all (left_out {ys = ys} w s) x i = inr (in_whole part ys s x i)

abbrev pub closed_test : List OpValue → List OpValue → Bool
closed_test part all = list_all (λ (o : OpValue). list_all
    (λ (p : OpValue). implies (in_past p o) (list_any (λ (q : OpValue). same_dot q.dot p.dot) part)) all) part

pub part_from : (part all : List OpValue) → DotsDiffer all → IsSublist part all → differ_test part ≡ true
    → closed_test part all ≡ true → IsPart part all
part_from part all d s h k = record {
  apart = differ_from part h;
  within = in_whole part all s;
  closed = λ o p i j past.
      let there = implied (in_past p o) (list_any (λ (q : OpValue). same_dot q.dot p.dot) part)
      (each_passes (λ (x : OpValue). implies (in_past x o) (list_any (λ (q : OpValue). same_dot q.dot x.dot) part)) all
      (each_passes (λ (y : OpValue). list_all (λ (x : OpValue). implies (in_past x y)
      (list_any (λ (q : OpValue). same_dot q.dot x.dot) part)) all) part k o i) p j) past in
      let q = any_found (λ (z : OpValue). same_dot z.dot p.dot) part there in
      subst (λ z. In z part) (one_op all d q.0 p (in_whole part all s q.0 q.1) j (same_dot_true q.0.dot p.dot q.2)) q.1;
}
