-- The order and the text are those of a set of operations: in which order a list has them does not matter.
use Rattle.std.specs.Prelude.{◌↔◌, unwrap_or, find, slice_get, option_and_then}
use Rattle.std.proofs.Common.{◌≡◌, List, [], ◌∷◌, Bool, not, map, filter, Option, Some}
use Rattle.std.proofs.Common.{None, refl, sym, ap, ◌∙◌, ⊎_elim, true≢false}
use Rattle.std.specs.List.{concat, list_any}
use Rattle.std.specs.List.Sorted.{IsPermutation}
use Rattle.std.proofs.lemmas.List.Sorted.{IsPermutation-sym}
use Rattle.td_base.specs.Value.{AtomIdValue}
use Rattle.td_base.specs.Lists.{In}
use Rattle.td_base.proofs.Lists.{any_found, any_from, all_in, In-permutation}
use Rattle.td_op.specs.Op.{OpValue}
use Rattle.td_op.specs.declared.insertion.Insertion.{Insertion}
use Rattle.td_op.specs.Insertion.{insertion_of, insertions}
use Rattle.td_base.specs.Equality.{same_dot}
use Rattle.td_order.specs.LineUp.{DotsDiffer}
use Rattle.td_order.specs.Order.{placed, order}
use Rattle.td_order.specs.Show.{atom_of, deletes, is_deleted, show}
use Rattle.td_base.proofs.Equals.{same_dot_true}
use Rattle.td_op.proofs.InsertionLemmas.{from_op, In-insertions, insertions-In}
use Rattle.td_order.proofs.LineUpLemmas.{one_line_up, differ_permuted, OtherDot}
use Rattle.td_base.proofs.Elements.{both_tests}
use Rattle.td_base.proofs.Searches.{find_In, find_none}

-- of operations without a dot twice, the one with a dot
pub one_op : (ops : List OpValue) → DotsDiffer ops → (o p : OpValue) → In o ops → In p ops → o.dot ≡ p.dot → o ≡ p
one_op [] d o p i j e = absurd i
one_op (q ∷ ops) d o p i j e =
    ⊎_elim
    (λ (k : o ≡ q). ⊎_elim (λ (l : p ≡ q). k ∙ sym l)
    (λ l. absurd (all_in (OtherDot q) ops d.0 p l (ap (λ (x : OpValue). x.dot) (sym k) ∙ e))) j)
    (λ (k : In o ops). ⊎_elim (λ (l : p ≡ q). absurd
    (all_in (OtherDot q) ops d.0 o k (ap (λ (x : OpValue). x.dot) (sym l) ∙ sym e)))
    (λ l. one_op ops d.1 o p k l e) j)
    i

abbrev with_dot : AtomIdValue → Insertion → Bool
with_dot x a = same_dot a.dot x.dot

module _ (xs ys : List OpValue) (d : DotsDiffer xs) (e : DotsDiffer ys) (h : (o : OpValue) → In o xs → In o ys)
    (k : (o : OpValue) → In o ys → In o xs) where
  pub one_order : order xs ≡ order ys
  one_order = ap (λ (line : List OpValue). placed (insertions line)) (one_line_up xs ys d e h k)

  same_any : (test : OpValue → Bool) → list_any test xs ≡ list_any test ys
  same_any test =
      both_tests (list_any test xs) (list_any test ys)
      (λ t. let r = any_found test xs t in any_from test ys r.0 (h r.0 r.1) r.2)
      (λ t. let r = any_found test ys t in any_from test xs r.0 (k r.0 r.1) r.2)

  same_find_at : (x : AtomIdValue) (m n : Option Insertion) → find (with_dot x) (insertions xs) ≡ m
      → find (with_dot x) (insertions ys) ≡ n → m ≡ n
  same_find_at x None None p q = refl
  same_find_at x (Some a) None p q =
      let i = find_In (with_dot x) (insertions xs) a p in
      let o = In-insertions xs a i.0 in
      absurd (true≢false (sym i.1 ∙ find_none (with_dot x) (insertions ys) a q
      (insertions-In ys o.0 a (h o.0 o.1) o.2)))
  same_find_at x None (Some a) p q =
      let i = find_In (with_dot x) (insertions ys) a q in
      let o = In-insertions ys a i.0 in
      absurd (true≢false (sym i.1 ∙ find_none (with_dot x) (insertions xs) a p
      (insertions-In xs o.0 a (k o.0 o.1) o.2)))
  same_find_at x (Some a) (Some b) p q =
      let i = find_In (with_dot x) (insertions xs) a p in
      let j = find_In (with_dot x) (insertions ys) b q in
      let o = In-insertions xs a i.0 in
      let u = In-insertions ys b j.0 in
      let dots : o.0.dot ≡ u.0.dot = sym (from_op o.0 a o.2).dot
      ∙ (same_dot_true a.dot x.dot i.1 ∙ (sym (same_dot_true b.dot x.dot j.1) ∙ (from_op u.0 b u.2).dot)) in
      let one : o.0 ≡ u.0 = one_op ys e o.0 u.0 (h o.0 o.1) u.1 dots in
      sym o.2 ∙ (ap insertion_of one ∙ u.2)

  same_atom : (x : AtomIdValue) → atom_of xs x ≡ atom_of ys x
  same_atom x =
      ap (λ (m : Option Insertion). unwrap_or (option_and_then (λ (a : Insertion). slice_get a.run x.offset) m) [])
      (same_find_at x (find (with_dot x) (insertions xs)) (find (with_dot x) (insertions ys)) refl refl)

  same_deleted : (x : AtomIdValue) → is_deleted xs x ≡ is_deleted ys x
  same_deleted x = same_any (λ (o : OpValue). deletes x o.body)

  pub one_text : show xs ≡ show ys
  one_text = λ i. concat (map (λ (x : AtomIdValue). same_atom x i)
      (filter (λ (x : AtomIdValue). not (same_deleted x i)) (one_order i)))

pub order_permuted : (xs ys : List OpValue) → DotsDiffer xs → IsPermutation xs ys → order xs ≡ order ys
order_permuted xs ys d p = one_order xs ys d (differ_permuted xs ys p d) (λ o i. In-permutation xs ys o p i)
    (λ o i. In-permutation ys xs o (IsPermutation-sym xs ys p) i)

pub text_permuted : (xs ys : List OpValue) → DotsDiffer xs → IsPermutation xs ys → show xs ≡ show ys
text_permuted xs ys d p = one_text xs ys d (differ_permuted xs ys p d) (λ o i. In-permutation xs ys o p i)
    (λ o i. In-permutation ys xs o (IsPermutation-sym xs ys p) i)

pub order_of_set : (ops others : List OpValue) → DotsDiffer ops → DotsDiffer others
    → ((o : OpValue) → In o ops ↔ In o others) → order ops ≡ order others
order_of_set ops others d e h = one_order ops others d e (λ o. (h o).0) (λ o. (h o).1)

pub text_of_set : (ops others : List OpValue) → DotsDiffer ops → DotsDiffer others
    → ((o : OpValue) → In o ops ↔ In o others) → show ops ≡ show others
text_of_set ops others d e h = one_text ops others d e (λ o. (h o).0) (λ o. (h o).1)

pub ruleset of_a_set = (order_of_set, text_of_set, order_permuted, text_permuted)
