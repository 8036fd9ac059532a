-- The order of operations is that of the insertions among them.
use Rattle.std.proofs.Common.{◌≡◌, List, [], ◌∷◌, true, cond, filter, Option, Some, None, refl, sym, ap, ◌∙◌}
use Rattle.std.specs.Prelude.{◌↔◌}
use Rattle.std.specs.List.{cons_option}
use Rattle.std.specs.Option.{is_some}
use Rattle.td_base.specs.Lists.{In}
use Rattle.td_base.proofs.Lists.{In-filter, filter_In, successive_filter}
use Rattle.td_op.specs.Op.{OpValue}
use Rattle.td_op.specs.declared.insertion.Insertion.{Insertion}
use Rattle.td_op.specs.Insertion.{insertion_of, insertions}
use Rattle.td_order.specs.Insertions.{is_insertion}
use Rattle.td_order.specs.LineUp.{line_up, DotsDiffer}
use Rattle.td_order.specs.Order.{order, placed}
use Rattle.td_order.proofs.LineUpLemmas.{After, OtherDot, one_list, line_up_falls, line_up-In, In-line_up}

kept_by : (x : OpValue) (xs ys : List OpValue) (m : Option Insertion) → insertion_of x ≡ m → insertions xs
    ≡ insertions ys
    → cons_option m (insertions xs) ≡ insertions (cond (is_some m) (x ∷ ys) ys)
kept_by x xs ys None e h = h
kept_by x xs ys (Some a) e h = ap (λ (l : List Insertion). a ∷ l) h
    ∙ ap (λ (m : Option Insertion). cons_option m (insertions ys)) (sym e)

insertions_kept : (ops : List OpValue) → insertions ops ≡ insertions (filter is_insertion ops)
insertions_kept [] = refl
insertions_kept (x ∷ xs) = kept_by x xs (filter is_insertion xs) (insertion_of x) refl (insertions_kept xs)

pub differ_kept : (ops : List OpValue) → DotsDiffer ops → DotsDiffer (filter is_insertion ops)
differ_kept ops d = successive_filter OtherDot is_insertion ops d

one_line : (ops : List OpValue) → DotsDiffer ops → filter is_insertion (line_up ops) ≡ line_up (filter is_insertion ops)
one_line ops d =
    one_list (filter is_insertion (line_up ops)) (line_up (filter is_insertion ops))
    (successive_filter After is_insertion (line_up ops) (line_up_falls ops d))
    (line_up_falls (filter is_insertion ops) (differ_kept ops d))
    (λ x i. let r = In-filter is_insertion x (line_up ops) i in
    line_up-In (filter is_insertion ops) x (filter_In is_insertion x ops (In-line_up ops x r.0) r.1))
    (λ x i. let r = In-filter is_insertion x ops (In-line_up (filter is_insertion ops) x i) in
    filter_In is_insertion x (line_up ops) (line_up-In ops x r.0) r.1)

pub order_alone : (ops : List OpValue) → DotsDiffer ops → order ops ≡ order (filter is_insertion ops)
order_alone ops d =
    ap placed (insertions_kept (line_up ops)) ∙ ap (λ (line : List OpValue). placed (insertions line)) (one_line ops d)

same_line : (ops others : List OpValue) → DotsDiffer ops → DotsDiffer others
    → ((x : OpValue) → is_insertion x ≡ true → In x ops ↔ In x others)
    → line_up (filter is_insertion ops) ≡ line_up (filter is_insertion others)
same_line ops others d e h =
    one_list (line_up (filter is_insertion ops)) (line_up (filter is_insertion others))
    (line_up_falls (filter is_insertion ops) (differ_kept ops d))
    (line_up_falls (filter is_insertion others) (differ_kept others e))
    (λ x i. let r = In-filter is_insertion x ops (In-line_up (filter is_insertion ops) x i) in
    line_up-In (filter is_insertion others) x (filter_In is_insertion x others ((h x r.1).0 r.0) r.1))
    (λ x i. let r = In-filter is_insertion x others (In-line_up (filter is_insertion others) x i) in
    line_up-In (filter is_insertion ops) x (filter_In is_insertion x ops ((h x r.1).1 r.0) r.1))

pub order_of_same_insertions : (ops others : List OpValue) → DotsDiffer ops → DotsDiffer others
    → ((x : OpValue) → is_insertion x ≡ true → In x ops ↔ In x others) → order ops ≡ order others
order_of_same_insertions ops others d e h =
    order_alone ops d ∙ (ap (λ (line : List OpValue). placed (insertions line)) (same_line ops others d e h)
    ∙ sym (order_alone others e))
