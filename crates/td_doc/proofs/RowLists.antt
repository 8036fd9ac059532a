-- What the walks over the rows find, as the definitions say it.
use Rattle.std.proofs.Common.{◌≡◌, suc, ◌+◌, List, [], ◌∷◌, Bool, true, false, ◌||◌, cond}
use Rattle.std.proofs.Common.{not, nat_eq, length, filter, refl, arith}
use Rattle.std.proofs.lemmas.Bool.Decides.{nat_tests}
use Rattle.std.specs.Prelude.{insert}
use Rattle.std.specs.List.{list_any, position_or_len}
use Rattle.std.specs.Ordering.{is_lt}
use Rattle.td_path.specs.Infix.{path_cmp}
use Rattle.td_doc.specs.Document.{DocRow, is_empty_list}
use Rattle.td_doc.specs.Insertion.{put_row}

none_pass_at : {X : Type 0} (test : X → Bool) (x : X) (xs : List X) (b : Bool) → not (list_any test xs)
    ≡ is_empty_list (filter test xs) → not (b || list_any test xs)
    ≡ is_empty_list (cond b (x ∷ filter test xs) (filter test xs))
none_pass_at test x xs true h = refl
none_pass_at test x xs false h = h

pub none_pass : {X : Type 0} (test : X → Bool) (xs : List X) → not (list_any test xs) ≡ is_empty_list (filter test xs)
none_pass test [] = refl
none_pass test (x ∷ xs) = none_pass_at test x xs (test x) (none_pass test xs)

pub none_of_all : {X : Type 0} (xs : List X) → nat_eq (length xs) 0 ≡ is_empty_list (filter (λ (x : X). true) xs)
none_of_all [] = refl
none_of_all (x ∷ xs) = grind (arith, nat_tests)

abbrev after_new : DocRow → DocRow → Bool
after_new n r = is_lt (path_cmp n.path r.path)

put_row_inserts_at : (n r : DocRow) (rows : List DocRow) (b : Bool) → put_row n rows
    ≡ insert rows (position_or_len (after_new n) rows) n
    → cond b (n ∷ r ∷ rows) (r ∷ put_row n rows) ≡ insert (r ∷ rows)
    (cond (not b) (1 + position_or_len (after_new n) rows) 0) n
put_row_inserts_at n r rows true h = refl
put_row_inserts_at n r rows false h =
    let place : 1 + position_or_len (after_new n) rows ≡ suc (position_or_len (after_new n) rows) = omega arith in
    rw place (λ i. r ∷ h i)

-- before the first row that stands after the new one
pub put_row_inserts : (n : DocRow) (rows : List DocRow) → put_row n rows
    ≡ insert rows (position_or_len (λ (r : DocRow). is_lt (path_cmp n.path r.path)) rows) n
put_row_inserts n [] = refl
put_row_inserts n (r ∷ rows) = put_row_inserts_at n r rows (after_new n r) (put_row_inserts n rows)
