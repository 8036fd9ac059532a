-- How many rows items have.
use Rattle.std.proofs.Common.{◌≡◌, ◌+◌, ◌<◌, ◌≤◌, ◌^◌, ℕ, List, [], ◌++◌, map, length, take, drop, get_or, Option}
use Rattle.std.proofs.Common.{ap, ◌∙◌, arith, length-append, take-append-drop}
use Rattle.std.proofs.lemmas.List.{length-map}
use Rattle.td_path.specs.declared.slot.Slot.{Slot}
use Rattle.td_doc.specs.Slots.{rows_in_slot}
use Rattle.td_list.specs.Items.{Item}
use Rattle.td_list.specs.Places.{nothing}
use Rattle.td_brackets.specs.RowNumbers.{entry_of}
use Rattle.td_tree.specs.Parts.{Parts, table, tokens, doc_rows, IsTree}
use Rattle.td_tree.specs.Reading.{shown_at, shown}
use Rattle.td_tree.specs.Walks.{IsStretch}
use Rattle.td_tree.proofs.Grown.{rows_long}
use Rattle.td_tree.proofs.Shown.{shown-append, shown_more}
use Rattle.td_tree.proofs.Walked.{Walked}

abbrev pub rows_of_items : Parts → List Item → ℕ
rows_of_items p items = length (shown p items)

pub counted-append : (p : Parts) (xs ys : List Item) → rows_of_items p (xs ++ ys)
    ≡ rows_of_items p xs + rows_of_items p ys
counted-append p xs ys = ap length (shown-append p xs ys) ∙ length-append (shown p xs) (shown p ys)

-- the items that follow
pub both_counted : (p : Parts) (xs ys : List Item) (m n : ℕ) → m ≡ rows_of_items p xs → n ≡ rows_of_items p ys
    → m + n ≡ rows_of_items p (xs ++ ys)
both_counted p xs ys m n e f = let both = counted-append p xs ys in omega arith

-- one more item of those that are gone through
pub counted_next : (p : Parts) (items : List Item) (k : ℕ) → k < length items → rows_of_items p (take (k + 1) items)
    ≡ rows_of_items p (take k items) + length (shown_at p (get_or items k nothing))
counted_next p items k b = ap length (shown_more p items k b)
    ∙ length-append (shown p (take k items)) (shown_at p (get_or items k nothing))

-- with it they have no more rows than all
pub counted_within : (p : Parts) (items : List Item) (k : ℕ) → k < length items
    → rows_of_items p (take k items) + length (shown_at p (get_or items k nothing)) ≤ rows_of_items p items
counted_within p items k b =
    let all = ap (rows_of_items p) (take-append-drop (k + 1) items) in
    let parts = counted-append p (take (k + 1) items) (drop (k + 1) items) in
    let next = counted_next p items k b in
    omega arith

-- the items passed, and those that follow, have no more rows than there are
pub counted_few : (p : Parts) (t : IsTree p) (first end : Option ℕ) (s : IsStretch p first end) (at : Option ℕ)
    (w : Walked p s.inner s.back at) (items more : List Item) → w.rest ≡ items ++ more
    → rows_of_items p w.done + rows_of_items p items ≤ 2 ^ 30
counted_few p t first end s at w items more e =
    let all = ap (rows_of_items p) (s.is ∙ ap (λ (xs : List Item). s.front ++ (xs ++ s.back))
    (w.is ∙ ap (λ (xs : List Item). w.done ++ xs) e)) in
    let one = counted-append p s.front ((w.done ++ (items ++ more)) ++ s.back) in
    let two = counted-append p (w.done ++ (items ++ more)) s.back in
    let three = counted-append p w.done (items ++ more) in
    let four = counted-append p items more in
    let five = rows_long (table p) [] (tokens p) in
    let six = t.all in
    let seven = t.many in
    let eight = t.most in
    omega arith

-- the rows of a slot, by their numbers
pub counted_slot : (p : Parts) (slot : Slot) (numbers : List ℕ)
    → map entry_of (rows_in_slot (doc_rows p) slot) ≡ map (table p) numbers
    → length numbers ≡ length (rows_in_slot (doc_rows p) slot)
counted_slot p slot numbers e =
    let one = length-map numbers (table p) in
    let two = length-map (rows_in_slot (doc_rows p) slot) entry_of in
    let both = ap length e in
    omega arith
