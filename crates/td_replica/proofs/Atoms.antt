-- How many live atoms stand before an atom that is no row.
use Rattle.std.proofs.Common.{◌≡◌, ◌+◌, ℕ, List, [], ◌∷◌, Bool, true, false, length}
use Rattle.std.proofs.Common.{if◌then◌else◌, Option, Some, None, refl, ap, ◌∙◌, arith}
use Rattle.td_base.specs.Value.{AtomIdValue}
use Rattle.std.specs.Option.{option_map}
use Rattle.td_doc.specs.declared.doc.Row.{Row}
use Rattle.td_doc.specs.Slots.{own_slot}
use Rattle.td_doc.specs.Document.{DocRow, row_id, has_id, is_live, find_row, live_rows}
use Rattle.td_doc.specs.Answers.{live_before, row_told}

pub before_none : (x : AtomIdValue) (rows : List DocRow) → find_row x rows ≡ None
    → live_before x rows ≡ length (live_rows rows)
before_none x [] e = refl
before_none x (r ∷ rows) e = at (has_id x r) e (before_none x rows)
  where
    counted : (live : Bool) → (if live then 1 else 0) + length (live_rows rows)
        ≡ length (if live then r ∷ live_rows rows else live_rows rows)
    counted true = omega arith
    counted false = omega arith

    at : (here : Bool) → (if here then Some r else find_row x rows) ≡ None
        → (find_row x rows ≡ None → live_before x rows ≡ length (live_rows rows))
        → (if here then 0 else (if is_live r then 1 else 0) + live_before x rows)
        ≡ length (live_rows (r ∷ rows))
    at true f ih = absurd cc
    at false f ih = ap (λ (n : ℕ). (if is_live r then 1 else 0) + n) (ih f) ∙ counted (is_live r)

pub before_untold : (x : AtomIdValue) (rows : List DocRow) → row_told rows x ≡ None
    → live_before x rows ≡ length (live_rows rows)
before_untold x rows e = at (find_row x rows) refl e
  where
    at : (o : Option DocRow) → find_row x rows ≡ o
        → ◌≡◌ {A = Option Row}
        (option_map
        (λ (r : DocRow). record {
          id = row_id r;
          slot = own_slot r;
          atom = r.atom;
          deletes = length r.deletes;
          index = live_before x rows;
        })
        o)
        None
        → live_before x rows ≡ length (live_rows rows)
    at None f k = before_none x rows f
    at (Some r) f k = absurd cc
