-- What a step did to the atoms shown, told by the document that it left.
use Rattle.std.proofs.Common.{◌≡◌, ◌+◌, ℕ, List, [], ◌∷◌, Bool, true, false}
use Rattle.std.proofs.Common.{if◌then◌else◌, Some, None, refl, sym, ap, ◌∙◌}
use Rattle.std.specs.Prelude.{slice_get}
use Rattle.std.specs.Option.{option_and_then}
use Rattle.td_base.specs.Value.{DotValue, AtomIdValue}
use Rattle.td_op.specs.declared.body.Body.TheVariants.{Delete}
use Rattle.td_op.specs.declared.change.Change.TheVariants.{Cut as CutAt}
use Rattle.td_op.specs.Op.{OpValue}
use Rattle.td_doc.specs.Answers.{is_live_id, live_before}
use Rattle.td_doc.specs.Deletion.{add_dot, delete}
use Rattle.td_doc.specs.Document.{DocRow, has_id, is_live}
use Rattle.td_machine.specs.Shown.{change_by}
use Rattle.td_replica.specs.declared.last_change.LastChange.TheVariants.{Nothing, Put, Cut}
use Rattle.td_replica.specs.LastChange.{put_by, change_of}

-- what stands before a row is not changed by a delete of the row
pub before_deleted : (x : AtomIdValue) (by : DotValue) (rows : List DocRow)
    → live_before x (delete x by rows) ≡ live_before x rows
before_deleted x by [] = refl
before_deleted x by (r ∷ rows) = at (has_id x r) refl (before_deleted x by rows)
  where
    marked : DocRow
    marked = record { path = r.path; atom = r.atom; deletes = add_dot by r.deletes }

    before : DocRow → List DocRow → Bool → ℕ
    before s back here = if here then 0 else (if is_live s then 1 else 0) + live_before x back

    at : (here : Bool) → has_id x r ≡ here → live_before x (delete x by rows) ≡ live_before x rows
        → live_before x ((if here then marked else r) ∷ delete x by rows) ≡ live_before x (r ∷ rows)
    at true e ih = ap (before marked (delete x by rows)) e ∙ sym (ap (before r rows) e)
    at false e ih = ap (λ (n : ℕ). if has_id x r then 0 else (if is_live r then 1 else 0) + n) ih

-- the delete of a row, told by the document without it
pub cut_told : (x : AtomIdValue) (by : DotValue) (rows : List DocRow) (ops : List OpValue) (live : Bool)
    → live ≡ is_live_id rows x
    → change_of (if live then Cut x else Nothing) ops (delete x by rows) ≡ change_by by (Delete x) rows
cut_told x by rows ops true e =
    ap (λ (n : ℕ). Some (CutAt n)) (before_deleted x by rows)
    ∙ ap (λ (b : Bool). if b then Some (CutAt (live_before x rows)) else None) e
cut_told x by rows ops false e = ap (λ (b : Bool). if b then Some (CutAt (live_before x rows)) else None) e

-- the operation of a number, where it is told
pub put_told : (number : ℕ) (x : OpValue) (ops : List OpValue) (rows : List DocRow) → slice_get ops number ≡ Some x
    → change_of (Put number) ops rows ≡ put_by x.dot x.body rows
put_told number x ops rows e = ap (option_and_then (λ (y : OpValue). put_by y.dot y.body rows)) e
