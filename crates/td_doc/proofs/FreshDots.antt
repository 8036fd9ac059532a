-- An insert's run adds rows of the insert's dot alone.
use Rattle.std.proofs.Common.{◌≡◌, ◌≢◌, ◌<◌, ℕ, suc, List, [], ◌∷◌, Bool, true, false, cond}
use Rattle.std.proofs.Common.{map, Option, Some, None, sym, ap, subst, arith}
use Rattle.std.specs.List.{AllByRecursion}
use Rattle.std.specs.Ordering.{is_lt}
use Rattle.td_base.specs.Value.{DotValue}
use Rattle.td_path.specs.Infix.{path_cmp}
use Rattle.td_path.specs.declared.slot.Slot.{Slot}
use Rattle.td_path.specs.declared.slot_path.SlotPath.{SlotPath}
use Rattle.td_doc.specs.Document.{DocRow, row_id}
use Rattle.td_doc.specs.Slots.{slot_path}
use Rattle.td_doc.specs.Array.{named, array}
use Rattle.td_base.specs.RunAtoms.{NamedAtom, run_atoms_from, run_atoms}
use Rattle.td_doc.specs.Insertion.{put_row, put_rows, put_array_below, insert_run}
use Rattle.td_doc.specs.Answers.{IsFresh}
use Rattle.td_doc.proofs.ArrayRows.{array_names}

module _ (P : DocRow → Type 0) where
  all_put_at : (n r : DocRow) (rows : List DocRow) (b : Bool) → P n → AllByRecursion P (r ∷ rows)
      → AllByRecursion P (put_row n rows) → AllByRecursion P (cond b (n ∷ r ∷ rows) (r ∷ put_row n rows))
  all_put_at n r rows true new all ih = (new, all)
  all_put_at n r rows false new all ih = (all.0, ih)

  all_put : (n : DocRow) (rows : List DocRow) → P n → AllByRecursion P rows → AllByRecursion P (put_row n rows)
  all_put n [] new all = (new, tt)
  all_put n (r ∷ rows) new all = all_put_at n r rows (is_lt (path_cmp n.path r.path)) new all (all_put n rows new all.1)

  all_put_rows : (new rows : List DocRow) → AllByRecursion P new → AllByRecursion P rows
      → AllByRecursion P (put_rows new rows)
  all_put_rows [] rows added all = all
  all_put_rows (n ∷ new) rows added all = all_put_rows new (put_row n rows) added.1 (all_put n rows added.0 all)

all_named : (Q : NamedAtom → Type 0) (rows : List DocRow) → AllByRecursion Q (map named rows)
    → AllByRecursion (λ (r : DocRow). Q (named r)) rows
all_named Q [] all = tt
all_named Q (r ∷ rows) all = (all.0, all_named Q rows all.1)

abbrev IsOther : DotValue → NamedAtom → Type 0
IsOther e a = a.id.dot ≢ e

others : (d e : DotValue) (k : ℕ) (run : List (List ℕ)) → d ≢ e → AllByRecursion (IsOther e) (run_atoms_from d k run)
others d e k [] other = tt
others d e k (atom ∷ run) other = (other, others d e (suc k) run other)

fresh_array : (slot : SlotPath) (d e : DotValue) (run : List (List ℕ)) → d ≢ e
    → IsFresh (array slot (run_atoms d run)) e
fresh_array slot d e run other = all_named (IsOther e) (array slot (run_atoms d run))
    (subst (AllByRecursion (IsOther e)) (sym (array_names slot (run_atoms d run))) (others d e 0 run other))

fresh_below : (o : Option SlotPath) (d e : DotValue) (run : List (List ℕ)) (rows : List DocRow) → e ≢ d
    → IsFresh rows e → IsFresh (put_array_below o (run_atoms d run) rows) e
fresh_below None d e run rows other fresh = fresh
fresh_below (Some slot) d e run rows other fresh =
    all_put_rows (λ (r : DocRow). (row_id r).dot ≢ e) (array slot (run_atoms d run)) rows
    (fresh_array slot d e run (λ same. other (sym same))) fresh

pub fresh_after : (slot : Slot) (d e : DotValue) (run : List (List ℕ)) (rows : List DocRow) → e ≢ d → IsFresh rows e
    → IsFresh (insert_run slot d run rows) e
fresh_after slot d e run rows other fresh = fresh_below (slot_path rows slot) d e run rows other fresh

-- the dots of one site's inserts differ
pub later : (d e : DotValue) (m n : ℕ) → d ≡ record { site = 1; seq = m } → e ≡ record { site = 1; seq = n } → m < n
    → e ≢ d
later d e m n is_d is_e less same =
    omega (
      arith,
      less,
      ap (λ (x : DotValue). x.seq) same,
      ap (λ (x : DotValue). x.seq) is_d,
      ap
          (λ (x : DotValue). x.seq) is_e,
    )
