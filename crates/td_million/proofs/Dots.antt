-- What is to come stays fresh.
use Rattle.std.proofs.Common.{◌≡◌, ◌≢◌, ◌+◌, ℕ, List, ap, inl, inr, refl, sym, subst, arith}
use Rattle.td_base.specs.Value.{DotValue, AtomIdValue}
use Rattle.td_path.specs.declared.slot.Slot.{Slot}
use Rattle.td_doc.specs.Document.{DocRow}
use Rattle.td_doc.specs.Answers.{IsFresh}
use Rattle.td_doc.specs.Insertion.{insert_run}
use Rattle.td_doc.proofs.FreshDots.{fresh_after}
use Rattle.td_doc.specs.Deletion.{delete}
use Rattle.td_tree.proofs.FreshRows.{fresh_deleted}
use Rattle.td_million.specs.Drafts.{IsToCome, AreFreshFrom, dot_after, first_dot}

later : (next d : DotValue) → IsToCome (dot_after next) d → IsToCome next d
later next d (inl less) = inl less
later next d (inr same) = inr (same.0, omega (arith, same.1))

other : (next d : DotValue) → IsToCome (dot_after next) d → d ≢ next
other next d (inl less) e = omega (arith, less, ap (λ (x : DotValue). x.site) e)
other next d (inr same) e = omega (arith, same.1, ap (λ (x : DotValue). x.seq) e)

-- the next dot is fresh
pub fresh_next : (next dot : DotValue) (rows : List DocRow) → dot ≡ next → AreFreshFrom next rows → IsFresh rows dot
fresh_next next dot rows same fresh = subst (IsFresh rows) (sym same) (fresh next (inr (refl, omega arith)))

-- an insert uses its dot
pub fresh_put : (slot : Slot) (next : DotValue) (run : List (List ℕ)) (rows : List DocRow) → AreFreshFrom next rows
    → AreFreshFrom (dot_after next) (insert_run slot next run rows)
fresh_put slot next run rows fresh d coming = fresh_after slot next d run rows (other next d coming)
    (fresh d (later next d coming))

-- and a delete too
pub fresh_delete : (x : AtomIdValue) (next by : DotValue) (rows : List DocRow) → AreFreshFrom next rows
    → AreFreshFrom (dot_after next) (delete x by rows)
fresh_delete x next by rows fresh d coming = fresh_deleted x by d rows (fresh d (later next d coming))

-- the dots of the next site are all to come
pub fresh_site : (site next seq : ℕ) (rows : List DocRow) → next ≡ site + 1
    → AreFreshFrom (record { site = site; seq = seq }) rows → AreFreshFrom (first_dot next) rows
fresh_site site next seq rows more fresh d (inl less) = fresh d (inl (omega (arith, less, more)))
fresh_site site next seq rows more fresh d (inr same) = fresh d (inl (omega (arith, same.0, more)))
