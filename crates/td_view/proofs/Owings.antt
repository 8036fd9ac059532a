-- What a writer owes: what the word says, and how it comes about.
use Rattle.std.proofs.Common.{◌≡◌, ◌≤◌, ℕ, ◌+◌, List, [], ◌∷◌, ◌++◌, length, take, Some, sym, ◌∙◌, ap}
use Rattle.std.proofs.lemmas.Option.{same_Some}
use Rattle.td_op.specs.declared.change.Change.{Change}
use Rattle.td_view.specs.declared.publish.Publish.{Publish}
use Rattle.td_view.specs.Publishes.{publish, changed_all}
use Rattle.td_view.specs.Deeds.{Publishes, deeds}
use Rattle.td_view.specs.Values.{WriterValue}
use Rattle.td_view.specs.Owing.{Owes, StillOwes}

pub what_is_owed : (w : WriterValue) (upto : ℕ) (changes : List Change) → StillOwes w upto changes → (o : Publishes)
    → w.owed ≡ Some o
    → Owes w.publishes o (publish upto (changed_all changes w.shown.atoms) 0) w.pending w.given changes
unfolding StillOwes
what_is_owed w upto changes owes = owes

-- the publish is entered, as the next of so many, and so much of it is given
pub owes_entered : (w : WriterValue) (next : Publishes) (upto count : ℕ) (changes : List Change) (atoms : List (List ℕ))
    → w.owed ≡ Some next → next.log ≡ w.publishes ++ publish upto (changed_all changes atoms) 0 ∷ [] → w.shown.atoms
    ≡ atoms
    → count ≡ length w.publishes → w.pending ≡ take w.given (deeds changes upto 0 (count + 1) next)
    → w.given ≤ length changes + 1
    → StillOwes w upto changes
unfolding StillOwes
owes_entered w next upto count changes atoms owed log shown counted pending few o is =
    let one : next ≡ o = same_Some next o (sym owed ∙ is) in
    let entry : publish upto (changed_all changes atoms) 0 ≡ publish upto (changed_all changes w.shown.atoms) 0 =
    ap (λ (xs : List (List ℕ)). publish upto (changed_all changes xs) 0) (sym shown) in (
      ap (λ (q : Publishes). q.log) (sym one) ∙ (log ∙ ap (λ (p : Publish). w.publishes ++ p ∷ []) entry),
      pending ∙ (λ i. take w.given (deeds changes upto 0 (counted i + 1) (one i))),
      few,
    )
