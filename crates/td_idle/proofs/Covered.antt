-- Whether a row is covered, as it is told by its identity.
use Rattle.std.proofs.Common.{◌≡◌, List, Bool, ◌||◌, Option, Some, None, length, refl, sym, ap, ◌∙◌}
use Rattle.std.proofs.lemmas.Option.{none-some, same_Some}
use Rattle.std.specs.Prelude.{IfSome}
use Rattle.std.specs.List.{list_any}
use Rattle.std.specs.Option.{option_map}
use Rattle.td_base.specs.Value.{AtomIdValue}
use Rattle.td_path.specs.declared.slot.Slot.{Slot}
use Rattle.td_doc.specs.Answers.{row_told, live_before}
use Rattle.td_doc.specs.declared.doc.Row.{Row}
use Rattle.td_doc.specs.Document.{DocRow, row_id, find_row}
use Rattle.td_doc.specs.Slots.{is_within, own_slot}
use Rattle.td_doc.proofs.Rules.{found}
use Rattle.td_machine.specs.Machine.{Machine}
use Rattle.td_idle.specs.Candidate.{is_held_over}
use Rattle.td_idle.specs.Certificate.{is_unknown_in, is_covered}

abbrev Covers : Machine → List Slot → List AtomIdValue → AtomIdValue → Slot → Bool
Covers m tops unknown x own = list_any (is_within m.doc x) tops || list_any (is_unknown_in m own)
    unknown || is_held_over m own

pub told_covered : (m : Machine) (tops : List Slot) (unknown : List AtomIdValue) (x : AtomIdValue) (row : Row)
    (b : Bool) → row_told m.doc x ≡ Some row
    → b ≡ (list_any (is_within m.doc x) tops || list_any (is_unknown_in m row.slot) unknown || is_held_over m row.slot)
    → IfSome (find_row x m.doc) (λ r. b ≡ is_covered m tops unknown r)
told_covered m tops unknown x row b told is = at (find_row x m.doc) refl told
  where
    at : (o : Option DocRow) → find_row x m.doc ≡ o
        → option_map (λ (r : DocRow). record {
          id = row_id r;
          slot = own_slot r;
          atom = r.atom;
          deletes = length r.deletes;
          index = live_before x m.doc;
        }) o ≡ Some row
        → IfSome o (λ r. b ≡ is_covered m tops unknown r)
    at None e k = absurd (none-some row k)
    at (Some r) e k =
        let own : row.slot ≡ own_slot r = sym (ap (λ (q : Row). q.slot) (same_Some _ row k)) in
        let named : x ≡ row_id r = sym (found x r m.doc e).1 in
        is ∙ (λ i. Covers m tops unknown (named i) (own i))
