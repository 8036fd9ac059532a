-- The certificate of a candidate: candidates, none of them better, and rows of which something is not stable, which
-- show together that no candidate is better.
use Rattle.std.specs.Prelude.{List, Bool, ◌&&◌, ◌||◌, not, ◌==◌}
use Rattle.std.specs.List.{list_all, list_any}
use Rattle.td_base.specs.Value.{AtomIdValue}
use Rattle.td_path.specs.declared.slot.Slot.{Slot}
use Rattle.td_doc.specs.Document.{DocRow, row_id}
use Rattle.td_doc.specs.Slots.{is_within, own_slot}
use Rattle.td_machine.specs.Machine.{Machine}
use Rattle.td_idle.specs.declared.idle.Idle.{Idle}
use Rattle.td_idle.specs.Stable.{stable}
use Rattle.td_idle.specs.Unknown.{is_known_id}
use Rattle.td_idle.specs.Candidate.{is_held_over, is_candidate}
use Rattle.td_idle.specs.Best.{row_count, is_better}

-- whether x is a row in the slot to which something was done that is not stable
abbrev pub is_unknown_in : Machine → Slot → AtomIdValue → Bool
is_unknown_in m slot x = is_within m.doc x slot && not (is_known_id (stable m) m.doc x)

-- whether the row is in one of the tops, or its own slot has one of these rows in it, or is held
abbrev pub is_covered : Machine → List Slot → List AtomIdValue → DocRow → Bool
is_covered m tops unknown r =
    list_any (is_within m.doc (row_id r)) tops
    || list_any (is_unknown_in m (own_slot r)) unknown
    || is_held_over m (own_slot r)

abbrev pub is_top : Machine → Slot → Slot → Bool
is_top m slot t = is_candidate m t && not (is_better m.doc t slot)

abbrev pub is_certified : Machine → Idle → Bool
is_certified m idle =
    is_candidate m idle.slot
    && row_count m.doc idle.slot == idle.rows
    && list_all (is_top m idle.slot) idle.tops.items
    && list_all (is_covered m idle.tops.items idle.unknown.items) m.doc
