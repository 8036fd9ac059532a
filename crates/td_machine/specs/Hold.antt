-- Holds: the proposals to which a replica said Yes, with their slots, until it takes the decisions.
use Rattle.std.specs.Prelude.{List, [], ◌∷◌, Bool, not, filter, map, Option, Some, None, if◌then◌else◌}
use Rattle.std.specs.List.{list_any}
use Rattle.td_base.specs.Value.{DotValue, AtomIdValue}
use Rattle.td_base.specs.Order.{dot_lt}
use Rattle.td_path.specs.declared.slot.Slot.{Slot}
use Rattle.td_doc.specs.Document.{DocRow}
use Rattle.td_doc.specs.Slots.{is_within, contains_slot, overlaps}
use Rattle.td_base.specs.Equality.{same_dot}

pub record Hold : Type 0 where
  pub proposal : DotValue
  pub slot : Slot

abbrev pub smaller_dot : DotValue → Option DotValue → DotValue
smaller_dot d None = d
smaller_dot d (Some e) = if dot_lt e d then e else d

abbrev pub least_dot : List DotValue → Option DotValue
least_dot [] = None
least_dot (d ∷ dots) = Some (smaller_dot d (least_dot dots))

-- the least proposal of those whose held slot passes the test
abbrev pub held_by : (Slot → Bool) → List Hold → Option DotValue
held_by test holds = least_dot (map (λ (h : Hold). h.proposal) (filter (λ (h : Hold). test h.slot) holds))

-- the least proposal whose held slot contains the slot, contains the row x, overlaps the slot
abbrev pub held_slot : List DocRow → Slot → List Hold → Option DotValue
held_slot rows slot holds = held_by (λ (s : Slot). contains_slot rows s slot) holds

abbrev pub held_row : List DocRow → AtomIdValue → List Hold → Option DotValue
held_row rows x holds = held_by (λ (s : Slot). is_within rows x s) holds

abbrev pub held_over : List DocRow → Slot → List Hold → Option DotValue
held_over rows slot holds = held_by (λ (s : Slot). overlaps rows s slot) holds

abbrev pub is_of : DotValue → Hold → Bool
is_of p h = same_dot h.proposal p

abbrev pub is_held : DotValue → List Hold → Bool
is_held p holds = list_any (is_of p) holds

abbrev pub release : DotValue → List Hold → List Hold
release p holds = filter (λ (h : Hold). not (is_of p h)) holds
