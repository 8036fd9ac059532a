-- The vote rule: a site says Yes to a proposal of a slot only where nothing that it knows is concurrent with it there.
use Rattle.std.specs.Prelude.{ℕ, List, Bool, ◌&&◌, ◌||◌, not}
use Rattle.std.specs.List.{list_any, list_all}
use Rattle.td_clock.specs.Vector.{vector_has}
use Rattle.td_path.specs.declared.slot.Slot.{Slot}
use Rattle.td_doc.specs.Document.{DocRow}
use Rattle.td_doc.specs.Slots.{overlaps, is_known}
use Rattle.td_doc.specs.Answers.{is_rooted}
use Rattle.td_machine.specs.Log.{Committed}
use Rattle.td_machine.specs.Hold.{Hold}

-- the commit has a slot that can still be told, and that lies apart from the one proposed
abbrev pub is_apart : List DocRow → Slot → Committed → Bool
is_apart rows slot c = is_rooted rows c.slot && not (overlaps rows c.slot slot)

-- the vote on a proposal of the slot whose vector is v: Yes exactly where the slot is the root or its atom is a row, v
-- has all that was done to the rows in it, no hold overlaps it, and each commit that v does not have lies apart from
-- it
abbrev pub votes_yes : List DocRow → List Hold → List Committed → Slot → List ℕ → Bool
votes_yes rows holds commits slot v =
    is_rooted rows slot
    && is_known rows slot v
    && not (list_any (λ (h : Hold). overlaps rows h.slot slot) holds)
    && list_all (λ (c : Committed). vector_has v c.dot || is_apart rows slot c) commits
