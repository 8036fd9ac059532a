-- A hold over a slot, as it is told by the least of them.
use Rattle.std.proofs.Common.{◌≡◌, List, [], ◌∷◌, Bool, true, false, ◌||◌, if◌then◌else◌, map, filter, refl}
use Rattle.std.specs.List.{list_any}
use Rattle.std.specs.Option.{is_some}
use Rattle.td_doc.specs.Document.{DocRow}
use Rattle.td_doc.specs.Slots.{overlaps}
use Rattle.td_path.specs.declared.slot.Slot.{Slot}
use Rattle.td_machine.specs.Hold.{Hold, least_dot, held_over}

some_passes : (test : Hold → Bool) (holds : List Hold)
    → is_some (least_dot (map (λ (h : Hold). h.proposal) (filter test holds))) ≡ list_any test holds
some_passes test [] = refl
some_passes test (h ∷ holds) = at (test h) (some_passes test holds)
  where
    at : (b : Bool) → is_some (least_dot (map (λ (g : Hold). g.proposal) (filter test holds))) ≡ list_any test holds
        → is_some (least_dot (map (λ (g : Hold). g.proposal) (if b then h ∷ filter test holds else filter test holds)))
        ≡ (b || list_any test holds)
    at true ih = refl
    at false ih = ih

pub some_held : (rows : List DocRow) (slot : Slot) (holds : List Hold)
    → is_some (held_over rows slot holds) ≡ list_any (λ (h : Hold). overlaps rows h.slot slot) holds
some_held rows slot holds = some_passes (λ (h : Hold). overlaps rows h.slot slot) holds
