-- Slots in the order of their places, and holds that are kept so.
use Rattle.std.specs.Prelude.{◌≡◌, List, Bool, true, false, Option, Some, None}
use Rattle.std.specs.declared.cmp.Ordering.{Ordering}
use Rattle.std.specs.List.{list_any}
use Rattle.std.specs.Ordering.{is_lt, ordering_then}
use Rattle.td_base.specs.declared.bit.Bit.{Bit}
use Rattle.td_base.specs.Order.{bit_cmp}
use Rattle.td_base.specs.Lists.{In, Successive}
use Rattle.td_path.specs.Infix.{Pairs, path_cmp}
use Rattle.td_path.specs.declared.slot.Slot.{Slot}
use Rattle.td_path.specs.declared.slot_path.SlotPath.{SlotPath}
use Rattle.td_path.specs.declared.slot_path.SlotPath.TheVariants.{Root as Whole, Below}
use Rattle.td_doc.specs.Document.{DocRow, IsDocument}
use Rattle.td_doc.specs.Answers.{is_rooted}
use Rattle.td_doc.specs.Slots.{slot_path, contains_slot, overlaps}
use Rattle.td_machine.specs.Hold.{Hold}
use Rattle.td_vote.specs.Holds.{HoldsValue}

-- by the row in infix order, and of one row the left side first
abbrev pub place_cmp : Pairs → Bit → Pairs → Bit → Ordering
place_cmp p b q c = ordering_then (path_cmp p q) (bit_cmp b c)

abbrev pub path_before : Option SlotPath → Option SlotPath → Bool
path_before None t = false
path_before (Some Whole) t = false
path_before (Some (Below p b)) None = false
path_before (Some (Below p b)) (Some Whole) = false
path_before (Some (Below p b)) (Some (Below q c)) = is_lt (place_cmp p b q c)

-- whether the slots are at rows, the first before the second
abbrev pub place_before : List DocRow → Slot → Slot → Bool
place_before rows s t = path_before (slot_path rows s) (slot_path rows t)

-- the holds stand in the order of their places
abbrev pub AreInPlace : List DocRow → List Hold → Type 0
AreInPlace rows holds = Successive (λ (g h : Hold). place_before rows g.slot h.slot ≡ true) holds

-- the holds of a replica: their atoms are rows, and no two of them overlap
pub record AreHeldApart (rows : List DocRow) (holds : List Hold) : Type 0 where
  pub document : IsDocument rows
  pub rooted : (h : Hold) → In h holds → is_rooted rows h.slot ≡ true
  pub apart : Successive (λ (g h : Hold). overlaps rows g.slot h.slot ≡ false) holds

-- no hold overlaps the slot
abbrev pub IsFree : List DocRow → Slot → List Hold → Type 0
IsFree rows s holds = (h : Hold) → In h holds → overlaps rows h.slot s ≡ false

-- some of the holds, among which are all that contain the slot, and one that overlaps it if there is any
pub record IsBeside (rows : List DocRow) (s : Slot) (all some : List Hold) : Type 0 where
  pub inside : (h : Hold) → In h some → In h all
  pub contains : (h : Hold) → In h all → contains_slot rows h.slot s ≡ true → In h some
  pub overlap : (h : Hold) → In h all → overlaps rows h.slot s ≡ true
      → list_any (λ (g : Hold). overlaps rows g.slot s) some ≡ true

-- those of the holds that overlap the slot
pub record AreOverlapping (rows : List DocRow) (s : Slot) (all some : List Hold) : Type 0 where
  pub inside : (h : Hold) → In h some → In h all × (overlaps rows h.slot s ≡ true)
  pub every : (h : Hold) → In h all → overlaps rows h.slot s ≡ true → In h some

-- the lists have the same holds
pub record AreSame (some others : List Hold) : Type 0 where
  pub to : (h : Hold) → In h some → In h others
  pub back : (h : Hold) → In h others → In h some

-- the holds of a replica whose document has these rows: they are apart, and kept in the order of their places
pub record ArePlaced (rows : List DocRow) (v : HoldsValue) : Type 0 where
  pub apart : AreHeldApart rows v.holds
  pub order : AreInPlace rows v.by_place
