-- Words of the proofs for what operations put, name, hold and move.
use Rattle.std.specs.Prelude.{◌≡◌, List, length, Bool, false, ◌&&◌, nat_lt, map, Option, Some, None}
use Rattle.td_base.specs.Value.{DotValue, AtomIdValue}
use Rattle.td_path.specs.Infix.{Pairs}
use Rattle.td_path.specs.declared.slot.Slot.{Slot}
use Rattle.td_path.specs.declared.slot.Slot.TheVariants.{Root, At}
use Rattle.td_path.specs.declared.slot_path.SlotPath.{SlotPath}
use Rattle.td_op.specs.declared.body.Body.{Body}
use Rattle.td_op.specs.declared.body.Body.TheVariants.{Insert, Delete, Propose, Commit, Abort}
use Rattle.td_op.specs.Op.{OpValue}
use Rattle.td_doc.specs.Document.{DocRow, live_rows}
use Rattle.td_doc.specs.Slots.{slot_path, rows_below, last_slot}
use Rattle.td_path.specs.Slot.{same_slot}
use Rattle.td_doc.specs.Array.{named, array}
use Rattle.td_base.specs.Equality.{same_dot}
use Rattle.td_machine.specs.History.{Family}
use Rattle.td_machine.specs.Replay.{doc_of}
use Rattle.td_law_logs.specs.Logs.{base, slot_of}
use Rattle.td_law_logs.specs.Places.{slot_holds, place_of, written_by}
use Rattle.td_law_logs.proofs.DocumentFacts.{nobody}

abbrev pub held_by : Option Slot → Pairs → Bool
held_by None path = false
held_by (Some slot) path = slot_holds slot path

-- the operation is a commit of a slot that has the row with this path
abbrev pub holds : Family → OpValue → Pairs → Bool
holds family c path = held_by (slot_of family c) path

abbrev pub atom_at : Slot → AtomIdValue
atom_at Root = nobody
atom_at (At x bit) = x

abbrev pub atom_of_slot : Option Slot → AtomIdValue
atom_of_slot None = nobody
atom_of_slot (Some slot) = atom_at slot

-- the atom that an edit, or the slot of a commit, names
abbrev pub focus_by : Option Slot → Body → AtomIdValue
focus_by flattened (Insert slot run) = atom_at slot
focus_by flattened (Delete target) = target
focus_by flattened (Propose slot) = nobody
focus_by flattened (Commit p) = atom_of_slot flattened
focus_by flattened (Abort p) = nobody

abbrev pub focus : Family → OpValue → AtomIdValue
focus family o = focus_by (slot_of family o) o.body

-- x is an atom of an insert with this dot and body
abbrev pub born_by : DotValue → Body → AtomIdValue → Bool
born_by d (Insert slot run) x = same_dot d x.dot && nat_lt x.offset (length run)
born_by d (Delete target) x = false
born_by d (Propose slot) x = false
born_by d (Commit p) x = false
born_by d (Abort p) x = false

abbrev pub born : OpValue → AtomIdValue → Bool
born o x = born_by o.dot o.body x

-- where the array of the live rows of the slot puts the atom
abbrev pub moved_in : Option SlotPath → List DocRow → AtomIdValue → Option Pairs
moved_in None rows x = None
moved_in (Some slot) rows x = place_of x (array slot (map named (live_rows (rows_below rows (Some slot)))))

abbrev pub moved_by : Option Slot → List DocRow → AtomIdValue → Option Pairs
moved_by None rows x = None
moved_by (Some slot) rows x = moved_in (slot_path rows slot) rows x

-- where a commit put the atom: in the document of its proposer
abbrev pub moved : Family → OpValue → AtomIdValue → Option Pairs
moved family c x = moved_by (slot_of family c) (doc_of (base family c)) x

abbrev pub is_slot : Option Slot → Slot → Bool
is_slot None s = false
is_slot (Some t) s = same_slot t s

-- the own slot of a row with this path is the one that the insert wrote
abbrev pub on_top : OpValue → Pairs → Bool
on_top a path = is_slot (written_by a.body) (last_slot Root path)

abbrev pub BothIn : Option Slot → Option Slot → Type 0
BothIn None t = ⊥
BothIn (Some s) None = ⊥
BothIn (Some s) (Some t) = s ≡ t

-- the two are inserts of one slot
abbrev pub SameSlot : OpValue → OpValue → Type 0
SameSlot a c = BothIn (written_by a.body) (written_by c.body)
