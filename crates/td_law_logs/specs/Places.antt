-- Where atoms stand after the operations of a log, which slots have them, and which atoms operations put, name and
-- delete.
use Rattle.std.specs.Prelude.{◌≡◌, ◌/◌, List, [], ◌∷◌, length, Bool, true, false, ◌&&◌, ◌||◌, Option, Some, None}
use Rattle.std.specs.Option.{option_map}
use Rattle.td_base.specs.declared.bit.Bit.{Bit}
use Rattle.td_base.specs.Value.{DotValue, AtomIdValue}
use Rattle.td_path.specs.Infix.{Pairs}
use Rattle.td_path.specs.declared.slot.Slot.{Slot}
use Rattle.td_path.specs.declared.slot.Slot.TheVariants.{Root, At}
use Rattle.td_op.specs.declared.body.Body.{Body}
use Rattle.td_op.specs.declared.body.Body.TheVariants.{Insert, Delete, Propose, Commit, Abort}
use Rattle.td_op.specs.Op.{OpValue}
use Rattle.td_doc.specs.Document.{DocRow, find_row}
use Rattle.td_doc.specs.Slots.{overlaps}
use Rattle.td_base.specs.Equality.{same_bit, same_id}
use Rattle.td_machine.specs.History.{Family}
use Rattle.td_machine.specs.Replay.{doc_of}
use Rattle.td_law_logs.specs.Logs.{log_at, since, slot_of}

-- the path passes the atom and goes on by the bit
abbrev pub passes : AtomIdValue → Bit → Pairs → Bool
passes x bit [] = false
passes x bit (p ∷ []) = false
passes x bit (p ∷ q ∷ path) = same_id p.1 x && same_bit q.0 bit || passes x bit (q ∷ path)

-- the row with this path is in the slot
abbrev pub slot_holds : Slot → Pairs → Bool
slot_holds Root path = true
slot_holds (At x bit) path = passes x bit path

abbrev pub overlap_of : List DocRow → Option Slot → Option Slot → Type 0
overlap_of rows None t = ⊥
overlap_of rows (Some s) None = ⊥
overlap_of rows (Some s) (Some t) = overlaps rows s t ≡ true

-- the slots of the two commits overlap in the document of the log
abbrev pub Overlap : Family → List OpValue → OpValue → OpValue → Type 0
Overlap family log e c = overlap_of (doc_of log) (slot_of family e) (slot_of family c)

-- ---- atoms

-- where the row x stands
abbrev pub place_of : AtomIdValue → List DocRow → Option Pairs
place_of x rows = option_map (λ (r : DocRow). r.path) (find_row x rows)

abbrev pub at : List OpValue → AtomIdValue → Option Pairs
at log x = place_of x (doc_of log)

-- x is the middle atom of an insert with this dot and body
abbrev pub IsMiddleBy : DotValue → Body → AtomIdValue → Type 0
IsMiddleBy d (Insert slot run) x = (x.dot ≡ d) × (x.offset ≡ length run / 2)
IsMiddleBy d (Delete target) x = ⊥
IsMiddleBy d (Propose slot) x = ⊥
IsMiddleBy d (Commit p) x = ⊥
IsMiddleBy d (Abort p) x = ⊥

abbrev pub IsMiddle : OpValue → AtomIdValue → Type 0
IsMiddle o x = IsMiddleBy o.dot o.body x

abbrev pub names_atom : Slot → Bool
names_atom Root = false
names_atom (At x bit) = true

-- an insert that names an atom, or a delete
abbrev pub is_edit : Body → Bool
is_edit (Insert slot run) = names_atom slot
is_edit (Delete target) = true
is_edit (Propose slot) = false
is_edit (Commit p) = false
is_edit (Abort p) = false

-- where its insert put the atom
abbrev pub birth : Family → AtomIdValue → Option Pairs
birth family x = at (since x.dot (log_at family x.dot.site)) x

-- ---- slots that inserts wrote

abbrev pub written_by : Body → Option Slot
written_by (Insert slot run) = Some slot
written_by (Delete target) = None
written_by (Propose slot) = None
written_by (Commit p) = None
written_by (Abort p) = None
