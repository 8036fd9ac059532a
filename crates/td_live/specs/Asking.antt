-- The calls that a line of an editor asks for.
use Rattle.std.specs.Prelude.{◌-◌, ℕ, List, [], ◌∷◌, length, map, replicate, Option, Some, None}
use Rattle.td_base.specs.Value.{DotValue, AtomIdValue}
use Rattle.td_op.specs.declared.request.Request.{Request}
use Rattle.td_op.specs.declared.request.Request.TheVariants.{Insert, InsertAfter, Paste, PasteAfter, Delete}
use Rattle.td_op.specs.declared.request.Request.TheVariants.{Cancel}
use Rattle.td_report.specs.Asking.{proposal}
use Rattle.td_script.specs.declared.live.editor_line.EditorLine.{EditorLine}
use Rattle.td_script.specs.declared.live.editor_line.EditorLine.TheVariants as Line
use Rattle.td_text.specs.Runs.{runs_of}
use Rattle.td_live.specs.declared.ask.Ask.{Ask}
use Rattle.td_live.specs.declared.ask.Ask.TheVariants.{Plain, TypeOn, PasteOn}

-- the atom with so many atoms before it of the operation that was made, where one was
abbrev pub made_atom : ℕ → Option DotValue → Option AtomIdValue
made_atom offset None = None
made_atom offset (Some dot) = Some (record { dot = dot; offset = offset })

-- the request that a call makes, where this operation was made last
abbrev pub request_of : Ask → Option DotValue → Request
request_of (Plain request) made = request
request_of (TypeOn atom) made = InsertAfter (made_atom 0 made) atom
request_of (PasteOn before run) made = PasteAfter (made_atom (length before - 1) made) run

-- each cluster right behind the atom just made
abbrev pub typed : ℕ → List (List ℕ) → List Ask
typed index [] = []
typed index (atom ∷ atoms) = Plain (Insert index atom) ∷ map TypeOn atoms

-- each run right behind the last atom of the one before
abbrev pub paste_on : List (List ℕ) → List (List (List ℕ)) → List Ask
paste_on before [] = []
paste_on before (run ∷ runs) = PasteOn before run ∷ paste_on run runs

abbrev pub pasted : ℕ → List (List (List ℕ)) → List Ask
pasted index [] = []
pasted index (run ∷ runs) = Plain (Paste index run) ∷ paste_on run runs

-- the calls that a line asks for, as long as each makes an operation
abbrev pub asks_of : EditorLine → List Ask
asks_of (Line.Ins index atoms) = typed index atoms
asks_of (Line.Paste index atoms) = pasted index (runs_of atoms)
asks_of (Line.Del index count) = replicate count (Plain (Delete index))
asks_of (Line.Flat place) = Plain (proposal place) ∷ []
asks_of (Line.Cancel p) = Plain (Cancel p) ∷ []
asks_of Line.Look = []
