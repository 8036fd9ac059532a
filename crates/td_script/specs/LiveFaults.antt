-- The order in which a line of a live script is judged, and the first fault of a live script.
use Rattle.std.specs.Prelude.{◌≡◌, ◌<◌, ◌+◌, ◌-◌, ◌==◌, ◌&&◌, ◌||◌, ⊤, ℕ, Bool, nat_lt, nat_le, if◌then◌else◌}
use Rattle.std.specs.Prelude.{List, [], ◌∷◌, ◌++◌, Option, Some, None, Result, Ok, Err, length, is_some, get_or, set}
use Rattle.std.specs.Prelude.{sum_by}
use Rattle.std.specs.Int.{is_in_range, IsInRange}
use Rattle.td_script.specs.declared.before.TheConstants.{MAX_NARROW}
use Rattle.td_script.specs.declared.kind.Kind.{Kind}
use Rattle.td_script.specs.declared.kind.Kind.TheVariants as Fault
use Rattle.td_script.specs.declared.kind.ScriptFault.{ScriptFault}
use Rattle.td_script.specs.declared.kind.ScriptFault.TheVariants.{Fault as FaultAt, Memory}
use Rattle.td_script.specs.declared.live.before.LiveBefore.{LiveBefore}
use Rattle.td_script.specs.declared.live.command.LiveCommand.{LiveCommand}
use Rattle.td_script.specs.declared.live.command.LiveCommand.TheVariants.{Sites, Turns, Loss, Editor, Line}
use Rattle.td_script.specs.declared.live.editor_line.EditorLine.{EditorLine}
use Rattle.td_script.specs.declared.live.editor_line.EditorLine.TheVariants as Asked
use Rattle.td_script.specs.declared.live.script.TheConstants.{MAX_ALL_CALLS, MAX_CALLS, MAX_EDITORS}
use Rattle.td_script.specs.declared.live.script.TheConstants.{MAX_LIVE_SCRIPT, MAX_TURNS}
use Rattle.td_script.specs.declared.live.word.LiveWord.{LiveWord}
use Rattle.td_script.specs.declared.live.word.LiveWord.TheVariants as First
use Rattle.td_script.specs.declared.live.word.EditorWord.{EditorWord}
use Rattle.td_script.specs.declared.live.word.EditorWord.TheVariants as AtEditor
use Rattle.td_script.specs.declared.script.TheConstants.{MAX_WIDE_REQUESTS}
use Rattle.td_script.specs.Arguments.{behind, last, by_word, cut_word, number_of, site_of, tested}
use Rattle.td_script.specs.Judging.{Judged, fault_in, judged_each, judged_line}
use Rattle.td_script.specs.Lines.{lines_of}
use Rattle.td_script.specs.LiveScript.{calls}
use Rattle.td_script.specs.LiveWords.{live_word_named}
use Rattle.td_script.specs.Shared.{mapped, sites_at, index_and_text, two_numbers, place_at, proposal_at}

-- ---- the arguments

-- what each line asks for behind its editor, from left to right, among so many sites
abbrev pub editor_line : ℕ → EditorWord → List ℕ → Result EditorLine Kind
editor_line sites AtEditor.Ins rest = mapped (λ asked. Asked.Ins asked.0 asked.1) (index_and_text rest)
editor_line sites AtEditor.Paste rest = mapped (λ asked. Asked.Paste asked.0 asked.1) (index_and_text rest)
editor_line sites AtEditor.Del rest = mapped (λ asked. Asked.Del asked.0 asked.1) (two_numbers rest)
editor_line sites AtEditor.Flat rest = mapped (λ place. Asked.Flat place) (place_at rest)
editor_line sites AtEditor.Cancel rest = mapped (λ proposal. Asked.Cancel proposal) (proposal_at sites rest)
editor_line sites AtEditor.Look rest = last Asked.Look rest

-- how many turns
abbrev pub turns_of : List ℕ → Result ℕ Kind
turns_of word = tested (λ turns. nat_le turns MAX_TURNS) Fault.Turns (number_of word)

-- one of so many editors
abbrev pub editor_of : ℕ → List ℕ → Result ℕ Kind
editor_of editors word = tested (is_in_range 1 editors) Fault.Editor (number_of word)

abbrev pub turns_at : List ℕ → Result LiveCommand Kind
turns_at rest = behind (by_word turns_of rest) (λ turns rest. last (Turns turns) rest)

abbrev pub loss_at : List ℕ → Result LiveCommand Kind
loss_at rest = mapped (λ asked. Loss (record { drop_each = asked.0; double_each = asked.1 })) (two_numbers rest)

abbrev pub editor_at : ℕ → List ℕ → Result LiveCommand Kind
editor_at sites rest = behind (by_word (site_of sites) rest) (λ site rest. last (Editor site) rest)

-- what each command asks for behind its word, in a script of so many bytes, among so many sites and editors
abbrev pub live_command : (size sites editors : ℕ) → LiveWord → List ℕ → Result LiveCommand Kind
live_command size sites editors First.Sites rest = mapped (λ n. Sites n) (sites_at size rest)
live_command size sites editors First.Turns rest = turns_at rest
live_command size sites editors First.Loss rest = loss_at rest
live_command size sites editors First.Editor rest = editor_at sites rest
live_command size sites editors (First.AtEditor word) rest =
    behind (by_word (editor_of editors) rest) (λ editor rest.
    mapped (λ line. Line editor line) (editor_line sites word rest))

-- ---- what stands before

-- `sites` stands first and once
abbrev pub is_live_misplaced : ℕ → LiveWord → Bool
is_live_misplaced sites First.Sites = nat_lt 0 sites
is_live_misplaced sites First.Turns = sites == 0
is_live_misplaced sites First.Loss = sites == 0
is_live_misplaced sites First.Editor = sites == 0
is_live_misplaced sites (First.AtEditor word) = sites == 0

-- the fault of a second `turns` or `loss`, and of one `editor` too many
abbrev pub surplus : LiveBefore → LiveWord → Option Kind
surplus before First.Turns = if is_some before.turns then Some Fault.Turns else None
surplus before First.Loss = if is_some before.loss then Some Fault.Loss else None
surplus before First.Editor = if nat_le MAX_EDITORS (length before.homes) then Some Fault.Editor else None
surplus before First.Sites = None
surplus before (First.AtEditor word) = None

-- the lines of the editor, who counts from 1
abbrev pub lines_of_editor : List (List EditorLine) → ℕ → List EditorLine
lines_of_editor lines editor = get_or lines (editor - 1) []

-- the fault of so many requests in all, of which so many are calls of one editor
abbrev pub fault_of_sums : (sites all own : ℕ) → Option Kind
fault_of_sums sites all own =
    if nat_lt MAX_NARROW sites && nat_lt MAX_WIDE_REQUESTS all then Some Fault.Size else
    if nat_lt MAX_CALLS own || nat_lt MAX_ALL_CALLS all then Some Fault.Calls else
    None

-- the fault of a line that passes the sum of the requests, or a number of calls
abbrev pub sum_fault : LiveBefore → LiveCommand → Option Kind
sum_fault before (Line editor line) =
    fault_of_sums before.sites (before.calls + calls line)
    (sum_by calls (lines_of_editor before.lines editor) + calls line)
sum_fault before _ = None

-- where nothing is wrong so far, the next thing is judged
abbrev pub unless : {V : Type 0} → Option Kind → Result V Kind → Result V Kind
unless (Some kind) next = Err kind
unless None next = next

abbrev pub within_calls : LiveBefore → Result LiveCommand Kind → Result LiveCommand Kind
within_calls before (Ok c) = unless (sum_fault before c) (Ok c)
within_calls before (Err kind) = Err kind

-- the command that begins with the word
abbrev pub live_command_named : ℕ → LiveBefore → Option LiveWord → List ℕ → Result LiveCommand Kind
live_command_named size before None rest = Err Fault.Word
live_command_named size before (Some word) rest =
    if is_live_misplaced before.sites word then Err Fault.Sites else
    unless (surplus before word)
    (within_calls before (live_command size before.sites (length before.homes) word rest))

-- what a line says, in a script of so many bytes, behind what stands before it: a command, nothing, or its first fault
abbrev pub live_judged : ℕ → LiveBefore → List ℕ → Result (Option LiveCommand) Kind
live_judged size before =
    judged_line (λ line. live_command_named size before (live_word_named (cut_word line).0) (cut_word line).1)

-- ---- one line after another

-- the line behind those of its editor
abbrev pub with_line : List (List EditorLine) → ℕ → EditorLine → List (List EditorLine)
with_line lines editor line = set lines (editor - 1) (lines_of_editor lines editor ++ line ∷ [])

-- what stands before the next line
abbrev pub live_after : LiveBefore → LiveCommand → LiveBefore
live_after before (Sites n) = record before { sites = n }
live_after before (Turns turns) = record before { turns = Some turns }
live_after before (Loss loss) = record before { loss = Some loss }
live_after before (Editor site) =
    record before { homes = before.homes ++ site ∷ []; lines = before.lines ++ [] ∷ [] }
live_after before (Line editor line) =
    record before { lines = with_line before.lines editor line; calls = before.calls + calls line }

-- what stands before the first line
abbrev pub live_start : LiveBefore
live_start = record { sites = 0; turns = None; loss = None; homes = []; lines = []; calls = 0 }

abbrev pub judged_live : List ℕ → Judged LiveCommand
judged_live bytes =
    if nat_lt MAX_LIVE_SCRIPT (length bytes) then Err (0, Fault.Size) else
    judged_each (live_judged (length bytes)) live_after 1 (lines_of bytes) live_start

-- the number of the first faulty line with its first fault; 0 for the script as a whole
abbrev pub first_live_fault : List ℕ → Option (ℕ × Kind)
first_live_fault bytes = fault_in (judged_live bytes)

-- the answer other than a live script, want of memory apart: the first faulty line with its first fault
abbrev pub IsLiveFault : List ℕ → ScriptFault → Type 0
IsLiveFault bytes (FaultAt line kind) = first_live_fault bytes ≡ Some (line, kind)
IsLiveFault bytes Memory = ⊤

-- the command has a place behind what stands before it
abbrev pub HasPlace : LiveBefore → LiveCommand → Type 0
HasPlace before (Sites n) = before.sites ≡ 0
HasPlace before (Turns turns) = before.turns ≡ None
HasPlace before (Loss loss) = before.loss ≡ None
HasPlace before (Editor site) = length before.homes < MAX_EDITORS
HasPlace before (Line editor line) = IsInRange 1 (length before.homes) editor
