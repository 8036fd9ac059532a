-- How a line is judged in each language of scripts, and the lines of a script one after another.
use Rattle.std.specs.Prelude.{ℕ, ◌+◌, not, nat_lt, if◌then◌else◌}
use Rattle.std.specs.Prelude.{List, [], ◌∷◌, Option, Some, None, Result, Ok, Err, length}
use Rattle.td_script.specs.declared.kind.Kind.{Kind}
use Rattle.td_script.specs.declared.kind.Kind.TheVariants as Fault
use Rattle.td_script.specs.declared.script.TheConstants.{MAX_LINE}
use Rattle.td_script.specs.Lines.{is_text_line, is_skipped}

-- what the line is heard to be: a text, nothing, or what is wrong with it in each language
abbrev pub heard : List ℕ → Result (Option (List ℕ)) Kind
heard line =
    if nat_lt MAX_LINE (length line) then Err Fault.Long else
    if not (is_text_line line) then Err Fault.Bytes else
    if is_skipped line then Ok None else
    Ok (Some line)

abbrev pub said : {C : Type 0} → Result C Kind → Result (Option C) Kind
said (Ok c) = Ok (Some c)
said (Err kind) = Err kind

-- the command of a text
abbrev pub said_of : {C : Type 0} → (List ℕ → Result C Kind) → Result (Option (List ℕ)) Kind → Result (Option C) Kind
said_of read (Ok (Some text)) = said (read text)
said_of read (Ok None) = Ok None
said_of read (Err kind) = Err kind

-- what a line says, where its text is read so: a command, nothing, or its first fault
abbrev pub judged_line : {C : Type 0} → (List ℕ → Result C Kind) → List ℕ → Result (Option C) Kind
judged_line read line = said_of read (heard line)

-- the commands of lines, or the number of the first faulty one with its first fault
abbrev pub Judged : Type 0 → Type 0
Judged C = Result (List C) (ℕ × Kind)

abbrev pub onto_commands : {C : Type 0} → C → Judged C → Judged C
onto_commands c (Ok cs) = Ok (c ∷ cs)
onto_commands c (Err fault) = Err fault

abbrev pub go_on : {B C : Type 0} → (B → C → B) → ℕ → B → (B → Judged C) → Result (Option C) Kind → Judged C
go_on after number before more (Err kind) = Err (number, kind)
go_on after number before more (Ok None) = more before
go_on after number before more (Ok (Some c)) = onto_commands c (more (after before c))

-- lines from this number on, each judged behind what stands before it
abbrev pub judged_each : {B C : Type 0} → (B → List ℕ → Result (Option C) Kind) → (B → C → B) → ℕ → List (List ℕ) → B
    → Judged C
judged_each judge after number [] before = Ok []
judged_each judge after number (line ∷ lines) before =
    go_on after number before (judged_each judge after (number + 1) lines) (judge before line)

abbrev pub fault_in : {C : Type 0} → Judged C → Option (ℕ × Kind)
fault_in (Ok cs) = None
fault_in (Err fault) = Some fault
