-- What a line says to a shell at one site, and the order in which it is judged. Behind its word each command of `play`
-- asks for what it asks for there behind its site.
use Rattle.std.specs.Prelude.{⊤, ℕ, List, All, Option, Some, None, Result, Err, codes, bytes_eq, if◌then◌else◌}
use Rattle.td_base.specs.Atom.{IsAtom}
use Rattle.td_script.specs.declared.kind.Kind.{Kind}
use Rattle.td_script.specs.declared.kind.Kind.TheVariants as Fault
use Rattle.td_script.specs.declared.shell.command.ShellCommand.{ShellCommand}
use Rattle.td_script.specs.declared.shell.command.ShellCommand.TheVariants.{Ins, Paste, Del, Flat, FlatAuto, Cancel}
use Rattle.td_script.specs.declared.shell.command.ShellCommand.TheVariants.{Take, Send, Show, Tree, Count}
use Rattle.td_script.specs.declared.shell.word.ShellWord.{ShellWord}
use Rattle.td_script.specs.declared.shell.word.ShellWord.TheVariants as First
use Rattle.td_script.specs.Arguments.{behind, last, by_word, cut_word, number_of, word_at}
use Rattle.td_script.specs.Hex.{bytes_of}
use Rattle.td_script.specs.Judging.{judged_line}
use Rattle.td_script.specs.Shared.{mapped, index_and_text, two_numbers, place_of, proposal_at}
use Rattle.td_script.specs.ShellWords.{shell_word_named}

-- `auto`, or a place
abbrev pub auto_or_place : List ℕ → List ℕ → Result ShellCommand Kind
auto_or_place word rest =
    if bytes_eq word (codes "auto") then last FlatAuto rest else mapped (λ place. Flat place) (place_of word rest)

abbrev pub shell_flat_at : List ℕ → Result ShellCommand Kind
shell_flat_at rest = behind (word_at rest) auto_or_place

-- a packet in hex
abbrev pub take_at : List ℕ → Result ShellCommand Kind
take_at rest = behind (by_word bytes_of rest) (λ packet rest. last (Take packet) rest)

-- the number of a message
abbrev pub send_at : List ℕ → Result ShellCommand Kind
send_at rest = behind (by_word number_of rest) (λ number rest. last (Send number) rest)

-- what each command asks for behind its word, from left to right, among so many sites
abbrev pub shell_command : ℕ → ShellWord → List ℕ → Result ShellCommand Kind
shell_command sites First.Ins rest = mapped (λ asked. Ins asked.0 asked.1) (index_and_text rest)
shell_command sites First.Paste rest = mapped (λ asked. Paste asked.0 asked.1) (index_and_text rest)
shell_command sites First.Del rest = mapped (λ asked. Del asked.0 asked.1) (two_numbers rest)
shell_command sites First.Flat rest = shell_flat_at rest
shell_command sites First.Cancel rest = mapped (λ proposal. Cancel proposal) (proposal_at sites rest)
shell_command sites First.Take rest = take_at rest
shell_command sites First.Send rest = send_at rest
shell_command sites First.Show rest = last Show rest
shell_command sites First.Tree rest = last Tree rest
shell_command sites First.Count rest = last Count rest

-- the command that begins with the word
abbrev pub shell_command_named : ℕ → Option ShellWord → List ℕ → Result ShellCommand Kind
shell_command_named sites None rest = Err Fault.Word
shell_command_named sites (Some word) rest = shell_command sites word rest

-- what a line says: a command, nothing, or its first fault
abbrev pub shell_judged : ℕ → List ℕ → Result (Option ShellCommand) Kind
shell_judged sites =
    judged_line (λ line. shell_command_named sites (shell_word_named (cut_word line).0) (cut_word line).1)

-- what is pasted is atoms
abbrev pub IsFitToPaste : ShellCommand → Type 0
IsFitToPaste (Paste index atoms) = All IsAtom atoms
IsFitToPaste _ = ⊤
