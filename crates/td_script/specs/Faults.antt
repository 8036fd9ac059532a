-- The order in which a line is judged, and the first fault of a script.
use Rattle.std.specs.Prelude.{ℕ, Bool, true, false, ◌+◌, ◌==◌, ◌&&◌, ◌||◌, nat_lt, if◌then◌else◌}
use Rattle.std.specs.Prelude.{List, Option, Some, None, Result, Ok, Err, codes, length, bytes_eq}
use Rattle.td_script.specs.declared.command.Command.{Command}
use Rattle.td_script.specs.declared.command.Command.TheVariants.{Sites, Ins, Paste, Del, Flat, FlatAuto, Cancel, Give}
use Rattle.td_script.specs.declared.command.Command.TheVariants.{GiveAll, Settle, Show, Tree, Count}
use Rattle.td_script.specs.declared.command.Command.TheVariants.{Mark, Meet, Marks}
use Rattle.td_script.specs.declared.before.Before.{Before}
use Rattle.td_script.specs.declared.before.TheConstants.{MAX_NARROW, MAX_FREE}
use Rattle.td_script.specs.declared.kind.Kind.{Kind}
use Rattle.td_script.specs.declared.kind.Kind.TheVariants as Fault
use Rattle.td_script.specs.declared.script.TheConstants.{MAX_SCRIPT, MAX_WIDE_REQUESTS, MAX_MIDDLE_REQUESTS}
use Rattle.td_script.specs.declared.word.Word.{Word}
use Rattle.td_script.specs.declared.word.Word.TheVariants as First
use Rattle.td_script.specs.declared.word.SiteWord.{SiteWord}
use Rattle.td_script.specs.declared.word.SiteWord.TheVariants as AtSite
use Rattle.td_script.specs.Arguments.{behind, last, with_rest, by_word, word_at, cut_word}
use Rattle.td_script.specs.Arguments.{name_of, number_of, site_of}
use Rattle.td_script.specs.Shared.{mapped, sites_at, index_and_text, two_numbers, place_of, proposal_at}
use Rattle.td_script.specs.Judging.{Judged, judged_each, judged_line, fault_in}
use Rattle.td_script.specs.Lines.{lines_of}
use Rattle.td_script.specs.Script.{requests}
use Rattle.td_script.specs.Words.{word_named}

-- behind the site of a `give`: `all`, or a number
abbrev pub give_at : ℕ → List ℕ → List ℕ → Result Command Kind
give_at site word rest =
    if bytes_eq word (codes "all") then last (GiveAll site) rest else
    behind (with_rest rest (number_of word)) (λ number rest. last (Give site number) rest)

-- behind the site of a `flat`: `auto`, or a place
abbrev pub flat_at : ℕ → List ℕ → List ℕ → Result Command Kind
flat_at site word rest =
    if bytes_eq word (codes "auto") then last (FlatAuto site) rest else
    mapped (λ place. Flat site place) (place_of word rest)

-- behind the site of a `mark` or `unmark`: the name, the index of the first atom, and how many atoms there are
abbrev pub mark_at : ℕ → Bool → List ℕ → Result Command Kind
mark_at site add rest =
    behind (by_word name_of rest) (λ name rest.
    mapped (λ asked. Mark site add name asked.0 asked.1) (two_numbers rest))

-- behind the site of a `meet`: another one, or the same
abbrev pub meet_at : ℕ → ℕ → List ℕ → Result Command Kind
meet_at sites site rest = behind (by_word (site_of sites) rest) (λ other rest. last (Meet site other) rest)

-- what each command asks for behind its site, from left to right, among so many sites
abbrev pub site_command : ℕ → ℕ → SiteWord → List ℕ → Result Command Kind
site_command sites site AtSite.Ins rest = mapped (λ asked. Ins site asked.0 asked.1) (index_and_text rest)
site_command sites site AtSite.Paste rest = mapped (λ asked. Paste site asked.0 asked.1) (index_and_text rest)
site_command sites site AtSite.Del rest = mapped (λ asked. Del site asked.0 asked.1) (two_numbers rest)
site_command sites site AtSite.Flat rest = behind (word_at rest) (flat_at site)
site_command sites site AtSite.Cancel rest = mapped (λ proposal. Cancel site proposal) (proposal_at sites rest)
site_command sites site AtSite.Give rest = behind (word_at rest) (give_at site)
site_command sites site AtSite.Show rest = last (Show site) rest
site_command sites site AtSite.Tree rest = last (Tree site) rest
site_command sites site AtSite.Count rest = last (Count site) rest
site_command sites site AtSite.Mark rest = mark_at site true rest
site_command sites site AtSite.Unmark rest = mark_at site false rest
site_command sites site AtSite.Meet rest = meet_at sites site rest
site_command sites site AtSite.Marks rest = last (Marks site) rest

-- what each command asks for behind its word, in a script of so many bytes, behind what stands before the line
abbrev pub command : ℕ → Before → Word → List ℕ → Result Command Kind
command size before First.Sites rest = mapped (λ n. Sites n) (sites_at size rest)
command size before First.Settle rest = last Settle rest
command size before (First.AtSite word) rest =
    behind (by_word (site_of before.sites) rest) (λ site rest. site_command before.sites site word rest)

-- `sites` stands first and once
abbrev pub is_misplaced : Before → Word → Bool
is_misplaced before First.Sites = nat_lt 0 before.sites
is_misplaced before First.Settle = before.sites == 0
is_misplaced before (First.AtSite word) = before.sites == 0

-- the sum of the requests is too large for so many sites
abbrev pub is_too_much : ℕ → ℕ → Bool
is_too_much sites sum =
    (nat_lt MAX_NARROW sites && nat_lt MAX_WIDE_REQUESTS sum)
    || (nat_lt MAX_FREE sites && nat_lt MAX_MIDDLE_REQUESTS sum)

abbrev pub within : Before → Result Command Kind → Result Command Kind
within before (Ok c) = if is_too_much before.sites (before.requests + requests c) then Err Fault.Size else Ok c
within before (Err kind) = Err kind

-- the command that begins with the word
abbrev pub command_named : ℕ → Before → Option Word → List ℕ → Result Command Kind
command_named size before None rest = Err Fault.Word
command_named size before (Some word) rest =
    if is_misplaced before word then Err Fault.Sites else
    within before (command size before word rest)

-- what a line says, in a script of so many bytes, behind what stands before it: a command, nothing, or its first fault
abbrev pub judged : ℕ → Before → List ℕ → Result (Option Command) Kind
judged size before =
    judged_line (λ line. command_named size before (word_named (cut_word line).0) (cut_word line).1)

-- what stands before the next line
abbrev pub after : Before → Command → Before
after before (Sites n) = record { sites = n; requests = before.requests + 0 }
after before c = record { sites = before.sites; requests = before.requests + requests c }

-- the commands of lines from this number on, or the first faulty one with its first fault
abbrev pub judged_lines : ℕ → ℕ → List (List ℕ) → Before → Judged Command
judged_lines size = judged_each (judged size) after

abbrev pub judged_script : List ℕ → Judged Command
judged_script bytes =
    if nat_lt MAX_SCRIPT (length bytes) then Err (0, Fault.Size) else
    judged_lines (length bytes) 1 (lines_of bytes) (record { sites = 0; requests = 0 })

abbrev pub fault_of : Judged Command → Option (ℕ × Kind)
fault_of = fault_in

-- the number of the first faulty line with its first fault; 0 for the script as a whole
abbrev pub first_fault : List ℕ → Option (ℕ × Kind)
first_fault bytes = fault_of (judged_script bytes)
