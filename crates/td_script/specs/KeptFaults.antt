-- The order in which a line of a kept script is judged, and the first fault of a kept script.
use Rattle.std.specs.Prelude.{◌≡◌, ⊤, ℕ, Bool, false, ◌+◌, ◌==◌, ◌||◌, nat_le, nat_lt, if◌then◌else◌}
use Rattle.std.specs.Prelude.{List, Option, Some, None, Result, Ok, Err, length}
use Rattle.std.specs.Int.{is_in_range}
use Rattle.td_script.specs.declared.kept.before.KeptBefore.{KeptBefore}
use Rattle.td_script.specs.declared.kept.command.KeptCommand.{KeptCommand}
use Rattle.td_script.specs.declared.kept.command.KeptCommand.TheVariants.{Sites, Ins, Del, Flat, Cancel, Give, Show}
use Rattle.td_script.specs.declared.kept.command.KeptCommand.TheVariants.{Crash}
use Rattle.td_script.specs.declared.kept.script.TheConstants.{DISK_CALLS, MAX_CRASHES}
use Rattle.td_script.specs.declared.kept.word.KeptWord.{KeptWord}
use Rattle.td_script.specs.declared.kept.word.KeptWord.TheVariants as First
use Rattle.td_script.specs.declared.kept.word.KeptSiteWord.{KeptSiteWord}
use Rattle.td_script.specs.declared.kept.word.KeptSiteWord.TheVariants as AtSite
use Rattle.td_script.specs.declared.kind.Kind.{Kind}
use Rattle.td_script.specs.declared.kind.Kind.TheVariants as Fault
use Rattle.td_script.specs.declared.kind.ScriptFault.{ScriptFault}
use Rattle.td_script.specs.declared.kind.ScriptFault.TheVariants.{Fault as FaultAt, Memory}
use Rattle.td_script.specs.declared.script.TheConstants.{MAX_SCRIPT}
use Rattle.td_script.specs.Arguments.{behind, last, by_word, cluster_at, cut_word, number_of, site_of, tested}
use Rattle.td_script.specs.Faults.{is_too_much}
use Rattle.td_script.specs.Judging.{Judged, fault_in, judged_each, judged_line}
use Rattle.td_script.specs.KeptScript.{crashes, kept_requests}
use Rattle.td_script.specs.KeptWords.{kept_word_named}
use Rattle.td_script.specs.Lines.{lines_of}
use Rattle.td_script.specs.Shared.{mapped, sites_at, index_and_text, two_numbers, place_at, proposal_at}

-- ---- the arguments

-- the number of a disk call of a step
abbrev pub disk_call_of : List ℕ → Result ℕ Kind
disk_call_of word = tested (is_in_range 1 DISK_CALLS) Fault.Number (number_of word)

-- behind the site of a `give`: a number
abbrev pub kept_give_at : ℕ → List ℕ → Result KeptCommand Kind
kept_give_at site rest = behind (by_word number_of rest) (λ number rest. last (Give site number) rest)

-- behind the site of a `crash`: a disk call, an image, and an index and a cluster
abbrev pub crash_at : ℕ → List ℕ → Result KeptCommand Kind
crash_at site rest =
    behind (by_word disk_call_of rest) (λ k rest. behind (by_word number_of rest) (λ choice rest.
    behind (by_word number_of rest) (λ index rest.
    mapped (λ atom. Crash site k choice index atom) (behind (cluster_at rest) last))))

-- what each command asks for behind its site, from left to right, among so many sites
abbrev pub kept_site_command : ℕ → ℕ → KeptSiteWord → List ℕ → Result KeptCommand Kind
kept_site_command sites site AtSite.Ins rest = mapped (λ asked. Ins site asked.0 asked.1) (index_and_text rest)
kept_site_command sites site AtSite.Del rest = mapped (λ asked. Del site asked.0 asked.1) (two_numbers rest)
kept_site_command sites site AtSite.Flat rest = mapped (λ place. Flat site place) (place_at rest)
kept_site_command sites site AtSite.Cancel rest = mapped (λ proposal. Cancel site proposal) (proposal_at sites rest)
kept_site_command sites site AtSite.Give rest = kept_give_at site rest
kept_site_command sites site AtSite.Show rest = last (Show site) rest
kept_site_command sites site AtSite.Crash rest = crash_at site rest

-- what each command asks for behind its word, in a script of so many bytes, among so many sites
abbrev pub kept_command : ℕ → ℕ → KeptWord → List ℕ → Result KeptCommand Kind
kept_command size sites First.Sites rest = mapped (λ n. Sites n) (sites_at size rest)
kept_command size sites (First.AtSite word) rest =
    behind (by_word (site_of sites) rest) (λ site rest. kept_site_command sites site word rest)

-- ---- what stands before

-- `sites` stands first and once
abbrev pub is_kept_misplaced : ℕ → KeptWord → Bool
is_kept_misplaced sites First.Sites = nat_lt 0 sites
is_kept_misplaced sites (First.AtSite word) = sites == 0

-- a crash behind so many, where there may be no more
abbrev pub is_crash_too_many : ℕ → KeptCommand → Bool
is_crash_too_many count (Crash site k choice index atom) = nat_le MAX_CRASHES count
is_crash_too_many count _ = false

-- the sum of the requests is too large for so many sites, or it is a crash too many
abbrev pub is_kept_too_much : KeptBefore → KeptCommand → Bool
is_kept_too_much before c =
    is_too_much before.sites (before.requests + kept_requests c) || is_crash_too_many before.crashes c

abbrev pub within_kept : KeptBefore → Result KeptCommand Kind → Result KeptCommand Kind
within_kept before (Ok c) = if is_kept_too_much before c then Err Fault.Size else Ok c
within_kept before (Err kind) = Err kind

-- the command that begins with the word
abbrev pub kept_command_named : ℕ → KeptBefore → Option KeptWord → List ℕ → Result KeptCommand Kind
kept_command_named size before None rest = Err Fault.Word
kept_command_named size before (Some word) rest =
    if is_kept_misplaced before.sites word then Err Fault.Sites else
    within_kept before (kept_command size before.sites word rest)

-- what a line says, in a script of so many bytes, behind what stands before it: a command, nothing, or its first fault
abbrev pub kept_judged : ℕ → KeptBefore → List ℕ → Result (Option KeptCommand) Kind
kept_judged size before =
    judged_line (λ line. kept_command_named size before (kept_word_named (cut_word line).0) (cut_word line).1)

-- ---- one line after another

-- what stands before the next line
abbrev pub kept_after : KeptBefore → KeptCommand → KeptBefore
kept_after before (Sites n) =
    record { sites = n; requests = before.requests + 0; crashes = before.crashes + 0 }
kept_after before c =
    record {
      sites = before.sites;
      requests = before.requests + kept_requests c;
      crashes = before.crashes + crashes c;
    }

-- what stands before the first line
abbrev pub kept_start : KeptBefore
kept_start = record { sites = 0; requests = 0; crashes = 0 }

-- the commands of lines from this number on, or the first faulty one with its first fault
abbrev pub kept_judged_lines : ℕ → ℕ → List (List ℕ) → KeptBefore → Judged KeptCommand
kept_judged_lines size = judged_each (kept_judged size) kept_after

abbrev pub judged_kept : List ℕ → Judged KeptCommand
judged_kept bytes =
    if nat_lt MAX_SCRIPT (length bytes) then Err (0, Fault.Size) else
    kept_judged_lines (length bytes) 1 (lines_of bytes) kept_start

-- the number of the first faulty line with its first fault; 0 for the script as a whole
abbrev pub first_kept_fault : List ℕ → Option (ℕ × Kind)
first_kept_fault bytes = fault_in (judged_kept bytes)

-- the answer other than a kept script, want of memory apart: the first faulty line with its first fault
abbrev pub IsKeptFault : List ℕ → ScriptFault → Type 0
IsKeptFault bytes (FaultAt line kind) = first_kept_fault bytes ≡ Some (line, kind)
IsKeptFault bytes Memory = ⊤
