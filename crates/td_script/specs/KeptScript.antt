-- The grammar of kept scripts: which bytes spell which.
use Rattle.std.specs.Prelude.{◌≡◌, ◌<◌, ◌≤◌, ⊤, ℕ, not, List, [], ◌∷◌, ◌++◌, All, length, filter, map, sum_by}
use Rattle.std.specs.Int.{IsInRange}
use Rattle.std.specs.List.{concat, flat_map}
use Rattle.td_base.specs.declared.site.TheConstants.{MAX_SITE}
use Rattle.td_script.specs.declared.before.TheConstants.{MAX_NARROW, MAX_FREE}
use Rattle.td_script.specs.declared.kept.command.KeptCommand.{KeptCommand}
use Rattle.td_script.specs.declared.kept.command.KeptCommand.TheVariants.{Sites, Ins, Del, Flat, Cancel, Give, Show}
use Rattle.td_script.specs.declared.kept.command.KeptCommand.TheVariants.{Crash}
use Rattle.td_script.specs.declared.kept.script.KeptScript.{KeptScript}
use Rattle.td_script.specs.declared.kept.script.TheConstants.{DISK_CALLS, MAX_CRASHES}
use Rattle.td_script.specs.declared.script.TheConstants.{MAX_SCRIPT, MAX_LINE}
use Rattle.td_script.specs.declared.script.TheConstants.{MAX_WIDE_SCRIPT, MAX_WIDE_REQUESTS, MAX_MIDDLE_REQUESTS}
use Rattle.td_script.specs.Characters.{line_feed}
use Rattle.td_script.specs.Lines.{lines_of, is_skipped}
use Rattle.td_script.specs.KeptSpelling.{kept_line_of}
use Rattle.td_script.specs.Script.{IsClusters, IsDotOf, IsLine, IsNumber, IsPlace, IsSiteOf, IsTextByte}

-- a command that a line behind `sites` can ask for, among so many sites
abbrev pub IsKeptCommand : ℕ → KeptCommand → Type 0
IsKeptCommand sites (Sites n) = ⊥
IsKeptCommand sites (Ins site index atoms) = IsSiteOf sites site × IsNumber index × IsClusters atoms
IsKeptCommand sites (Del site index count) = IsSiteOf sites site × IsNumber index × IsNumber count
IsKeptCommand sites (Flat site place) = IsSiteOf sites site × IsPlace place
IsKeptCommand sites (Cancel site proposal) = IsSiteOf sites site × IsDotOf sites proposal
IsKeptCommand sites (Give site number) = IsSiteOf sites site × IsNumber number
IsKeptCommand sites (Show site) = IsSiteOf sites site
IsKeptCommand sites (Crash site k choice index atom) =
    IsSiteOf sites site × IsInRange 1 DISK_CALLS k × IsNumber choice × IsNumber index × IsClusters (atom ∷ [])

-- the commands of a kept script: none, or `sites` and then others
abbrev pub AreKeptCommands : ℕ → List KeptCommand → Type 0
AreKeptCommands sites [] = sites ≡ 0
AreKeptCommands sites (first ∷ others) =
    (first ≡ Sites sites) × IsSiteOf MAX_SITE sites × All (IsKeptCommand sites) others

-- what a command adds to the sum of the requests
abbrev pub kept_requests : KeptCommand → ℕ
kept_requests (Ins site index atoms) = length atoms
kept_requests (Del site index count) = count
kept_requests (Flat site place) = 1
kept_requests (Cancel site proposal) = 1
kept_requests (Crash site k choice index atom) = 1
kept_requests _ = 0

-- how many crashes a command is
abbrev pub crashes : KeptCommand → ℕ
crashes (Crash site k choice index atom) = 1
crashes _ = 0

-- a kept script of so many bytes is not too large for its sites, and has not too many crashes
pub record FitsKept (size : ℕ) (script : KeptScript) : Type 0 where
  pub small : MAX_NARROW < script.sites → size ≤ MAX_WIDE_SCRIPT
  pub few : MAX_NARROW < script.sites → sum_by kept_requests script.commands ≤ MAX_WIDE_REQUESTS
  pub some : MAX_FREE < script.sites → sum_by kept_requests script.commands ≤ MAX_MIDDLE_REQUESTS
  pub crashes_few : sum_by crashes script.commands ≤ MAX_CRASHES

-- the bytes spell the kept script: the lines that say something are the lines of its commands
pub record SpellsKept (bytes : List ℕ) (script : KeptScript) : Type 0 where
  pub short : length bytes ≤ MAX_SCRIPT
  pub lines : All IsLine (lines_of bytes)
  pub spelled : filter (λ line. not (is_skipped line)) (lines_of bytes) ≡ map kept_line_of script.commands
  pub commands : AreKeptCommands script.sites script.commands
  pub fits : FitsKept (length bytes) script

-- the lines of the commands, each ended by LF
abbrev pub kept_spelled : List KeptCommand → List ℕ
kept_spelled commands = flat_map (λ c. kept_line_of c ++ line_feed ∷ []) commands

-- a command whose text can be written
abbrev pub IsKeptWritable : KeptCommand → Type 0
IsKeptWritable (Ins site index atoms) = All IsTextByte (concat atoms)
IsKeptWritable (Crash site k choice index atom) = All IsTextByte (concat (atom ∷ []))
IsKeptWritable _ = ⊤

-- a kept script that can be written
pub record IsKeptScript (script : KeptScript) : Type 0 where
  pub short : length (kept_spelled script.commands) ≤ MAX_SCRIPT
  pub lines : All (λ c. length (kept_line_of c) ≤ MAX_LINE) script.commands
  pub texts : All IsKeptWritable script.commands
  pub commands : AreKeptCommands script.sites script.commands
  pub fits : FitsKept (length (kept_spelled script.commands)) script
