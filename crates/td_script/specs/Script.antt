-- The grammar: which bytes spell which script.
use Rattle.std.specs.Prelude.{◌≡◌, ◌≢◌, ◌<◌, ◌≤◌, ◌^◌, ⊤, ℕ, true, false, not}
use Rattle.std.specs.Prelude.{List, [], ◌∷◌, ◌++◌, All, length, filter, map, sum_by}
use Rattle.std.specs.Int.{IsInRange}
use Rattle.std.specs.List.{concat, flat_map}
use Rattle.td_base.specs.Atom.{IsAtom}
use Rattle.td_base.specs.Value.{DotValue}
use Rattle.td_base.specs.declared.dot.TheConstants.{MAX_SEQ}
use Rattle.td_base.specs.declared.site.TheConstants.{MAX_SITE}
use Rattle.td_marks.specs.declared.mark_op.TheConstants.{NAMES}
use Rattle.td_script.specs.declared.command.Command.{Command}
use Rattle.td_script.specs.declared.command.Command.TheVariants.{Sites, Ins, Paste, Del, Flat, FlatAuto, Cancel, Give}
use Rattle.td_script.specs.declared.command.Command.TheVariants.{GiveAll, Settle, Show, Tree, Count}
use Rattle.td_script.specs.declared.command.Command.TheVariants.{Mark, Meet, Marks}
use Rattle.td_script.specs.declared.command.Place.{Place}
use Rattle.td_script.specs.declared.command.Place.TheVariants.{Root, Beside}
use Rattle.td_script.specs.declared.number.TheConstants.{MAX_DIGITS}
use Rattle.td_script.specs.declared.before.TheConstants.{MAX_NARROW, MAX_FREE}
use Rattle.td_script.specs.declared.script.Script.{Script}
use Rattle.td_script.specs.declared.script.TheConstants.{MAX_SCRIPT, MAX_LINE}
use Rattle.td_script.specs.declared.script.TheConstants.{MAX_WIDE_SCRIPT, MAX_WIDE_REQUESTS, MAX_MIDDLE_REQUESTS}
use Rattle.td_script.specs.Characters.{line_feed}
use Rattle.std.specs.Char.{is_ascii_control}
use Rattle.td_script.specs.Lines.{lines_of, is_text_line, is_skipped}
use Rattle.td_script.specs.Spelling.{line_of}
use Rattle.unicode_segmentation.specs.Grapheme.{graphemes}

abbrev pub IsNumber : ℕ → Type 0
IsNumber n = n < 10 ^ MAX_DIGITS

-- a site among so many
abbrev pub IsSiteOf : ℕ → ℕ → Type 0
IsSiteOf sites site = IsInRange 1 sites site

abbrev pub IsDotOf : ℕ → DotValue → Type 0
IsDotOf sites d = IsSiteOf sites d.site × IsInRange 1 MAX_SEQ d.seq

-- the clusters of a text, each of which is an atom
pub record IsClusters (atoms : List (List ℕ)) : Type 0 where
  pub each : All IsAtom atoms
  pub cut : graphemes true (concat atoms) ≡ atoms

-- a place that can be written
abbrev pub IsPlace : Place → Type 0
IsPlace Root = ⊤
IsPlace (Beside index bit) = IsNumber index

-- a command that a line behind `sites` can ask for, among so many sites
abbrev pub IsCommand : ℕ → Command → Type 0
IsCommand sites (Sites n) = ⊥
IsCommand sites (Ins site index atoms) = IsSiteOf sites site × IsNumber index × IsClusters atoms
IsCommand sites (Paste site index atoms) = IsSiteOf sites site × IsNumber index × IsClusters atoms
IsCommand sites (Del site index count) = IsSiteOf sites site × IsNumber index × IsNumber count
IsCommand sites (Flat site Root) = IsSiteOf sites site
IsCommand sites (Flat site (Beside index bit)) = IsSiteOf sites site × IsNumber index
IsCommand sites (FlatAuto site) = IsSiteOf sites site
IsCommand sites (Cancel site proposal) = IsSiteOf sites site × IsDotOf sites proposal
IsCommand sites (Give site number) = IsSiteOf sites site × IsNumber number
IsCommand sites (GiveAll site) = IsSiteOf sites site
IsCommand sites Settle = ⊤
IsCommand sites (Show site) = IsSiteOf sites site
IsCommand sites (Tree site) = IsSiteOf sites site
IsCommand sites (Count site) = IsSiteOf sites site
IsCommand sites (Mark site add name index count) =
    IsSiteOf sites site × (name < NAMES) × IsNumber index × IsNumber count
IsCommand sites (Meet site other) = IsSiteOf sites site × IsSiteOf sites other
IsCommand sites (Marks site) = IsSiteOf sites site

-- the commands of a script: none, or `sites` and then others
abbrev pub AreCommands : ℕ → List Command → Type 0
AreCommands sites [] = sites ≡ 0
AreCommands sites (first ∷ others) = (first ≡ Sites sites) × IsSiteOf MAX_SITE sites × All (IsCommand sites) others

-- what a command adds to the sum of the requests
abbrev pub requests : Command → ℕ
requests (Ins site index atoms) = length atoms
requests (Paste site index atoms) = length atoms
requests (Del site index count) = count
requests (Flat site place) = 1
requests (FlatAuto site) = 1
requests (Cancel site proposal) = 1
requests _ = 0

-- a script of so many bytes is not too large for its sites
pub record FitsSites (size : ℕ) (script : Script) : Type 0 where
  pub small : MAX_NARROW < script.sites → size ≤ MAX_WIDE_SCRIPT
  pub few : MAX_NARROW < script.sites → sum_by requests script.commands ≤ MAX_WIDE_REQUESTS
  pub some : MAX_FREE < script.sites → sum_by requests script.commands ≤ MAX_MIDDLE_REQUESTS

-- a line that is not too long, of UTF-8 without control characters
pub record IsLine (line : List ℕ) : Type 0 where
  pub short : length line ≤ MAX_LINE
  pub text : is_text_line line ≡ true

-- the bytes spell the script: the lines that say something are the lines of its commands
pub record Spells (bytes : List ℕ) (script : Script) : Type 0 where
  pub short : length bytes ≤ MAX_SCRIPT
  pub lines : All IsLine (lines_of bytes)
  pub spelled : filter (λ line. not (is_skipped line)) (lines_of bytes) ≡ map line_of script.commands
  pub commands : AreCommands script.sites script.commands
  pub fits : FitsSites (length bytes) script

-- the lines of the commands, each ended by LF
abbrev pub spelled : List Command → List ℕ
spelled commands = flat_map (λ c. line_of c ++ line_feed ∷ []) commands

-- a byte of a text that can be written: no control character but LF
abbrev pub IsTextByte : ℕ → Type 0
IsTextByte byte = byte ≢ line_feed → is_ascii_control byte ≡ false

-- a command whose text can be written
abbrev pub IsWritable : Command → Type 0
IsWritable (Ins site index atoms) = All IsTextByte (concat atoms)
IsWritable (Paste site index atoms) = All IsTextByte (concat atoms)
IsWritable _ = ⊤

-- a script that can be written
pub record IsScript (script : Script) : Type 0 where
  pub short : length (spelled script.commands) ≤ MAX_SCRIPT
  pub lines : All (λ c. length (line_of c) ≤ MAX_LINE) script.commands
  pub texts : All IsWritable script.commands
  pub commands : AreCommands script.sites script.commands
  pub fits : FitsSites (length (spelled script.commands)) script
