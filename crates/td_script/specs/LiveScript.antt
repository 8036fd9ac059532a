-- The grammar of live scripts: which bytes spell which live script.
use Rattle.std.specs.Prelude.{◌≡◌, ◌<◌, ◌≤◌, ◌+◌, ◌==◌, ⊤, ℕ, not, if◌then◌else◌, Option, unwrap_or, slice_get}
use Rattle.std.specs.Prelude.{List, [], ◌∷◌, ◌++◌, All, length, filter, map, sum_by}
use Rattle.std.specs.Int.{IsInRange}
use Rattle.std.specs.List.{concat, flat_map, range_with_len}
use Rattle.td_base.specs.declared.site.TheConstants.{MAX_SITE}
use Rattle.td_script.specs.declared.before.TheConstants.{MAX_NARROW}
use Rattle.td_script.specs.declared.live.command.LiveCommand.{LiveCommand}
use Rattle.td_script.specs.declared.live.command.LiveCommand.TheVariants.{Sites, Turns, Loss, Editor, Line}
use Rattle.td_script.specs.declared.live.editor_line.EditorLine.{EditorLine}
use Rattle.td_script.specs.declared.live.editor_line.EditorLine.TheVariants.{Ins, Paste, Del, Flat, Cancel, Look}
use Rattle.td_script.specs.declared.live.script.Live.{Live}
use Rattle.td_script.specs.declared.live.script.Loss.{Loss as LossOf}
use Rattle.td_script.specs.declared.live.script.TheConstants.{DEFAULT_TURNS, MAX_ALL_CALLS, MAX_CALLS, NO_LOSS}
use Rattle.td_script.specs.declared.live.script.TheConstants.{MAX_EDITORS, MAX_LIVE_SCRIPT, MAX_TURNS}
use Rattle.td_script.specs.declared.script.TheConstants.{MAX_LINE, MAX_WIDE_SCRIPT, MAX_WIDE_REQUESTS}
use Rattle.td_script.specs.Characters.{line_feed}
use Rattle.td_script.specs.Lines.{lines_of, is_skipped}
use Rattle.td_script.specs.LiveSpelling.{live_line_of}
use Rattle.td_script.specs.Script.{IsNumber, IsSiteOf, IsDotOf, IsClusters, IsPlace, IsLine, IsTextByte}

-- what a line can ask of an editor, among so many sites
abbrev pub IsEditorLine : ℕ → EditorLine → Type 0
IsEditorLine sites (Ins index atoms) = IsNumber index × IsClusters atoms
IsEditorLine sites (Paste index atoms) = IsNumber index × IsClusters atoms
IsEditorLine sites (Del index count) = IsNumber index × IsNumber count
IsEditorLine sites (Flat place) = IsPlace place
IsEditorLine sites (Cancel proposal) = IsDotOf sites proposal
IsEditorLine sites Look = ⊤

-- a command that a line behind `sites` can ask for, among so many sites and editors
abbrev pub IsLiveCommand : ℕ → LiveCommand → Type 0
IsLiveCommand sites (Sites n) = ⊥
IsLiveCommand sites (Turns turns) = turns ≤ MAX_TURNS
IsLiveCommand sites (Loss loss) = IsNumber loss.drop_each × IsNumber loss.double_each
IsLiveCommand sites (Editor site) = IsSiteOf sites site
IsLiveCommand sites (Line editor line) = IsEditorLine sites line

-- the commands of a live script: none, or `sites` and then others
abbrev pub AreLiveCommands : ℕ → List LiveCommand → Type 0
AreLiveCommands sites [] = sites ≡ 0
AreLiveCommands sites (first ∷ others) =
    (first ≡ Sites sites) × IsSiteOf MAX_SITE sites × All (IsLiveCommand sites) others

-- ---- what the commands come to

abbrev pub turns_of_command : LiveCommand → List ℕ
turns_of_command (Turns turns) = turns ∷ []
turns_of_command _ = []

-- what each `turns` says
abbrev pub turns_in : List LiveCommand → List ℕ
turns_in cs = flat_map turns_of_command cs

abbrev pub loss_of_command : LiveCommand → List LossOf
loss_of_command (Loss loss) = loss ∷ []
loss_of_command _ = []

-- what each `loss` says
abbrev pub losses_in : List LiveCommand → List LossOf
losses_in cs = flat_map loss_of_command cs

abbrev pub home_of_command : LiveCommand → List ℕ
home_of_command (Editor site) = site ∷ []
home_of_command _ = []

-- the site of each `editor`
abbrev pub homes_in : List LiveCommand → List ℕ
homes_in cs = flat_map home_of_command cs

abbrev pub line_at : ℕ → LiveCommand → List EditorLine
line_at editor (Line e line) = if e == editor then line ∷ [] else []
line_at editor _ = []

-- the lines of the editor, in their order
abbrev pub lines_at : ℕ → List LiveCommand → List EditorLine
lines_at editor cs = flat_map (line_at editor) cs

-- the lines of each of so many editors, who count from 1
abbrev pub lines_of_all : ℕ → List LiveCommand → List (List EditorLine)
lines_of_all editors cs = map (λ editor. lines_at editor cs) (range_with_len 1 editors)

-- what a line adds to the calls of its editor
abbrev pub calls : EditorLine → ℕ
calls (Ins index atoms) = length atoms
calls (Paste index atoms) = length atoms
calls (Del index count) = count
calls (Flat place) = 1
calls (Cancel proposal) = 1
calls Look = 0

-- what a command adds to the calls of all
abbrev pub calls_of_command : LiveCommand → ℕ
calls_of_command (Line editor line) = calls line
calls_of_command _ = 0

-- ---- what is limited

-- a line is that of one of so many editors
abbrev pub IsDeclared : ℕ → LiveCommand → Type 0
IsDeclared editors (Line editor line) = IsInRange 1 editors editor
IsDeclared editors _ = ⊤

-- behind so many editors, the editor of each line is declared above it
abbrev pub AreDeclared : ℕ → List LiveCommand → Type 0
AreDeclared editors [] = ⊤
AreDeclared editors (c ∷ cs) = IsDeclared editors c × AreDeclared (editors + length (home_of_command c)) cs

-- `turns` and `loss` stand at most once, and there are not too many editors
pub record AreFew (cs : List LiveCommand) : Type 0 where
  pub turns : length (turns_in cs) ≤ 1
  pub losses : length (losses_in cs) ≤ 1
  pub editors : length (homes_in cs) ≤ MAX_EDITORS

-- a live script of so many bytes is not too large for so many sites, and no editor makes too many calls. The requests
-- of a live script are its calls.
pub record FitsCalls (size sites : ℕ) (cs : List LiveCommand) : Type 0 where
  pub small : MAX_NARROW < sites → size ≤ MAX_WIDE_SCRIPT
  pub requests : MAX_NARROW < sites → sum_by calls_of_command cs ≤ MAX_WIDE_REQUESTS
  pub each : (editor : ℕ) → sum_by calls (lines_at editor cs) ≤ MAX_CALLS
  pub all : sum_by calls_of_command cs ≤ MAX_ALL_CALLS

-- the live script, of what `turns` and `loss` said
abbrev pub live_from : ℕ → Option ℕ → Option LossOf → List ℕ → List (List EditorLine) → Live
live_from sites turns loss homes lines = record {
  sites = sites;
  turns = unwrap_or turns DEFAULT_TURNS;
  loss = unwrap_or loss NO_LOSS;
  homes = homes;
  lines = lines;
}

-- the live script of commands among so many sites
abbrev pub live_of : ℕ → List LiveCommand → Live
live_of sites cs =
    live_from sites (slice_get (turns_in cs) 0) (slice_get (losses_in cs) 0) (homes_in cs)
    (lines_of_all (length (homes_in cs)) cs)

-- the bytes spell the live script: the lines that say something are the lines of its commands
pub record SpellsLive (bytes : List ℕ) (live : Live) : Type 0 where
  pub of : List LiveCommand
  pub short : length bytes ≤ MAX_LIVE_SCRIPT
  pub lines : All IsLine (lines_of bytes)
  pub spelled : filter (λ line. not (is_skipped line)) (lines_of bytes) ≡ map live_line_of of
  pub commands : AreLiveCommands live.sites of
  pub declared : AreDeclared 0 of
  pub few : AreFew of
  pub fits : FitsCalls (length bytes) live.sites of
  pub whole : live ≡ live_of live.sites of

-- the lines of the commands, each ended by LF
abbrev pub live_spelled : List LiveCommand → List ℕ
live_spelled cs = flat_map (λ c. live_line_of c ++ line_feed ∷ []) cs

-- a command whose text can be written
abbrev pub IsLiveWritable : LiveCommand → Type 0
IsLiveWritable (Line editor (Ins index atoms)) = All IsTextByte (concat atoms)
IsLiveWritable (Line editor (Paste index atoms)) = All IsTextByte (concat atoms)
IsLiveWritable _ = ⊤

-- the commands of a live script that can be written, among so many sites
pub record IsLiveScript (sites : ℕ) (cs : List LiveCommand) : Type 0 where
  pub short : length (live_spelled cs) ≤ MAX_LIVE_SCRIPT
  pub lines : All (λ c. length (live_line_of c) ≤ MAX_LINE) cs
  pub texts : All IsLiveWritable cs
  pub commands : AreLiveCommands sites cs
  pub declared : AreDeclared 0 cs
  pub few : AreFew cs
  pub fits : FitsCalls (length (live_spelled cs)) sites cs
