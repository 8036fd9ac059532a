-- The line of a command of a live script is UTF-8 without control characters where its text has none but LF, and the
-- lines of a live script are read again.
use Rattle.std.proofs.Common.{◌≡◌, ◌≤◌, ◌+◌, ℕ, true, not, List, [], ◌∷◌, ◌++◌, length, All, codes, filter, refl, sym}
use Rattle.std.proofs.Common.{ap, subst, ◌∙◌, length-append, arith}
use Rattle.std.proofs.lemmas.List.Elements.{All-nil, All-cons, All-head, All-tail, All-map}
use Rattle.td_base.specs.declared.site.TheConstants.{MAX_SITE}
use Rattle.td_script.specs.declared.live.command.LiveCommand.{LiveCommand}
use Rattle.td_script.specs.declared.live.command.LiveCommand.TheVariants.{Sites, Turns, Loss, Editor, Line}
use Rattle.td_script.specs.declared.live.editor_line.EditorLine.{EditorLine}
use Rattle.td_script.specs.declared.live.editor_line.EditorLine.TheVariants.{Ins, Paste, Del, Flat, Cancel, Look}
use Rattle.td_script.specs.declared.live.script.TheConstants.{MAX_EDITORS}
use Rattle.td_script.specs.declared.script.TheConstants.{MAX_LINE}
use Rattle.td_script.specs.Lines.{is_skipped, is_text_line}
use Rattle.td_script.specs.LiveScript.{AreDeclared, AreLiveCommands, IsDeclared}
use Rattle.td_script.specs.LiveScript.{IsEditorLine, IsLiveCommand, IsLiveScript}
use Rattle.td_script.specs.LiveScript.{IsLiveWritable, SpellsLive, home_of_command, homes_in, live_of, live_spelled}
use Rattle.td_script.specs.LiveSpelling.{line_of_editor, live_line_of}
use Rattle.td_script.specs.Script.{IsLine, IsSiteOf}
use Rattle.td_script.specs.Spelling.{spaced, spaced_dot, spaced_place, spaced_text}
use Rattle.td_script.proofs.JudgingLaws.{all_spoken, lines_of_written}
use Rattle.td_script.proofs.LiveLineLaws.{live_spoken}
use Rattle.td_script.proofs.WritingLaws.{IsClean, alone_clean, both, by_test}
use Rattle.td_script.proofs.WritingLaws.{dot_clean, line_clean, place_clean, spaced_clean}
use Rattle.td_script.proofs.WritingLaws.{text_clean, text_line}

editor_line_clean : (sites editor : ℕ) (line : EditorLine) → sites ≤ MAX_SITE → IsSiteOf MAX_SITE editor
    → IsEditorLine sites line → IsLiveWritable (Line editor line) → IsClean (line_of_editor editor line)
editor_line_clean sites editor (Ins index atoms) few e h k =
    line_clean (codes "ins") MAX_SITE editor (spaced index ++ spaced_text atoms) refl refl (omega arith) e
    (both (spaced index) (spaced_text atoms) (spaced_clean index h.0) (text_clean atoms h.1 k))
editor_line_clean sites editor (Paste index atoms) few e h k =
    line_clean (codes "paste") MAX_SITE editor (spaced index ++ spaced_text atoms) refl refl (omega arith) e
    (both (spaced index) (spaced_text atoms) (spaced_clean index h.0) (text_clean atoms h.1 k))
editor_line_clean sites editor (Del index count) few e h k =
    line_clean (codes "del") MAX_SITE editor (spaced index ++ spaced count) refl refl (omega arith) e
    (both (spaced index) (spaced count) (spaced_clean index h.0) (spaced_clean count h.1))
editor_line_clean sites editor (Flat place) few e h k =
    line_clean (codes "flat") MAX_SITE editor (spaced_place place) refl refl (omega arith) e (place_clean place h)
editor_line_clean sites editor (Cancel proposal) few e h k =
    line_clean (codes "cancel") MAX_SITE editor (spaced_dot proposal) refl refl (omega arith) e
    (dot_clean sites proposal few h)
editor_line_clean sites editor Look few e h k = alone_clean (codes "look") MAX_SITE editor refl refl (omega arith) e

command_clean : (sites : ℕ) (c : LiveCommand) → sites ≤ MAX_SITE → IsLiveCommand sites c → IsDeclared MAX_EDITORS c
    → IsLiveWritable c → IsClean (live_line_of c)
command_clean sites (Sites n) few h e k = absurd h
command_clean sites (Turns turns) few h e k =
    both (codes "turns") (spaced turns) (by_test (codes "turns") refl refl) (spaced_clean turns (omega (arith, h)))
command_clean sites (Loss loss) few h e k =
    both (codes "loss") (spaced loss.drop_each ++ spaced loss.double_each) (by_test (codes "loss") refl refl)
    (both (spaced loss.drop_each) (spaced loss.double_each) (spaced_clean loss.drop_each h.0)
    (spaced_clean loss.double_each h.1))
command_clean sites (Editor site) few h e k = alone_clean (codes "editor") sites site refl refl few h
command_clean sites (Line editor line) few h e k = editor_line_clean sites editor line few e h k

declared_of_more : (n m : ℕ) (c : LiveCommand) → IsDeclared n c → n ≤ m → IsDeclared m c
declared_of_more n m (Sites k) h more = tt
declared_of_more n m (Turns turns) h more = tt
declared_of_more n m (Loss loss) h more = tt
declared_of_more n m (Editor site) h more = tt
declared_of_more n m (Line editor line) h more = (h.0, omega (arith, h.1))

all_declared : (n : ℕ) (cs : List LiveCommand) → AreDeclared n cs → n + length (homes_in cs) ≤ MAX_EDITORS
    → All (IsDeclared MAX_EDITORS) cs
all_declared n [] h few = All-nil (IsDeclared MAX_EDITORS)
all_declared n (c ∷ cs) h few =
    let whole : length (homes_in (c ∷ cs)) ≡ length (home_of_command c) + length (homes_in cs) =
    length-append (home_of_command c) (homes_in cs) in
    All-cons (IsDeclared MAX_EDITORS) c cs (declared_of_more n MAX_EDITORS c h.0 (omega arith))
    (all_declared (n + length (home_of_command c)) cs h.1 (omega arith))

-- the commands of a live script are written on lines
other_lines : (sites : ℕ) (cs : List LiveCommand) → sites ≤ MAX_SITE → All (IsLiveCommand sites) cs
    → All (IsDeclared MAX_EDITORS) cs → All IsLiveWritable cs → All (λ c. length (live_line_of c) ≤ MAX_LINE) cs
    → All (λ c. IsLine (live_line_of c)) cs
other_lines sites [] few h e k l = All-nil (λ c. IsLine (live_line_of c))
other_lines sites (c ∷ cs) few h e k l =
    All-cons (λ c. IsLine (live_line_of c)) c cs
    (record {
      short = All-head (λ c. length (live_line_of c) ≤ MAX_LINE) c cs l;
      text = text_line (live_line_of c) (command_clean sites c few (All-head (IsLiveCommand sites) c cs h)
          (All-head (IsDeclared MAX_EDITORS) c cs e) (All-head IsLiveWritable c cs k));
    })
    (other_lines sites cs few (All-tail (IsLiveCommand sites) c cs h) (All-tail (IsDeclared MAX_EDITORS) c cs e)
    (All-tail IsLiveWritable c cs k) (All-tail (λ c. length (live_line_of c) ≤ MAX_LINE) c cs l))

all_lines : (sites : ℕ) (cs : List LiveCommand) → AreLiveCommands sites cs → All (IsDeclared MAX_EDITORS) cs
    → All IsLiveWritable cs → All (λ c. length (live_line_of c) ≤ MAX_LINE) cs → All (λ c. IsLine (live_line_of c)) cs
all_lines sites [] h e k l = All-nil (λ c. IsLine (live_line_of c))
all_lines sites (c ∷ cs) h e k l =
    All-cons (λ c. IsLine (live_line_of c)) c cs
    (record {
      short = All-head (λ c. length (live_line_of c) ≤ MAX_LINE) c cs l;
      text = subst (λ (x : LiveCommand). is_text_line (live_line_of x) ≡ true) (sym h.0)
          (text_line (live_line_of (Sites sites))
          (alone_clean (codes "sites") MAX_SITE sites refl refl (omega arith) h.1));
    })
    (other_lines sites cs h.1.1 h.2 (All-tail (IsDeclared MAX_EDITORS) c cs e) (All-tail IsLiveWritable c cs k)
    (All-tail (λ c. length (live_line_of c) ≤ MAX_LINE) c cs l))

-- a live script that is written is read again
pub live_read_again : (sites : ℕ) (cs : List LiveCommand) → IsLiveScript sites cs
    → SpellsLive (live_spelled cs) (live_of sites cs)
live_read_again sites cs h =
    let each : All (λ c. IsLine (live_line_of c)) cs =
    all_lines sites cs h.commands (all_declared 0 cs h.declared (omega (arith, h.few.editors))) h.texts h.lines in
    let lines = lines_of_written live_line_of cs each in
    record {
      of = cs;
      short = h.short;
      lines = subst (All IsLine) (sym lines) (All-map IsLine live_line_of cs each);
      spelled = ap (filter (λ line. not (is_skipped line))) lines ∙ all_spoken live_line_of live_spoken cs;
      commands = h.commands;
      declared = h.declared;
      few = h.few;
      fits = h.fits;
      whole = refl;
    }
