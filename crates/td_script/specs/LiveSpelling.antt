-- The line of each command of a live script, without its LF.
use Rattle.std.specs.Prelude.{ℕ, List, ◌++◌, codes}
use Rattle.td_script.specs.declared.live.command.LiveCommand.{LiveCommand}
use Rattle.td_script.specs.declared.live.command.LiveCommand.TheVariants.{Sites, Turns, Loss, Editor, Line}
use Rattle.td_script.specs.declared.live.editor_line.EditorLine.{EditorLine}
use Rattle.td_script.specs.declared.live.editor_line.EditorLine.TheVariants.{Ins, Paste, Del, Flat, Cancel, Look}
use Rattle.td_script.specs.Spelling.{spaced, spaced_dot, spaced_place, spaced_text}

-- a line of an editor
abbrev pub line_of_editor : ℕ → EditorLine → List ℕ
line_of_editor editor (Ins index atoms) = codes "ins" ++ (spaced editor ++ (spaced index ++ spaced_text atoms))
line_of_editor editor (Paste index atoms) = codes "paste" ++ (spaced editor ++ (spaced index ++ spaced_text atoms))
line_of_editor editor (Del index count) = codes "del" ++ (spaced editor ++ (spaced index ++ spaced count))
line_of_editor editor (Flat place) = codes "flat" ++ (spaced editor ++ spaced_place place)
line_of_editor editor (Cancel proposal) = codes "cancel" ++ (spaced editor ++ spaced_dot proposal)
line_of_editor editor Look = codes "look" ++ spaced editor

abbrev pub live_line_of : LiveCommand → List ℕ
live_line_of (Sites n) = codes "sites" ++ spaced n
live_line_of (Turns turns) = codes "turns" ++ spaced turns
live_line_of (Loss loss) = codes "loss" ++ (spaced loss.drop_each ++ spaced loss.double_each)
live_line_of (Editor site) = codes "editor" ++ spaced site
live_line_of (Line editor line) = line_of_editor editor line
