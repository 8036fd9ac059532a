-- What is next of what an editor has still to do.
use Rattle.std.specs.Prelude.{◌≡◌, List, [], ◌∷◌}
use Rattle.td_script.specs.declared.live.editor_line.EditorLine.{EditorLine}
use Rattle.td_script.specs.declared.live.editor_line.EditorLine.TheVariants.{Look as LookLine}
use Rattle.td_live.specs.declared.ask.Ask.{Ask as Call}
use Rattle.td_live.specs.declared.next.Next.{Next}
use Rattle.td_live.specs.declared.next.Next.TheVariants.{Ask, Look, Over}
use Rattle.td_live.specs.Asking.{request_of}
use Rattle.td_live.specs.Following.{Rest, HasNothingLeft}

-- what is next
abbrev pub IsNextToDo : Next → Rest → Type 0
IsNextToDo (Ask request) r =
    (call : Call) × ((calls : List Call) × (r.asks ≡ call ∷ calls)) × (request ≡ request_of call r.made)
IsNextToDo Look r = (r.asks ≡ []) × ((lines : List EditorLine) × (r.lines ≡ LookLine ∷ lines))
IsNextToDo Over r = HasNothingLeft r

-- the next line is to begin
pub record IsToBegin (r : Rest) : Type 0 where
  pub asks : r.asks ≡ []
  pub line : EditorLine
  pub lines : List EditorLine
  pub lines_are : r.lines ≡ line ∷ lines
  pub no_look : line ≡ LookLine → ⊥
