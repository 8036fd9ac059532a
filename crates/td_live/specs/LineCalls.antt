-- The calls that are left of a line, as they are kept.
use Rattle.std.specs.Prelude.{List, [], ◌∷◌, map, replicate, Option, Some, None}
use Rattle.td_op.specs.declared.request.Request.TheVariants.{Delete}
use Rattle.td_text.specs.Runs.{runs_of}
use Rattle.td_live.specs.declared.ask.Ask.{Ask}
use Rattle.td_live.specs.declared.ask.Ask.TheVariants.{Plain, TypeOn}
use Rattle.td_live.specs.declared.line_calls.Behind.{Behind}
use Rattle.td_live.specs.declared.line_calls.Behind.TheVariants.{Nothing, Typing, Pasting, Deleting}
use Rattle.td_live.specs.Asking.{paste_on}

-- the calls behind the next one
abbrev pub asks_behind : Behind → List Ask
asks_behind Nothing = []
asks_behind (Typing atoms) = map TypeOn atoms
asks_behind (Pasting before atoms) = paste_on before (runs_of atoms)
asks_behind (Deleting index count) = replicate count (Plain (Delete index))

-- the next call, where one is left, and those behind it
abbrev pub asks_from : Option Ask → Behind → List Ask
asks_from None behind = []
asks_from (Some ask) behind = ask ∷ asks_behind behind
