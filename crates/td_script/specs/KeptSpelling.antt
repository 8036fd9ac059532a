-- The line of each command of a kept script, without its LF.
use Rattle.std.specs.Prelude.{ℕ, List, [], ◌∷◌, ◌++◌, codes}
use Rattle.td_script.specs.declared.kept.command.KeptCommand.{KeptCommand}
use Rattle.td_script.specs.declared.kept.command.KeptCommand.TheVariants.{Sites, Ins, Del, Flat, Cancel, Give, Show}
use Rattle.td_script.specs.declared.kept.command.KeptCommand.TheVariants.{Crash}
use Rattle.td_script.specs.Spelling.{spaced, spaced_dot, spaced_place, spaced_text}

abbrev pub kept_line_of : KeptCommand → List ℕ
kept_line_of (Sites n) = codes "sites" ++ spaced n
kept_line_of (Ins site index atoms) = codes "ins" ++ (spaced site ++ (spaced index ++ spaced_text atoms))
kept_line_of (Del site index count) = codes "del" ++ (spaced site ++ (spaced index ++ spaced count))
kept_line_of (Flat site place) = codes "flat" ++ (spaced site ++ spaced_place place)
kept_line_of (Cancel site proposal) = codes "cancel" ++ (spaced site ++ spaced_dot proposal)
kept_line_of (Give site number) = codes "give" ++ (spaced site ++ spaced number)
kept_line_of (Show site) = codes "show" ++ spaced site
kept_line_of (Crash site k choice index atom) =
    codes "crash"
    ++ (spaced site ++ (spaced k ++ (spaced choice ++ (spaced index ++ spaced_text (atom ∷ [])))))
