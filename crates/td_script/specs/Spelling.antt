-- The line of each command, without its LF.
use Rattle.std.specs.Prelude.{ℕ, Bool, true, false, List, ◌∷◌, ◌++◌, codes}
use Rattle.std.specs.Fmt.{decimal}
use Rattle.std.specs.List.{concat}
use Rattle.td_base.specs.Value.{DotValue}
use Rattle.td_base.specs.declared.bit.Bit.{Bit}
use Rattle.td_base.specs.declared.bit.Bit.TheVariants.{Left, Right}
use Rattle.td_script.specs.declared.command.Command.{Command}
use Rattle.td_script.specs.declared.command.Command.TheVariants.{Sites, Ins, Paste, Del, Flat, FlatAuto, Cancel, Give}
use Rattle.td_script.specs.declared.command.Command.TheVariants.{GiveAll, Settle, Show, Tree, Count}
use Rattle.td_script.specs.declared.command.Command.TheVariants.{Mark, Meet, Marks}
use Rattle.td_script.specs.declared.command.Place.{Place}
use Rattle.td_script.specs.declared.command.Place.TheVariants.{Root, Beside}
use Rattle.td_script.specs.Characters.{space, point}
use Rattle.td_script.specs.Texts.{quoted}

-- a number behind a space
abbrev pub spaced : ℕ → List ℕ
spaced n = space ∷ decimal n

-- a dot: its two numbers with a point between them
abbrev pub dotted : DotValue → List ℕ
dotted d = decimal d.site ++ point ∷ decimal d.seq

-- a dot behind a space
abbrev pub spaced_dot : DotValue → List ℕ
spaced_dot d = space ∷ dotted d

-- the text of the atoms, in quotes, behind a space
abbrev pub spaced_text : List (List ℕ) → List ℕ
spaced_text atoms = space ∷ quoted (concat atoms)

abbrev pub spaced_bit : Bit → List ℕ
spaced_bit Left = codes " left"
spaced_bit Right = codes " right"

-- `root`, or an index and a side, behind a space
abbrev pub spaced_place : Place → List ℕ
spaced_place Root = codes " root"
spaced_place (Beside index bit) = spaced index ++ spaced_bit bit

-- how a name is added to atoms, and how it is removed from them
abbrev pub mark_word : Bool → List ℕ
mark_word true = codes "mark"
mark_word false = codes "unmark"

abbrev pub line_of : Command → List ℕ
line_of (Sites n) = codes "sites" ++ spaced n
line_of (Ins site index atoms) = codes "ins" ++ (spaced site ++ (spaced index ++ spaced_text atoms))
line_of (Paste site index atoms) = codes "paste" ++ (spaced site ++ (spaced index ++ spaced_text atoms))
line_of (Del site index count) = codes "del" ++ (spaced site ++ (spaced index ++ spaced count))
line_of (Flat site place) = codes "flat" ++ (spaced site ++ spaced_place place)
line_of (FlatAuto site) = codes "flat" ++ (spaced site ++ codes " auto")
line_of (Cancel site proposal) = codes "cancel" ++ (spaced site ++ spaced_dot proposal)
line_of (Give site number) = codes "give" ++ (spaced site ++ spaced number)
line_of (GiveAll site) = codes "give" ++ (spaced site ++ codes " all")
line_of Settle = codes "settle"
line_of (Show site) = codes "show" ++ spaced site
line_of (Tree site) = codes "tree" ++ spaced site
line_of (Count site) = codes "count" ++ spaced site
line_of (Mark site add name index count) =
    mark_word add ++ (spaced site ++ (spaced name ++ (spaced index ++ spaced count)))
line_of (Meet site other) = codes "meet" ++ (spaced site ++ spaced other)
line_of (Marks site) = codes "marks" ++ spaced site
