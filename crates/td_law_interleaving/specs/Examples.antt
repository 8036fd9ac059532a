-- Sites that type at once, as moves. A message has the number of its sending.
use Rattle.std.specs.Prelude.{List, [], ◌∷◌, ◌++◌, codes}
use Rattle.td_path.specs.declared.slot.Slot.TheVariants.{Root}
use Rattle.td_op.specs.declared.request.Request.TheVariants.{Insert, Propose}
use Rattle.td_machine.specs.Stage.{Move, Ask, Give}

-- each of two sites is given the other's three messages
abbrev pub exchanged : List Move
exchanged = Give 1 4 ∷ Give 1 5 ∷ Give 1 6 ∷ Give 2 1 ∷ Give 2 2 ∷ Give 2 3 ∷ []

-- site 1 types abc and site 2 types xyz, letter behind letter
abbrev pub forwards : List Move
forwards =
    (Ask 1 (Insert 0 (codes "a")) ∷ Ask 1 (Insert 1 (codes "b")) ∷ Ask 1 (Insert 2 (codes "c"))
    ∷ Ask 2 (Insert 0 (codes "x")) ∷ Ask 2 (Insert 1 (codes "y")) ∷ Ask 2 (Insert 2 (codes "z")) ∷ [])
    ++ exchanged

-- the same words, each letter typed in front of the last
abbrev pub backwards : List Move
backwards =
    (Ask 1 (Insert 0 (codes "c")) ∷ Ask 1 (Insert 0 (codes "b")) ∷ Ask 1 (Insert 0 (codes "a"))
    ∷ Ask 2 (Insert 0 (codes "z")) ∷ Ask 2 (Insert 0 (codes "y")) ∷ Ask 2 (Insert 0 (codes "x")) ∷ [])
    ++ exchanged

-- the one this way, the other that way
abbrev pub one_each : List Move
one_each =
    (Ask 1 (Insert 0 (codes "a")) ∷ Ask 1 (Insert 1 (codes "b")) ∷ Ask 1 (Insert 2 (codes "c"))
    ∷ Ask 2 (Insert 0 (codes "z")) ∷ Ask 2 (Insert 0 (codes "y")) ∷ Ask 2 (Insert 0 (codes "x")) ∷ [])
    ++ exchanged

-- between m and n, which both know, the one types ab behind m, and the other x, and then w in front of it
abbrev pub in_a_gap : List Move
in_a_gap =
    Ask 1 (Insert 0 (codes "m"))
    ∷ Ask 1 (Insert 1 (codes "n"))
    ∷ Give 2 1
    ∷ Give 2 2
    ∷ Ask 1 (Insert 1 (codes "a"))
    ∷ Ask 1 (Insert 2 (codes "b"))
    ∷ Ask 2 (Insert 1 (codes "x"))
    ∷ Ask 2 (Insert 1 (codes "w"))
    ∷ Give 1 5
    ∷ Give 1 6
    ∷ Give 2 3
    ∷ Give 2 4
    ∷ []

-- site 2 types ab, and site 1, which has a and not b, types x behind a
abbrev pub knew_the_first : List Move
knew_the_first =
    Ask 2 (Insert 0 (codes "a"))
    ∷ Ask 2 (Insert 1 (codes "b"))
    ∷ Give 1 1
    ∷ Ask 1 (Insert 1 (codes "x"))
    ∷ Give 1 2
    ∷ Give 2 3
    ∷ []

-- one site types c, b in front of it and a in front of that, and flattens; then it types x behind b
abbrev pub behind_what_was_flattened : List Move
behind_what_was_flattened =
    Ask 1 (Insert 0 (codes "c"))
    ∷ Ask 1 (Insert 0 (codes "b"))
    ∷ Ask 1 (Insert 0 (codes "a"))
    ∷ Ask 1 (Propose Root)
    ∷ Ask 1 (Insert 2 (codes "x"))
    ∷ []
