-- Worked examples as moves. A message has the number of its sending.
use Rattle.std.specs.Prelude.{List, [], ◌∷◌, codes}
use Rattle.td_base.specs.declared.bit.Bit.TheVariants.{Left, Right}
use Rattle.td_path.specs.declared.slot.Slot.TheVariants.{Root}
use Rattle.td_op.specs.declared.request.Request.TheVariants.{Insert, Paste, Delete, Propose, ProposeAt, Cancel}
use Rattle.td_base.specs.Run.{letters}
use Rattle.td_machine.specs.Stage.{Move, Ask, Give, GoOn, dot}

-- two sites put an atom each into one gap
abbrev pub one_gap : List Move
one_gap =
    Ask 1 (Insert 0 (codes "a"))
    ∷ Ask 1 (Insert 1 (codes "c"))
    ∷ Give 2 1
    ∷ Give 2 2
    ∷ Ask 1 (Insert 1 (codes "X"))
    ∷ Ask 2 (Insert 1 (codes "Y"))
    ∷ Give 1 4
    ∷ Give 2 3
    ∷ []

-- the second operation comes before the first, and comes again while it waits
abbrev pub reordered : List Move
reordered =
    Ask 1 (Insert 0 (codes "a"))
    ∷ Ask 1 (Insert 1 (codes "b"))
    ∷ Give 2 2
    ∷ Give 2 2
    ∷ Give 2 1
    ∷ GoOn 2
    ∷ GoOn 2
    ∷ []

-- three sites type two atoms each at once
abbrev pub three_typists : List Move
three_typists =
    Ask 1 (Insert 0 (codes "a"))
    ∷ Ask 1 (Insert 1 (codes "b"))
    ∷ Ask 2 (Insert 0 (codes "c"))
    ∷ Ask 2 (Insert 1 (codes "d"))
    ∷ Ask 3 (Insert 0 (codes "e"))
    ∷ Ask 3 (Insert 1 (codes "f"))
    ∷ Give 1 3
    ∷ Give 1 4
    ∷ Give 1 5
    ∷ Give 1 6
    ∷ Give 2 1
    ∷ Give 2 2
    ∷ Give 2 5
    ∷ Give 2 6
    ∷ Give 3 1
    ∷ Give 3 2
    ∷ Give 3 3
    ∷ Give 3 4
    ∷ []

-- two sites delete one atom
abbrev pub both_delete : List Move
both_delete =
    Ask 1 (Insert 0 (codes "a"))
    ∷ Ask 1 (Insert 1 (codes "b"))
    ∷ Give 2 1
    ∷ Give 2 2
    ∷ Ask 1 (Delete 0)
    ∷ Ask 2 (Delete 0)
    ∷ Give 1 4
    ∷ Give 2 3
    ∷ []

-- an atom goes beside a tombstone
abbrev pub beside_a_tombstone : List Move
beside_a_tombstone =
    Ask 1 (Insert 0 (codes "a"))
    ∷ Ask 1 (Insert 1 (codes "b"))
    ∷ Ask 1 (Insert 2 (codes "c"))
    ∷ Ask 1 (Delete 1)
    ∷ Ask 1 (Insert 1 (codes "x"))
    ∷ []

-- one site flattens its buffer
abbrev pub flatten_alone : List Move
flatten_alone =
    Ask 1 (Insert 0 (codes "a"))
    ∷ Ask 1 (Insert 1 (codes "b"))
    ∷ Ask 1 (Insert 2 (codes "c"))
    ∷ Ask 1 (Insert 3 (codes "d"))
    ∷ Ask 1 (Propose Root)
    ∷ []

-- nobody may edit under a hold until the decision comes there
abbrev pub held : List Move
held =
    Ask 1 (Insert 0 (codes "a"))
    ∷ Ask 1 (Insert 1 (codes "b"))
    ∷ Ask 1 (Propose Root)
    ∷ Ask 1 (Insert 0 (codes "x"))
    ∷ Give 2 1
    ∷ Give 2 2
    ∷ Give 2 3
    ∷ Ask 2 (Insert 0 (codes "y"))
    ∷ Give 1 4
    ∷ Ask 1 (Insert 0 (codes "x"))
    ∷ Ask 2 (Insert 0 (codes "y"))
    ∷ Give 2 5
    ∷ Give 2 6
    ∷ []

-- an edit that the proposer does not know makes the vote No
abbrev pub edit_first : List Move
edit_first =
    Ask 1 (Insert 0 (codes "a"))
    ∷ Ask 1 (Insert 1 (codes "b"))
    ∷ Give 2 1
    ∷ Give 2 2
    ∷ Ask 1 (Propose Root)
    ∷ Ask 2 (Insert 2 (codes "c"))
    ∷ Give 2 3
    ∷ Give 1 5
    ∷ Give 1 4
    ∷ Give 2 6
    ∷ []

-- two sites propose overlapping slots at once
abbrev pub overlapping : List Move
overlapping =
    Ask 1 (Insert 0 (codes "a"))
    ∷ Ask 1 (Insert 1 (codes "b"))
    ∷ Ask 1 (Insert 2 (codes "c"))
    ∷ Give 2 1
    ∷ Give 2 2
    ∷ Give 2 3
    ∷ Ask 1 (Propose Root)
    ∷ Ask 2 (ProposeAt 0 Right)
    ∷ Give 1 5
    ∷ Give 2 4
    ∷ Give 2 6
    ∷ Give 1 7
    ∷ Give 1 8
    ∷ Give 2 9
    ∷ []

-- two sites propose slots at once that do not overlap
abbrev pub disjoint : List Move
disjoint =
    Ask 1 (Insert 0 (codes "a"))
    ∷ Ask 1 (Insert 1 (codes "b"))
    ∷ Ask 1 (Insert 2 (codes "c"))
    ∷ Give 2 1
    ∷ Give 2 2
    ∷ Give 2 3
    ∷ Ask 1 (ProposeAt 1 Left)
    ∷ Ask 2 (ProposeAt 1 Right)
    ∷ Give 1 5
    ∷ Give 2 4
    ∷ Give 2 6
    ∷ Give 1 7
    ∷ Give 1 8
    ∷ Give 2 9
    ∷ []

-- a slot whose tombstone was flattened away is used by two sites at once
abbrev pub used_again : List Move
used_again =
    Ask 1 (Insert 0 (codes "x"))
    ∷ Ask 1 (Insert 1 (codes "y"))
    ∷ Give 2 1
    ∷ Give 2 2
    ∷ Ask 1 (Delete 1)
    ∷ Give 2 3
    ∷ Ask 1 (ProposeAt 0 Right)
    ∷ Give 2 4
    ∷ Give 1 5
    ∷ Give 2 6
    ∷ Ask 1 (Insert 1 (codes "p"))
    ∷ Ask 2 (Insert 1 (codes "q"))
    ∷ Give 1 8
    ∷ Give 2 7
    ∷ []

-- a proposal is given up before the last Yes comes
abbrev pub late_yes : List Move
late_yes =
    Ask 1 (Insert 0 (codes "a"))
    ∷ Give 2 1
    ∷ Ask 1 (Propose Root)
    ∷ Give 2 2
    ∷ Ask 1 (Cancel (dot 1 2))
    ∷ Give 1 3
    ∷ Ask 2 (Insert 0 (codes "z"))
    ∷ Give 2 4
    ∷ Ask 2 (Insert 0 (codes "z"))
    ∷ Ask 1 (Cancel (dot 1 2))
    ∷ []

-- a proposal that does not know a commit which overlaps it
abbrev pub unseen_commit : List Move
unseen_commit =
    Ask 1 (Insert 0 (codes "a"))
    ∷ Ask 1 (Insert 1 (codes "b"))
    ∷ Ask 1 (Insert 2 (codes "c"))
    ∷ Ask 1 (Insert 3 (codes "d"))
    ∷ Give 2 1
    ∷ Give 2 2
    ∷ Give 2 3
    ∷ Give 2 4
    ∷ Give 3 1
    ∷ Give 3 2
    ∷ Give 3 3
    ∷ Give 3 4
    ∷ Ask 2 (Propose Root)
    ∷ Ask 2 (Cancel (dot 2 1))
    ∷ Ask 1 (Propose Root)
    ∷ Give 2 7
    ∷ Give 3 7
    ∷ Give 1 8
    ∷ Give 1 9
    ∷ Give 3 10
    ∷ Give 3 5
    ∷ []

-- a pasted run is split by two sites at once
abbrev pub split_paste : List Move
split_paste =
    Ask 1 (Paste 0 (letters (codes "abcd")))
    ∷ Give 2 1
    ∷ Ask 2 (Paste 1 (letters (codes "xy")))
    ∷ Ask 1 (Paste 1 (letters (codes "z")))
    ∷ Give 1 2
    ∷ Give 2 3
    ∷ []

-- messages come in another order, twice, or never; the buffer is flattened while a site that has not taken the commit
-- may not type, and each types again
abbrev pub with_a_flatten : List Move
with_a_flatten =
    Ask 1 (Insert 0 (codes "a"))
    ∷ Ask 1 (Insert 1 (codes "b"))
    ∷ Give 2 2
    ∷ Give 2 1
    ∷ GoOn 2
    ∷ Give 2 1
    ∷ Ask 1 (Delete 0)
    ∷ Give 2 3
    ∷ Ask 1 (Propose Root)
    ∷ Give 2 4
    ∷ Give 1 5
    ∷ Ask 2 (Insert 1 (codes "c"))
    ∷ Give 2 6
    ∷ Ask 2 (Insert 1 (codes "c"))
    ∷ Ask 1 (Insert 1 (codes "d"))
    ∷ Give 2 8
    ∷ []

-- two sites, a slot that the second holds, and its delete and its proposal there
abbrev pub held_at_both : List Move
held_at_both =
    Ask 1 (Insert 0 (codes "a"))
    ∷ Ask 1 (Propose Root)
    ∷ Give 2 1
    ∷ Give 2 2
    ∷ Ask 2 (Delete 0)
    ∷ Ask 2 (Propose Root)
    ∷ []

-- three sites, and a proposal whose atom is gone where its vote is asked for: it was deleted, and its slot flattened
abbrev pub untold_slot : List Move
untold_slot =
    Ask 1 (Insert 0 (codes "a"))
    ∷ Ask 1 (Insert 1 (codes "b"))
    ∷ Give 2 1
    ∷ Give 2 2
    ∷ Give 3 1
    ∷ Give 3 2
    ∷ Ask 2 (ProposeAt 1 Right)
    ∷ Ask 2 (Cancel (dot 2 1))
    ∷ Ask 1 (Delete 1)
    ∷ Ask 1 (ProposeAt 0 Right)
    ∷ Give 2 5
    ∷ Give 2 6
    ∷ Give 3 5
    ∷ Give 3 6
    ∷ Give 1 7
    ∷ Give 1 8
    ∷ Give 3 9
    ∷ Give 3 3
    ∷ []

-- three sites, and a commit that a proposer has not seen, whose own slot is gone where the vote is asked for
abbrev pub untold_commit : List Move
untold_commit =
    Ask 1 (Insert 0 (codes "a"))
    ∷ Ask 1 (Insert 1 (codes "b"))
    ∷ Ask 1 (Insert 0 (codes "z"))
    ∷ Ask 1 (ProposeAt 2 Right)
    ∷ Give 2 1
    ∷ Give 2 2
    ∷ Give 2 3
    ∷ Give 2 4
    ∷ Give 3 1
    ∷ Give 3 2
    ∷ Give 3 3
    ∷ Give 3 4
    ∷ Ask 2 (ProposeAt 1 Left)
    ∷ Give 1 5
    ∷ Give 1 6
    ∷ Ask 1 (Delete 2)
    ∷ Ask 1 (ProposeAt 1 Right)
    ∷ Give 2 8
    ∷ Give 2 9
    ∷ Give 2 10
    ∷ Give 3 8
    ∷ Give 3 9
    ∷ Give 3 10
    ∷ Give 1 11
    ∷ Give 1 12
    ∷ Give 3 13
    ∷ Give 3 7
    ∷ []
