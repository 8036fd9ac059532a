-- Worked examples as moves, and what a site knows after them.
use Rattle.std.specs.Prelude.{ℕ, ◌-◌, List, [], ◌∷◌, Bool, false, Option, Some, None, take, codes}
use Rattle.td_path.specs.declared.slot.Slot.{Slot}
use Rattle.td_op.specs.declared.request.Request.TheVariants.{Insert}
use Rattle.td_machine.specs.Examples.{with_a_flatten}
use Rattle.td_machine.specs.History.{Family, history, machine_after}
use Rattle.td_machine.specs.Machine.{Machine}
use Rattle.td_machine.specs.Stage.{Move, Ask, Give, at_place, stage, moved_all, family_after}
use Rattle.td_idle.specs.Stable.{stable}
use Rattle.td_idle.specs.Candidate.{is_candidate}

-- the second site types behind what the first typed, which then types at the start
abbrev pub typed_at_both : List Move
typed_at_both =
    Ask 1 (Insert 0 (codes "a"))
    ∷ Ask 1 (Insert 1 (codes "b"))
    ∷ Give 2 1
    ∷ Give 2 2
    ∷ Ask 2 (Insert 2 (codes "c"))
    ∷ Give 1 3
    ∷ Ask 1 (Insert 0 (codes "x"))
    ∷ []

abbrev pub stable_found : Option Machine → List ℕ
stable_found None = []
stable_found (Some m) = stable m

-- what is stable at a site after the moves
abbrev pub stable_after : ℕ → List Move → ℕ → List ℕ
stable_after n moves site = stable_found (at_place (site - 1) (moved_all moves (stage n)).machines)

abbrev pub candidate_found : Slot → Option Machine → Bool
candidate_found slot None = false
candidate_found slot (Some m) = is_candidate m slot

-- whether the slot is a candidate at a site after the moves
abbrev pub candidate_after : ℕ → List Move → ℕ → Slot → Bool
candidate_after n moves site slot = candidate_found slot (at_place (site - 1) (moved_all moves (stage n)).machines)

-- a consistent family, and its second site when it has just taken the commit
abbrev pub flattened : Family
flattened = family_after 2 with_a_flatten

abbrev pub commit_taken : Machine
commit_taken = machine_after flattened 2 (take 8 (history flattened 2))
