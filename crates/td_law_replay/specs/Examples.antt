-- Worked examples: what a trace tells, site by site.
use Rattle.std.specs.Prelude.{ℕ, List, [], ◌∷◌, codes}
use Rattle.td_op.specs.declared.reply.Reply.TheVariants.{New, Later}
use Rattle.td_machine.specs.Stage.{dot, vote_yes}
use Rattle.td_trace.specs.declared.entry.TraceEntry.{TraceEntry}
use Rattle.td_trace.specs.declared.log.Did.TheVariants.{Call, Look}
use Rattle.td_trace.specs.declared.log.EditorLog.{EditorLog}
use Rattle.td_law_replay.specs.Stage.{puts, proposes, takes_vote, takes, takes_up, editor_at}

-- site 1 takes 2.1 before it makes 1.1, and site 2 takes 1.1 before it makes 2.1. Both operations wait there for what
-- site 3 made, and neither is in the past of the other
abbrev pub crossing : List (List TraceEntry)
crossing =
    (takes (dot 2 1) Later
    ∷ takes (dot 3 1) New
    ∷ puts (codes "a") (dot 1 1)
    ∷ takes (dot 3 2) New
    ∷ takes_up (dot 2 1)
    ∷ [])
    ∷ (takes (dot 1 1) Later
    ∷ takes (dot 3 1) New
    ∷ takes (dot 3 2) New
    ∷ puts (codes "b") (dot 2 1)
    ∷ takes_up (dot 1 1)
    ∷ [])
    ∷ (puts (codes "x") (dot 3 1)
    ∷ puts (codes "y") (dot 3 2)
    ∷ takes (dot 1 1) New
    ∷ takes (dot 2 1) New
    ∷ [])
    ∷ []

-- its replay in rounds: sites 1 and 2 rest at their second entries until site 3 has done its first two, and site 1 at
-- its last until site 2 has made 2.1
abbrev pub crossing_sites : List ℕ
crossing_sites = 1 ∷ 2 ∷ 3 ∷ 3 ∷ 1 ∷ 1 ∷ 1 ∷ 2 ∷ 2 ∷ 2 ∷ 2 ∷ 3 ∷ 3 ∷ 1 ∷ []

-- each letter was typed by a call, and the editor of site 3 looked at its own two
abbrev pub crossing_logs : List EditorLog
crossing_logs =
    editor_at 1 (Call 1 3 ∷ [])
    ∷ editor_at 2 (Call 1 4 ∷ [])
    ∷ editor_at 3 (Call 1 1 ∷ Call 2 2 ∷ Look 2 2 (codes "yx") ∷ [])
    ∷ []

abbrev pub crossing_texts : List (List ℕ)
crossing_texts = codes "abyx" ∷ codes "abyx" ∷ codes "abyx" ∷ []

-- site 2 takes an operation that site 1 never made
abbrev pub never_made : List (List TraceEntry)
never_made =
    (puts (codes "a") (dot 1 1) ∷ [])
    ∷ (takes (dot 1 2) New ∷ [])
    ∷ []

-- site 2 says that an operation waits which is ready
abbrev pub not_late : List (List TraceEntry)
not_late =
    (puts (codes "a") (dot 1 1) ∷ [])
    ∷ (takes (dot 1 1) Later ∷ [])
    ∷ []

-- site 1 says that it made its second operation, and it is the first
abbrev pub misnumbered : List (List TraceEntry)
misnumbered =
    (puts (codes "a") (dot 1 2) ∷ [])
    ∷ []

-- each site uses what the other made afterwards
abbrev pub each_first : List (List TraceEntry)
each_first =
    (takes (dot 2 1) New ∷ puts (codes "a") (dot 1 1) ∷ [])
    ∷ (takes (dot 1 1) New ∷ puts (codes "b") (dot 2 1) ∷ [])
    ∷ []

-- site 1 counts a vote of site 2, which has done nothing
abbrev pub never_voted : List (List TraceEntry)
never_voted =
    (puts (codes "a") (dot 1 1) ∷ proposes (dot 1 2) ∷ takes_vote (vote_yes 2 (dot 1 2)) ∷ [])
    ∷ []
    ∷ []
