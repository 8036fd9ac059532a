-- Worked examples: what is sent of five messages, and two workers that have met.
use Rattle.std.specs.Prelude.{ℕ, List, [], ◌∷◌, ◌++◌, codes, replicate}
use Rattle.td_op.specs.declared.body.Body.TheVariants.{Insert}
use Rattle.td_op.specs.declared.request.Request.TheVariants.{Insert as AnInsert}
use Rattle.td_op.specs.declared.message.Message.{Message}
use Rattle.td_op.specs.declared.message.Message.TheVariants.{Op, Vote}
use Rattle.td_path.specs.declared.slot.Slot.TheVariants.{Root}
use Rattle.td_machine.specs.Stage.{Move, Ask, Give, dot, vote_yes, family_after}
use Rattle.td_machine.specs.History.{history}
use Rattle.td_law_meeting.specs.Thin.{Loss}
use Rattle.td_law_meeting.specs.Peers.{new_peer}
use Rattle.td_law_meeting.specs.Accounts.{Account}

-- the vote of site 3 on the k-th operation of a site
abbrev pub vote_on : ℕ → ℕ → Message
vote_on site k = Vote (vote_yes 3 (dot site k))

abbrev pub five : List Message
five = vote_on 1 1 ∷ vote_on 1 2 ∷ vote_on 1 3 ∷ vote_on 1 4 ∷ vote_on 1 5 ∷ []

-- each second is lost, each third is sent twice
abbrev pub lossy : Loss
lossy = record { drop_each = 2; double_each = 3 }

abbrev pub lossless : Loss
lossless = record { drop_each = 0; double_each = 0 }

-- the first operation of site 1, at two sites
abbrev pub first_insert : Message
first_insert = Op (record { dot = dot 1 1; deps = replicate 2 0; body = Insert Root (codes "a" ∷ []) })

-- site 1 makes it, and site 2 takes it
abbrev pub one_letter : List Move
one_letter = Ask 1 (AnInsert 0 (codes "a")) ∷ Give 2 1 ∷ []

-- its bytes: the mark, the kind, the dot, the numbers of two sites, the slot, and the run of one atom
abbrev pub its_packet : List ℕ
its_packet = codes "T2" ++ 1 ∷ 1 ∷ 0 ∷ 0 ∷ 0 ∷ 1 ∷ 2 ∷ replicate 8 0 ++ 0 ∷ 1 ∷ 1 ∷ codes "a"

abbrev pub its_maker : Account
its_maker =
    record {
      site = 1;
      entries = history (family_after 2 one_letter) 1;
      peers = record (new_peer 2 lossless) { sent = its_packet ∷ []; dealt = 1 } ∷ [];
    }

abbrev pub its_taker : Account
its_taker =
    record {
      site = 2;
      entries = history (family_after 2 one_letter) 2;
      peers = record (new_peer 1 lossless) { taken = its_packet ∷ [] } ∷ [];
    }
