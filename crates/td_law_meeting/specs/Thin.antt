-- Which of a site's messages are for another one, and what is sent of these where some are lost and some come twice.
use Rattle.std.specs.Prelude.{ℕ, suc, ◌%◌, Bool, true, ◌&&◌, nat_lt, List, [], ◌∷◌, ◌++◌}
use Rattle.std.specs.Prelude.{filter, replicate, if◌then◌else◌, ◌==◌}
use Rattle.td_op.specs.declared.message.Message.{Message}
use Rattle.td_op.specs.declared.message.Message.TheVariants.{Op, Vote}

-- operations are for every other site, a vote for the proposer alone: the test of `IsAddressed`
abbrev pub is_addressed : ℕ → Message → Bool
is_addressed site (Op x) = true
is_addressed site (Vote v) = v.proposal.site == site

abbrev pub messages_to : ℕ → List Message → List Message
messages_to site messages = filter (is_addressed site) messages

-- which messages are lost, and which are sent twice: of so many the last, and so on, and none where the number is 0
pub record Loss : Type 0 where
  pub drop_each : ℕ
  pub double_each : ℕ

-- d is above 0 and divides j
abbrev pub divides : ℕ → ℕ → Bool
divides d j = nat_lt 0 d && (j % d == 0)

-- how often the j-th message is sent
abbrev pub copies : Loss → ℕ → ℕ
copies loss j = if divides loss.drop_each j then 0 else (if divides loss.double_each j then 2 else 1)

-- what is sent of the messages, of which the first has the number j, when each is sent so often
abbrev pub thin : Loss → ℕ → List Message → List Message
thin loss j [] = []
thin loss j (message ∷ messages) = replicate (copies loss j) message ++ thin loss (suc j) messages
