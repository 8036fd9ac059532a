-- What a line of a trace tells of a reply, read from the front of bytes.
use Rattle.std.specs.Prelude.{ℕ, List, Some, None, codes}
use Rattle.td_op.specs.declared.reply.Reply.{Reply}
use Rattle.td_op.specs.declared.reply.Reply.TheVariants.{Made, Cancelled, Held, Position, Gone, Limit, NotOpen}
use Rattle.td_op.specs.declared.reply.Reply.TheVariants.{New, Later, Repeat, Unfit, Taken, Dropped, Idle}
use Rattle.td_op.specs.declared.reply.Why.{Why}
use Rattle.td_op.specs.declared.reply.Why.TheVariants.{Size, Own, Atom, Proposal, Vote as OfVote, Address}
use Rattle.td_reader.specs.Arguments.{short_at, dot_at, identity_at}
use Rattle.td_reader.specs.Reading.{Reading, ◌>>=◌, after, choose}

-- why something is unfit, behind a space
unfoldable pub why_at : List ℕ → Reading Why
why_at bytes =
    choose (codes " size") bytes (λ rest. Some (Size, rest))
    (choose (codes " own") bytes (λ rest. Some (Own, rest))
    (choose (codes " atom") bytes (λ rest. Some (Atom, rest))
    (choose (codes " proposal") bytes (λ rest. Some (Proposal, rest))
    (choose (codes " vote") bytes (λ rest. Some (OfVote, rest))
    (choose (codes " address") bytes (λ rest. Some (Address, rest)) None)))))

-- ---- replies, each behind its word and a space

unfoldable pub made_at : List ℕ → Reading Reply
made_at bytes = do
  dot ← dot_at bytes
  Some (Made dot.0, dot.1)

unfoldable pub held_at : List ℕ → Reading Reply
held_at bytes = do
  by ← dot_at bytes
  Some (Held by.0, by.1)

unfoldable pub position_at : List ℕ → Reading Reply
position_at bytes = do
  len ← short_at bytes
  Some (Position len.0, len.1)

unfoldable pub gone_at : List ℕ → Reading Reply
gone_at bytes = do
  id ← identity_at bytes
  Some (Gone id.0, id.1)

unfoldable pub limit_at : List ℕ → Reading Reply
limit_at bytes = do
  made ← short_at bytes
  rest ← after (codes " ") made.1
  undecided ← short_at rest
  Some (Limit made.0 undecided.0, undecided.1)

unfoldable pub not_open_at : List ℕ → Reading Reply
not_open_at bytes = do
  proposal ← dot_at bytes
  Some (NotOpen proposal.0, proposal.1)

unfoldable pub unfit_at : List ℕ → Reading Reply
unfit_at bytes = do
  why ← why_at bytes
  Some (Unfit why.0, why.1)

unfoldable pub taken_at : List ℕ → Reading Reply
taken_at bytes = do
  dot ← dot_at bytes
  Some (Taken dot.0, dot.1)

unfoldable pub dropped_at : List ℕ → Reading Reply
dropped_at bytes = do
  dot ← dot_at bytes
  why ← why_at dot.1
  Some (Dropped dot.0 why.0, why.1)

-- the reply to a message, or to what waits
unfoldable pub receipt_at : List ℕ → Reading Reply
receipt_at bytes =
    choose (codes " new") bytes (λ rest. Some (New, rest))
    (choose (codes " later") bytes (λ rest. Some (Later, rest))
    (choose (codes " repeat") bytes (λ rest. Some (Repeat, rest))
    (choose (codes " unfit") bytes unfit_at
    (choose (codes " taken ") bytes taken_at
    (choose (codes " dropped ") bytes dropped_at
    (choose (codes " idle") bytes (λ rest. Some (Idle, rest)) None))))))

unfoldable pub reply_at : List ℕ → Reading Reply
reply_at bytes =
    choose (codes " made ") bytes made_at
    (choose (codes " cancelled") bytes (λ rest. Some (Cancelled, rest))
    (choose (codes " held ") bytes held_at
    (choose (codes " position ") bytes position_at
    (choose (codes " gone ") bytes gone_at
    (choose (codes " limit ") bytes limit_at
    (choose (codes " notopen ") bytes not_open_at (receipt_at bytes)))))))
