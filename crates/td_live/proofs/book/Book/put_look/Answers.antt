use Rattle.td_live.proofs.Booking.{calls_more_look}
use Rattle.td_live.proofs.book.Book.put_look.Goals as goal

pub invariant_of-self-2 : goal.invariant_of-self-2
invariant_of-self-2 c =
    calls_more_look c.self.inside.did c.push.new.self c.self.inside.calls c.self.inside.calls c.args.upto c.args.text
    c.self.invariant c.in_ok-push.ensures.ok
