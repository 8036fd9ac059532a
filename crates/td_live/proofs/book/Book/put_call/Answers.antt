use Rattle.std.proofs.Common.{refl}
use Rattle.td_live.proofs.Booking.{calls_more_call}
use Rattle.td_live.proofs.book.Book.put_call.Goals as goal

pub invariant_of-self-2 : goal.invariant_of-self-2
invariant_of-self-2 c =
    calls_more_call c.self.inside.did c.push.new.self c.self.inside.calls c.in_ok-call.call c.in_ok-call.call
    c.args.entry
    c.self.invariant c.in_ok-call.ensures refl c.in_ok-push.ensures.ok
