use Rattle.std.proofs.Common.{sym, ◌∙◌}
use Rattle.td_peer.proofs.Taking.{later_taken, hears_taken, took_or_empty, none_of}
use Rattle.td_peer.proofs.peer.Peer.take_packet.Goals as goal

pub returns-clause-later : goal.returns-clause-later
returns-clause-later g c =
    rw (← c.self.view_is) (later_taken _ _ _ c.next_message-self-inside.ensures.taken)

pub returns-clause-hears : goal.returns-clause-hears
returns-clause-hears g c =
    rw (← c.self.view_is)
    (λ entries h.
    hears_taken entries _ _ _ _ _ (none_of _ (sym c.if-is_some.false ∙ c.is_some.ensures))
    c.next_message-self-inside.ensures.taken h)

pub returns-clause-took : goal.returns-clause-took
returns-clause-took g c =
    rw (← c.self.view_is) (took_or_empty _ _ _ c.next_message-self-inside.ensures.taken)
