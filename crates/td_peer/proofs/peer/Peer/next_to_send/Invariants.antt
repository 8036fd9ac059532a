use Rattle.std.proofs.Common.{◌≡◌, length}
use Rattle.td_peer.specs.Serving.{Serves}
use Rattle.td_peer.proofs.peer.Peer.next_to_send.Given as goal

abbrev pub invariant-loop : goal.invariant-loop
invariant-loop g l = record {
  serves : Serves l.fn.replica.machine.sent l.self;
  counted : l.self.dealt ≡ l.counter;
  ends : l.end ≡ length l.fn.replica.machine.sent;
  same : l.self ≡ record l.fn.self {
    dealt = l.self.dealt;
    addressed = l.self.addressed;
    again = l.self.again;
  };
}
