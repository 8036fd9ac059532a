use Rattle.std.proofs.Common.{◌≡◌, ◌≢◌, ◌≤◌, [], List, length}
use Rattle.td_live.specs.Following.{Act, Leads, Rest, calls_left}
use Rattle.td_live.proofs.agenda.Agenda.next.Given as goal

abbrev pub invariant-loop-next : goal.invariant-loop-next
invariant-loop-next l = record {
  leads : (first : Rest) (acts : List Act) → Leads first acts l.fn.self → Leads first acts l.self;
  calls : calls_left l.self ≤ calls_left l.fn.self;
  same : l.fn.self.asks ≢ [] → l.self ≡ l.fn.self;
}

abbrev pub decreases-loop-next : goal.decreases-loop-next
decreases-loop-next l = length l.self.lines
