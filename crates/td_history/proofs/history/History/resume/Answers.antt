use Rattle.std.proofs.Common.{ap, arith}
use Rattle.td_history.specs.Standing.{StandFor, IsGrown}
use Rattle.td_history.specs.Messages.{message_of}
use Rattle.td_history.specs.Entries.{entry_of}
use Rattle.td_history.specs.HistoryParts.{sent_of, entries_of}
use Rattle.td_history.proofs.Standing.{grown_none}
use Rattle.td_history.proofs.Pasts.{told, sent_on, entries_on}
use Rattle.td_history.proofs.history.History.resume.Goals as goal

grown : (c : goal.After-self-1) → IsGrown c.self.inside.log.ops c.resume.new.self.ops
grown c = rw c.resume.ensures (grown_none c.self.inside.log.ops)

sending : (c : goal.After-self-1)
    → StandFor (message_of c.resume.new.self.ops) c.self.inside.sent.items
    (sent_of c.self.inside.log.ops c.self.inside.sent.items)
sending c = sent_on _ _ _ (grown c) c.self.invariant.sending

entering : (c : goal.After-self-1)
    → StandFor (entry_of c.resume.new.self.ops c.self.inside.entries) c.self.inside.entries.entries
    (entries_of c.self.inside.log.ops c.self.inside.entries)
entering c = entries_on _ _ c.self.inside.entries (grown c) c.self.invariant.entering

pub invariant_of-self : goal.invariant_of-self
invariant_of-self c =
    record {
      own = rw c.resume.ensures c.self.invariant.own;
      sending = told _ _ _ (sending c);
      entering = told _ _ _ (entering c);
      log_room = omega (arith, ap (λ v. v.room) c.resume.ensures, c.self.invariant.log_room);
      sent_room = omega (arith, c.self.invariant.sent_room);
      entries_room = omega (arith, c.self.invariant.entries_room);
    }
