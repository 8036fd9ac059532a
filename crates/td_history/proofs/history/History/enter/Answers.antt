use Rattle.std.proofs.Common.{◌++◌, ◌∷◌, [], ◌-◌, sym, subst, arith}
use Rattle.std.specs.Prelude.{IfSome}
use Rattle.td_history.specs.Past.{Past, IsDoneAs}
use Rattle.td_history.specs.Standing.{StandFor}
use Rattle.td_history.specs.Entries.{entry_of}
use Rattle.td_history.specs.HistoryParts.{sent_of, entries_of}
use Rattle.td_history.proofs.Standing.{stand_filter_map}
use Rattle.td_history.proofs.Pasts.{told}
use Rattle.td_history.proofs.history.History.enter.Goals as goal

entering : (c : goal.After-self-1)
    → StandFor (entry_of c.self.inside.log.ops c.push.new.self) c.push.new.self.entries
    (entries_of c.self.inside.log.ops c.self.inside.entries
    ++ record { input = c.args.input.now; reply = c.args.reply.now } ∷ [])
entering c =
    c.push.ensures.entries _
    (subst (λ (past : Past). IfSome c.args.number (IsDoneAs past.ops c.args.input.now)) (sym c.self.view_is)
    c.requires.done)
    c.self.invariant.entering

pub invariant_of-self : goal.invariant_of-self
invariant_of-self c =
    record {
      own = c.self.invariant.own;
      sending = c.self.invariant.sending;
      entering = told _ _ _ (entering c);
      log_room = omega (arith, c.self.invariant.log_room);
      sent_room = omega (arith, c.self.invariant.sent_room);
      entries_room = omega (arith, c.push.ensures.room, c.self.invariant.entries_room);
    }

pub returns : goal.returns
returns c =
    rw (← c.self.view_is)
    (λ i. record {
      site = c.self.inside.site;
      size = c.self.inside.log.size;
      ops = c.self.inside.log.ops;
      log = c.self.inside.log.log;
      sent = sent_of c.self.inside.log.ops c.self.inside.sent.items;
      entries = stand_filter_map _ _ _ (entering c) i;
      room = c.self.inside.room - 1;
      room_site = c.self.inside.log.room_site;
    })
