use Rattle.std.proofs.Common.{◌++◌, ◌∷◌, [], ◌-◌, Some, ap, arith}
use Rattle.td_op.specs.declared.message.Message.TheVariants.{Vote}
use Rattle.td_history.specs.declared.message.CompactMessage.{CompactMessage}
use Rattle.td_history.specs.Ramps.{RampsValue}
use Rattle.td_history.specs.Standing.{StandFor}
use Rattle.td_history.specs.Messages.{message_of}
use Rattle.td_history.specs.HistoryParts.{sent_of, entries_of}
use Rattle.td_history.proofs.Standing.{stand_push, stand_filter_map}
use Rattle.td_history.proofs.Pasts.{told}
use Rattle.td_history.proofs.history.History.vote.Goals as goal

sending : (c : goal.After-self-1)
    → StandFor (message_of c.self.inside.log.ops) c.push.new.self.items
    (sent_of c.self.inside.log.ops c.self.inside.sent.items
    ++ Vote (record { proposal = c.args.proposal; voter = c.self.inside.site; yes = c.args.yes }) ∷ [])
sending c =
    rw (ap (λ (v : RampsValue CompactMessage). v.items) c.push.ensures)
    (stand_push _ _ _ _ _ c.self.invariant.sending (ap (λ v. Some (Vote v)) c.new-vote.ensures))

pub invariant_of-self : goal.invariant_of-self
invariant_of-self c =
    record {
      own = c.self.invariant.own;
      sending = told _ _ _ (sending c);
      entering = c.self.invariant.entering;
      log_room = omega (arith, c.self.invariant.log_room);
      sent_room = omega (
        arith,
        ap (λ (v : RampsValue CompactMessage). v.room) c.push.ensures,
        c.self.invariant.sent_room,
      );
      entries_room = omega (arith, c.self.invariant.entries_room);
    }

pub returns : goal.returns
returns c =
    rw (← c.self.view_is)
    (λ i. record {
      site = c.self.inside.site;
      size = c.self.inside.log.size;
      ops = c.self.inside.log.ops;
      log = c.self.inside.log.log;
      sent = stand_filter_map _ _ _ (sending c) i;
      entries = entries_of c.self.inside.log.ops c.self.inside.entries;
      room = c.self.inside.room - 1;
      room_site = c.self.inside.log.room_site;
    })
