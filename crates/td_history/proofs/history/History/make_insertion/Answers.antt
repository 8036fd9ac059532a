use Rattle.std.proofs.Common.{◌++◌, ◌∷◌, [], ◌-◌, ap, arith}
use Rattle.td_op.specs.Op.{OpValue}
use Rattle.td_store.specs.Inserting.{inserting}
use Rattle.td_op.specs.declared.message.Message.TheVariants.{Op}
use Rattle.td_history.specs.declared.message.CompactMessage.{CompactMessage}
use Rattle.td_history.specs.Ramps.{RampsValue}
use Rattle.td_history.specs.Standing.{StandFor, IsGrown}
use Rattle.td_history.specs.Messages.{message_of}
use Rattle.td_history.specs.Entries.{entry_of}
use Rattle.td_history.specs.HistoryParts.{sent_of, entries_of}
use Rattle.td_history.proofs.Standing.{stand_push, stand_filter_map, grown_push, push_get}
use Rattle.td_history.proofs.Pasts.{told, sent_on, entries_on}
use Rattle.td_history.proofs.history.History.make_insertion.Goals as goal

-- the operation of the parts
abbrev added : goal.After-self-1 → OpValue
added c = inserting c.args.dot c.args.deps.now c.args.slot.now c.args.run.now

grown : (c : goal.After-self-1) → IsGrown c.self.inside.log.ops c.add_insertion-number.new.self.ops
grown c = rw (ap (λ l. l.ops) c.add_insertion-number.ensures.log) (grown_push c.self.inside.log.ops (added c))

sending : (c : goal.After-self-1)
    → StandFor (message_of c.add_insertion-number.new.self.ops) c.push.new.self.items
    (sent_of c.self.inside.log.ops c.self.inside.sent.items ++ Op (added c) ∷ [])
sending c =
    let kept = push_get c.self.inside.log.ops (added c) in
    rw (ap (λ (v : RampsValue CompactMessage). v.items) c.push.ensures)
    (stand_push _ _ _ _ _ (sent_on _ _ _ (grown c) c.self.invariant.sending)
    (rw (ap (λ l. l.ops) c.add_insertion-number.ensures.log, c.add_insertion-number.ensures.number, kept)))

entering : (c : goal.After-self-1)
    → StandFor (entry_of c.add_insertion-number.new.self.ops c.self.inside.entries) c.self.inside.entries.entries
    (entries_of c.self.inside.log.ops c.self.inside.entries)
entering c = entries_on _ _ c.self.inside.entries (grown c) c.self.invariant.entering

pub invariant_of-self : goal.invariant_of-self
invariant_of-self c =
    record {
      own = rw (ap (λ l. l.size) c.add_insertion-number.ensures.log) c.self.invariant.own;
      sending = told _ _ _ (sending c);
      entering = told _ _ _ (entering c);
      log_room = omega (arith, ap (λ l. l.room) c.add_insertion-number.ensures.log, c.self.invariant.log_room);
      sent_room = omega (
        arith,
        ap (λ (v : RampsValue CompactMessage). v.room) c.push.ensures,
        c.self.invariant.sent_room,
      );
      entries_room = omega (arith, c.self.invariant.entries_room);
    }

pub returns : goal.returns
returns c =
    rw (← c.self.view_is)
    (λ i. record {
      site = c.self.inside.site;
      size = (c.add_insertion-number.ensures.log i).size;
      ops = (c.add_insertion-number.ensures.log i).ops;
      log = (c.add_insertion-number.ensures.log i).log;
      sent = stand_filter_map _ _ _ (sending c) i;
      entries = stand_filter_map _ _ _ (entering c) i;
      room = c.self.inside.room - 1;
      room_site = (c.add_insertion-number.ensures.log i).room_site;
    })
