use Rattle.std.proofs.Common.{◌∙◌, ◌-◌, arith}
use Rattle.td_history.specs.Logs.{IsLog, log_of}
use Rattle.td_history.proofs.Standing.{grown_push}
use Rattle.td_history.proofs.Logs.{log_grown, log_is, as_told}
use Rattle.td_history.proofs.log.Log.keep.Goals as goal

after : (c : goal.After-self-1)
    → IsLog c.self.inside.size c.push.new.self.ops c.self.inside.numbers.items c.self.inside.index.lists
    (log_of c.self.inside.ops.ops c.self.inside.numbers.items)
after c =
    log_grown _ c.self.inside.ops.ops _ _ _ _ (rw c.push.ensures.ops (grown_push c.self.inside.ops.ops c.args.op.now))
    c.self.invariant.log

pub invariant_of-self : goal.invariant_of-self
invariant_of-self c =
    record {
      log = as_told _ _ _ _ _ (after c);
      size = c.push.ensures.size ∙ c.self.invariant.size;
      site = c.self.invariant.site;
      ops_room = omega (arith, c.push.ensures.room, c.self.invariant.ops_room);
      numbers_room = omega (arith, c.self.invariant.numbers_room);
      index_room = omega (arith, c.self.invariant.index_room);
    }

pub returns-clause-log : goal.returns-clause-log
returns-clause-log c =
    rw (← c.self.view_is)
    (λ i. record {
      size = c.self.inside.size;
      ops = c.push.ensures.ops i;
      log = log_is _ _ _ _ _ (after c) i;
      room = c.self.inside.room - 1;
      room_site = c.self.inside.index.room_site;
    })
