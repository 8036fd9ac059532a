use Rattle.std.proofs.Common.{◌≡◌, ◌++◌, ◌∷◌, [], ◌-◌, ◌∙◌, ℕ, ap, sym, subst, arith}
use Rattle.td_op.specs.Op.{OpValue}
use Rattle.td_store.specs.Inserting.{inserting}
use Rattle.td_history.specs.Past.{IsNextIn}
use Rattle.td_history.specs.Logs.{IsLog, log_of}
use Rattle.td_history.specs.Ramps.{RampsValue}
use Rattle.td_history.proofs.Standing.{grown_push, push_get}
use Rattle.td_history.proofs.Logs.{log_after, log_is, as_told}
use Rattle.td_history.proofs.log.Log.add_insertion.Goals as goal

-- the operation of the parts
abbrev added : goal.After-self-1 → OpValue
added c = inserting c.args.dot c.args.deps.now c.args.slot.now c.args.run.now

after : (c : goal.After-self-1)
    → IsLog c.self.inside.size c.push_insertion.new.self.ops c.push.new.self.items c.push-2.new.self.lists
    (added c ∷ log_of c.self.inside.ops.ops c.self.inside.numbers.items)
after c =
    let l = c.self.inside in
    let next = subst (λ v. IsNextIn v.size v.room_site v.log (added c)) (sym c.self.view_is) c.requires.next in
    let numbers : c.push.new.self.items ≡ l.numbers.items ++ c.len-number.result ∷ [] =
    ap (λ (v : RampsValue ℕ). v.items) c.push.ensures in
    log_after _ l.ops.ops _ _ _ _ _ _ (added c) c.len-number.result l.index.room_site c.self.invariant.log
    (rw c.push_insertion.ensures.ops (grown_push l.ops.ops (added c)))
    (rw (c.push_insertion.ensures.ops, c.len-number.ensures) (push_get l.ops.ops (added c)))
    next c.push-2.ensures.some c.self.invariant.site tt numbers c.push-2.ensures.lists

pub invariant_of-self : goal.invariant_of-self
invariant_of-self c =
    record {
      log = as_told _ _ _ _ _ (after c);
      size = c.push_insertion.ensures.size ∙ c.self.invariant.size;
      site = omega (arith, c.push-2.ensures.site, c.self.invariant.site);
      ops_room = omega (arith, c.push_insertion.ensures.room, c.self.invariant.ops_room);
      numbers_room = omega (
        arith,
        ap (λ (v : RampsValue ℕ). v.room) c.push.ensures,
        c.self.invariant.numbers_room,
      );
      index_room = omega (arith, c.push-2.ensures.room, c.self.invariant.index_room);
    }

pub returns-clause-log : goal.returns-clause-log
returns-clause-log c =
    rw (← c.self.view_is)
    (λ i. record {
      size = c.self.inside.size;
      ops = c.push_insertion.ensures.ops i;
      log = log_is _ _ _ _ _ (after c) i;
      room = c.self.inside.room - 1;
      room_site = c.push-2.ensures.site i;
    })
