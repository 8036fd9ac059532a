use Rattle.std.proofs.Common.{◌≡◌, sym, subst, ◌-◌, ◌∷◌, Some, arith}
use Rattle.std.specs.List.{slice_get}
use Rattle.td_history.specs.Past.{IsNextIn}
use Rattle.td_history.specs.Logs.{IsLog, log_of}
use Rattle.td_history.proofs.Standing.{grown_none}
use Rattle.td_history.proofs.Logs.{log_after, log_is, as_told}
use Rattle.td_history.proofs.log.Log.resume.Goals as goal

after : (c : goal.After-self-1)
    → IsLog c.self.inside.size c.self.inside.ops.ops c.note.new.numbers.items c.note.new.index.lists
    (c.args.op.now ∷ log_of c.self.inside.ops.ops c.self.inside.numbers.items)
after c =
    let l = c.self.inside in
    let kept = subst (λ v. slice_get v.ops c.args.number ≡ Some c.args.op.now) (sym c.self.view_is) c.requires.kept in
    let next = subst (λ v. IsNextIn v.size v.room_site v.log c.args.op.now) (sym c.self.view_is) c.requires.next in
    log_after _ l.ops.ops _ _ _ _ _ _ c.args.op.now c.args.number l.index.room_site c.self.invariant.log
    (grown_none l.ops.ops) kept
    next c.note.ensures.some c.self.invariant.site c.note.ensures.dot c.note.ensures.numbers c.note.ensures.lists

pub invariant_of-self : goal.invariant_of-self
invariant_of-self c =
    record {
      log = as_told _ _ _ _ _ (after c);
      size = c.self.invariant.size;
      site = omega (arith, c.note.ensures.site, c.self.invariant.site);
      ops_room = omega (arith, c.self.invariant.ops_room);
      numbers_room = omega (arith, c.note.ensures.numbers_room, c.self.invariant.numbers_room);
      index_room = omega (arith, c.note.ensures.room, c.self.invariant.index_room);
    }

pub returns : goal.returns
returns c =
    rw (← c.self.view_is)
    (λ i. record {
      size = c.self.inside.size;
      ops = c.self.inside.ops.ops;
      log = log_is _ _ _ _ _ (after c) i;
      room = c.self.inside.room - 1;
      room_site = c.note.ensures.site i;
    })
