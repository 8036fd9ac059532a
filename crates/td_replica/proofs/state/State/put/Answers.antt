use Rattle.std.proofs.Common.{◌∙◌, ap, length}
use Rattle.td_op.specs.declared.body.Body.TheVariants.{Insert}
use Rattle.td_replica.specs.Parts.{StateValue}
use Rattle.td_replica.proofs.Kept.{made_keeps}
use Rattle.td_replica.proofs.Putting.{put_step, put_text}
use Rattle.td_replica.proofs.Stepping.{next_made, fresh_made, named_made}
use Rattle.td_replica.proofs.state.State.put.Goals as goal

pub put_run-requires-clause-keeps : goal.put_run-requires-clause-keeps
put_run-requires-clause-keeps g c =
    rw (c.next_dot-dot.ensures, c.in_ok-reserve.ensures.same.machine)
    (made_keeps c.args.self.now.machine c.requires.built (Insert c.args.slot.now c.args.run.now) tt c.requires.may)

pub put_run-requires-clause-fresh : goal.put_run-requires-clause-fresh
put_run-requires-clause-fresh g c =
    rw (c.next_dot-dot.ensures, c.in_ok-reserve.ensures.same.machine)
    (fresh_made c.args.self.now.machine c.requires.built (Insert c.args.slot.now c.args.run.now) c.requires.may)

pub note_insertion-requires-clause-next : goal.note_insertion-requires-clause-next
note_insertion-requires-clause-next g c =
    rw (c.in_ok-put_run.ensures.ok, c.next_dot-dot.ensures, c.in_ok-reserve.ensures.same.machine)
    (next_made c.args.self.now.machine c.requires.built (Insert c.args.slot.now c.args.run.now) c.requires.may)

pub note_insertion-requires-clause-named : goal.note_insertion-requires-clause-named
note_insertion-requires-clause-named g c =
    rw (c.in_ok-put_run.ensures.ok, c.in_ok-reserve.ensures.same.machine)
    (named_made c.args.self.now.machine c.requires.built (Insert c.args.slot.now c.args.run.now) c.requires.may)

pub returns-clause-ok : goal.returns-clause-ok
returns-clause-ok g c =
    put_step c.args.slot.now c.args.run.now c.next_dot-dot.result c.kept-number.result c.args.self.now
    c.reserve-2.new.self c.put_run.new.self c.note_insertion.new.self
    (record {
      same = c.in_ok-reserve.ensures.same;
      room = c.in_ok-reserve.ensures.ok.things;
      is_number = c.kept-number.ensures ∙ ap (λ (s : StateValue). length s.ops) c.self.view_is;
      is_dot = c.next_dot-dot.ensures;
      is_put = c.in_ok-put_run.ensures.ok;
      machine = c.note_insertion.ensures.machine;
      entries = c.note_insertion.ensures.entries;
      ops = c.note_insertion.ensures.ops;
      things = c.note_insertion.ensures.things;
    })

pub returns-clause-number : goal.returns-clause-number
returns-clause-number g c =
    put_text c.args.slot.now c.args.run.now c.next_dot-dot.result c.kept-number.result c.args.self.now
    c.reserve-2.new.self c.put_run.new.self c.note_insertion.new.self
    (record {
      same = c.in_ok-reserve.ensures.same;
      room = c.in_ok-reserve.ensures.ok.things;
      is_number = c.kept-number.ensures ∙ ap (λ (s : StateValue). length s.ops) c.self.view_is;
      is_dot = c.next_dot-dot.ensures;
      is_put = c.in_ok-put_run.ensures.ok;
      machine = c.note_insertion.ensures.machine;
      entries = c.note_insertion.ensures.entries;
      ops = c.note_insertion.ensures.ops;
      things = c.note_insertion.ensures.things;
    })
