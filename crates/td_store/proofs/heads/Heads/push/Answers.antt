use Rattle.std.proofs.Common.{◌≡◌, ◌-◌, arith, ap, sym, ◌∙◌}
use Rattle.std.specs.Vec.{vec_capacity}
use Rattle.td_store.specs.declared.heads.CompactOp.{CompactOp}
use Rattle.td_store.specs.Lists.{OpsValue}
use Rattle.td_store.proofs.StoredHeads.{IsPushed, pushed, just_stored, Extend}
use Rattle.td_store.proofs.heads.Heads.push.Goals as goal

-- what the fields are in the end
all_pushed : (c : goal.After-self-1) → IsPushed c.self.inside.size (c.self.inside.room - 1)
    (vec_capacity c.push_reserved.new.self) c.push_reserved.new.self.items c.of-body.new.runs
    c.row_for-row.new.rows c.args.self.now.ops c.args.op.now
all_pushed c =
    let stored : CompactOp = record { dot = c.of-dot.result; row = c.row_for-row.result; body = c.of-body.result }
    in
    let size : c.self.inside.size ≡ c.args.self.now.size = ap (λ (v : OpsValue). v.size) c.self.view_is in
    let room : c.self.inside.room ≡ c.args.self.now.room = ap (λ (v : OpsValue). v.room) c.self.view_is in
    let extend : Extend c.self.inside.runs c.of-body.new.runs c.self.inside.rows c.row_for-row.new.rows = record {
      runs = c.of-body.ensures.runs;
      runs_room = c.of-body.ensures.room;
      rows = c.row_for-row.ensures.rows;
      rows_size = c.row_for-row.ensures.size;
      rows_room = c.row_for-row.ensures.room;
    } in
    rw (← c.self.view_is) (pushed c.self.inside.size c.self.inside.room _ _ c.self.inside.ops.items
    c.push_reserved.new.self.items c.self.inside.runs c.of-body.new.runs c.self.inside.rows
    c.row_for-row.new.rows stored c.args.op.now c.self.invariant
    (omega (arith, c.requires.room, room)) (omega (arith, c.push_reserved.ensures.capacity)) extend
    c.push_reserved.ensures.items
    (just_stored c.self.inside.size c.row_for-row.new.rows.rows c.of-body.new.runs.runs stored c.args.op.now
    c.dot.ensures.op (c.requires.size ∙ sym size) (c.of-dot.ensures ∙ c.dot-2.ensures.dot)
    c.row_for-row.ensures.within
    (rw (c.dot.ensures.dot, c.deps.ensures.deps) at c.row_for-row.ensures.deps)
    c.of-body.ensures.run (c.of-body.ensures.body ∙ c.body_ref.ensures.body)))

pub invariant_of-self : goal.invariant_of-self
invariant_of-self c = (all_pushed c).parts

pub returns-clause-ops : goal.returns-clause-ops
returns-clause-ops c = (all_pushed c).ops
