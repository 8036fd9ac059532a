use Rattle.std.proofs.Common.{◌≡◌, ◌-◌, arith, ap, sym, ◌∙◌}
use Rattle.std.specs.Vec.{vec_capacity}
use Rattle.td_op.specs.Op.{OpValue}
use Rattle.td_store.specs.declared.heads.CompactOp.{CompactOp}
use Rattle.td_store.specs.Inserting.{inserting}
use Rattle.td_store.specs.Lists.{OpsValue}
use Rattle.td_store.proofs.StoredHeads.{IsPushed, pushed, just_stored, Extend}
use Rattle.td_store.proofs.heads.Heads.push_insertion.Goals as goal

-- the operation of the parts
abbrev added : goal.After-self-1 → OpValue
added c = inserting c.args.dot c.args.deps.now c.args.slot.now c.args.run.now

-- what the fields are in the end
all_pushed : (c : goal.After-self-1) → IsPushed c.self.inside.size (c.self.inside.room - 1)
    (vec_capacity c.push_reserved.new.self) c.push_reserved.new.self.items c.insertion-body.new.runs
    c.row_for-row.new.rows c.args.self.now.ops (added c)
all_pushed c =
    let stored : CompactOp = record {
      dot = c.of-dot.result;
      row = c.row_for-row.result;
      body = c.insertion-body.result;
    } in
    let size : c.self.inside.size ≡ c.args.self.now.size = ap (λ (v : OpsValue). v.size) c.self.view_is in
    let room : c.self.inside.room ≡ c.args.self.now.room = ap (λ (v : OpsValue). v.room) c.self.view_is in
    let extend : Extend c.self.inside.runs c.insertion-body.new.runs c.self.inside.rows c.row_for-row.new.rows =
    record {
      runs = c.insertion-body.ensures.runs;
      runs_room = c.insertion-body.ensures.room;
      rows = c.row_for-row.ensures.rows;
      rows_size = c.row_for-row.ensures.size;
      rows_room = c.row_for-row.ensures.room;
    } in
    rw (← c.self.view_is) (pushed c.self.inside.size c.self.inside.room _ _ c.self.inside.ops.items
    c.push_reserved.new.self.items c.self.inside.runs c.insertion-body.new.runs c.self.inside.rows
    c.row_for-row.new.rows stored (added c) c.self.invariant
    (omega (arith, c.requires.room, room)) (omega (arith, c.push_reserved.ensures.capacity)) extend
    c.push_reserved.ensures.items
    (just_stored c.self.inside.size c.row_for-row.new.rows.rows c.insertion-body.new.runs.runs stored (added c)
    c.requires.op (c.requires.size ∙ sym size) c.of-dot.ensures
    c.row_for-row.ensures.within c.row_for-row.ensures.deps c.insertion-body.ensures.run c.insertion-body.ensures.body))

pub invariant_of-self : goal.invariant_of-self
invariant_of-self c = (all_pushed c).parts

pub returns-clause-ops : goal.returns-clause-ops
returns-clause-ops c = (all_pushed c).ops
