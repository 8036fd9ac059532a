use Rattle.std.proofs.Common.{◌≡◌, ◌++◌, ◌∷◌, [], ◌-◌, ap, arith, length}
use Rattle.std.specs.Vec.{vec_capacity}
use Rattle.td_store.specs.Lists.{RunsValue}
use Rattle.td_store.proofs.StoredRuns.{IsPushed, pushed}
use Rattle.td_store.proofs.runs.Runs.push.Goals as goal

-- what the fields are in the end
all_pushed : (c : goal.After-self-1) → IsPushed c.push_stored.new.bytes.items c.push.new.self.items
    c.args.self.now.runs c.args.run.now (c.self.inside.room - 1) (vec_capacity c.push_stored.new.bytes)
    (vec_capacity c.push.new.self)
all_pushed c =
    let at_end : c.len.result ≡ length c.self.inside.bytes.items = omega arith in
    let starts : c.push.new.self.items ≡ c.self.inside.starts.items
    ++ length c.self.inside.bytes.items ∷ [] = rw (c.unwrap.ensures, at_end) at c.push.ensures.items in
    let room : c.self.inside.room ≡ c.args.self.now.room = ap (λ (v : RunsValue). v.room) c.self.view_is in
    rw (← c.self.view_is) (pushed c.self.inside.bytes.items c.self.inside.starts.items c.push_stored.new.bytes.items
    c.push.new.self.items c.args.run.now c.self.inside.room _ _ _ _
    c.self.invariant c.push_stored.ensures.run (omega (arith, c.requires, room)) c.push_stored.ensures.capacity
    c.push.ensures.capacity c.push_stored.ensures.items starts)

pub invariant_of-self : goal.invariant_of-self
invariant_of-self c = (all_pushed c).parts

pub returns-clause-runs : goal.returns-clause-runs
returns-clause-runs c = (all_pushed c).runs
