use Rattle.std.proofs.Common.{◌≡◌, ◌≢◌, ◌∙◌, [], length, sym, subst, ap}
use Rattle.td_machine.specs.Machine.{Machine}
use Rattle.td_replica.specs.Replica.{ReplicaValue}
use Rattle.td_seat.specs.Seat.{IsSeat, IsOutlined}
use Rattle.td_seat.proofs.Resuming.{up_bare, up_seat}
use Rattle.td_seat.proofs.seat.Seat.resume.Goals as goal

pub invariant_of-self-2 : goal.invariant_of-self-2
invariant_of-self-2 g c =
    let r = c.self.inside.replica in
    let o = c.self.inside.outlines in
    let w = c.self.inside.waiting in
    let q = c.step_of.new.replica in
    let x = c.args.op.now in
    let outlined = subst (λ (m : Machine). IsOutlined x m) (sym c.self.view_is) c.requires.outline in
    let sized : length x.deps ≡ r.machine.size = c.requires.sized ∙ ap (λ (m : Machine). m.size) (sym c.self.view_is) in
    let apart : x.dot.site ≢ r.machine.site =
    λ e. c.requires.apart (e ∙ ap (λ (m : Machine). m.site) c.self.view_is) in
    let bare : q.machine.waiting ≡ [] =
    ap (λ (s : ReplicaValue). s.machine.waiting) c.in_ok-reply.ensures.ok
    ∙ up_bare r.machine o w c.self.invariant.stored x c.self.invariant.bare outlined sized apart in
    subst (λ ws. IsSeat q o ws) (sym c.remove.ensures)
    (up_seat r q o w c.dot.result c.self.invariant bare c.step_of.ensures.size)
