use Rattle.std.proofs.Common.{◌≡◌, ◌<◌, sym, ap, subst, length, List}
use Rattle.std.proofs.lemmas.Result.{on_ok_weaker}
use Rattle.td_line.specs.Lines.{LineValue, Turned}
use Rattle.td_room.specs.Workers.{WorkerValue}
use Rattle.td_room.specs.Walk.{SoFar}
use Rattle.td_room.specs.Turns.{TurnedLine}
use Rattle.td_room.proofs.Walks.{so_far_next}
use Rattle.td_room.proofs.Working.{served_worker, served_later}
use Rattle.td_room.proofs.worker.Worker.serve_one.Goals as goal

pub invariant_of-self : goal.invariant_of-self
invariant_of-self g c =
    let ls : List LineValue = c.self.inside.lines.items in
    let l : c.args.i < length ls =
    subst (λ (xs : List LineValue). c.args.i < length xs) (sym (ap (λ (w : WorkerValue). w.lines) c.self.view_is))
    c.requires in
    served_worker c.self.inside.site c.serve.new.site ls c.self.inside.peers.items c.args.i c.index_mut-line.result.now
    c.serve.new.self c.serve.ensures.served l c.index_mut-line.ensures.value c.self.invariant

pub returns-clause-later : goal.returns-clause-later
returns-clause-later g c =
    rw (← c.self.view_is)
    (served_later c.self.inside.site c.serve.new.site c.self.inside.lines.items c.self.inside.peers.items c.args.i
    c.index_mut-line.result.now c.serve.new.self c.serve.ensures.served c.index_mut-line.ensures.value)

pub returns-clause-turned : goal.returns-clause-turned
returns-clause-turned g c =
    let ls : List LineValue = c.self.inside.lines.items in
    let e : ls ≡ c.args.self.now.lines = ap (λ (w : WorkerValue). w.lines) c.self.view_is in
    let l : c.args.i < length ls = subst (λ (xs : List LineValue). c.args.i < length xs) (sym e) c.requires in
    on_ok_weaker c.serve.result
    (λ (t : Turned c.index_mut-line.result.now c.serve.new.self) (before : List LineValue) h.
    so_far_next TurnedLine c.args.i before ls c.index_mut-line.result.now c.serve.new.self l
    c.index_mut-line.ensures.value
    (record { turned = t; one = c.serve.ensures.one })
    (subst (λ (xs : List LineValue). SoFar TurnedLine c.args.i before xs) (sym e) h))
    c.serve.ensures.turned
