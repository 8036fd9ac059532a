use Rattle.std.proofs.Common.{◌∙◌, ℕ, List, sym, ap, subst}
use Rattle.std.specs.List.{AllZip}
use Rattle.td_line.specs.Editors.{EditorValue}
use Rattle.td_room.specs.Workers.{WorkerValue}
use Rattle.td_room.specs.Rooms.{Joined, editors_of}
use Rattle.td_room.specs.Ending.{FirstJoined}
use Rattle.td_room.proofs.closing.end_next.Goals as goal

pub end-requires : goal.end-requires
end-requires g c =
    let w : WorkerValue = c.first_worker-worker.result in
    let es : List EditorValue = c.args.editors.items in
    let f : AllZip (Joined w.site.writer.views) w.lines (editors_of w.site.replica.machine.site es) =
    subst (λ (ws : List WorkerValue). FirstJoined ws es) c.first_worker-worker.ensures c.requires.joined in
    subst (λ (xs : List EditorValue). AllZip (Joined w.site.writer.views) w.lines xs)
    (sym (c.in-Ok.ensures.own ∙ ap (λ (k : ℕ). editors_of k es) c.home-home.ensures)) f
