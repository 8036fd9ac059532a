use Rattle.std.proofs.Common.{List, length, map, subst, sym}
use Rattle.std.specs.List.{AllZip}
use Rattle.td_room.specs.Rooms.{AreOfOneRoom}
use Rattle.td_room.specs.Workers.{WorkerValue, LaterWorker}
use Rattle.td_script.specs.declared.live.editor_line.EditorLine.{EditorLine}
use Rattle.td_live.specs.Desks.{DeskValue, HasDoneLines, LaterDesk}
use Rattle.td_live.specs.Ending.{IsLiveEnd}
use Rattle.td_live.specs.Live.{IsTraceAmong}
use Rattle.td_live.specs.Seating.{homes_of}
use Rattle.td_live.proofs.Seats.{all_lent, room_after, traced_after}
use Rattle.td_live.proofs.Turns.{if_ok}
use Rattle.td_live.proofs.live.in_room.Goals as goal

pub conclude-requires : goal.conclude-requires
conclude-requires g c =
    let worked : AllZip LaterWorker c.args.workers.items c.work.new.workers =
    subst (λ (ws : List WorkerValue). AllZip LaterWorker ws c.work.new.workers) c.deref_mut.ensures.value
    c.work.ensures.workers in
    let turned : AllZip LaterDesk c.in-Ok.desks.items c.work.new.desks =
    subst (λ (ds : List DeskValue). AllZip LaterDesk ds c.work.new.desks) c.deref_mut-2.ensures.value
    c.work.ensures.desks in
    let ws = all_lent LaterWorker c.work.new.workers c.args.workers.items c.args.workers.len c.args.workers.ok.0
    worked in
    let ds = all_lent LaterDesk c.work.new.desks c.in-Ok.desks.items c.in-Ok.desks.len c.in-Ok.desks.ok.0 turned in
    subst (λ (x : List WorkerValue × List DeskValue). AreOfOneRoom x.0 (map (λ (d : DeskValue). d.editor) x.1))
    (λ i. (sym ws i, sym ds i))
    (room_after c.args.workers.items c.work.new.workers c.args.editors.items c.args.lines.items c.in-Ok.desks.items
    c.work.new.desks c.requires.room c.requires.can c.in-Ok.ensures worked turned)

pub returns : goal.returns
returns g c =
    let worked : AllZip LaterWorker c.args.workers.items c.work.new.workers =
    subst (λ (ws : List WorkerValue). AllZip LaterWorker ws c.work.new.workers) c.deref_mut.ensures.value
    c.work.ensures.workers in
    let turned : AllZip LaterDesk c.in-Ok.desks.items c.work.new.desks =
    subst (λ (ds : List DeskValue). AllZip LaterDesk ds c.work.new.desks) c.deref_mut-2.ensures.value
    c.work.ensures.desks in
    let ws = all_lent LaterWorker c.work.new.workers c.args.workers.items c.args.workers.len c.args.workers.ok.0
    worked in
    let ds = all_lent LaterDesk c.work.new.desks c.in-Ok.desks.items c.in-Ok.desks.len c.in-Ok.desks.ok.0 turned in
    if_ok _ (IsTraceAmong (length c.args.workers.items) (homes_of c.args.editors.items) c.args.lines.items)
    c.conclude.result
    (λ bytes ended.
    traced_after c.args.workers.items c.work.new.workers c.args.editors.items c.args.lines.items c.in-Ok.desks.items
    c.work.new.desks bytes c.requires.can c.in-Ok.ensures worked turned
    (subst (λ (x : List WorkerValue × List DeskValue). (ls : List (List EditorLine)) → AllZip HasDoneLines ls x.1
    → IsLiveEnd x.0 ls x.1 bytes) (λ i. (ws i, ds i)) ended))
    c.conclude.ensures
