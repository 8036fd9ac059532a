use Rattle.std.proofs.Common.{List, sym, subst}
use Rattle.std.specs.List.{AllZip}
use Rattle.logbook.specs.Pages.{Book}
use Rattle.td_line.specs.Lines.{LineValue}
use Rattle.td_room.specs.Rooms.{Joined}
use Rattle.td_room.proofs.Leaving.{ended}
use Rattle.td_room.proofs.worker.Worker.end.Goals as goal

pub leave-requires-clause-lines : goal.leave-requires-clause-lines
leave-requires-clause-lines g c =
    subst (λ (x : Book × List LineValue). AllZip (Joined x.0) x.1 c.args.editors.items)
    (λ i. (sym c.give_all.ensures.later.site.views i, sym c.give_all.ensures.lines i)) c.requires

pub returns : goal.returns
returns g c =
    ended c.args.self c.give_all.new.self c.args.editors.items c.in_ok-left.left.0 c.in_ok-left.left.1
    c.in_ok-left.left.2
    c.give_all.ensures.later c.in-Ok.ensures.given c.in_ok-left.ensures.left c.in_ok-left.ensures.peers
