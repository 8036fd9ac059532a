use Rattle.std.proofs.Common.{◌≡◌, ◌∙◌, ◌++◌, ◌∷◌, [], List, sym, ap, subst}
use Rattle.std.specs.List.{AllByRecursion, AllZip}
use mathlib.Core.List.{IsPrefix}
use Rattle.td_replica.specs.Replica.{ReplicaValue, IsReplica}
use Rattle.td_view.specs.declared.publish.Publish.{Publish}
use Rattle.td_view.specs.Publishes.{again, EndsWith}
use Rattle.td_view.specs.Values.{ReaderValue, WriterValue, ToldValue}
use Rattle.td_site.specs.Sites.{SiteValue}
use Rattle.td_site.specs.Shows.{IsTrueOf}
use Rattle.td_peer.specs.Peers.{PeerState}
use Rattle.td_room.specs.Workers.{WorkerValue}
use Rattle.td_room.specs.Rooms.{Joined}
use Rattle.td_room.specs.Ending.{IsLeft}
use Rattle.td_room.proofs.Looks.{joined_watch, to_readers}
use Rattle.td_room.proofs.Leaving.{left}
use Rattle.td_room.proofs.worker.Worker.leave.Goals as goal

pub end_lines-requires-clause-joined : goal.end_lines-requires-clause-joined
end_lines-requires-clause-joined g c =
    subst (λ (w : WorkerValue). AllZip (Joined w.site.writer.views) w.lines c.args.editors.items) (sym c.self.view_is)
    c.requires.lines

pub end_lines-requires-clause-late : goal.end_lines-requires-clause-late
end_lines-requires-clause-late g c = ap (λ (w : WorkerValue). w.site.late) c.self.view_is ∙ c.requires.caught_up.late

pub end_views-requires-clause-views : goal.end_views-requires-clause-views
end_views-requires-clause-views g c =
    let s : SiteValue = c.self.inside.site in
    let joined = subst (λ (w : WorkerValue). AllZip (Joined w.site.writer.views) w.lines c.args.editors.items)
    (sym c.self.view_is) c.requires.lines in
    let same : c.parts-replica.result.1.views ≡ s.writer.views =
    ap (λ (w : WriterValue). w.views) c.parts-replica.ensures.parts.1 ∙ c.catch_up.ensures.later.views
    ∙ c.end_lines.ensures.later.views in
    to_readers (λ (r : ReaderValue). r.views ≡ c.parts-replica.result.1.views) c.args.editors.items
    c.in-Ok.readers.items
    c.in-Ok.ensures.readers
    (joined_watch s.writer.views c.parts-replica.result.1.views c.self.inside.lines.items c.args.editors.items same
    joined)

pub returns-clause-left : goal.returns-clause-left
returns-clause-left g c =
    let w : WorkerValue = record {
      site = c.self.inside.site;
      lines = c.self.inside.lines.items;
      peers = c.self.inside.peers.items;
    } in
    let t : SiteValue = c.end_lines.new.site in
    let u : SiteValue = c.catch_up.new.self in
    let r : ReplicaValue = c.parts-replica.result.0 in
    let same : r ≡ u.replica = c.parts-replica.ensures.parts.0 in
    let writer : c.parts-replica.result.1 ≡ u.writer = c.parts-replica.ensures.parts.1 in
    let i : IsReplica u.replica = subst (λ (x : ReplicaValue). IsReplica x) c.replica.ensures
    c.entries.ensures.replica in
    let true : AllByRecursion (IsTrueOf u.replica) u.writer.publishes =
    subst (λ (x : ReplicaValue × WriterValue). AllByRecursion (IsTrueOf x.0) x.1.publishes) (λ j. (same j, writer j))
    c.parts-replica.ensures.looks_true in
    let ends : EndsWith u.writer.publishes u.writer.shown =
    subst (λ (x : List Publish × Publish). EndsWith x.0 x.1)
    (λ j. (
      (ap (λ (z : ToldValue). z.list) c.told.ensures.told ∙ ap (λ (z : WriterValue). z.publishes) writer) j,
      (writer j).shown,
    ))
    c.told.ensures.last in
    let seen : AllByRecursion (λ (x : ReaderValue). IsPrefix x.seen
    (u.writer.publishes ++ again u.writer.shown 1 ∷ [])) c.in-Ok.readers.items =
    subst (λ (z : WriterValue). AllByRecursion (λ (x : ReaderValue). IsPrefix x.seen
    (z.publishes ++ again z.shown 1 ∷ [])) c.in-Ok.readers.items) writer
    c.in_ok-end_views.ensures in
    let one : IsLeft w c.args.editors.items u.replica c.in-Ok.answers w.peers =
    left w c.args.editors.items t u c.in-Ok.answers c.in-Ok.readers.items c.self.invariant.connected
    c.end_lines.ensures.later c.end_lines.ensures.only c.catch_up.ensures.later c.catch_up.ensures.nexts i
    c.in-Ok-catch_up.ensures.ready c.in-Ok.ensures.answered c.in-Ok.ensures.counted c.in-Ok.ensures.readers true ends
    seen in
    subst (λ (x : WorkerValue × ReplicaValue × List PeerState). IsLeft x.0 c.args.editors.items x.1 c.in-Ok.answers x.2)
    (λ j. (c.self.view_is j, sym same j, sym c.of.ensures j)) one

pub returns-clause-peers : goal.returns-clause-peers
returns-clause-peers g c = c.of.ensures ∙ ap (λ (w : WorkerValue). w.peers) c.self.view_is
