use Rattle.std.proofs.Common.{◌≡◌, ap, subst, length, List}
use Rattle.td_view.specs.declared.publish.Publish.{Publish}
use Rattle.td_view.specs.Values.{ToldValue}
use Rattle.td_site.specs.Sites.{SiteValue}
use Rattle.td_site.specs.Shows.{UptoAtLeast}
use Rattle.td_room.specs.Workers.{WorkerValue}
use Rattle.td_room.proofs.Working.{worker_then}
use Rattle.td_room.proofs.Turning.{turned}
use Rattle.td_room.proofs.worker.Worker.take_turn.Goals as goal

pub returns-in_err-hear_all-clause-later : goal.returns-in_err-hear_all-clause-later
returns-in_err-hear_all-clause-later g c =
    worker_then c.args.self.now c.serve_all.new.self c.hear_all.new.self c.serve_all.ensures.later
    c.hear_all.ensures.later

pub returns-clause-later : goal.returns-clause-later
returns-clause-later g c =
    worker_then c.args.self.now c.hear_all.new.self c.tell_all.new.self
    (worker_then c.args.self.now c.serve_all.new.self c.hear_all.new.self c.serve_all.ensures.later
    c.hear_all.ensures.later)
    c.tell_all.ensures.later

pub returns-clause-turned : goal.returns-clause-turned
returns-clause-turned g c =
    let z : WorkerValue = c.tell_all.new.self in
    let f : c.self.inside.site ≡ z.site = ap (λ (w : WorkerValue). w.site) c.self.view_is in
    let list : c.told-shown.result.list ≡ c.self.inside.site.writer.publishes =
    ap (λ (t : ToldValue). t.list) c.told-shown.ensures.told in
    let shown : UptoAtLeast z.site.writer.publishes (length z.site.replica.entries) =
    subst (λ (s : SiteValue). UptoAtLeast s.writer.publishes (length s.replica.entries)) f
    (subst (λ (l : List Publish). UptoAtLeast l (length c.self.inside.site.replica.entries)) list
    c.told-shown.ensures.upto) in
    turned c.args.self.now c.serve_all.new.self c.hear_all.new.self z c.serve_all.ensures.later.site
    c.serve_all.ensures.peers
    c.in_ok-serve_all.ensures.turned c.hear_all.ensures.lines c.in_ok-hear_all.ensures.caught_up
    c.in_ok-hear_all.ensures.heard
    c.tell_all.ensures.same.0 c.tell_all.ensures.same.1 c.tell_all.ensures.told shown
