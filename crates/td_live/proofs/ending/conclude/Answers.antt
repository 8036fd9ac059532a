use Rattle.std.proofs.Common.{sym, subst}
use Rattle.td_world.specs.World.{WorldValue}
use Rattle.td_world.specs.Promises.{NobodyReady}
use Rattle.td_live.proofs.Closed.{can_all, homes_there, concluded}
use Rattle.td_live.proofs.ending.conclude.Goals as goal

pub bring_all_up-requires : goal.bring_all_up-requires
bring_all_up-requires g c =
    can_all c.args.workers.items c.args.desks.items c.in_ok-replicas.field-0.replicas.items
    c.in_ok-replicas.field-0.answers.items
    c.in-Ok.editors.items c.in-Ok.books.items c.requires c.in-Ok.ensures.editors c.in-Ok.ensures.books
    c.in-Ok.ensures.desks
    c.in_ok-replicas.ensures.sites c.in_ok-replicas.ensures.all c.in_ok-replicas.ensures.answered

pub wind_up-requires-clause-homes : goal.wind_up-requires-clause-homes
wind_up-requires-clause-homes g c =
    homes_there c.args.workers.items c.args.desks.items c.in_ok-replicas.field-0.replicas.items
    c.in_ok-replicas.field-0.answers.items
    c.in-Ok.editors.items c.in-Ok.books.items c.requires c.in-Ok.ensures.editors c.in-Ok.ensures.books
    c.in-Ok.ensures.desks
    c.in_ok-replicas.ensures.sites c.in_ok-replicas.ensures.all c.in_ok-replicas.ensures.answered
    c.in_ok-books.books.items
    c.in_ok-world.world c.in_ok-books.ensures c.in_ok-world.ensures.sites c.in_ok-replicas.ensures.only
    c.in_ok-replicas.ensures.looks

pub wind_up-requires-clause-nobody : goal.wind_up-requires-clause-nobody
wind_up-requires-clause-nobody g c =
    subst (λ (w : WorldValue). NobodyReady w) (sym c.in_ok-world.ensures.sites) c.in_ok-replicas.ensures.nobody

pub returns : goal.returns
returns g c =
    concluded c.args.workers.items c.args.desks.items c.in_ok-replicas.field-0.replicas.items
    c.in_ok-replicas.field-0.answers.items
    c.in-Ok.editors.items c.in-Ok.books.items c.requires c.in-Ok.ensures.editors c.in-Ok.ensures.books
    c.in-Ok.ensures.desks
    c.in_ok-replicas.ensures.sites c.in_ok-replicas.ensures.all c.in_ok-replicas.ensures.answered
    c.in_ok-books.books.items
    c.in_ok-world.world c.in_ok-books.ensures c.in_ok-world.ensures.sites c.in_ok-replicas.ensures.only
    c.in_ok-replicas.ensures.looks c.in_ok-bytes.bytes c.in_ok-replicas.ensures.goes_on c.in_ok-bytes.ensures
