use Rattle.std.proofs.Common.{List, sym, ap, ◌∙◌}
use Rattle.std.specs.List.{list_all}
use Rattle.td_clock.specs.Vector.{vector_has}
use Rattle.td_machine.specs.Log.{Committed}
use Rattle.td_machine.specs.Vote.{is_apart}
use Rattle.td_vote.proofs.Unseen.{only_unseen}
use Rattle.td_vote.proofs.site_commits.all_apart.Goals as goal

pub returns : goal.returns
returns g c =
    let v = c.args.v.now in
    let apart = λ (d : Committed). is_apart (g.D.Doc.rows c.args.doc.now) c.args.slot.now d in
    c.are_apart.ensures
    ∙ ap (λ (q : List Committed). list_all apart q) c.unseen.ensures
    ∙ sym (only_unseen (λ (d : Committed). vector_has v d.dot) apart c.args.of_site.now.commits.items)
