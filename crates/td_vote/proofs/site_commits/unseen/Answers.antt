use Rattle.std.proofs.Common.{List, not, drop, filter, sym, ap, subst, ◌∙◌, rules}
use Rattle.std.proofs.lemmas.List.{take_rest}
use Rattle.td_clock.specs.Vector.{vector_has}
use Rattle.td_machine.specs.Log.{Committed}
use Rattle.td_vote.specs.Commits.{IsOfSite}
use Rattle.td_vote.proofs.Unseen.{had_first, unseen_last}
use Rattle.td_vote.proofs.site_commits.unseen.Goals as goal

pub count_had-had-requires : goal.count_had-had-requires
count_had-had-requires c =
    let of : IsOfSite c.args.of_site.now.site c.deref.result.now =
    subst (IsOfSite c.args.of_site.now.site) (sym c.deref.ensures.value) c.requires in
    had_first c.args.v.now c.args.of_site.now.site c.deref.result.now of

pub returns : goal.returns
returns c =
    let had = λ (d : Committed). vector_has c.args.v.now d.dot in
    let is = c.deref.ensures.value in
    let n = c.count_had-had.result in
    take_rest c.deref-2.result.now n
    ∙ ap (λ (q : List Committed). drop n q) (c.deref-2.ensures.value ∙ sym is)
    ∙ unseen_last had c.deref.result.now n c.count_had-had.ensures.few c.count_had-had.ensures.had
    ∙ ap (λ (q : List Committed). filter (λ (d : Committed). not (had d)) q) is
