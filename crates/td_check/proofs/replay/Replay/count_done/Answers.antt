use Rattle.std.proofs.Common.{◌≡◌, ◌<◌, ◌≤◌, ◌+◌, List, ℕ, length, get_or, set, ap, sym, subst, ◌∙◌}
use Rattle.td_law_replay.specs.Traced.{site_entries}
use Rattle.td_check.specs.ReplayParts.{IsReplayParts}
use Rattle.td_check.specs.Sites.{ReplayValue, done_of, histories_of}
use Rattle.td_check.proofs.Placing.{with_one_more, done_any}
use Rattle.td_check.proofs.replay.Replay.count_done.Goals as goal

pub invariant_of-self : goal.invariant_of-self
invariant_of-self g c =
    let made = c.self.inside.made in
    let r : ReplayValue = record {
      trace = c.self.inside.trace.now;
      machines = c.self.inside.seats.items;
      done = c.self.inside.done.items;
    } in
    let place = c.place-place.ensures.place in
    let within : c.args.site ≤ r.trace.sites =
    subst (λ (q : ReplayValue). c.args.site ≤ q.trace.sites) (sym c.self.view_is) c.requires.within in
    let left : done_of r c.args.site < length (site_entries (histories_of r) c.args.site) =
    subst (λ (q : ReplayValue). done_of q c.args.site < length (site_entries (histories_of q) c.args.site))
    (sym c.self.view_is) c.requires.left in
    let now : c.index_mut.result.now ≡ done_of r c.args.site =
    c.index_mut.ensures.value
    ∙ ap (λ (k : ℕ). get_or r.done k c.index_mut.result.now) place
    ∙ done_any made r c.self.invariant c.args.site within c.index_mut.result.now in
    subst (λ (done : List ℕ). IsReplayParts made (record r { done = done }))
    (λ i. set r.done (sym place i) (sym now i + 1))
    (with_one_more made r c.self.invariant c.args.site c.place-place.ensures.least within left)
