use Rattle.std.proofs.Common.{◌≡◌, ◌<◌, ℕ, List, sym, ap, subst, ◌∙◌, if◌then◌else◌}
use Rattle.std.proofs.lemmas.Result.{on_ok_weaker, on_err_weaker}
use Rattle.std.specs.List.{HoldsAt}
use Rattle.td_machine.specs.Log.{Committed, commit_at}
use Rattle.td_vote.specs.Commits.{put_commit, CommitsValue}
use Rattle.td_vote.specs.BySite.{all_commits, HasRoom}
use Rattle.td_vote.proofs.BySite.{no_place, used_up}
use Rattle.td_vote.proofs.by_site.Commits.put.Goals as goal

pub returns-clause-ok : goal.returns-clause-ok
returns-clause-ok c =
    let commit = commit_at c.args.dot c.args.slot in
    let was : all_commits c.self.inside.sites.items ≡ c.args.self.now.commits =
    ap (λ (v : CommitsValue). v.commits) c.self.view_is in
    on_ok_weaker c.put_at.result
    (λ (h : all_commits c.put_at.new.sites.items ≡ put_commit commit (all_commits c.reach.new.sites.items)).
    h ∙ ap (λ (q : List Committed). put_commit commit q) (c.reach.ensures.same ∙ was)) c.put_at.ensures.ok

pub returns-clause-err : goal.returns-clause-err
returns-clause-err c =
    let was : all_commits c.self.inside.sites.items ≡ c.args.self.now.commits =
    ap (λ (v : CommitsValue). v.commits) c.self.view_is in
    on_err_weaker c.put_at.result
    (λ (h : all_commits c.put_at.new.sites.items ≡ all_commits c.reach.new.sites.items).
    h ∙ c.reach.ensures.same ∙ was) c.put_at.ensures.err

pub returns-clause-memory : goal.returns-clause-memory
returns-clause-memory c =
    let has = c.self.inside.has_place in
    let is : (if has then 1 else 0) ≡ c.args.self.now.places = ap (λ (v : CommitsValue). v.places) c.self.view_is in
    on_err_weaker c.put_at.result
    (λ (full : HoldsAt HasRoom c.reach.new.sites.items c.in_ok-place.place → ⊥).
    sym is
    ∙ no_place has (λ yes.
    let p = c.self.invariant.place yes in full (c.in_ok-place.ensures.room p.more p.first))) c.put_at.ensures.full

pub returns-clause-place : goal.returns-clause-place
returns-clause-place c = λ some.
    let has = c.self.inside.has_place in
    let is : (if has then 1 else 0) ≡ c.args.self.now.places = ap (λ (v : CommitsValue). v.places) c.self.view_is in
    used_up has (subst (λ (n : ℕ). 0 < n) (sym is) some) ∙ is
