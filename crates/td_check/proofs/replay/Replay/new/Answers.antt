use Rattle.std.proofs.Common.{◌≡◌, ◌≤◌, ◌-◌, List, ℕ, arith, length, ap, refl, replicate, ◌∙◌}
use Rattle.std.proofs.lemmas.List.{length-replicate}
use Rattle.td_law_replay.specs.Traced.{site_entries}
use Rattle.td_check.specs.States.{states_in, done_in}
use Rattle.td_check.proofs.States.{none_done}
use Rattle.td_check.proofs.Starting.{all_begun}
use Rattle.td_check.proofs.replay.Replay.new.Goals as goal

pub returns-clause-begun : goal.returns-clause-begun
returns-clause-begun g c =
    let t = c.args.trace.now in
    let machines = c.in_ok-seats_of.field-0.items in
    let done : c.in_ok-vec.field-0.items ≡ replicate c.from.result 0 =
    c.in_ok-vec.ensures.items_if_clones_equal (λ y same. same) in (
      refl,
      ap (λ (d : List ℕ). states_in t.histories machines d) done
          ∙ all_begun t c.sites.ensures.value machines c.sites.result c.sites.ensures.sites c.in_ok-seats_of.ensures
          c.from.result,
    )

pub returns-clause-none : goal.returns-clause-none
returns-clause-none g c =
    let done : c.in_ok-vec.field-0.items ≡ replicate c.from.result 0 =
    c.in_ok-vec.ensures.items_if_clones_equal (λ y same. same) in
    λ site. ap (λ (d : List ℕ). done_in d site) done ∙ none_done c.from.result (site - 1)

pub invariant_of-result : goal.invariant_of-result
invariant_of-result g c =
    let done : c.in_ok-vec.field-0.items ≡ replicate c.from.result 0 =
    c.in_ok-vec.ensures.items_if_clones_equal (λ y same. same) in
    let sites = c.sites.ensures.sites in
    record {
      trace = c.sites.ensures.value;
      some = c.requires;
      told = c.in_ok-made_of.ensures;
      each_machine = c.in_ok-seats_of.ensures.each ∙ sites;
      each_done = ap (λ (d : List ℕ). length d) done ∙ length-replicate c.from.result 0 ∙ c.from.ensures
          ∙ c.sites-2.ensures.sites;
      within = λ site some most. no_more (done_in c.in_ok-vec.field-0.items site)
          (length (site_entries c.args.trace.now.histories site))
          (ap (λ (d : List ℕ). done_in d site) done ∙ none_done c.from.result (site - 1));
    }
  where
    no_more : (k n : ℕ) → k ≡ 0 → k ≤ n
    no_more k n e = omega (arith, e)
