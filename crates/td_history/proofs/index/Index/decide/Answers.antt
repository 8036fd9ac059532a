use Rattle.std.proofs.Common.{◌≡◌, ◌≤◌, ◌<◌, ◌-◌, length, arith, ap, sym, refl}
use Rattle.std.proofs.lemmas.List.{length-map, set_past}
use Rattle.td_history.specs.Index.{decided_in}
use Rattle.td_history.proofs.Places.{replaced, not_within}
use Rattle.td_history.proofs.index.Index.decide.Goals.{in-Some, in_default}
use Rattle.td_history.proofs.index.Index.decide.Goals as goal

pub returns-clause-lists : goal.returns-clause-lists
returns-clause-lists c =
    elim c.match-get_mut.branch [
      | in-Some w ↦
          let seq : c.proposal.inside.seq ≡ c.args.proposal.seq = ap (λ d. d.seq) c.proposal.view_is in
          let site : c.proposal.inside.site ≡ c.args.proposal.site = ap (λ d. d.site) c.proposal.view_is in
          let got = w.in-Some.ensures in
          let within : c.place.result < length c.self.inside.lists.items =
          omega (arith, got.variant.0 refl, c.self.inside.lists.ok.0) in
          rw (w.self-inside-is, ← site, ← seq, ← c.place.ensures.place, ← c.self.view_is)
          (replaced _ (decided_in (c.proposal.inside.seq - 1) c.args.yes) _ _ w.in-Some.list.now _ within got.value
          w.decide_in.ensures.items)
      | in_default w ↦
          let site : c.proposal.inside.site ≡ c.args.proposal.site = ap (λ d. d.site) c.proposal.view_is in
          let past : length c.self.inside.lists.items ≤ c.place.result =
          omega (arith, not_within _ _ w.in_default.ensures.variant.1, c.self.inside.lists.ok.0) in
          rw (w.self-inside-is, ← site, ← c.place.ensures.place, ← c.self.view_is)
          (sym (set_past _ _ _ (rw length-map past)))
    ]
