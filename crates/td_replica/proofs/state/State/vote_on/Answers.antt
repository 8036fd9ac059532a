use Rattle.std.proofs.Common.{ℕ, List, ◌∙◌, sym, ap, subst}
use Rattle.std.specs.Prelude.{IsTrue}
use Rattle.td_path.specs.declared.slot.Slot.TheVariants.{Root}
use Rattle.td_doc.specs.Slots.{is_known}
use Rattle.td_machine.specs.Log.{Committed, commits}
use Rattle.td_machine.specs.Vote.{votes_yes}
use Rattle.td_machine.specs.Taking.{vote_on}
use Rattle.td_machine.proofs.Knowing.{rows_known}
use Rattle.td_vote.specs.ByPlace.{AreHeldApart}
use Rattle.td_vote.proofs.Commits.{votes_in_order}
use Rattle.td_replica.specs.Parts.{StateValue}
use Rattle.td_replica.proofs.Kept.{held_apart}
use Rattle.td_replica.proofs.state.State.vote_on.Goals as goal

pub judge-requires-clause-known : goal.judge-requires-clause-known
judge-requires-clause-known g c =
    subst (λ (s : StateValue). IsTrue (is_known s.machine.doc Root s.machine.have)) (sym c.self.view_is)
    (rows_known c.args.self.now.machine c.requires.built)

pub judge-requires-clause-placed : goal.judge-requires-clause-placed
judge-requires-clause-placed g c = record {
  apart = subst (λ (s : StateValue). AreHeldApart s.machine.doc s.machine.holds) (sym c.self.view_is)
      (held_apart c.args.self.now.machine c.requires.built);
  order = c.self.invariant.kept.order;
}

pub returns : goal.returns
returns g c =
    c.judge.ensures
    ∙ ap
    (λ (deps : List ℕ).
    votes_yes (g.D.Doc.rows c.self.inside.doc) c.self.inside.holds.holds c.self.inside.holds.commits
    c.args.slot.now deps)
    c.deps.ensures.deps
    ∙ ap
    (λ (cs : List Committed).
    votes_yes (g.D.Doc.rows c.self.inside.doc) c.self.inside.holds.holds cs c.args.slot.now c.args.op.now.deps)
    c.self.invariant.commits
    ∙ votes_in_order (g.D.Doc.rows c.self.inside.doc) c.self.inside.holds.holds (commits c.self.inside.past.log)
    c.args.slot.now c.args.op.now.deps
    ∙ ap (λ (s : StateValue). vote_on c.args.op.now c.args.slot.now s.machine) c.self.view_is
