use Rattle.std.proofs.Common.{◌≡◌, ◌≤◌, Some, None, refl, sym, ap, ◌∙◌, subst, arith}
use Rattle.std.specs.Prelude.{find}
use Rattle.td_op.specs.declared.reply.Reply.TheVariants.{New}
use Rattle.td_op.specs.declared.vote.Vote.{Vote}
use Rattle.td_coord.specs.Tally.{voted}
use Rattle.td_machine.specs.Decision.{Ballot, is_on}
use Rattle.td_machine.specs.Machine.{Machine}
use Rattle.td_machine.specs.Taking.{Stepped}
use Rattle.td_replica.specs.Parts.{StateValue, with_ballots}
use Rattle.td_replica.specs.Steps.{IsStep}
use Rattle.td_replica.proofs.Deciding.{vote_waits}
use Rattle.td_replica.proofs.Stepping.{change_none}
use Rattle.td_replica.specs.declared.last_change.LastChange.TheVariants.{Nothing}
use Rattle.td_replica.proofs.state.State.only_count.Goals as goal

pub returns-clause-ok : goal.returns-clause-ok
returns-clause-ok g c =
    let m : Machine = c.args.self.now.machine in
    let v : Vote = c.args.vote.now in
    let b : Ballot = c.requires.may.ballot in
    let same : c.reserve-2.new.self.machine ≡ m = c.in_ok-reserve.ensures.same.machine in
    let found : find (is_on v.proposal) c.reserve-2.new.self.machine.ballots ≡ Some b =
    ap (λ (k : Machine). find (is_on v.proposal) k.ballots) same ∙ c.requires.may.found in
    let counted = c.count.ensures b found in
    let enough : 8 ≤ c.reserve-2.new.self.room.things = c.in_ok-reserve.ensures.ok.things in
    let left : c.count.new.self.room.things ≡ c.reserve-2.new.self.room.things =
    ap (λ (s : StateValue). s.room.things) counted in
    subst
    (λ (s : Stepped). IsStep s c.args.self.now c.count.new.self
    (record { reply = New; change = Nothing; number = None }))
    (sym (vote_waits m c.requires.built v c.requires.may (c.requires.waits b c.requires.may.found).1))
    (record {
      reply = refl;
      machine = ap (λ (s : StateValue). s.machine) counted
          ∙ ap (λ (k : Machine). with_ballots (voted k.size v b k.ballots) k) same;
      entries = ap (λ (s : StateValue). s.entries) counted ∙ c.in_ok-reserve.ensures.same.entries;
      change = sym (change_none m (with_ballots (voted m.size v b m.ballots) m) refl);
      room = omega (arith, enough, left);
      number = tt;
    })
