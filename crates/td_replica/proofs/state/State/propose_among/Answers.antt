use Rattle.std.proofs.Common.{◌≡◌, ◌≤◌, ◌+◌, Option, sym, ap, ◌∙◌, arith}
use Rattle.std.specs.Prelude.{is_some}
use Rattle.td_base.specs.Value.{DotValue}
use Rattle.td_op.specs.declared.body.Body.TheVariants.{Propose}
use Rattle.td_op.specs.declared.reply.Reply.TheVariants.{Made}
use Rattle.td_op.specs.Op.{OpValue}
use Rattle.td_coord.specs.Tally.{put_ballot, started}
use Rattle.td_coord.proofs.Placed.{newest_not_found}
use Rattle.td_machine.specs.Decision.{Ballot}
use Rattle.td_machine.specs.Machine.{Machine, next_dot, next_op}
use Rattle.td_machine.specs.Making.{hold}
use Rattle.td_replica.specs.declared.state.Origin.TheVariants.{Here}
use Rattle.td_replica.specs.Parts.{StateValue, with_ballots, with_note}
use Rattle.td_replica.proofs.Deciding.{ballots_below, proposed_among}
use Rattle.td_replica.proofs.Kept.{proposing_holds}
use Rattle.td_replica.proofs.Proposing.{propose_log}
use Rattle.td_replica.proofs.Stepping.{next_made, named_made}
use Rattle.td_replica.proofs.state.State.propose_among.Goals as goal

pub next_op-op-requires-clause-named : goal.next_op-op-requires-clause-named
next_op-op-requires-clause-named g c =
    rw c.in_ok-reserve.ensures.same.machine
    (named_made c.args.self.now.machine c.requires.built (Propose c.args.slot.now) c.requires.may)

pub note-requires-clause-next : goal.note-requires-clause-next
note-requires-clause-next g c =
    rw (c.next_op-op.ensures, c.in_ok-reserve.ensures.same.machine)
    (next_made c.args.self.now.machine c.requires.built (Propose c.args.slot.now) c.requires.may)

pub hold-requires-clause-may : goal.hold-requires-clause-may
hold-requires-clause-may g c =
    rw (c.note.ensures.machine, c.next_op-op.ensures, c.in_ok-reserve.ensures.same.machine)
    (proposing_holds c.args.self.now.machine c.requires.built c.args.slot.now c.requires.may)

pub open-requires-clause-new : goal.open-requires-clause-new
open-requires-clause-new g c =
    let m : Machine = c.args.self.now.machine in
    let same : c.reserve-2.new.self.machine ≡ m = c.in_ok-reserve.ensures.same.machine in
    let dot : c.dot-2.result ≡ next_dot m =
    c.dot-2.ensures.dot ∙ ap (λ (x : OpValue). x.dot) c.next_op-op.ensures ∙ ap next_dot same in
    let ballots : c.hold.new.self.machine.ballots ≡ m.ballots =
    ap (λ (s : StateValue). s.machine.ballots) c.hold.ensures
    ∙ ap (λ (k : Machine). k.ballots) c.note.ensures.machine ∙ ap (λ (k : Machine). k.ballots) same in
    rw (dot, ballots)
    (ap (λ (o : Option Ballot). is_some o)
    (newest_not_found (next_dot m) m.ballots (ballots_below m c.requires.built)))

pub returns-clause-ok : goal.returns-clause-ok
returns-clause-ok g c =
    let m : Machine = c.args.self.now.machine in
    let p : DotValue = next_dot m in
    let same : c.reserve-2.new.self.machine ≡ m = c.in_ok-reserve.ensures.same.machine in
    let op : c.next_op-op.result ≡ next_op m (Propose c.args.slot.now) =
    c.next_op-op.ensures ∙ ap (λ (k : Machine). next_op k (Propose c.args.slot.now)) same in
    let dot : c.dot.result ≡ p = c.dot.ensures.dot ∙ ap (λ (x : OpValue). x.dot) op in
    let dot2 : c.dot-2.result ≡ p = c.dot-2.ensures.dot ∙ ap (λ (x : OpValue). x.dot) op in
    let dot3 : c.dot-3.result ≡ p = c.dot-3.ensures.dot ∙ ap (λ (x : OpValue). x.dot) op in
    let noted : c.note.new.self.machine ≡ with_note Here (next_op m (Propose c.args.slot.now)) m =
    c.note.ensures.machine ∙ (λ i. with_note Here (op i) (same i)) in
    let held :
    c.hold.new.self.machine ≡ hold p c.args.slot.now (with_note Here (next_op m (Propose c.args.slot.now)) m) =
    ap (λ (s : StateValue). s.machine) c.hold.ensures ∙ (λ i. hold (dot i) c.args.slot.now (noted i)) in
    let enough : 8 ≤ c.reserve-2.new.self.room.things = c.in_ok-reserve.ensures.ok.things in
    let less : c.note.new.self.room.things + 1 ≡ c.reserve-2.new.self.room.things = c.note.ensures.things in
    let kept : c.hold.new.self.room.things ≡ c.note.new.self.room.things =
    ap (λ (s : StateValue). s.room.things) c.hold.ensures in
    let left : c.open.new.self.room.things ≡ c.hold.new.self.room.things =
    ap (λ (s : StateValue). s.room.things) c.open.ensures in
    record {
      reply = ap Made dot3;
      machine = ap (λ (s : StateValue). s.machine) c.open.ensures
          ∙ (λ i.
          with_ballots (put_ballot (started (held i).size (held i).site (dot2 i)) (held i).ballots) (held i))
          ∙ proposed_among m c.requires.built c.args.slot.now c.requires.several;
      entries = ap (λ (s : StateValue). s.entries) c.open.ensures ∙ ap (λ (s : StateValue). s.entries) c.hold.ensures
          ∙ c.note.ensures.entries ∙ c.in_ok-reserve.ensures.same.entries;
      change = sym (propose_log m c.args.slot.now);
      room = omega (arith, enough, less, kept, left);
      number = tt;
    }
