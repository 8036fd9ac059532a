use Rattle.std.proofs.Common.{◌≡◌, ◌≤◌, ◌+◌, ◌∷◌, Option, sym, ap, ◌∙◌, arith}
use Rattle.std.specs.Prelude.{is_some}
use Rattle.td_base.specs.Value.{DotValue}
use Rattle.td_op.specs.declared.body.Body.TheVariants.{Propose, Commit}
use Rattle.td_op.specs.declared.reply.Reply.TheVariants.{Made}
use Rattle.td_op.specs.Op.{OpValue}
use Rattle.td_doc.specs.Flatten.{flatten}
use Rattle.td_coord.specs.Tally.{put_ballot, started}
use Rattle.td_coord.proofs.Placed.{newest_not_found}
use Rattle.td_machine.specs.Decision.{Ballot}
use Rattle.td_machine.specs.Machine.{Machine, next_dot, next_op}
use Rattle.td_replica.specs.declared.state.Origin.TheVariants.{Here}
use Rattle.td_replica.specs.Parts.{StateValue, with_ballots, with_note}
use Rattle.td_replica.proofs.Deciding.{ballots_below, before_commit, proposal_undecided, proposed_alone}
use Rattle.td_replica.proofs.Kept.{flatten_leaves}
use Rattle.td_replica.proofs.Proposing.{propose_log}
use Rattle.td_replica.proofs.Stepping.{named_made}
use Rattle.td_replica.proofs.state.State.propose_alone.Goals as goal

pub next_op-op-requires-clause-named : goal.next_op-op-requires-clause-named
next_op-op-requires-clause-named g c =
    rw c.in_ok-reserve.ensures.same.machine
    (named_made c.args.self.now.machine c.requires.built (Propose c.args.slot.now) c.requires.may)

pub flatten-requires : goal.flatten-requires
flatten-requires g c =
    rw c.in_ok-reserve.ensures.same.machine
    (flatten_leaves c.args.self.now.machine c.requires.built c.args.slot.now c.requires.may)

pub open-requires-clause-new : goal.open-requires-clause-new
open-requires-clause-new g c =
    let m : Machine = c.args.self.now.machine in
    let same : c.reserve-2.new.self.machine ≡ m = c.in_ok-reserve.ensures.same.machine in
    let dot : c.dot-proposal.result ≡ next_dot m =
    c.dot-proposal.ensures.dot ∙ ap (λ (x : OpValue). x.dot) c.next_op-op.ensures ∙ ap next_dot same in
    let ballots : c.note.new.self.machine.ballots ≡ m.ballots =
    ap (λ (k : Machine). k.ballots) c.note.ensures.machine
    ∙ ap (λ (s : StateValue). s.machine.ballots) c.in_ok-flatten.ensures.ok
    ∙ ap (λ (k : Machine). k.ballots) same in
    rw (dot, ballots)
    (ap (λ (o : Option Ballot). is_some o)
    (newest_not_found (next_dot m) m.ballots (ballots_below m c.requires.built)))

pub note-requires-2-clause-decides : goal.note-requires-2-clause-decides
note-requires-2-clause-decides g c =
    let m : Machine = c.args.self.now.machine in
    let same : c.reserve-2.new.self.machine ≡ m = c.in_ok-reserve.ensures.same.machine in
    let op : c.next_op-op.result ≡ next_op m (Propose c.args.slot.now) =
    c.next_op-op.ensures ∙ ap (λ (k : Machine). next_op k (Propose c.args.slot.now)) same in
    let dot : c.dot-proposal.result ≡ next_dot m = c.dot-proposal.ensures.dot ∙ ap (λ (x : OpValue). x.dot) op in
    let log : c.open.new.self.machine.log ≡ next_op m (Propose c.args.slot.now) ∷ m.log =
    ap (λ (s : StateValue). s.machine.log) c.open.ensures
    ∙ ap (λ (k : Machine). k.log) c.note.ensures.machine
    ∙ (λ i. op i ∷ (ap (λ (s : StateValue). s.machine.log) c.in_ok-flatten.ensures.ok
    ∙ ap (λ (k : Machine). k.log) same) i) in
    rw (log, c.next_op-commit.ensures, dot) (proposal_undecided m c.requires.built c.args.slot.now)

pub returns-clause-ok : goal.returns-clause-ok
returns-clause-ok g c =
    let m : Machine = c.args.self.now.machine in
    let p : DotValue = next_dot m in
    let same : c.reserve-2.new.self.machine ≡ m = c.in_ok-reserve.ensures.same.machine in
    let op : c.next_op-op.result ≡ next_op m (Propose c.args.slot.now) =
    c.next_op-op.ensures ∙ ap (λ (k : Machine). next_op k (Propose c.args.slot.now)) same in
    let dot : c.dot-proposal.result ≡ p = c.dot-proposal.ensures.dot ∙ ap (λ (x : OpValue). x.dot) op in
    let flat : c.flatten.new.self.machine ≡ record m { doc = flatten c.args.slot.now m.doc } =
    ap (λ (s : StateValue). s.machine) c.in_ok-flatten.ensures.ok
    ∙ ap (λ (k : Machine). record k { doc = flatten c.args.slot.now k.doc }) same in
    let noted : c.note.new.self.machine
    ≡ with_note Here (next_op m (Propose c.args.slot.now)) (record m { doc = flatten c.args.slot.now m.doc }) =
    c.note.ensures.machine ∙ (λ i. with_note Here (op i) (flat i)) in
    let opened : c.open.new.self.machine ≡ before_commit m c.requires.built c.args.slot.now =
    ap (λ (s : StateValue). s.machine) c.open.ensures
    ∙ (λ i. with_ballots (put_ballot (started (noted i).size (noted i).site (dot i)) (noted i).ballots) (noted i)) in
    let enough : 8 ≤ c.reserve-2.new.self.room.things = c.in_ok-reserve.ensures.ok.things in
    let flat_kept : c.flatten.new.self.room.things ≡ c.reserve-2.new.self.room.things =
    ap (λ (s : StateValue). s.room.things) c.in_ok-flatten.ensures.ok in
    let less : c.note.new.self.room.things + 1 ≡ c.flatten.new.self.room.things = c.note.ensures.things in
    let left : c.open.new.self.room.things ≡ c.note.new.self.room.things =
    ap (λ (s : StateValue). s.room.things) c.open.ensures in
    let last : c.note-2.new.self.room.things + 1 ≡ c.open.new.self.room.things = c.note-2.ensures.things in
    record {
      reply = ap Made dot;
      machine = c.note-2.ensures.machine
          ∙ ap (λ (x : OpValue). with_note Here x c.open.new.self.machine) c.next_op-commit.ensures
          ∙ (λ i. with_note Here (next_op (opened i) (Commit (dot i))) (opened i))
          ∙ proposed_alone m c.requires.built c.args.slot.now c.requires.alone;
      entries = c.note-2.ensures.entries ∙ ap (λ (s : StateValue). s.entries) c.open.ensures
          ∙ c.note.ensures.entries
          ∙ ap (λ (s : StateValue). s.entries) c.in_ok-flatten.ensures.ok ∙ c.in_ok-reserve.ensures.same.entries;
      change = sym (propose_log m c.args.slot.now);
      room = omega (arith, enough, flat_kept, less, left, last);
      number = tt;
    }
