use Rattle.std.proofs.Common.{◌≡◌, ◌≤◌, ◌+◌, ◌++◌, List, [], ◌∷◌, length, Some, None, refl, sym, ap, ◌∙◌, subst, arith}
use Rattle.std.specs.Prelude.{find, slice_get}
use Rattle.td_op.specs.Op.{OpValue}
use Rattle.td_op.specs.declared.body.Body.{Body}
use Rattle.td_op.specs.declared.reply.Reply.TheVariants.{New}
use Rattle.td_op.specs.declared.vote.Vote.{Vote}
use Rattle.td_coord.specs.Tally.{voted}
use Rattle.td_machine.specs.Decision.{Ballot, is_on}
use Rattle.td_machine.specs.Machine.{Machine, next_op}
use Rattle.td_machine.specs.Shown.{change_by}
use Rattle.td_machine.specs.Taking.{Stepped}
use Rattle.td_replica.specs.declared.state.Origin.TheVariants.{Here, There}
use Rattle.td_replica.specs.LastChange.{change_of}
use Rattle.td_replica.specs.Parts.{StateValue, with_ballots, with_effect, with_note}
use Rattle.td_replica.specs.Steps.{IsStep}
use Rattle.td_replica.proofs.Deciding.{counting_open, open_room, due_named, due_fresh}
use Rattle.td_replica.proofs.Deciding.{due_next, due_undecided, vote_decides}
use Rattle.td_replica.proofs.Noting.{found_from}
use Rattle.td_replica.proofs.Kept.{due_keeps}
use Rattle.td_replica.proofs.Stepping.{change_once}
use Rattle.td_replica.proofs.state.State.make_decision.Goals as goal

pub next_op-op-requires-clause-room : goal.next_op-op-requires-clause-room
next_op-op-requires-clause-room g c =
    rw c.in_ok-reserve.ensures.same.machine
    (open_room c.args.self.now.machine c.requires.built c.args.vote.now.proposal
    (counting_open c.args.self.now.machine c.requires.built c.args.vote.now c.requires.may))

pub next_op-op-requires-clause-named : goal.next_op-op-requires-clause-named
next_op-op-requires-clause-named g c =
    rw c.in_ok-reserve.ensures.same.machine
    (due_named c.args.self.now.machine c.requires.built c.args.vote.now c.requires.may c.args.body.now c.requires.due)

pub change_document-requires-clause-fresh : goal.change_document-requires-clause-fresh
change_document-requires-clause-fresh g c =
    rw (c.next_op-op.ensures, c.in_ok-reserve.ensures.same.machine)
    (due_fresh c.args.self.now.machine c.requires.built c.args.vote.now c.requires.may)

pub change_document-requires-clause-keeps : goal.change_document-requires-clause-keeps
change_document-requires-clause-keeps g c =
    rw (c.next_op-op.ensures, c.in_ok-reserve.ensures.same.machine)
    (due_keeps c.args.self.now.machine c.requires.built c.args.vote.now c.requires.may
    (next_op c.args.self.now.machine c.args.body.now).dot c.args.body.now c.requires.due)

pub note-requires-clause-next : goal.note-requires-clause-next
note-requires-clause-next g c =
    let v : Vote = c.args.vote.now in
    let found : find (is_on v.proposal) c.change_document.new.self.machine.ballots ≡ Some c.requires.may.ballot =
    ap (λ (s : StateValue). find (is_on v.proposal) s.machine.ballots) c.in_ok-change.ensures.ok
    ∙ ap (λ (k : Machine). find (is_on v.proposal) k.ballots) c.in_ok-reserve.ensures.same.machine
    ∙ c.requires.may.found in
    rw (
      c.count.ensures c.requires.may.ballot found,
      c.in_ok-change.ensures.ok,
      c.next_op-op.ensures,
      c.in_ok-reserve.ensures.same.machine,
    )
    (due_next c.args.self.now.machine c.requires.built v c.requires.may c.args.body.now)

pub note-requires-clause-decides : goal.note-requires-clause-decides
note-requires-clause-decides g c =
    let v : Vote = c.args.vote.now in
    let found : find (is_on v.proposal) c.change_document.new.self.machine.ballots ≡ Some c.requires.may.ballot =
    ap (λ (s : StateValue). find (is_on v.proposal) s.machine.ballots) c.in_ok-change.ensures.ok
    ∙ ap (λ (k : Machine). find (is_on v.proposal) k.ballots) c.in_ok-reserve.ensures.same.machine
    ∙ c.requires.may.found in
    rw (
      c.count.ensures c.requires.may.ballot found,
      c.in_ok-change.ensures.ok,
      c.next_op-op.ensures,
      c.in_ok-reserve.ensures.same.machine,
    )
    (due_undecided c.args.self.now.machine c.requires.built v c.requires.may c.args.body.now c.requires.due)

pub returns-clause-ok : goal.returns-clause-ok
returns-clause-ok g c =
    let m : Machine = c.args.self.now.machine in
    let v : Vote = c.args.vote.now in
    let b : Ballot = c.requires.may.ballot in
    let body : Body = c.args.body.now in
    let x : OpValue = c.next_op-op.result in
    let s : StateValue = c.reserve-2.new.self in
    let same : s.machine ≡ m = c.in_ok-reserve.ensures.same.machine in
    let changed : c.change_document.new.self ≡ record s { machine = with_effect x s.machine } =
    c.in_ok-change.ensures.ok in
    let found : find (is_on v.proposal) c.change_document.new.self.machine.ballots ≡ Some b =
    ap (λ (t : StateValue). find (is_on v.proposal) t.machine.ballots) changed
    ∙ ap (λ (k : Machine). find (is_on v.proposal) k.ballots) same ∙ c.requires.may.found in
    let counted = c.count.ensures b found in
    let next : x ≡ next_op m body = c.next_op-op.ensures ∙ ap (λ (k : Machine). next_op k body) same in
    let is : c.note.new.self.machine ≡ with_note Here x
    (with_ballots (voted m.size v b m.ballots) (with_effect x m)) =
    c.note.ensures.machine ∙ ap (λ (t : StateValue). with_note Here x t.machine) counted
    ∙ ap (λ (t : StateValue).
    with_note Here x (with_ballots (voted t.machine.size v b t.machine.ballots) t.machine)) changed
    ∙ ap (λ (k : Machine). with_note Here x (with_ballots (voted k.size v b k.ballots) (with_effect x k))) same in
    let kept : c.count.new.self.ops ≡ s.ops =
    ap (λ (t : StateValue). t.ops) counted ∙ ap (λ (t : StateValue). t.ops) changed in
    let stored : slice_get c.note.new.self.ops c.kept-number.result ≡ Some x =
    ap (λ (ops : List OpValue). slice_get ops c.kept-number.result)
    (c.note.ensures.ops ∙ ap (λ (ops : List OpValue). ops ++ x ∷ []) kept)
    ∙ ap (slice_get (s.ops ++ x ∷ [])) (c.kept-number.ensures ∙ ap (λ (t : StateValue). length t.ops) c.self.view_is)
    ∙ found_from There x 0 s.ops tt tt in
    let enough : 8 ≤ s.room.things = c.in_ok-reserve.ensures.ok.things in
    let left : c.count.new.self.room.things ≡ s.room.things =
    ap (λ (t : StateValue). t.room.things) counted ∙ ap (λ (t : StateValue). t.room.things) changed in
    let less : c.note.new.self.room.things + 1 ≡ c.count.new.self.room.things = c.note.ensures.things in
    let decided = vote_decides m c.requires.built v c.requires.may body c.requires.due in
    let n : Machine = with_note Here (next_op m body)
    (with_ballots (voted m.size v b m.ballots) (with_effect (next_op m body) m)) in
    subst
    (λ (t : Stepped). IsStep t c.args.self.now c.note.new.self
    (record { reply = New; change = c.in_ok-change.change; number = None }))
    (sym decided)
    (record {
      reply = refl;
      machine = is
          ∙ ap (λ (y : OpValue). with_note Here y (with_ballots (voted m.size v b m.ballots) (with_effect y m))) next;
      entries = c.note.ensures.entries ∙ ap (λ (t : StateValue). t.entries) counted
          ∙ ap (λ (t : StateValue). t.entries) changed ∙ c.in_ok-reserve.ensures.same.entries;
      change = ap (λ (k : Machine). change_of c.in_ok-change.change c.note.new.self.ops k.doc)
          (c.note.ensures.machine ∙ ap (λ (t : StateValue). with_note Here x t.machine) counted)
          ∙ c.in_ok-change.ensures.change c.note.new.self.ops stored
          ∙ ap (λ (k : Machine). change_by x.dot x.body k.doc) same
          ∙ ap (λ (y : OpValue). change_by y.dot y.body m.doc) next
          ∙ sym (change_once m n (next_op m body) refl);
      room = omega (arith, enough, left, less);
      number = tt;
    })
