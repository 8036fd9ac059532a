use Rattle.std.proofs.Common.{◌∙◌, sym, ap, subst}
use Rattle.std.specs.Prelude.{IfSome, IsTrue}
use Rattle.td_path.specs.declared.slot.Slot.{Slot}
use Rattle.td_doc.specs.Answers.{IsFresh, is_rooted}
use Rattle.td_identities.specs.Numbers.{with_run}
use Rattle.td_identities.specs.Identities.{number_of}
use Rattle.td_tree.specs.Parts.{Parts, doc_rows, nodes_of, tokens}
use Rattle.td_tree.specs.Places.{IsNewPlace, top_id}
use Rattle.td_tree.specs.Last.{IsLast}
use Rattle.td_tree.specs.Whole.{IsWhole}
use Rattle.td_tree.proofs.LastRow.{same_last}
use Rattle.td_tree.proofs.Wholes.{run_whole, same_whole}
use Rattle.td_tree.proofs.tree.Tree.put_run.Goals as goal

pub invariant_of-self : goal.invariant_of-self
invariant_of-self c = (
  same_whole c.self.inside.tokens c.self.inside.identities c.make_room.new.self
      c.self.inside.seen c.self.invariant.0 c.make_room.ensures.same,
  same_last c.self.inside.tokens c.self.inside.identities c.make_room.new.self c.self.inside.last
      c.make_room.ensures.same c.self.invariant.1,
)

pub invariant_of-self-in_err-put_run : goal.invariant_of-self-in_err-put_run
invariant_of-self-in_err-put_run c =
    subst (λ (p : Parts). IsWhole p c.make_room.new.self c.self.inside.seen
    × IfSome c.self.inside.last (IsLast p c.make_room.new.self)) (sym c.in_err-put_run.ensures.err) (
      same_whole c.self.inside.tokens c.self.inside.identities c.make_room.new.self c.self.inside.seen
          c.self.invariant.0 c.make_room.ensures.same,
      same_last c.self.inside.tokens c.self.inside.identities c.make_room.new.self c.self.inside.last
          c.make_room.ensures.same
          c.self.invariant.1,
    )

pub invariant_of-self-2 : goal.invariant_of-self-2
invariant_of-self-2 c =
    let p : Parts = c.self.inside.tokens in
    let w = same_whole p c.self.inside.identities c.make_room.new.self c.self.inside.seen c.self.invariant.0
    c.make_room.ensures.same in
    let fresh : IsFresh (doc_rows p) c.args.dot = subst (λ (q : Parts). IsFresh (doc_rows q) c.args.dot)
    (sym c.self.view_is) c.requires.new in
    let place : (slot : Slot) × IsNewPlace p slot (top_id c.args.dot c.args.run.now) c.args.at
    × IsTrue (is_rooted (doc_rows p) slot) =
    subst (λ (q : Parts). (slot : Slot) × IsNewPlace q slot (top_id c.args.dot c.args.run.now) c.args.at
    × IsTrue (is_rooted (doc_rows q) slot)) (sym c.self.view_is) c.requires.place in
    let put = c.in_ok-put_run.ensures.ok in (
      run_whole p c.put_run.new.self c.make_room.new.self c.put.new.self c.self.inside.seen c.add.new.self c.args.dot
          c.args.run.now w fresh put.rows (put.there place.0 place.1 place.2).0
          (λ x. c.put.ensures x ∙ (λ i. with_run (c.of.ensures i)
          (record { first = c.next_row-row.ensures.number i; count = c.len.ensures.len i }) x
          (number_of c.make_room.new.self x)))
          c.add.ensures.kept c.add.ensures.added,
      tt,
    )

pub returns-clause-nodes : goal.returns-clause-nodes
returns-clause-nodes c =
    let p : Parts = c.self.inside.tokens in
    let put = c.in_ok-put_run.ensures.ok in
    let place : (slot : Slot) × IsNewPlace p slot (top_id c.args.dot c.args.run.now) c.args.at
    × IsTrue (is_rooted (doc_rows p) slot) =
    subst (λ (q : Parts). (slot : Slot) × IsNewPlace q slot (top_id c.args.dot c.args.run.now) c.args.at
    × IsTrue (is_rooted (doc_rows q) slot)) (sym c.self.view_is) c.requires.place in
    sym (put.there place.0 place.1 place.2).0.counted ∙ put.nodes ∙ c.self.invariant.0.tree.counted
    ∙ ap (λ (q : Parts). nodes_of (tokens q)) c.self.view_is
