use Rattle.std.proofs.Common.{◌≡◌, ◌∙◌, ◌+◌, ◌*◌, ℕ, None, Some, sym, ap, subst}
use Rattle.std.specs.Prelude.{IfSome, IsTrue, IsNone}
use Rattle.td_base.specs.Value.{AtomIdValue}
use Rattle.td_clock.specs.Vector.{vector_has}
use Rattle.td_path.specs.declared.slot.Slot.{Slot}
use Rattle.td_doc.specs.Document.{find_row}
use Rattle.td_doc.specs.Answers.{is_rooted}
use Rattle.td_identities.specs.Numbers.{with_run}
use Rattle.td_identities.specs.Identities.{number_of}
use Rattle.td_tree.specs.Parts.{Parts, table, doc_rows, nodes_of, tokens, IsTree}
use Rattle.td_tree.specs.Places.{IsNewPlace}
use Rattle.td_tree.specs.Last.{IsLast}
use Rattle.td_tree.specs.Stretches.{items_up_to}
use Rattle.td_list.specs.Items.{first_name, items_after, weight_of}
use Rattle.td_doc.specs.Answers.{live_before}
use Rattle.td_tree.specs.Whole.{IsWhole}
use Rattle.td_tree.proofs.Wholes.{none_of, put_whole, same_whole}
use Rattle.td_tree.proofs.LastRow.{index_as, same_last, put_last}
use Rattle.td_tree.proofs.PlaceIndex.{index_of_put, alone_put}
use Rattle.td_tree.proofs.PutRow.{place_there}
use Rattle.td_tree.proofs.tree.Tree.put.Goals as goal

pub index_at-index-requires : goal.index_at-index-requires
index_at-index-requires c = record {
  there = place_there c.args.self.now c.requires.place.0 c.args.id c.args.at
      c.requires.place.1.place;
}

pub invariant_of-self : goal.invariant_of-self
invariant_of-self c = (
  same_whole c.self.inside.tokens c.self.inside.identities c.make_room.new.self
      c.self.inside.seen c.self.invariant.0 c.make_room.ensures.same,
  same_last c.self.inside.tokens c.self.inside.identities c.make_room.new.self c.self.inside.last
      c.make_room.ensures.same c.self.invariant.1,
)

pub invariant_of-self-in_err-put_row : goal.invariant_of-self-in_err-put_row
invariant_of-self-in_err-put_row c =
    subst (λ (p : Parts). IsWhole p c.make_room.new.self c.self.inside.seen
    × IfSome c.self.inside.last (IsLast p c.make_room.new.self)) (sym c.in_err-put_row.ensures.err) (
      same_whole c.self.inside.tokens c.self.inside.identities c.make_room.new.self c.self.inside.seen
          c.self.invariant.0 c.make_room.ensures.same,
      same_last c.self.inside.tokens c.self.inside.identities c.make_room.new.self c.self.inside.last
          c.make_room.ensures.same
          c.self.invariant.1,
    )

pub invariant_of-self-2 : goal.invariant_of-self-2
invariant_of-self-2 c =
    let p : Parts = c.self.inside.tokens in
    let w = same_whole p c.self.inside.identities c.make_room.new.self c.self.inside.seen c.self.invariant.0
    c.make_room.ensures.same in
    let none : find_row c.args.id (doc_rows p) ≡ None =
    none_of (find_row c.args.id (doc_rows p)) (subst (λ (q : Parts). IsNone (find_row c.args.id (doc_rows q)))
    (sym c.self.view_is) c.requires.new) in
    let place : (slot : Slot) × IsNewPlace p slot c.args.id c.args.at × IsTrue (is_rooted (doc_rows p) slot) =
    subst (λ (q : Parts). (slot : Slot) × IsNewPlace q slot c.args.id c.args.at
    × IsTrue (is_rooted (doc_rows q) slot)) (sym c.self.view_is) c.requires.place in
    let put = c.in_ok-put_row.ensures.ok in
    let now : Parts = c.put_row.new.self in
    let tree : IsTree now = (put.there place.0 place.1 place.2).0 in (
      put_whole p c.put_row.new.self c.make_room.new.self c.put.new.self c.self.inside.seen c.add.new.self c.args.id
          c.args.atom.now w none put.rows (put.there place.0 place.1 place.2).0
          (λ x. c.put.ensures x ∙ ap (λ (n : ℕ). with_run c.args.id (record { first = n; count = 1 }) x
          (number_of c.make_room.new.self x)) c.next_row-row.ensures.number)
          c.add.ensures.kept
          (subst (λ (y : AtomIdValue). IsTrue (vector_has c.add.new.self y.dot)) c.id-2.view_is c.add.ensures.added),
      put_last p now c.args.id c.args.atom.now c.next_row-row.result c.next_row-row.ensures.number put.rows tree
          c.make_room.new.self c.put.new.self c.put.ensures c.index_at-index.result
          (index_as c.index_at-index.result (weight_of (items_up_to c.args.at c.args.self.now.items))
          (live_before (table now c.next_row-row.result).id (doc_rows now))
          (ap (λ (q : Parts). weight_of (items_up_to c.args.at q.items)) (sym c.self.view_is)
          ∙ index_of_put p now w.tree tree place.0 c.args.id c.args.atom.now c.args.at place.1.place put.rows put.items
          ∙ ap (λ (n : ℕ). live_before (table now n).id (doc_rows now)) (sym c.next_row-row.ensures.number))
          c.index_at-index.ensures)
          (ap (λ (n : ℕ). first_name (items_after (3 * n + 1) now.items)) c.next_row-row.ensures.number
          ∙ alone_put p now w.tree tree place.0 c.args.id c.args.at place.1.place put.items
          ∙ ap (λ (n : ℕ). Some (3 * n + 2)) (sym c.next_row-row.ensures.number)),
    )

pub returns-clause-nodes : goal.returns-clause-nodes
returns-clause-nodes c =
    let p : Parts = c.self.inside.tokens in
    let put = c.in_ok-put_row.ensures.ok in
    let place : (slot : Slot) × IsNewPlace p slot c.args.id c.args.at × IsTrue (is_rooted (doc_rows p) slot) =
    subst (λ (q : Parts). (slot : Slot) × IsNewPlace q slot c.args.id c.args.at
    × IsTrue (is_rooted (doc_rows q) slot)) (sym c.self.view_is) c.requires.place in
    sym (put.there place.0 place.1 place.2).0.counted ∙ put.nodes
    ∙ ap (λ (n : ℕ). n + 1) c.self.invariant.0.tree.counted
    ∙ ap (λ (q : Parts). nodes_of (tokens q) + 1) c.self.view_is
