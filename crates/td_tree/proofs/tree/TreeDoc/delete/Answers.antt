use Rattle.std.proofs.Common.{◌∙◌, List, sym, ap, subst, arith}
use Rattle.td_base.specs.Value.{AtomIdValue}
use Rattle.td_doc.specs.Document.{DocRow}
use Rattle.td_doc.specs.Deletion.{delete}
use Rattle.td_tree.specs.Parts.{Parts, table, doc_rows, IsTree}
use Rattle.td_tree.specs.Whole.{IsWhole}
use Rattle.td_tree.proofs.Wholes.{open_whole, deleted_whole, is_row_at}
use Rattle.td_tree.specs.Nodes.{AddsFew}
use Rattle.td_tree.proofs.LeafNodes.{opened_at, few_more}
use Rattle.td_tree.proofs.tree.TreeDoc.delete.Goals as goal

pub invariant_of-self : goal.invariant_of-self
invariant_of-self c = (
  open_whole c.self.inside.tokens c.open_to.new.self c.self.inside.identities c.self.inside.seen c.self.invariant.0
      c.open_to.ensures.kept,
  tt,
)

pub invariant_of-self-in_err-delete_row-in-Some : goal.invariant_of-self-in_err-delete_row-in-Some
invariant_of-self-in_err-delete_row-in-Some c =
    subst (λ (p : Parts). IsWhole p c.self.inside.identities c.self.inside.seen × Unit {0})
    (sym c.in_err-delete_row-in-Some.ensures.err) (
      open_whole c.self.inside.tokens c.open_to.new.self c.self.inside.identities c.self.inside.seen
          c.self.invariant.0 c.open_to.ensures.kept,
      tt,
    )

pub invariant_of-self-in-Some : goal.invariant_of-self-in-Some
invariant_of-self-in-Some c = (
  deleted_whole c.open_to.new.self c.delete_row.new.self c.self.inside.identities c.self.inside.seen c.add.new.self
      c.in-Some.row c.args.by
      (open_whole c.self.inside.tokens c.open_to.new.self c.self.inside.identities c.self.inside.seen
      c.self.invariant.0 c.open_to.ensures.kept)
      c.in_ok-delete_row-in-Some.ensures.ok c.add.ensures.kept c.add.ensures.added,
  tt,
)

pub returns-in_ok-delete_row-in-Some-clause-ok : goal.returns-in_ok-delete_row-in-Some-clause-ok
returns-in_ok-delete_row-in-Some-clause-ok c =
    let p = c.args.self.now in
    let e = c.in-Some.ensures in
    let k = c.open_to.ensures.kept in
    let d = c.in_ok-delete_row-in-Some.ensures.ok in (
      is_row_at p (subst IsTree c.self.view_is c.self.invariant.0.tree) c.in-Some.row e.known e.stands c.args.id
          e.named,
      d.rows ∙ ap (λ (rows : List DocRow). delete (table c.open_to.new.self c.in-Some.row).id c.args.by rows)
          (k.rows ∙ ap doc_rows c.self.view_is)
          ∙ ap (λ (x : AtomIdValue). delete x c.args.by (doc_rows p))
          ((λ i. (k.entries i c.in-Some.row).id) ∙ ap (λ (q : Parts). (table q c.in-Some.row).id) c.self.view_is
          ∙ e.named),
    )

pub returns-in_err-open_to-in-Some-clause-nodes : goal.returns-in_err-open_to-in-Some-clause-nodes
returns-in_err-open_to-in-Some-clause-nodes c =
    let e = c.in-Some.ensures in
    opened_at c.self.inside.tokens c.args.self.now c.open_to.new.self c.self.inside.identities c.self.inside.seen
    c.self.view_is c.self.invariant.0 c.in-Some.row e.known e.stands c.args.id e.named
    c.open_to.ensures.kept.tree c.open_to.ensures.few c.open_to.ensures.same

pub returns-in_err-delete_row-in-Some-clause-nodes : goal.returns-in_err-delete_row-in-Some-clause-nodes
returns-in_err-delete_row-in-Some-clause-nodes c =
    let e = c.in-Some.ensures in
    subst (λ (p : Parts). AddsFew c.args.self.now p c.args.id 0) (sym c.in_err-delete_row-in-Some.ensures.err)
    (opened_at c.self.inside.tokens c.args.self.now c.open_to.new.self c.self.inside.identities c.self.inside.seen
    c.self.view_is c.self.invariant.0 c.in-Some.row e.known e.stands c.args.id e.named
    c.open_to.ensures.kept.tree c.open_to.ensures.few c.open_to.ensures.same)

pub returns-in_ok-delete_row-in-Some-clause-nodes : goal.returns-in_ok-delete_row-in-Some-clause-nodes
returns-in_ok-delete_row-in-Some-clause-nodes c =
    let e = c.in-Some.ensures in
    let d = c.in_ok-delete_row-in-Some.ensures.ok in
    let was = c.open_to.ensures.kept.tree.counted in
    let now = d.tree.counted in
    let same = d.nodes in
    few_more c.args.self.now c.open_to.new.self c.delete_row.new.self c.args.id 0
    (opened_at c.self.inside.tokens c.args.self.now c.open_to.new.self c.self.inside.identities c.self.inside.seen
    c.self.view_is c.self.invariant.0 c.in-Some.row e.known e.stands c.args.id e.named
    c.open_to.ensures.kept.tree c.open_to.ensures.few c.open_to.ensures.same) (omega arith)
