use Rattle.std.proofs.Common.{◌≡◌, ◌∙◌, sym, ap, subst, arith}
use Rattle.std.specs.Prelude.{IsTrue}
use Rattle.td_base.specs.Value.{AtomIdValue}
use Rattle.td_path.specs.declared.slot.Slot.{Slot}
use Rattle.td_path.specs.declared.slot.Slot.TheVariants.{At}
use Rattle.td_doc.specs.Answers.{is_rooted}
use Rattle.td_tree.specs.Parts.{Parts, table, doc_rows, IsTree}
use Rattle.td_tree.specs.Places.{IsNewPlace}
use Rattle.td_tree.proofs.Wholes.{open_whole, is_row_at}
use Rattle.td_tree.proofs.LeafNodes.{few_root, few_at, opened_at}
use Rattle.td_tree.proofs.tree.Tree.place_in.Goals as goal

pub invariant_of-self : goal.invariant_of-self
invariant_of-self c = (
  open_whole c.self.inside.tokens c.open_to.new.self c.self.inside.identities c.self.inside.seen c.self.invariant.0
      c.open_to.ensures.kept,
  tt,
)

pub invariant_of-self-in-Some : goal.invariant_of-self-in-Some
invariant_of-self-in-Some c = (
  open_whole c.self.inside.tokens c.open_to.new.self c.self.inside.identities c.self.inside.seen c.self.invariant.0
      c.open_to.ensures.kept,
  tt,
)

pub returns-in_ok-open_to-in-Some-clause-place : goal.returns-in_ok-open_to-in-Some-clause-place
returns-in_ok-open_to-in-Some-clause-place c =
    let e = c.in-Some.ensures in
    let k = c.open_to.ensures.kept in
    let named : (table c.open_to.new.self c.in-Some.row).id ≡ c.in-At.atom = (λ i. (k.entries i c.in-Some.row).id)
    ∙ ap (λ (q : Parts). (table q c.in-Some.row).id) c.self.view_is ∙ e.named in
    subst (λ (slot : Slot). IsNewPlace c.open_to.new.self slot c.args.id c.place_on.result)
    (ap (λ (x : AtomIdValue). At x c.in-At.bit) named ∙ sym c.in-At.is) c.place_on.ensures

pub returns-in_ok-open_to-in-Some-clause-rooted : goal.returns-in_ok-open_to-in-Some-clause-rooted
returns-in_ok-open_to-in-Some-clause-rooted c =
    let e = c.in-Some.ensures in
    let p = c.args.self.now in
    subst (λ (slot : Slot). IsTrue (is_rooted (doc_rows p) slot)) (sym c.in-At.is)
    (is_row_at p (subst IsTree c.self.view_is c.self.invariant.0.tree) c.in-Some.row e.known e.stands c.in-At.atom
    e.named)

pub returns-in-Root-clause-nodes : goal.returns-in-Root-clause-nodes
returns-in-Root-clause-nodes c = few_root c.args.self.now c.args.self.now c.args.slot 0 c.in-Root.is (omega arith)

pub returns-in_err-open_to-in-Some-clause-nodes : goal.returns-in_err-open_to-in-Some-clause-nodes
returns-in_err-open_to-in-Some-clause-nodes c =
    let e = c.in-Some.ensures in
    few_at c.args.self.now c.open_to.new.self c.args.slot c.in-At.atom c.in-At.bit 0 c.in-At.is
    (opened_at c.self.inside.tokens c.args.self.now c.open_to.new.self c.self.inside.identities c.self.inside.seen
    c.self.view_is c.self.invariant.0 c.in-Some.row e.known e.stands c.in-At.atom e.named
    c.open_to.ensures.kept.tree c.open_to.ensures.few c.open_to.ensures.same)

pub returns-in_ok-open_to-in-Some-clause-nodes : goal.returns-in_ok-open_to-in-Some-clause-nodes
returns-in_ok-open_to-in-Some-clause-nodes c =
    let e = c.in-Some.ensures in
    few_at c.args.self.now c.open_to.new.self c.args.slot c.in-At.atom c.in-At.bit 0 c.in-At.is
    (opened_at c.self.inside.tokens c.args.self.now c.open_to.new.self c.self.inside.identities c.self.inside.seen
    c.self.view_is c.self.invariant.0 c.in-Some.row e.known e.stands c.in-At.atom e.named
    c.open_to.ensures.kept.tree c.open_to.ensures.few c.open_to.ensures.same)
