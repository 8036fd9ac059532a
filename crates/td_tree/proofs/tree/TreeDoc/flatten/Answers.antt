use Rattle.std.proofs.Common.{◌≡◌, ◌∙◌, ap, sym, subst, arith}
use Rattle.std.specs.Prelude.{IsTrue}
use Rattle.td_base.specs.Value.{AtomIdValue}
use Rattle.td_base.specs.declared.bit.Bit.{Bit}
use Rattle.td_path.specs.declared.slot.Slot.{Slot}
use Rattle.td_path.specs.declared.slot.Slot.TheVariants.{Root, At}
use Rattle.td_doc.specs.Answers.{is_rooted, IsRow}
use Rattle.td_doc.specs.Flatten.{flatten}
use Rattle.td_tree.specs.Parts.{Parts, table, doc_rows, IsTree}
use Rattle.td_tree.specs.Whole.{IsWhole}
use Rattle.td_tree.proofs.Wholes.{open_whole, is_row_at}
use Rattle.td_tree.proofs.FlatWholes.{flat_whole}
use Rattle.td_tree.specs.Nodes.{AddsFewIn}
use Rattle.td_tree.proofs.LeafNodes.{opened_at, few_more_in, few_at}
use Rattle.td_tree.proofs.tree.TreeDoc.flatten.Goals as goal

pub invariant_of-self-in-Root : goal.invariant_of-self-in-Root
invariant_of-self-in-Root c = (
  flat_whole c.self.inside.tokens c.flatten_root.new.self c.self.inside.identities c.self.inside.seen Root
      c.self.invariant.0 c.in_ok-flatten_root-in-Root.ensures.ok,
  tt,
)

pub invariant_of-self-in_err-open_to-in-Some : goal.invariant_of-self-in_err-open_to-in-Some
invariant_of-self-in_err-open_to-in-Some c = (
  open_whole c.self.inside.tokens c.open_to.new.self c.self.inside.identities c.self.inside.seen c.self.invariant.0
      c.open_to.ensures.kept,
  tt,
)

pub invariant_of-self-in_err-flatten_side-in-Some : goal.invariant_of-self-in_err-flatten_side-in-Some
invariant_of-self-in_err-flatten_side-in-Some c =
    subst (λ (p : Parts). IsWhole p c.self.inside.identities c.self.inside.seen × Unit {0})
    (sym c.in_err-flatten_side-in-Some.ensures.err) (
      open_whole c.self.inside.tokens c.open_to.new.self c.self.inside.identities c.self.inside.seen
          c.self.invariant.0 c.open_to.ensures.kept,
      tt,
    )

pub invariant_of-self-in-Some : goal.invariant_of-self-in-Some
invariant_of-self-in-Some c = (
  flat_whole c.open_to.new.self c.flatten_side.new.self c.self.inside.identities c.self.inside.seen
      (At (table c.open_to.new.self c.in-Some.row).id c.in-At.bit)
      (open_whole c.self.inside.tokens c.open_to.new.self c.self.inside.identities c.self.inside.seen
      c.self.invariant.0 c.open_to.ensures.kept) c.in_ok-flatten_side-in-Some.ensures.ok,
  tt,
)

pub returns-in_ok-flatten_side-in-Some-clause-ok : goal.returns-in_ok-flatten_side-in-Some-clause-ok
returns-in_ok-flatten_side-in-Some-clause-ok c =
    let p : Parts = c.self.inside.tokens in
    let q : Parts = c.open_to.new.self in
    let named : (table q c.in-Some.row).id ≡ c.in-At.atom = (λ i. (c.open_to.ensures.kept.entries i c.in-Some.row).id)
    ∙ ap (λ (r : Parts). (table r c.in-Some.row).id) c.self.view_is ∙ c.in-Some.ensures.named in
    let slot : At (table q c.in-Some.row).id c.in-At.bit
    ≡ c.args.slot = ap (λ (x : AtomIdValue). At x c.in-At.bit) named ∙ sym c.in-At.is in
    let rows : doc_rows q ≡ doc_rows c.args.self.now = c.open_to.ensures.kept.rows ∙ ap doc_rows c.self.view_is in
    let row : IsRow (doc_rows c.args.self.now) c.in-At.atom =
    is_row_at c.args.self.now (subst IsTree c.self.view_is c.self.invariant.0.tree) c.in-Some.row
    c.in-Some.ensures.known c.in-Some.ensures.stands c.in-At.atom c.in-Some.ensures.named in (
      subst (λ (s : Slot). IsTrue (is_rooted (doc_rows c.args.self.now) s)) (sym c.in-At.is) row,
      c.in_ok-flatten_side-in-Some.ensures.ok.rows ∙ (λ i. flatten (slot i) (rows i)),
    )

pub returns-in_ok-flatten_root-in-Root-clause-none : goal.returns-in_ok-flatten_root-in-Root-clause-none
returns-in_ok-flatten_root-in-Root-clause-none c = λ e. sym c.in_ok-flatten_root-in-Root.ensures.ok.tree.counted
    ∙ c.in_ok-flatten_root-in-Root.ensures.none

pub returns-in_ok-flatten_side-in-Some-clause-none : goal.returns-in_ok-flatten_side-in-Some-clause-none
returns-in_ok-flatten_side-in-Some-clause-none c = λ e. absurd (no c.in-At.atom c.in-At.bit (sym c.in-At.is ∙ e))
  where
    no : (x : AtomIdValue) (b : Bit) → At x b ≡ Root → ⊥
    no x b e = cc

pub returns-in_err-open_to-in-Some-clause-nodes : goal.returns-in_err-open_to-in-Some-clause-nodes
returns-in_err-open_to-in-Some-clause-nodes c =
    let e = c.in-Some.ensures in
    few_at c.args.self.now c.open_to.new.self c.args.slot c.in-At.atom c.in-At.bit 0 c.in-At.is
    (opened_at c.self.inside.tokens c.args.self.now c.open_to.new.self c.self.inside.identities c.self.inside.seen
    c.self.view_is c.self.invariant.0 c.in-Some.row e.known e.stands c.in-At.atom e.named
    c.open_to.ensures.kept.tree c.open_to.ensures.few c.open_to.ensures.same)

pub returns-in_err-flatten_side-in-Some-clause-nodes : goal.returns-in_err-flatten_side-in-Some-clause-nodes
returns-in_err-flatten_side-in-Some-clause-nodes c =
    let e = c.in-Some.ensures in
    subst (λ (p : Parts). AddsFewIn c.args.self.now p c.args.slot 0) (sym c.in_err-flatten_side-in-Some.ensures.err)
    (few_at c.args.self.now c.open_to.new.self c.args.slot c.in-At.atom c.in-At.bit 0 c.in-At.is
    (opened_at c.self.inside.tokens c.args.self.now c.open_to.new.self c.self.inside.identities c.self.inside.seen
    c.self.view_is c.self.invariant.0 c.in-Some.row e.known e.stands c.in-At.atom e.named
    c.open_to.ensures.kept.tree c.open_to.ensures.few c.open_to.ensures.same))

pub returns-in_ok-flatten_side-in-Some-clause-nodes : goal.returns-in_ok-flatten_side-in-Some-clause-nodes
returns-in_ok-flatten_side-in-Some-clause-nodes c =
    let e = c.in-Some.ensures in
    let f = c.in_ok-flatten_side-in-Some.ensures.ok in
    let was = c.open_to.ensures.kept.tree.counted in
    let now = f.tree.counted in
    let less = f.nodes in
    few_more_in c.args.self.now c.open_to.new.self c.flatten_side.new.self c.args.slot 0
    (few_at c.args.self.now c.open_to.new.self c.args.slot c.in-At.atom c.in-At.bit 0 c.in-At.is
    (opened_at c.self.inside.tokens c.args.self.now c.open_to.new.self c.self.inside.identities c.self.inside.seen
    c.self.view_is c.self.invariant.0 c.in-Some.row e.known e.stands c.in-At.atom e.named
    c.open_to.ensures.kept.tree c.open_to.ensures.few c.open_to.ensures.same)) (omega arith)
