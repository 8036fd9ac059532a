use Rattle.std.proofs.Common.{◌≡◌, ◌∙◌, ap, sym, subst, refl, arith, ℕ, List, [], length, get_or, Option, None}
use Rattle.std.proofs.lemmas.List.{append-nil}
use Rattle.td_list.specs.Items.{first_name}
use Rattle.td_tree.specs.Parts.{RowValue, Parts, nobody, IsFlattened}
use Rattle.td_path.specs.declared.slot.Slot.TheVariants.{Root}
use Rattle.td_tree.specs.Stretches.{IsSlotItems}
use Rattle.td_tree.proofs.SlotItems.{root_items}
use Rattle.td_tree.proofs.tokens.Tokens.flatten_root.Goals as goal
use Rattle.td_tree.proofs.tokens.Tokens.flatten_root.Goals.{In_ok-flatten_stretch}

pub flatten_stretch-requires-clause-items : goal.flatten_stretch-requires-clause-items
flatten_stretch-requires-clause-items c = (
  Root,
  subst (λ (o : Option ℕ). IsSlotItems c.args.self.now Root o None)
      (sym c.first-first.ensures) (root_items c.args.self.now c.requires),
)

flattened : (c : In_ok-flatten_stretch) → IsFlattened c.args.self.now c.flatten_stretch.new.self Root
flattened c = c.in_ok-flatten_stretch.ensures.ok Root
    (subst (λ (o : Option ℕ). IsSlotItems c.args.self.now Root o None) (sym c.first-first.ensures)
    (root_items c.args.self.now c.requires))

pub give_arrays_back-requires-clause-last : goal.give_arrays_back-requires-clause-last
give_arrays_back-requires-clause-last c =
    c.in_ok-flatten_stretch.ensures.last c.if-branch.true c.first-first.ensures refl

pub give_arrays_back-requires-clause-tree : goal.give_arrays_back-requires-clause-tree
give_arrays_back-requires-clause-tree c = (c.in_ok-flatten_stretch.ensures.ok Root
    (subst (λ (o : Option ℕ). IsSlotItems c.args.self.now Root o None) (sym c.first-first.ensures)
    (root_items c.args.self.now c.requires))).tree

pub returns-then-branch-clause-ok : goal.returns-then-branch-clause-ok
returns-then-branch-clause-ok c =
    let f = flattened (goal.at.returns-then-branch-clause-ok c).In_ok-flatten_stretch in
    let s = c.give_arrays_back.ensures in
    record {
      tree = s.tree;
      rows = s.doc ∙ f.rows;
      entries = (λ i r. (get_or (s.rows i) r nobody).entry) ∙ f.entries;
      gone = λ r e. ap (λ (xs : List RowValue). (get_or xs r nobody).state) s.rows ∙ f.gone r e;
      long = ap (λ (xs : List RowValue). length xs) s.rows ∙ f.long;
      nodes = let n = f.nodes in omega (arith, s.nodes);
    }

pub returns-else-branch-clause-ok : goal.returns-else-branch-clause-ok
returns-else-branch-clause-ok c = flattened (goal.at.returns-else-branch-clause-ok c).In_ok-flatten_stretch

-- no node is left
none : (c : In_ok-flatten_stretch) → c.flatten_stretch.new.self.nodes ≡ 0
none c =
    let p : Parts = c.args.self.now in
    let all = c.in_ok-flatten_stretch.ensures.nodes
    (record {
      front = [];
      inner = p.items;
      back = [];
      is = sym (append-nil p.items);
      starts = ap first_name (append-nil p.items) ∙ sym c.first-first.ensures;
      ends = refl;
    }) in
    let counted = c.requires.counted in
    omega arith

pub returns-then-branch-clause-none : goal.returns-then-branch-clause-none
returns-then-branch-clause-none c =
    c.give_arrays_back.ensures.nodes ∙ none (goal.at.returns-then-branch-clause-none c).In_ok-flatten_stretch

pub returns-else-branch-clause-none : goal.returns-else-branch-clause-none
returns-else-branch-clause-none c = none (goal.at.returns-else-branch-clause-none c).In_ok-flatten_stretch
