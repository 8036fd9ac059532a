use Rattle.std.proofs.Common.{◌∙◌, ℕ, List, nat_lt, ap, sym, arith}
use Rattle.std.proofs.lemmas.Bool.{ltb-true, ltb-false}
use Rattle.td_list.specs.Items.{Item, items_before, place_of, renew, weight_of}
use Rattle.td_list.proofs.Reweighed.{told_all, before_same, before_more, before_told}
use Rattle.td_list.proofs.Weights.{weight-before}
use Rattle.td_list.proofs.deferred.Pending.weight_before.Goals as goal

pub returns-then-is_told : goal.returns-then-is_told
returns-then-is_told g c =
    let items : List Item = g.S.Sequence.items c.args.list.now in
    c.weight_before-before.ensures
    ∙ ap (λ (all : List Item). weight_of (items_before c.args.name all))
    (told_all c.args.self items c.requires.pending (c.is_told.ensures c.if-is_told.true))

pub overflow_sub-result : goal.overflow_sub-result
overflow_sub-result g c =
    let items : List Item = g.S.Sequence.items c.args.list.now in
    let l = ltb-true (place_of c.args.self.item.name items) (place_of c.args.name items)
    (ap (λ (n : ℕ). nat_lt (place_of n items) (place_of c.args.name items)) (sym c.name.ensures)
    ∙ sym c.is_before.ensures ∙ c.if-is_before.true) in
    omega (
      arith,
      c.weight_before-before.ensures,
      before_told c.args.self items c.requires.pending c.args.name
          c.requires.there l,
    )

pub overflow_add-result : goal.overflow_add-result
overflow_add-result g c =
    let items : List Item = g.S.Sequence.items c.args.list.now in
    let l = ltb-true (place_of c.args.self.item.name items) (place_of c.args.name items)
    (ap (λ (n : ℕ). nat_lt (place_of n items) (place_of c.args.name items)) (sym c.name.ensures)
    ∙ sym c.is_before.ensures ∙ c.if-is_before.true) in
    let told = before_told c.args.self items c.requires.pending c.args.name c.requires.there l in
    let more = before_more c.args.self items c.requires.pending c.args.name c.requires.there l in
    let most = weight-before c.args.name (renew c.args.self.item items) in
    omega (arith, c.weight_before-before.ensures, c.weight.ensures, c.requires.pending.light)

pub returns-then-is_before : goal.returns-then-is_before
returns-then-is_before g c =
    let items : List Item = g.S.Sequence.items c.args.list.now in
    let l = ltb-true (place_of c.args.self.item.name items) (place_of c.args.name items)
    (ap (λ (n : ℕ). nat_lt (place_of n items) (place_of c.args.name items)) (sym c.name.ensures)
    ∙ sym c.is_before.ensures ∙ c.if-is_before.true) in
    let told = before_told c.args.self items c.requires.pending c.args.name c.requires.there l in
    let more = before_more c.args.self items c.requires.pending c.args.name c.requires.there l in
    omega (arith, c.weight_before-before.ensures, c.weight.ensures)

pub returns-else-is_before : goal.returns-else-is_before
returns-else-is_before g c =
    let items : List Item = g.S.Sequence.items c.args.list.now in
    let l = ltb-false (place_of c.args.self.item.name items) (place_of c.args.name items)
    (ap (λ (n : ℕ). nat_lt (place_of n items) (place_of c.args.name items)) (sym c.name.ensures)
    ∙ sym c.is_before.ensures ∙ c.if-is_before.false) in
    c.weight_before-before.ensures ∙ before_same c.args.self items c.requires.pending c.args.name c.requires.there l
