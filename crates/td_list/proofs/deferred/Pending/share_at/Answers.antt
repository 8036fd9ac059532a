use Rattle.std.proofs.Common.{◌+◌, ◌-◌, ◌∙◌, ℕ, List, Some, ap, arith}
use Rattle.td_list.specs.Items.{Item, items_before, renew, share_at, weight_of}
use Rattle.td_list.specs.declared.item.Share.{Share}
use Rattle.td_list.proofs.Reweighed.{told_all, weight_now, share_before, share_within, share_behind, share_beyond}
use Rattle.td_list.proofs.deferred.Pending.share_at.Goals as goal

pub returns-then-is_told : goal.returns-then-is_told
returns-then-is_told g c =
    let items : List Item = g.S.Sequence.items c.args.list.now in
    c.share_at.ensures ∙ ap (share_at c.args.unit)
    (told_all c.args.self items c.requires (c.is_told.ensures c.if-is_told.true))

pub returns-then-unit-weight : goal.returns-then-unit-weight
returns-then-unit-weight g c =
    let items : List Item = g.S.Sequence.items c.args.list.now in
    share_beyond c.args.unit (renew c.args.self.item items)
    (omega (arith, c.weight.ensures.value, c.if-unit-weight.true))

pub returns-then-unit-before : goal.returns-then-unit-before
returns-then-unit-before g c =
    let items : List Item = g.S.Sequence.items c.args.list.now in
    let before = c.weight_before-before.ensures ∙ ap (λ (n : ℕ). weight_of (items_before n items)) c.name.ensures in
    c.share_at-then-unit-before.ensures ∙ share_before c.args.self items c.requires c.args.unit
    (omega (arith, before, c.if-unit-before.true))

pub returns-then-rest-weight : goal.returns-then-rest-weight
returns-then-rest-weight g c =
    let items : List Item = g.S.Sequence.items c.args.list.now in
    let before = c.weight_before-before.ensures ∙ ap (λ (n : ℕ). weight_of (items_before n items)) c.name.ensures in
    let rest = c.args.unit - c.weight_before-before.result in
    let share : ℕ → Share = λ n. record { name = n; rest = rest } in
    ap (λ (n : ℕ). Some (share n)) c.name-then-rest-weight.ensures
    ∙ share_within c.args.self items c.requires c.args.unit rest
    (omega (arith, before, c.if-unit-before.false)) (omega (arith, c.weight-2.ensures, c.if-rest-weight.true))

pub overflow_add-unit : goal.overflow_add-unit
overflow_add-unit g c =
    let items : List Item = g.S.Sequence.items c.args.list.now in
    omega (
      arith,
      c.weight.ensures.value,
      c.weight.ensures.light,
      c.if-unit-weight.false,
      c.if-unit-before.false,
      c.if-rest-weight.false,
      c.weight-2.ensures,
      c.weight-3.ensures,
      weight_now c.args.self items c.requires,
    )

pub returns : goal.returns
returns g c =
    let items : List Item = g.S.Sequence.items c.args.list.now in
    let before = c.weight_before-before.ensures ∙ ap (λ (n : ℕ). weight_of (items_before n items)) c.name.ensures in
    c.share_at-2.ensures ∙ ap (λ (n : ℕ). share_at (c.args.unit - n + c.args.self.told) items) c.weight-3.ensures
    ∙ share_behind c.args.self items c.requires c.args.unit
    (omega (arith, before, c.if-unit-before.false, c.if-rest-weight.false, c.weight-2.ensures))
