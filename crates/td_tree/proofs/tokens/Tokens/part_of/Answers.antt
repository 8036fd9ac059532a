use Rattle.std.proofs.Common.{◌≡◌, ◌≢◌, ◌<◌, ◌≤◌, ◌+◌, ◌-◌, ◌/◌, ◌∙◌, ℕ, sym, subst, ap, arith}
use Rattle.td_base.specs.declared.bit.Bit.TheVariants.{Left, Right}
use Rattle.td_base.specs.Value.{AtomIdValue}
use Rattle.td_path.specs.declared.slot.Slot.TheVariants.{At}
use Rattle.td_brackets.specs.Brackets.{LeafIn}
use Rattle.td_tree.specs.Parts.{table, array_at, part, row_of_array, doc_rows}
use Rattle.td_tree.specs.Reading.{slot_or}
use Rattle.td_tree.proofs.LeafParts.{into_left, into_right, left_part, right_part}
use Rattle.td_tree.proofs.tokens.Tokens.part_of.Goals as goal

pub loop-slot-preserved-then-index-middle : goal.loop-slot-preserved-then-index-middle
loop-slot-preserved-then-index-middle c =
    let p = c.args.self.now in
    let a = c.args.leaf.array in
    let from = c.loop-slot.rows.from in
    let n = c.loop-slot.rows.len in
    let i = c.loop-slot.invariant in
    let below : c.args.index < from + n / 2 = omega (arith, c.if-index-middle.true, c.middle-in-loop-slot.ensures) in
    let low = i.low in
    let some : 0 < n / 2 = omega arith in
    let top : c.id_in-atom.result ≡ (table p (row_of_array p a (from + n / 2))).id = c.id_in-atom.ensures
    ∙ ap (λ (k : ℕ). (table p (row_of_array p k (from + n / 2))).id) i.array in
    rw c.before-rows.ensures
    (record {
      array = i.array;
      is_part = left_part p a from n i.is_part some;
      low = low;
      high = below;
      there = λ round l. subst (λ (x : AtomIdValue). LeafIn (table p) (doc_rows p) (part (array_at p a) from (n / 2))
          (At x Left)) (sym top) (into_left p a from n i.is_part (slot_or round c.loop-slot.slot)
          (i.there round l) some);
    })

pub loop-slot-preserved : goal.loop-slot-preserved
loop-slot-preserved c =
    let p = c.args.self.now in
    let a = c.args.leaf.array in
    let from = c.loop-slot.rows.from in
    let n = c.loop-slot.rows.len in
    let i = c.loop-slot.invariant in
    let other : from + n / 2 ≢ c.args.index = λ e. c.loop-slot-test.true (c.middle.ensures ∙ e) in
    let above : from + n / 2 ≤ c.args.index = omega (arith, c.if-index-middle.false, c.middle-in-loop-slot.ensures) in
    let past : from + n / 2 < c.args.index = omega arith in
    let high = i.high in
    let some : 0 < n - n / 2 - 1 = omega arith in
    let top : c.id_in-atom.result ≡ (table p (row_of_array p a (from + n / 2))).id = c.id_in-atom.ensures
    ∙ ap (λ (k : ℕ). (table p (row_of_array p k (from + n / 2))).id) i.array in
    rw c.after-rows.ensures
    (record {
      array = i.array;
      is_part = right_part p a from n i.is_part some;
      low = omega arith;
      high = omega arith;
      there = λ round l. subst (λ (x : AtomIdValue). LeafIn (table p) (doc_rows p)
          (part (array_at p a) (from + n / 2 + 1) (n - n / 2 - 1)) (At x Right)) (sym top)
          (into_right p a from n i.is_part (slot_or round c.loop-slot.slot) (i.there round l) some);
    })
