use Rattle.std.proofs.Common.{List, ◌≡◌, ◌<◌, ◌+◌, ◌-◌, ◌/◌, ◌++◌, [], ◌∷◌, length, drop, sym, ap, ◌∙◌, arith}
use Rattle.std.specs.declared.cmp.Ordering.TheVariants.{Less, Equal, Greater}
use Rattle.std.specs.Prelude.{slice_get}
use Rattle.std.proofs.lemmas.Cmp.{ranked}
use Rattle.std.proofs.lemmas.List.{take_all, length-take-le, length-drop}
use Rattle.td_base.specs.declared.bit.Bit.TheVariants.{Right}
use Rattle.td_path.specs.declared.slot_path.SlotPath.TheVariants.{Below}
use Rattle.td_doc.specs.Array.{array}
use Rattle.td_base.specs.RunAtoms.{NamedAtom}
use Rattle.td_doc.proofs.ArrayPlaces.{array_front, step_left, step_right, arrived}
use Rattle.td_doc.proofs.array.array_row.Goals as goal

pub loop-path-init : goal.loop-path-init
loop-path-init c = record {
  within = omega arith;
  few = omega arith;
  row = ap (λ rows. slice_get rows c.args.place)
      (sym (array_front c.args.slot.now c.in_ok-path.path c.in_ok-path.bit c.args.atoms.now c.in_ok-path.ensures));
}

pub loop-path-preserved-in-Less : goal.loop-path-preserved-in-Less
loop-path-preserved-in-Less c =
    let rest = c.loop-path.rest.now in
    let k = c.loop-path.left in
    let less : k < length rest / 2 = ranked k (length rest / 2) Less c.in-Less.ensures in
    let len = length-take-le (length rest / 2) rest (omega arith) in
    let pushed = c.in_ok-push.ensures.ok ∙ ap (λ (a : NamedAtom). c.loop-path.path ++ (c.loop-path.bit, a.id) ∷ [])
    c.node.view_is in
    record {
      within = omega (arith, less, len);
      few = omega (arith, less, len, c.loop-path.invariant.few);
      row = step_left rest c.index-rest-middle.result c.loop-path.path c.push.new.self c.loop-path.bit k
          c.loop-path.invariant.within c.index-rest-middle.is pushed less ∙ c.loop-path.invariant.row;
    }

pub returns-in-Equal : goal.returns-in-Equal
returns-in-Equal c =
    let rest = c.loop-path.rest.now in
    let k = c.loop-path.left in
    let same : k ≡ length rest / 2 = ranked k (length rest / 2) Equal c.in-Equal.ensures in
    let pushed = c.in_ok-push.ensures.ok ∙ ap (λ (a : NamedAtom). c.loop-path.path ++ (c.loop-path.bit, a.id) ∷ [])
    c.node.view_is in
    let row = c.new.ensures ∙ ap (λ (a : NamedAtom). record { path = c.push.new.self; atom = a.atom; deletes = [] })
    c.node.view_is in
    sym c.loop-path.invariant.row
    ∙ arrived rest c.index-rest-middle.result c.loop-path.path c.push.new.self c.loop-path.bit k
    c.loop-path.invariant.within c.index-rest-middle.is pushed c.new.result same row

pub loop-path-preserved : goal.loop-path-preserved
loop-path-preserved c =
    let rest = c.loop-path.rest.now in
    let k = c.loop-path.left in
    let more : length rest / 2 < k = ranked k (length rest / 2) Greater c.in-Greater.ensures in
    let pushed = c.in_ok-push.ensures.ok ∙ ap (λ (a : NamedAtom). c.loop-path.path ++ (c.loop-path.bit, a.id) ∷ [])
    c.node.view_is in
    let tail = drop (length rest / 2 + 1) rest in
    let len = length-drop (length rest / 2 + 1) rest in
    let whole = take_all (length rest - (length rest / 2 + 1)) tail (omega (arith, len)) in
    let size = ap length whole in
    record {
      within = omega (arith, size, len, more, c.loop-path.invariant.within);
      few = omega (arith, size, len, c.loop-path.invariant.few);
      row =
          ap (λ (q : List NamedAtom). slice_get (array (Below c.push.new.self Right) q) (k - (length rest / 2 + 1)))
          whole
          ∙ step_right rest c.index-rest-middle.result c.loop-path.path c.push.new.self c.loop-path.bit k
          c.loop-path.invariant.within c.index-rest-middle.is pushed more
          ∙ c.loop-path.invariant.row;
    }
