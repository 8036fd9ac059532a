use Rattle.std.proofs.Common.{◌-◌, ◌∙◌, List, ℕ, sym, ap, take, drop, subst, length, length-drop, arith}
use Rattle.std.proofs.lemmas.List.{length-take}
use Rattle.std.specs.List.{All, concat, slice_range}
use Rattle.td_base.specs.Atom.{IsAtom}
use Rattle.td_rope.proofs.Pieces.{starts, ends_within, stretch_bytes}
use Rattle.td_rope.proofs.chunk.Chunk.bytes_of.Goals as goal

pub slice_bounds-result-count : goal.slice_bounds-result-count
slice_bounds-result-count c = omega (
  arith,
  c.start-start.ensures,
  c.start-end.ensures,
  starts c.args.self.now
      c.args.from c.args.to c.requires.from,
)

pub slice_bounds-result-start : goal.slice_bounds-result-start
slice_bounds-result-start c =
    let order = starts c.args.self.now c.args.from c.args.to c.requires.from in
    let within = ends_within c.self.inside.lengths.items c.self.inside.bytes.items c.args.self.now c.args.to
    c.start-end.result
    c.self.invariant.parts.whole c.self.view_is c.start-end.ensures in
    omega (arith, c.start-start.ensures, c.start-end.ensures, order, within, ap length c.deref.ensures.value)

pub slice_bounds-result-end : goal.slice_bounds-result-end
slice_bounds-result-end c =
    let order = starts c.args.self.now c.args.from c.args.to c.requires.from in
    let within = ends_within c.self.inside.lengths.items c.self.inside.bytes.items c.args.self.now c.args.to
    c.start-end.result
    c.self.invariant.parts.whole c.self.view_is c.start-end.ensures in
    omega (arith, c.start-start.ensures, c.start-end.ensures, order, within, ap length c.deref.ensures.value)

pub returns-clause-each : goal.returns-clause-each
returns-clause-each c = subst (All IsAtom) c.self.view_is c.self.invariant.parts.each

pub returns-clause-bytes : goal.returns-clause-bytes
returns-clause-bytes c =
    let from = c.args.from in
    let to = c.args.to in
    let view = sym c.self.view_is in
    ap (λ (bs : List ℕ). slice_range bs c.start-start.result c.start-end.result) c.deref.ensures.value
    ∙ stretch_bytes c.self.inside.lengths.items c.self.inside.bytes.items from to c.start-start.result
    c.start-end.result
    c.self.invariant.parts.whole c.requires.from
    (c.start-start.ensures ∙ ap (λ (atoms : List (List ℕ)). length (concat (take from atoms))) view)
    (c.start-end.ensures ∙ ap (λ (atoms : List (List ℕ)). length (concat (take to atoms))) view)
    ∙ ap (λ (atoms : List (List ℕ)). concat (slice_range atoms from to)) c.self.view_is

pub returns-clause-few : goal.returns-clause-few
returns-clause-few c =
    let from = c.start-start.result in
    let size = c.start-end.result - from in
    omega (
      arith,
      length-take size (drop from c.deref.result.now),
      length-drop from c.deref.result.now,
      ap length c.deref.ensures.value,
      c.self.inside.bytes.ok.0,
      c.self.inside.bytes.ok.1,
      c.self.inside.bytes.small,
    )
