use Rattle.std.proofs.Common.{◌≡◌, ◌∙◌, ◌<◌, ℕ, List, [], ap, arith, get_or, length}
use Rattle.std.specs.Prelude.{insert}
use Rattle.std.proofs.lemmas.List.{length-map, length-take-le, take_all}
use Rattle.td_doc.specs.Document.{DocRow, live_atoms, live_rows}
use Rattle.td_session.proofs.LiveAtoms.{put_next}
use Rattle.td_session.proofs.shown.rope_of.Goals as goal

pub put_atom-requires-clause-index : goal.put_atom-requires-clause-index
put_atom-requires-clause-index g c =
    let rows : List DocRow = g.D.Doc.rows c.args.doc.now in
    let same : length (live_atoms rows) ≡ length (live_rows rows) =
    length-map (live_rows rows) (λ (r : DocRow). r.atom) in
    let before : c.loop-index.index < c.live-count.result = omega arith in
    omega (arith, before, same, c.live-count.ensures)

pub put_atom-requires-clause-behind : goal.put_atom-requires-clause-behind
put_atom-requires-clause-behind g c =
    let rows : List DocRow = g.D.Doc.rows c.args.doc.now in
    let same : length (live_atoms rows) ≡ length (live_rows rows) =
    length-map (live_rows rows) (λ (r : DocRow). r.atom) in
    let before : c.loop-index.index < c.live-count.result = omega arith in
    ap length c.loop-index.invariant
    ∙ length-take-le c.loop-index.index (live_atoms rows) (omega (arith, before, same, c.live-count.ensures))

pub loop-index-preserved : goal.loop-index-preserved
loop-index-preserved g c =
    let rows : List DocRow = g.D.Doc.rows c.args.doc.now in
    let atoms : List (List ℕ) = live_atoms rows in
    let index : ℕ = c.loop-index.index in
    let same : length (live_atoms rows) ≡ length (live_rows rows) =
    length-map (live_rows rows) (λ (r : DocRow). r.atom) in
    let before : c.loop-index.index < c.live-count.result = omega arith in
    let lt : c.loop-index.index < length (live_atoms rows) = omega (arith, before, same, c.live-count.ensures) in
    c.in_ok-put_atom.ensures
    ∙ ap (λ (front : List (List ℕ)). insert front index (get_or atoms index [])) c.loop-index.invariant
    ∙ put_next atoms index lt

pub returns : goal.returns
returns g c =
    let rows : List DocRow = g.D.Doc.rows c.args.doc.now in
    let same : length (live_atoms rows) ≡ length (live_rows rows) =
    length-map (live_rows rows) (λ (r : DocRow). r.atom) in
    let at_end : c.loop-index.index ≡ c.live-count.result = omega arith in
    c.loop-index.invariant
    ∙ take_all c.loop-index.index (live_atoms rows) (omega (arith, at_end, same, c.live-count.ensures))
