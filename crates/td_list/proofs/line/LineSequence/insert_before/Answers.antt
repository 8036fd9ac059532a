use Rattle.std.proofs.Common.{◌≡◌, ◌∙◌, ◌++◌, take, drop}
use Rattle.td_list.proofs.Parted.{take_place, drop_place}
use Rattle.td_list.specs.Items.{put_before}
use Rattle.td_list.proofs.line.LineSequence.insert_before.Goals as goal

pub returns-clause-ok : goal.returns-clause-ok
returns-clause-ok c =
    let items = c.args.self.now in
    let piece = c.args.piece.now in
    let e : take c.place-place.result items ++ piece ++ drop c.place-place.result items
    ≡ put_before c.args.name piece items =
    (λ i. take (c.place-place.ensures.value i) items ++ piece ++ drop (c.place-place.ensures.value i) items)
    ∙ (λ i. take_place c.args.name items c.requires.there i ++ piece
    ++ drop_place c.args.name items c.requires.there i) in
    rw (← e) c.put.ensures.ok
