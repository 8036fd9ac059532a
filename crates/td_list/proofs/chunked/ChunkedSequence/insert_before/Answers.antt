use Rattle.std.proofs.Common.{◌≡◌, ◌∙◌, ◌++◌, take, drop, subst, ap}
use Rattle.td_list.specs.Items.{IsItem, put_before}
use Rattle.td_list.specs.Index.{Parts, chunk_at, chunks_before, chunks_after}
use Rattle.td_list.proofs.Seats.{put_here, new_beside}
use Rattle.td_list.proofs.chunked.ChunkedSequence.insert_before.Goals as goal

pub splice-requires-clause-new : goal.splice-requires-clause-new
splice-requires-clause-new g c =
    let s = c.in_ok-seat.ensures in
    new_beside c.seat_with_room.new.self s.index c.in_ok-seat.seat.chunk s.chunk c.in_ok-seat.seat.place
    c.args.piece.now
    (λ x i j. c.requires.new x i (subst (IsItem x) (s.all ∙ c.self.view_is) j))

pub returns-clause-ok : goal.returns-clause-ok
returns-clause-ok g c =
    let p : Parts = c.seat_with_room.new.self in
    let s = c.in_ok-seat.ensures in
    let ch = c.in_ok-seat.seat.chunk in
    let n = c.in_ok-seat.seat.place in
    let piece = c.args.piece.now in
    let e : chunks_before ch p ++ (take n (chunk_at p.chunks ch) ++ piece ++ drop n (chunk_at p.chunks ch))
    ++ chunks_after ch p ≡ put_before c.args.name piece c.args.self.now =
    put_here p s.index ch s.chunk c.args.name s.there n s.place piece
    ∙ ap (put_before c.args.name piece) (s.all ∙ c.self.view_is) in
    rw (← e) c.splice.ensures.ok
