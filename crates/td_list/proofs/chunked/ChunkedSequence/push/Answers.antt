use Rattle.std.proofs.Common.{◌≡◌, ◌∙◌, ◌++◌, ℕ, List, length, take, drop, sym, subst, ap, arith}
use Rattle.td_list.specs.Items.{Item, IsItem}
use Rattle.td_list.specs.Index.{Parts, chunk_at, chunks_before, chunks_after}
use Rattle.td_list.proofs.Joined.{within, some}
use Rattle.td_list.proofs.Seats.{put_last, new_beside, last_is_item}
use Rattle.td_list.proofs.chunked.ChunkedSequence.push.Goals as goal

pub items_of-end-requires : goal.items_of-end-requires
items_of-end-requires g c =
    let p : Parts = c.self.inside.index in
    within p c.self.invariant c.in-Some.chunk (last_is_item p.order c.in-Some.chunk
    (sym c.in-Some.is ∙ c.last_chunk.ensures))

pub splice-requires-clause-chunk : goal.splice-requires-clause-chunk
splice-requires-clause-chunk g c =
    let p : Parts = c.self.inside.index in
    last_is_item p.order c.in-Some.chunk (sym c.in-Some.is ∙ c.last_chunk.ensures)

pub splice-requires-clause-some : goal.splice-requires-clause-some
splice-requires-clause-some g c =
    let p : Parts = c.self.inside.index in
    let s = some p c.self.invariant c.in-Some.chunk
    (last_is_item p.order c.in-Some.chunk (sym c.in-Some.is ∙ c.last_chunk.ensures)) in
    let e = ap (λ (xs : List Item). length xs) c.items_of-end.ensures in
    omega arith

pub splice-requires-clause-new : goal.splice-requires-clause-new
splice-requires-clause-new g c =
    let p : Parts = c.self.inside.index in
    new_beside p c.self.invariant c.in-Some.chunk (last_is_item p.order c.in-Some.chunk
    (sym c.in-Some.is ∙ c.last_chunk.ensures)) (length c.items_of-end.result.now) c.args.piece.now
    (λ x i j. c.requires.new x i (subst (IsItem x) c.self.view_is j))

pub returns-then-end-lt-FULL-clause-ok : goal.returns-then-end-lt-FULL-clause-ok
returns-then-end-lt-FULL-clause-ok g c =
    let p : Parts = c.self.inside.index in
    let piece = c.args.piece.now in
    let n : ℕ = length c.items_of-end.result.now in
    let last = sym c.in-Some.is ∙ c.last_chunk.ensures in
    let there = last_is_item p.order c.in-Some.chunk last in
    let e : chunks_before c.in-Some.chunk p ++ (take n (chunk_at p.chunks c.in-Some.chunk) ++ piece
    ++ drop n (chunk_at p.chunks c.in-Some.chunk)) ++ chunks_after c.in-Some.chunk p ≡ c.args.self.now ++ piece =
    put_last p c.self.invariant c.in-Some.chunk there last n
    (ap (λ (xs : List Item). length xs) c.items_of-end.ensures) piece
    ∙ ap (λ (xs : List Item). xs ++ piece) c.self.view_is in
    rw (← e) c.splice.ensures.ok
