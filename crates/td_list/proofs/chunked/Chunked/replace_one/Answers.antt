use Rattle.std.proofs.Common.{◌≡◌, ◌∙◌, ◌++◌, ◌+◌, ℕ, List, take, drop, sym, subst, ap, append_assoc}
use Rattle.td_list.specs.Items.{Item, AreNew, items_before, items_after}
use Rattle.td_list.specs.Index.{Parts, chunk_at, chunks_before, chunks_after}
use Rattle.td_list.proofs.Seats.{front_here, rest_here}
use Rattle.td_list.proofs.chunked.Chunked.replace_one.Goals as goal

pub splice-requires-clause-new : goal.splice-requires-clause-new
splice-requires-clause-new g c =
    let p : Parts = c.seat_with_room.new.self in
    let s = c.in_ok-seat.ensures in
    let ch : ℕ = c.in_ok-seat.seat.chunk in
    let n : ℕ = c.in_ok-seat.seat.place in
    let here : List Item = chunk_at p.chunks ch in
    let front : chunks_before ch p ++ take n here ≡ items_before c.args.name c.args.self.now =
    front_here p s.index ch s.chunk c.args.name s.there n s.place
    ∙ ap (items_before c.args.name) (s.all ∙ c.self.view_is) in
    let back : drop (n + 1) here ++ chunks_after ch p ≡ items_after c.args.name c.args.self.now =
    rest_here p s.index ch s.chunk c.args.name s.there n s.place
    ∙ ap (items_after c.args.name) (s.all ∙ c.self.view_is) in
    subst (AreNew c.args.piece.now)
    ((λ i. sym front i ++ sym back i) ∙ regroup (chunks_before ch p) (take n here) (drop (n + 1) here)
    (chunks_after ch p))
    c.requires.new
  where
    regroup : (a b d e : List Item) → (a ++ b) ++ (d ++ e) ≡ a ++ (b ++ d) ++ e
    regroup a b d e = simp append_assoc

pub returns-clause-ok : goal.returns-clause-ok
returns-clause-ok g c =
    let p : Parts = c.seat_with_room.new.self in
    let s = c.in_ok-seat.ensures in
    let ch : ℕ = c.in_ok-seat.seat.chunk in
    let n : ℕ = c.in_ok-seat.seat.place in
    let here : List Item = chunk_at p.chunks ch in
    let piece = c.args.piece.now in
    let front : chunks_before ch p ++ take n here ≡ items_before c.args.name c.args.self.now =
    front_here p s.index ch s.chunk c.args.name s.there n s.place
    ∙ ap (items_before c.args.name) (s.all ∙ c.self.view_is) in
    let back : drop (n + 1) here ++ chunks_after ch p ≡ items_after c.args.name c.args.self.now =
    rest_here p s.index ch s.chunk c.args.name s.there n s.place
    ∙ ap (items_after c.args.name) (s.all ∙ c.self.view_is) in
    let e : chunks_before ch p ++ (take n here ++ piece ++ drop (n + 1) here) ++ chunks_after ch p
    ≡ items_before c.args.name c.args.self.now ++ (piece ++ items_after c.args.name c.args.self.now) =
    regroup (chunks_before ch p) (take n here) piece (drop (n + 1) here) (chunks_after ch p)
    ∙ (λ i. front i ++ (piece ++ back i)) in
    rw (← e) c.splice.ensures.ok
  where
    regroup : (a b x d e : List Item) → a ++ (b ++ x ++ d) ++ e ≡ (a ++ b) ++ (x ++ (d ++ e))
    regroup a b x d e = simp append_assoc
