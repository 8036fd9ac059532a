use Rattle.std.proofs.Common.{◌≡◌, ◌∙◌, ◌++◌, ℕ, List, take, drop, sym, subst, ap, arith, append_assoc, Option}
use Rattle.std.proofs.lemmas.List.{append-nil}
use Rattle.td_list.specs.Items.{Item, IsItem, AreNew, place_of, items_before, items_from, items_from_end, replace}
use Rattle.td_list.specs.Index.{Parts, chunk_at, chunks_before, chunks_after}
use Rattle.td_list.proofs.Seats.{place_seat, later_chunk, front_here, back_here}
use Rattle.td_list.proofs.chunked.Chunked.replace.Goals as goal

pub replace_rest-requires-clause-new : goal.replace_rest-requires-clause-new
replace_rest-requires-clause-new g c =
    let p : Parts = c.self.inside.index in
    let s = c.seat-from.ensures in
    let front : chunks_before c.seat-from.result.chunk p
    ++ take c.seat-from.result.place (chunk_at p.chunks c.seat-from.result.chunk)
    ≡ items_before c.args.first c.args.self.now =
    front_here p c.self.invariant c.seat-from.result.chunk s.chunk c.args.first s.there c.seat-from.result.place
    s.place ∙ ap (items_before c.args.first) c.self.view_is in
    subst (AreNew c.args.piece.now)
    (ap (λ (o : Option ℕ). items_before c.args.first c.args.self.now ++ items_from_end o c.args.self.now) c.in-None.is
    ∙ append-nil (items_before c.args.first c.args.self.now) ∙ sym front)
    c.requires.new

pub seat-to-requires-clause-there : goal.seat-to-requires-clause-there
seat-to-requires-clause-there g c = subst (IsItem c.in-Some.end) (sym c.self.view_is)
    (c.requires.end c.in-Some.end c.in-Some.is).0

pub splice-requires-clause-from : goal.splice-requires-clause-from
splice-requires-clause-from g c =
    let p : Parts = c.self.inside.index in
    let s = c.seat-from.ensures in
    let t = c.seat-to.ensures in
    let there = subst (λ (y : ℕ). IsItem c.in-Some.end (chunk_at p.chunks y)) c.if-to-from.true t.there in
    let one = place_seat p c.self.invariant c.seat-from.result.chunk s.chunk c.args.first s.there in
    let two = place_seat p c.self.invariant c.seat-from.result.chunk s.chunk c.in-Some.end there in
    let same = ap (λ (y : ℕ). place_of c.in-Some.end (chunk_at p.chunks y)) c.if-to-from.true in
    let x = ap (place_of c.args.first) c.self.view_is in
    let y = ap (place_of c.in-Some.end) c.self.view_is in
    let l = (c.requires.end c.in-Some.end c.in-Some.is).1 in
    omega (arith, s.place, t.place)

pub splice-requires-clause-new : goal.splice-requires-clause-new
splice-requires-clause-new g c =
    let p : Parts = c.self.inside.index in
    let s = c.seat-from.ensures in
    let t = c.seat-to.ensures in
    let ch : ℕ = c.seat-from.result.chunk in
    let there = subst (λ (y : ℕ). IsItem c.in-Some.end (chunk_at p.chunks y)) c.if-to-from.true t.there in
    let at = t.place ∙ ap (λ (y : ℕ). place_of c.in-Some.end (chunk_at p.chunks y)) c.if-to-from.true in
    let front : chunks_before ch p ++ take c.seat-from.result.place (chunk_at p.chunks ch)
    ≡ items_before c.args.first c.args.self.now =
    front_here p c.self.invariant ch s.chunk c.args.first s.there c.seat-from.result.place s.place
    ∙ ap (items_before c.args.first) c.self.view_is in
    let back : drop c.seat-to.result.place (chunk_at p.chunks ch) ++ chunks_after ch p
    ≡ items_from c.in-Some.end c.args.self.now =
    back_here p c.self.invariant ch s.chunk c.in-Some.end there c.seat-to.result.place at
    ∙ ap (items_from c.in-Some.end) c.self.view_is in
    subst (AreNew c.args.piece.now)
    (ap (λ (o : Option ℕ). items_before c.args.first c.args.self.now ++ items_from_end o c.args.self.now) c.in-Some.is
    ∙ (λ i. sym front i ++ sym back i) ∙ regroup (chunks_before ch p)
    (take c.seat-from.result.place (chunk_at p.chunks ch)) (drop c.seat-to.result.place (chunk_at p.chunks ch))
    (chunks_after ch p))
    c.requires.new
  where
    regroup : (a b d e : List Item) → (a ++ b) ++ (d ++ e) ≡ a ++ (b ++ d) ++ e
    regroup a b d e = simp append_assoc

pub replace_far-requires-clause-later : goal.replace_far-requires-clause-later
replace_far-requires-clause-later g c =
    let p : Parts = c.self.inside.index in
    let s = c.seat-from.ensures in
    let t = c.seat-to.ensures in
    let x = ap (place_of c.args.first) c.self.view_is in
    let y = ap (place_of c.in-Some.end) c.self.view_is in
    let l = (c.requires.end c.in-Some.end c.in-Some.is).1 in
    later_chunk p c.self.invariant c.seat-from.result.chunk c.seat-to.result.chunk c.args.first c.in-Some.end s.chunk
    t.chunk c.if-to-from.false s.there t.there (omega arith)

pub replace_far-requires-clause-new : goal.replace_far-requires-clause-new
replace_far-requires-clause-new g c =
    let p : Parts = c.self.inside.index in
    let s = c.seat-from.ensures in
    let t = c.seat-to.ensures in
    let front : chunks_before c.seat-from.result.chunk p
    ++ take c.seat-from.result.place (chunk_at p.chunks c.seat-from.result.chunk)
    ≡ items_before c.args.first c.args.self.now =
    front_here p c.self.invariant c.seat-from.result.chunk s.chunk c.args.first s.there c.seat-from.result.place
    s.place ∙ ap (items_before c.args.first) c.self.view_is in
    let back : drop c.seat-to.result.place (chunk_at p.chunks c.seat-to.result.chunk)
    ++ chunks_after c.seat-to.result.chunk p ≡ items_from c.in-Some.end c.args.self.now =
    back_here p c.self.invariant c.seat-to.result.chunk t.chunk c.in-Some.end t.there c.seat-to.result.place t.place
    ∙ ap (items_from c.in-Some.end) c.self.view_is in
    subst (AreNew c.args.piece.now)
    (ap (λ (o : Option ℕ). items_before c.args.first c.args.self.now ++ items_from_end o c.args.self.now) c.in-Some.is
    ∙ (λ i. sym front i ++ sym back i))
    c.requires.new

pub returns-in-None-clause-ok : goal.returns-in-None-clause-ok
returns-in-None-clause-ok g c =
    let p : Parts = c.self.inside.index in
    let s = c.seat-from.ensures in
    let piece = c.args.piece.now in
    let front : chunks_before c.seat-from.result.chunk p
    ++ take c.seat-from.result.place (chunk_at p.chunks c.seat-from.result.chunk)
    ≡ items_before c.args.first c.args.self.now =
    front_here p c.self.invariant c.seat-from.result.chunk s.chunk c.args.first s.there c.seat-from.result.place
    s.place ∙ ap (items_before c.args.first) c.self.view_is in
    let e : (chunks_before c.seat-from.result.chunk p
    ++ take c.seat-from.result.place (chunk_at p.chunks c.seat-from.result.chunk)) ++ piece
    ≡ replace c.args.first c.args.end piece c.args.self.now =
    ap (λ (xs : List Item). xs ++ piece) front ∙ sym (append-nil (items_before c.args.first c.args.self.now ++ piece))
    ∙ ap (λ (o : Option ℕ). items_before c.args.first c.args.self.now ++ piece ++ items_from_end o c.args.self.now)
    (sym c.in-None.is) in
    rw (← e) c.replace_rest.ensures.ok

pub returns-then-to-from-clause-ok : goal.returns-then-to-from-clause-ok
returns-then-to-from-clause-ok g c =
    let p : Parts = c.self.inside.index in
    let s = c.seat-from.ensures in
    let t = c.seat-to.ensures in
    let piece = c.args.piece.now in
    let ch : ℕ = c.seat-from.result.chunk in
    let there = subst (λ (y : ℕ). IsItem c.in-Some.end (chunk_at p.chunks y)) c.if-to-from.true t.there in
    let at = t.place ∙ ap (λ (y : ℕ). place_of c.in-Some.end (chunk_at p.chunks y)) c.if-to-from.true in
    let front : chunks_before ch p ++ take c.seat-from.result.place (chunk_at p.chunks ch)
    ≡ items_before c.args.first c.args.self.now =
    front_here p c.self.invariant ch s.chunk c.args.first s.there c.seat-from.result.place s.place
    ∙ ap (items_before c.args.first) c.self.view_is in
    let back : drop c.seat-to.result.place (chunk_at p.chunks ch) ++ chunks_after ch p
    ≡ items_from c.in-Some.end c.args.self.now =
    back_here p c.self.invariant ch s.chunk c.in-Some.end there c.seat-to.result.place at
    ∙ ap (items_from c.in-Some.end) c.self.view_is in
    let e : chunks_before ch p ++ (take c.seat-from.result.place (chunk_at p.chunks ch) ++ piece
    ++ drop c.seat-to.result.place (chunk_at p.chunks ch)) ++ chunks_after ch p
    ≡ replace c.args.first c.args.end piece c.args.self.now =
    regroup (chunks_before ch p) (take c.seat-from.result.place (chunk_at p.chunks ch)) piece
    (drop c.seat-to.result.place (chunk_at p.chunks ch)) (chunks_after ch p)
    ∙ (λ i. front i ++ piece ++ back i)
    ∙ ap (λ (o : Option ℕ). items_before c.args.first c.args.self.now ++ piece ++ items_from_end o c.args.self.now)
    (sym c.in-Some.is) in
    rw (← e) c.splice.ensures.ok
  where
    regroup : (a b x d e : List Item) → a ++ (b ++ x ++ d) ++ e ≡ (a ++ b) ++ x ++ (d ++ e)
    regroup a b x d e = simp append_assoc

pub returns-else-to-from-clause-ok : goal.returns-else-to-from-clause-ok
returns-else-to-from-clause-ok g c =
    let p : Parts = c.self.inside.index in
    let s = c.seat-from.ensures in
    let t = c.seat-to.ensures in
    let piece = c.args.piece.now in
    let front : chunks_before c.seat-from.result.chunk p
    ++ take c.seat-from.result.place (chunk_at p.chunks c.seat-from.result.chunk)
    ≡ items_before c.args.first c.args.self.now =
    front_here p c.self.invariant c.seat-from.result.chunk s.chunk c.args.first s.there c.seat-from.result.place
    s.place ∙ ap (items_before c.args.first) c.self.view_is in
    let back : drop c.seat-to.result.place (chunk_at p.chunks c.seat-to.result.chunk)
    ++ chunks_after c.seat-to.result.chunk p ≡ items_from c.in-Some.end c.args.self.now =
    back_here p c.self.invariant c.seat-to.result.chunk t.chunk c.in-Some.end t.there c.seat-to.result.place t.place
    ∙ ap (items_from c.in-Some.end) c.self.view_is in
    let e : (chunks_before c.seat-from.result.chunk p
    ++ take c.seat-from.result.place (chunk_at p.chunks c.seat-from.result.chunk)) ++ piece
    ++ (drop c.seat-to.result.place (chunk_at p.chunks c.seat-to.result.chunk)
    ++ chunks_after c.seat-to.result.chunk p) ≡ replace c.args.first c.args.end piece c.args.self.now =
    (λ i. front i ++ piece ++ back i)
    ∙ ap (λ (o : Option ℕ). items_before c.args.first c.args.self.now ++ piece ++ items_from_end o c.args.self.now)
    (sym c.in-Some.is) in
    rw (← e) c.replace_far.ensures.ok
