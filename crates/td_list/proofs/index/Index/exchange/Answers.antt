use Rattle.std.proofs.Common.{◌≡◌, ◌<◌, ◌≤◌, ◌+◌, ◌^◌, ◌∙◌, ◌++◌, ℕ, List, length, take, drop}
use Rattle.std.proofs.Common.{get_or, set, ap, sym, subst, arith, ◌-◌, length-append}
use Rattle.std.proofs.lemmas.List.{drop_all, append-nil, length-take-le}
use Rattle.td_list.specs.Items.{Item, AreNew, renew, weight_of}
use Rattle.td_list.specs.Index.{Parts, chunk_at, chunks_before, chunks_after, joined, summary, IsIndex}
use Rattle.td_list.proofs.Joined.{within, changed_all, changed_weight}
use Rattle.td_list.proofs.Changes.{splice_index, spliced_weight}
use Rattle.td_list.proofs.index.Index.exchange.Goals as goal

front_only : (place : ℕ) (items piece : List Item) → take place items ++ piece ≡ take place items ++ piece
    ++ drop (length items) items
front_only place items piece = sym (append-nil (take place items ++ piece))
    ∙ ap (λ (q : List Item). take place items ++ piece ++ q) (sym (drop_all (length items) items (omega arith)))

front_alone : (place : ℕ) (items : List Item) → take place items ≡ take place items ++ drop (length items) items
front_alone place items = sym (append-nil (take place items))
    ∙ ap (λ (q : List Item). take place items ++ q) (sym (drop_all (length items) items (omega arith)))

pub settle-requires : goal.settle-requires
settle-requires g c = record {
  within = λ x i. subst (λ (n : ℕ). x < n)
      (ap (λ (q : Parts). length q.homes) (sym c.self.view_is)) (c.requires.room x i);
}

pub renew-requires-clause-light : goal.renew-requires-clause-light
renew-requires-clause-light g c =
    let p : Parts = c.args.self.now in
    let old = chunk_at p.chunks c.args.chunk in
    let l = spliced_weight p c.requires.index c.args.chunk c.requires.chunk c.args.piece.now c.args.place (length old)
    c.requires.place (omega arith) in
    let e = ap (λ (q : List Item). weight_of (chunks_before c.args.chunk p ++ q ++ chunks_after c.args.chunk p))
    (c.requires.is ∙ front_only c.args.place old c.args.piece.now) in
    subst (λ (n : ℕ). n < 2 ^ 31)
    (sym ((λ i. weight_of (renew (c.summary.ensures i) (c.self.view_is i).order))
    ∙ changed_weight p c.requires.index c.args.chunk c.requires.chunk c.args.new))
    (omega (arith, c.requires.light))

pub index_mut-requires : goal.index_mut-requires
index_mut-requires g c =
    let w = within c.args.self.now c.requires.index c.args.chunk c.requires.chunk in
    let same = ap (λ (q : Parts). length q.chunks) c.self.view_is in
    omega (arith, c.self.inside.chunks.ok.0)

pub returns-clause-index : goal.returns-clause-index
returns-clause-index g c =
    let p : Parts = c.args.self.now in
    let old = chunk_at p.chunks c.args.chunk in
    let new : c.args.new ≡ take c.args.place old ++ c.args.piece.now ++ drop (length old) old = c.requires.is
    ∙ front_only c.args.place old c.args.piece.now in
    let long = ap (λ (q : List Item). length q) new in
    let order : g.S.Sequence.items c.renew.new.self
    ≡ renew (summary c.args.chunk (take c.args.place old ++ c.args.piece.now ++ drop (length old) old)) p.order =
    c.renew.ensures ∙ (λ i. renew ((c.summary.ensures ∙ ap (summary c.args.chunk) new) i) (c.self.view_is i).order) in
    subst IsIndex (λ i. record {
      chunks = set ((sym c.self.view_is i).chunks) c.args.chunk (sym new i);
      order = sym order i;
      homes = c.settle.new.homes.items;
      free = (sym c.self.view_is i).free;
      room = (sym c.self.view_is i).room;
    })
    (splice_index p c.requires.index c.args.chunk c.requires.chunk c.args.piece.now c.args.place (length old)
    c.requires.place (omega arith) c.settle.new.homes.items
    (filled c.args.place old c.args.piece.now c.requires.place
    (subst (λ (q : List Item). 0 < length q) c.requires.is c.requires.some)) c.requires.apart
    (subst (λ (q : List Item). AreNew c.args.piece.now
    (chunks_before c.args.chunk p ++ q ++ chunks_after c.args.chunk p)) (front_alone c.args.place old)
    c.requires.fresh)
    (λ x i. (
      subst (λ (n : ℕ). x < n) (sym (c.settle.ensures.length
          ∙ ap (λ (q : Parts). length q.homes) c.self.view_is)) (c.requires.room x i),
      c.settle.ensures.inside x i,
    ))
    (λ x h. (
      subst (λ (n : ℕ). x < n) (sym (c.settle.ensures.length
          ∙ ap (λ (q : Parts). length q.homes) c.self.view_is)) h,
      λ none. c.settle.ensures.outside x none
          ∙ ap (λ (q : Parts). get_or q.homes x 0) c.self.view_is,
    ))
    c.requires.light)
  where
    filled : (place : ℕ) (items piece : List Item) → place ≤ length items → 0 < length (take place items ++ piece)
        → 0 < place + length piece + (length items - length items)
    filled place items piece h s =
        let one = length-append (take place items) piece in
        let two = length-take-le place items h in
        omega arith

pub returns-clause-all : goal.returns-clause-all
returns-clause-all g c =
    let p : Parts = c.args.self.now in
    let order : g.S.Sequence.items c.renew.new.self ≡ renew (summary c.args.chunk c.args.new) p.order =
    c.renew.ensures ∙ (λ i. renew (c.summary.ensures i) (c.self.view_is i).order) in
    (λ i. joined (set ((c.self.view_is i).chunks) c.args.chunk c.args.new) (order i))
    ∙ changed_all p c.requires.index c.args.chunk c.requires.chunk c.args.new
