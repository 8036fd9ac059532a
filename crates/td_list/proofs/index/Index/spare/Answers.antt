use Rattle.std.proofs.Common.{◌≡◌, ◌<◌, ◌≤◌, ◌+◌, ◌^◌, ◌∙◌, ◌++◌, ◌∷◌, [], length, ap, sym, subst, arith, vec_capacity}
use Rattle.std.proofs.lemmas.List.{nil_from_length}
use Rattle.td_list.specs.Index.{Parts, IsIndex}
use Rattle.td_list.proofs.Added.{spared_index, room_index}
use Rattle.td_list.proofs.index.Index.spare.Goals as goal

pub returns-in_err-push_empty-clause-index : goal.returns-in_err-push_empty-clause-index
returns-in_err-push_empty-clause-index g c =
    let p : Parts = c.args.self.now in
    let chunks : c.push_empty.new.chunks.items ≡ p.chunks = c.in_err-push_empty.ensures.err
    ∙ ap (λ (q : Parts). q.chunks) c.self.view_is in
    let free : c.reserve.new.self.items ≡ p.free = c.reserve.ensures.items
    ∙ ap (λ (q : Parts). q.free) c.self.view_is in
    let room : p.room ≤ vec_capacity c.reserve.new.self = let r = ap (λ (q : Parts). q.room) c.self.view_is in
    omega (arith, c.reserve.ensures.capacity) in
    subst IsIndex (λ i. record {
      chunks = sym chunks i;
      order = (sym c.self.view_is i).order;
      homes = (sym c.self.view_is i).homes;
      free = sym free i;
      room = vec_capacity c.reserve.new.self;
    })
    (room_index p c.requires.index (vec_capacity c.reserve.new.self) room)

pub returns-clause-index : goal.returns-clause-index
returns-clause-index g c =
    let p : Parts = c.args.self.now in
    let same = ap (λ (q : Parts). length q.chunks) c.self.view_is in
    let new : c.len-new.result ≡ length p.chunks = omega (arith, c.len-new.ensures, c.self.inside.chunks.ok.0) in
    let chunks : c.push_empty.new.chunks.items ≡ p.chunks ++ [] ∷ [] =
    c.in_ok-push_empty.ensures.ok ∙ (λ i. (c.self.view_is i).chunks ++ [] ∷ []) in
    let none : p.free ≡ [] = ap (λ (q : Parts). q.free) (sym c.self.view_is)
    ∙ nil_from_length c.self.inside.free.items (omega
    (arith, c.if-len-gt0.false, c.len.ensures, c.self.inside.free.ok.0)) in
    let free : c.push.new.self.items ≡ p.free ++ length p.chunks ∷ [] =
    rw c.unwrap.ensures at c.push.ensures.items ∙ (λ i.
    (c.reserve.ensures.items ∙ ap (λ (q : Parts). q.free) c.self.view_is) i ++ new i ∷ []) in
    let room : length p.chunks + 1 ≤ vec_capacity c.push.new.self =
    omega (arith, c.in_ok-reserve.ensures.ok, c.push.ensures.capacity) in
    let few : length p.chunks + 1 < 2 ^ 32 = omega (arith, c.if-new.false) in
    subst IsIndex (λ i. record {
      chunks = sym chunks i;
      order = (sym c.self.view_is i).order;
      homes = (sym c.self.view_is i).homes;
      free = sym free i;
      room = vec_capacity c.push.new.self;
    })
    (spared_index p c.requires.index (vec_capacity c.push.new.self) none room few)
