use Rattle.std.proofs.Common.{◌≡◌, ◌≤◌, ◌∙◌, ◌++◌, ◌∷◌, [], length, set, ap, sym, subst, arith, vec_capacity}
use Rattle.td_list.specs.Items.{without}
use Rattle.td_list.specs.Index.{Parts, IsIndex}
use Rattle.td_list.proofs.Joined.{within}
use Rattle.td_list.proofs.Added.{dropped_index}
use Rattle.td_list.proofs.index.Index.drop_chunk.Goals as goal

pub index_mut-requires : goal.index_mut-requires
index_mut-requires g c =
    let w = within c.args.self.now c.requires.index c.args.chunk c.requires.chunk in
    let same = ap (λ (q : Parts). length q.chunks) c.self.view_is in
    omega (arith, c.self.inside.chunks.ok.0)

pub returns-clause-index : goal.returns-clause-index
returns-clause-index g c =
    let p : Parts = c.args.self.now in
    let free : c.push.new.self.items ≡ p.free ++ c.args.chunk ∷ [] = rw c.unwrap.ensures at c.push.ensures.items
    ∙ ap (λ (q : Parts). q.free ++ c.args.chunk ∷ []) c.self.view_is in
    let order : g.S.Sequence.items c.remove.new.self ≡ without c.args.chunk p.order = c.remove.ensures
    ∙ (λ i. without c.args.chunk (c.self.view_is i).order) in
    let room : p.room ≤ vec_capacity c.push.new.self = let r = ap (λ (q : Parts). q.room) c.self.view_is in
    omega (arith, c.push.ensures.capacity) in
    subst IsIndex (λ i. record {
      chunks = set ((sym c.self.view_is i).chunks) c.args.chunk (sym c.new.ensures i);
      order = sym order i;
      homes = (sym c.self.view_is i).homes;
      free = sym free i;
      room = vec_capacity c.push.new.self;
    })
    (dropped_index p c.requires.index c.args.chunk c.requires.chunk (vec_capacity c.push.new.self) room)
