use Rattle.std.proofs.Common.{◌≡◌, ◌<◌, ◌∙◌, ℕ, List, length, get_or, ap, sym, subst, arith}
use Rattle.std.proofs.lemmas.List.{get_or_default}
use Rattle.td_list.specs.Items.{IsItem, AreApart}
use Rattle.td_list.specs.Index.{Parts, chunk_at}
use Rattle.td_list.proofs.Joined.{home, within, apart_in}
use Rattle.td_list.proofs.index.Index.seat.Goals as goal

pub index-chunk-requires : goal.index-chunk-requires
index-chunk-requires g c =
    let h = home c.args.self.now c.requires.index c.args.name c.requires.there in
    let same = ap (λ (q : Parts). length q.homes) c.self.view_is in
    omega (arith, h.0, c.self.inside.homes.ok.0)

-- the chunk is the home of the item
read_home : (inside homes : List ℕ) (x r : ℕ) → inside ≡ homes → r ≡ get_or inside x r → x < length homes → r
    ≡ get_or homes x 0
read_home inside homes x r same e h = e ∙ ap (λ (q : List ℕ). get_or q x r) same ∙ get_or_default homes x r 0 h

pub numbered-requires : goal.numbered-requires
numbered-requires g c =
    let p : Parts = c.args.self.now in
    let h = home p c.requires.index c.args.name c.requires.there in
    let e : c.index-chunk.result.now ≡ get_or p.homes c.args.name 0 =
    read_home c.self.inside.homes.items p.homes c.args.name c.index-chunk.result.now
    (ap (λ (q : Parts). q.homes) c.self.view_is) c.index-chunk.ensures h.0 in
    within p c.requires.index c.index-chunk.result.now (subst (λ (y : ℕ). IsItem y p.order) (sym e) h.1)

pub place_of-place-requires-clause-there : goal.place_of-place-requires-clause-there
place_of-place-requires-clause-there g c =
    let p : Parts = c.args.self.now in
    let h = home p c.requires.index c.args.name c.requires.there in
    let e : c.index-chunk.result.now ≡ get_or p.homes c.args.name 0 =
    read_home c.self.inside.homes.items p.homes c.args.name c.index-chunk.result.now
    (ap (λ (q : Parts). q.homes) c.self.view_is) c.index-chunk.ensures h.0 in
    subst (IsItem c.args.name) (ap (chunk_at p.chunks) (sym e) ∙ sym c.numbered.ensures) h.2

pub place_of-place-requires-clause-apart : goal.place_of-place-requires-clause-apart
place_of-place-requires-clause-apart g c =
    let p : Parts = c.args.self.now in
    let h = home p c.requires.index c.args.name c.requires.there in
    let e : c.index-chunk.result.now ≡ get_or p.homes c.args.name 0 =
    read_home c.self.inside.homes.items p.homes c.args.name c.index-chunk.result.now
    (ap (λ (q : Parts). q.homes) c.self.view_is) c.index-chunk.ensures h.0 in
    subst AreApart (ap (chunk_at p.chunks) (sym e) ∙ sym c.numbered.ensures)
    (apart_in p c.requires.index (get_or p.homes c.args.name 0) h.1)

pub returns-clause-chunk : goal.returns-clause-chunk
returns-clause-chunk g c =
    let p : Parts = c.args.self.now in
    let h = home p c.requires.index c.args.name c.requires.there in
    let e : c.index-chunk.result.now ≡ get_or p.homes c.args.name 0 =
    read_home c.self.inside.homes.items p.homes c.args.name c.index-chunk.result.now
    (ap (λ (q : Parts). q.homes) c.self.view_is) c.index-chunk.ensures h.0 in
    subst (λ (y : ℕ). IsItem y p.order) (sym e) h.1

pub returns-clause-there : goal.returns-clause-there
returns-clause-there g c =
    let p : Parts = c.args.self.now in
    let h = home p c.requires.index c.args.name c.requires.there in
    let e : c.index-chunk.result.now ≡ get_or p.homes c.args.name 0 =
    read_home c.self.inside.homes.items p.homes c.args.name c.index-chunk.result.now
    (ap (λ (q : Parts). q.homes) c.self.view_is) c.index-chunk.ensures h.0 in
    subst (IsItem c.args.name) (ap (chunk_at p.chunks) (sym e)) h.2
