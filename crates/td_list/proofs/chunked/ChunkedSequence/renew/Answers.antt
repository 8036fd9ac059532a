use Rattle.std.proofs.Common.{◌<◌, ◌^◌, ◌∙◌, refl, ℕ, List, get_or, sym, subst, ap}
use Rattle.td_list.specs.Items.{Item, IsItem, place_of, renew, weight_of}
use Rattle.td_list.specs.Index.{Parts, chunk_at}
use Rattle.td_list.specs.Places.{nothing}
use Rattle.td_list.proofs.Parted.{name_there}
use Rattle.td_list.proofs.Seats.{renew_here}
use Rattle.td_list.proofs.chunked.ChunkedSequence.renew.Goals as goal

pub renew-requires-clause-named : goal.renew-requires-clause-named
renew-requires-clause-named g c =
    let s = c.seat-seat.ensures in
    let old = chunk_at c.self.inside.index.chunks c.seat-seat.result.chunk in
    sym (ap (λ (n : ℕ). (get_or old n nothing).name) s.place ∙ name_there c.name.result old s.there ∙ c.name.ensures)

pub renew-requires-clause-light : goal.renew-requires-clause-light
renew-requires-clause-light g c =
    let p : Parts = c.self.inside.index in
    let s = c.seat-seat.ensures in
    let old = chunk_at p.chunks c.seat-seat.result.chunk in
    let there = subst (λ (x : ℕ). IsItem x old) c.name.ensures s.there in
    let place = s.place ∙ ap (λ (x : ℕ). place_of x old) c.name.ensures in
    subst (λ (xs : List Item). weight_of xs < 2 ^ 31)
    (sym (renew_here p c.self.invariant c.seat-seat.result.chunk s.chunk c.args.item.name there
    c.seat-seat.result.place place c.args.item refl ∙ ap (renew c.args.item) c.self.view_is))
    c.requires.light

pub returns : goal.returns
returns g c =
    let p : Parts = c.self.inside.index in
    let s = c.seat-seat.ensures in
    let old = chunk_at p.chunks c.seat-seat.result.chunk in
    let there = subst (λ (x : ℕ). IsItem x old) c.name.ensures s.there in
    let place = s.place ∙ ap (λ (x : ℕ). place_of x old) c.name.ensures in
    c.renew.ensures.all ∙ renew_here p c.self.invariant c.seat-seat.result.chunk s.chunk c.args.item.name there
    c.seat-seat.result.place place c.args.item refl ∙ ap (renew c.args.item) c.self.view_is
