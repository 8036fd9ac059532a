use Rattle.std.proofs.Common.{◌<◌, ◌-◌, ℕ, List, length, rules, sym, subst, set}
use Rattle.td_line.specs.declared.answer.Answer.{Answer}
use Rattle.td_room.specs.Ending.{HasFirst, without_first, CanGather}
use Rattle.td_room.proofs.Gathers.{place_there, some_there, first_is, one_more}
use Rattle.td_room.proofs.Lines.{first_out}
use Rattle.td_room.proofs.gathering.gather_next.Goals as goal

pub index_mut-site-requires : goal.index_mut-site-requires
index_mut-site-requires c =
    let hs : List ℕ = c.args.homes.now.items in
    let bs = c.args.sites.now.items in
    let h : ℕ = c.remove-home.result in
    let p = first_out hs c.remove-home.new.self.items h c.requires.some c.remove-home.ensures.value
    c.remove-home.ensures.items in
    let can = subst (λ (l : List ℕ). CanGather l bs) p c.requires.can in
    let there : c.place-place.result < length bs =
    subst (λ (k : ℕ). k < length bs) (sym c.place-place.ensures.place) (place_there (h - 1) bs can.1) in
    search rules

pub take_first-answers-requires : goal.take_first-answers-requires
take_first-answers-requires c =
    let hs : List ℕ = c.args.homes.now.items in
    let bs = c.args.sites.now.items in
    let h : ℕ = c.remove-home.result in
    let p = first_out hs c.remove-home.new.self.items h c.requires.some c.remove-home.ensures.value
    c.remove-home.ensures.items in
    let can = subst (λ (l : List ℕ). CanGather l bs) p c.requires.can in
    let has : HasFirst c.place-place.result bs = subst (λ (k : ℕ). HasFirst k bs) (sym c.place-place.ensures.place)
    can.1 in
    some_there c.place-place.result bs c.index_mut-site.result.now has c.index_mut-site.ensures.value

pub returns-clause-can : goal.returns-clause-can
returns-clause-can c =
    let hs : List ℕ = c.args.homes.now.items in
    let bs = c.args.sites.now.items in
    let h : ℕ = c.remove-home.result in
    let p = first_out hs c.remove-home.new.self.items h c.requires.some c.remove-home.ensures.value
    c.remove-home.ensures.items in
    let can = subst (λ (l : List ℕ). CanGather l bs) p c.requires.can in
    let has : HasFirst c.place-place.result bs = subst (λ (k : ℕ). HasFirst k bs) (sym c.place-place.ensures.place)
    can.1 in
    let is = first_is c.place-place.result bs c.index_mut-site.result.now c.take_first-answers.new.self
    c.take_first-answers.result
    (place_there c.place-place.result bs has) c.index_mut-site.ensures.value c.take_first-answers.ensures in
    subst (λ (l : List (List (List Answer))). CanGather c.remove-home.new.self.items l) is.1
    (subst (λ (k : ℕ). CanGather c.remove-home.new.self.items (without_first k bs)) (sym c.place-place.ensures.place)
    can.2)

pub returns-clause-all : goal.returns-clause-all
returns-clause-all c =
    let hs : List ℕ = c.args.homes.now.items in
    let rest : List ℕ = c.remove-home.new.self.items in
    let bs = c.args.sites.now.items in
    let h : ℕ = c.remove-home.result in
    let a : List Answer = c.take_first-answers.result in
    let p = first_out hs rest h c.requires.some c.remove-home.ensures.value c.remove-home.ensures.items in
    let can = subst (λ (l : List ℕ). CanGather l bs) p c.requires.can in
    let has : HasFirst c.place-place.result bs = subst (λ (k : ℕ). HasFirst k bs) (sym c.place-place.ensures.place)
    can.1 in
    let is = first_is c.place-place.result bs c.index_mut-site.result.now c.take_first-answers.new.self a
    (place_there c.place-place.result bs has) c.index_mut-site.ensures.value c.take_first-answers.ensures in
    one_more c.args.all.now.items c.push.new.self.items hs rest h c.place-place.result bs
    (set bs c.place-place.result c.take_first-answers.new.self) a c.in_ok-push.ensures.items p
    c.place-place.ensures.place is.0 is.1
