use Rattle.std.proofs.Common.{◌≡◌, ◌∙◌, refl, sym, ap, subst, ℕ, List, Some, None}
use Rattle.std.proofs.lemmas.Result.{on_ok_weaker}
use Rattle.std.specs.BTreeMap.{get}
use Rattle.std.specs.Option.{option_copied}
use Rattle.td_check.specs.Looks.{AreFound, listed, places_at, spot_cmp}
use Rattle.td_check.specs.declared.looks.Place.{Place}
use Rattle.td_check.specs.declared.looks.Spot.{Spot}
use Rattle.td_check.proofs.LooksSeen.{looks_seen, looks_passed}
use Rattle.td_check.proofs.looks.Looks.see.Goals as goal

pub returns-in_default : goal.returns-in_default
returns-in_default c = λ seen text_at a next is.
    let here : Spot = record { site = c.args.site; upto = c.args.upto } in
    let found : get spot_cmp c.args.self.now.due here ≡ None =
    ap (λ (n : ℕ). get spot_cmp c.args.self.now.due (record { site = c.args.site; upto = n })) (sym c.from-upto.ensures)
    ∙ sym c.get.ensures.value ∙ ap option_copied c.in_default.is in
    looks_passed c.args.trace.now seen text_at c.args.self.now here (ap listed found) a next

pub returns : goal.returns
returns c =
    let here : Spot = record { site = c.args.site; upto = c.args.upto } in
    let found : get spot_cmp c.args.self.now.due here ≡ Some c.in-Some.places.now =
    ap (λ (n : ℕ). get spot_cmp c.args.self.now.due (record { site = c.args.site; upto = n })) (sym c.from-upto.ensures)
    ∙ sym c.get.ensures.value ∙ ap option_copied c.in-Some.is in
    let places : c.deref.result.now ≡ places_at c.args.self.now.due here =
    c.deref.ensures.value ∙ sym (ap listed found) in
    on_ok_weaker c.find_told.result
    (λ f seen text_at a next is.
    looks_seen c.args.trace.now seen text_at c.args.self.now
    (record { due = c.args.self.now.due; found = c.find_told.new.found }) here c.args.text.now a next is refl
    (subst (λ (l : List Place). AreFound c.args.trace.now c.args.text.now l c.args.self.now.found
    c.find_told.new.found) places f))
    c.find_told.ensures
