use Rattle.std.proofs.Common.{◌≡◌, [], ◌∙◌, sym, Option, None, Some, false, ap, ℕ}
use Rattle.std.specs.Option.{is_some}
use Rattle.std.specs.BTreeMap.{get}
use Rattle.std.specs.declared.alloc.Global.{Global}
use Rattle.std.specs.declared.vec.Vec.{Vec}
use Rattle.td_check.proofs.LooksSeen.{looks_passed}
use Rattle.td_check.specs.Looks.{listed, spot_cmp}
use Rattle.td_check.specs.declared.looks.Place.{Place}
use Rattle.td_check.specs.declared.looks.Spot.{Spot}
use Rattle.td_check.proofs.looks.Looks.is_due.Goals as goal

none_listed : (o : Option (Vec Place Global)) → is_some o ≡ false → listed o ≡ []
none_listed None e = λ i. []
none_listed (Some places) e = absurd cc

pub returns : goal.returns
returns c = λ none t seen text_at a next.
    let here : Spot = record { site = c.args.site; upto = c.args.upto } in
    let test : is_some (get spot_cmp c.args.self.now.due here) ≡ false =
    sym (c.contains_key.ensures
    ∙ ap (λ (n : ℕ). is_some (get spot_cmp c.args.self.now.due (record { site = c.args.site; upto = n })))
    c.from-upto.ensures) ∙ none in
    looks_passed t seen text_at c.args.self.now here
    (none_listed (get spot_cmp c.args.self.now.due here) test) a next
