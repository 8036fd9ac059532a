use Rattle.std.proofs.Common.{◌≡◌, ◌+◌, ◌++◌, ◌∷◌, [], List, sym, subst, take, get_or}
use Rattle.std.specs.BTreeSet.{BTreeSet}
use Rattle.std.proofs.lemmas.Bool.{both_ways}
use Rattle.std.proofs.lemmas.Grind.{take_at_read}
use Rattle.td_check.specs.Looks.{AreFound}
use Rattle.td_check.specs.declared.looks.Place.{Place}
use Rattle.td_check.proofs.LooksSeen.{found_told, found_passed}
use Rattle.td_check.proofs.looks.find_told.Goals.{then-is_told+in_ok-insert, else-is_told}
use Rattle.td_check.proofs.looks.find_told.Goals as goal

pub loop-place-preserved : goal.loop-place-preserved
loop-place-preserved c =
    let t = c.args.trace.now in
    let text = c.args.text.now in
    let places = c.args.places.now in
    let i = c.loop-place.place-index in
    let none : Place = record { editor = 0; index = 0 } in
    let place : Place = get_or places i none in
    let old = c.args.found.now in
    let front = c.loop-place.invariant in
    let more : take (i + 1) places ≡ take i places ++ place ∷ [] =
    (take_at_read places i none c.loop-place-test.true).1 in
    elim c.if-is_told.branch [
      | then-is_told+in_ok-insert w ↦
          let all : AreFound t text (take i places ++ place ∷ []) old w.insert.new.self =
          found_told t text (take i places) place old c.loop-place.found w.insert.new.self
          (c.is_told.ensures.0 w.if-is_told.true) w.in_ok-insert.ensures.updates.0 front in
          subst (λ (f : BTreeSet Place). AreFound t text (take (i + 1) places) old f) (sym w.found-is)
          (subst (λ (l : List Place). AreFound t text l old w.insert.new.self) (sym more) all)
      | else-is_told w ↦
          let all : AreFound t text (take i places ++ place ∷ []) old c.loop-place.found =
          found_passed t text (take i places) place old c.loop-place.found
          (λ told. both_ways c.is_told.result w.if-is_told.false (c.is_told.ensures.1 told)) front in
          subst (λ (f : BTreeSet Place). AreFound t text (take (i + 1) places) old f) (sym w.found-is)
          (subst (λ (l : List Place). AreFound t text l old c.loop-place.found) (sym more) all)
    ]
