use Rattle.std.proofs.Common.{◌≡◌, sym, ◌∙◌, subst, refl}
use Rattle.td_view.specs.declared.shown.Shown.{Shown}
use Rattle.td_view.specs.Deeds.{Publishes, publish_of}
use Rattle.td_view.specs.Publishes.{EndsWith}
use Rattle.td_view.specs.Tied.{StandsAtEnd}
use mathlib.Core.List.{IsPrefix}
use Rattle.td_view.proofs.Prefixes.{prefix_of, prefix_trans}
use Rattle.td_view.proofs.Moves.{looks}
use Rattle.td_view.proofs.reader.Reader.look.Goals as goal

-- a copy of what the text carries ends with the text
copied : (x y : Shown) (a b : Publishes) → y ≡ x → a ≡ y.past → b ≡ a → StandsAtEnd x → EndsWith b.log (publish_of y)
copied x y a b same first second stands =
    let y' : StandsAtEnd y = subst StandsAtEnd (sym same) stands in
    subst (λ (q : Publishes). EndsWith q.log (publish_of y)) (sym (second ∙ first)) y'.ends

pub enter_as-requires : goal.enter_as-requires
enter_as-requires g c = looks _ _

pub returns-clause-shown : goal.returns-clause-shown
returns-clause-shown g c =
    let x = c.get-shown.result.now in (
      x,
      (c.get-shown.result, c.f-answer.ensures, refl),
      copied c.in-Ok.reading.part.value x c.again-past.result c.again.result c.get-shown.ensures c.again-past.ensures
          c.again.ensures c.in-Ok.ensures.1.1,
    )

pub returns-clause-later : goal.returns-clause-later
returns-clause-later g c =
    let inside = c.self.inside in
    let now = c.again.result.log in
    let known : IsPrefix inside.known.log now = subst (λ (q : Publishes). IsPrefix inside.known.log q.log)
    (sym c.again.ensures) c.compare-2.ensures.prefix in
    let seen = prefix_trans inside.seen.log inside.known.log now
    (prefix_of inside.known.log inside.seen.log c.self.invariant.0.within) known in
    rw (← c.self.view_is) (known, seen)
