use Rattle.std.proofs.Common.{◌≡◌, ◌<◌, ◌+◌, ◌-◌, ℕ, Some, length, refl, sym, ap, ◌∙◌, subst, arith}
use Rattle.std.proofs.lemmas.List.{with_items_is}
use Rattle.std.proofs.lemmas.Option.{slice_get_read}
use Rattle.std.specs.Prelude.{slice_get}
use Rattle.std.specs.Vec.{with_items}
use Rattle.td_trace.specs.Editors.{calls_at}
use Rattle.td_check.specs.Alone.{AreCounts}
use Rattle.td_check.proofs.AloneCounts.{rows_counted, rows_passed}
use Rattle.td_check.proofs.DeedsJudged.{home_of_log}
use Rattle.td_check.proofs.alone.count_editor.Goals as goal

pub returns-then-place-len : goal.returns-then-place-len
returns-then-place-len c = λ a.
    let t = c.args.trace.now in
    let rows = c.args.rows.now.items in
    let place = c.place-place.result in
    let old = c.index_mut.result.now in
    let row = with_items old c.count_calls.new.row in
    let h = home_of_log t c.args.editor c.in-Some.home (sym c.home.ensures ∙ c.in-Some.is) in
    let within : place < length rows = omega (arith, c.len.ensures, c.args.rows.now.ok.0) in
    let home : h.log.home ≡ place + 1 = omega (arith, h.home_is, c.place-place.ensures.place) in
    let at : slice_get rows place ≡ Some old =
    slice_get_read rows (length rows) place old refl within c.index_mut.ensures.value in
    let size : length c.count_calls.new.row ≡ length old.items =
    c.count_calls.auto.row ∙ ap length c.deref_mut.ensures.value in
    let whole : length c.count_calls.new.row ≡ old.len = omega (arith, size, old.ok.0) in
    let items : row.items ≡ c.count_calls.new.row = with_items_is old c.count_calls.new.row whole in
    rows_counted t c.args.editor t.sites place h.log rows _ old row h.is home at refl (ap length items ∙ size)
    (λ before b.
    subst (AreCounts (λ (i : ℕ). before i + calls_at (i + 1) h.log.did)) (sym items)
    (c.count_calls.ensures h.log h.is before (subst (AreCounts before) (sym c.deref_mut.ensures.value) b)))
    a

pub returns-else-place-len : goal.returns-else-place-len
returns-else-place-len c = λ a.
    let t = c.args.trace.now in
    let rows = c.args.rows.now.items in
    let h = home_of_log t c.args.editor c.in-Some.home (sym c.home.ensures ∙ c.in-Some.is) in
    let past : length rows < h.log.home =
    omega (arith, c.len.ensures, c.args.rows.now.ok.0, h.home_is, c.place-place.ensures.place) in
    rows_passed t c.args.editor t.sites h.log rows h.is past a
