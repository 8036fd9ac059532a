use Rattle.std.proofs.Common.{◌≡◌, ◌<◌, ◌≤◌, ◌+◌, ◌-◌, ◌++◌, ◌∷◌, [], ℕ, List}
use Rattle.std.proofs.Common.{length, set, sym, ap, subst, rules, arith}
use Rattle.logbook.specs.Pages.{Book}
use Rattle.td_view.specs.Values.{ReaderValue}
use Rattle.td_law_meeting.specs.Thin.{Loss}
use Rattle.td_line.specs.Editors.{EditorValue, IsNewLine}
use Rattle.td_room.specs.Opening.{AreOpen}
use Rattle.td_room.proofs.Opens.{there, opens, opened, peers_set}
use Rattle.td_room.proofs.opening.open_editor.Goals as goal

pub index_mut-its-requires : goal.index_mut-its-requires
index_mut-its-requires g c =
    let o = c.requires.opens in
    let p : ℕ = c.place-place.result in
    let some : 1 ≤ c.args.home = c.place-place.ensures.least in
    let is : p ≡ c.args.home - 1 = c.place-place.ensures.place in
    let within : c.args.home ≤ length c.args.workers.now.items = c.requires.within in
    let at : c.args.home ≡ 1 + p = omega (arith, some, is) in
    let few : p < length c.args.workers.now.items = omega (arith, some, is, within) in
    let n : p < length c.args.readers.now.items =
    (there o.done o.left o.size o.lost c.args.editors.now.items 1 c.args.home p c.args.workers.now.items
    c.args.readers.now.items at few o.are_open).place in
    search rules

pub take_first-reader-requires : goal.take_first-reader-requires
take_first-reader-requires g c =
    let o = c.requires.opens in
    let p : ℕ = c.place-place.result in
    let some : 1 ≤ c.args.home = c.place-place.ensures.least in
    let is : p ≡ c.args.home - 1 = c.place-place.ensures.place in
    let within : c.args.home ≤ length c.args.workers.now.items = c.requires.within in
    let at : c.args.home ≡ 1 + p = omega (arith, some, is) in
    let few : p < length c.args.workers.now.items = omega (arith, some, is, within) in
    (there o.done o.left o.size o.lost c.args.editors.now.items 1 c.args.home p c.args.workers.now.items
    c.args.readers.now.items at few o.are_open).some
    c.index_mut-its.result.now c.index_mut-its.ensures.value

pub push_line-requires : goal.push_line-requires
push_line-requires g c =
    let o = c.requires.opens in
    let p : ℕ = c.place-place.result in
    let some : 1 ≤ c.args.home = c.place-place.ensures.least in
    let is : p ≡ c.args.home - 1 = c.place-place.ensures.place in
    let within : c.args.home ≤ length c.args.workers.now.items = c.requires.within in
    let at : c.args.home ≡ 1 + p = omega (arith, some, is) in
    let few : p < length c.args.workers.now.items = omega (arith, some, is, within) in
    let t = there o.done o.left o.size o.lost c.args.editors.now.items 1 c.args.home p c.args.workers.now.items
    c.args.readers.now.items at few o.are_open in
    let first = t.first c.index_mut-worker.result.now c.index_mut-its.result.now c.take_first-reader.new.self
    c.take_first-reader.result
    c.index_mut-worker.ensures.value c.index_mut-its.ensures.value c.take_first-reader.ensures in (
      c.args.number,
      subst (λ (b : Book). IsNewLine c.args.number b c.in_ok-line.line) (ap (λ (r : ReaderValue). r.views) first)
          c.in_ok-line.ensures.line,
    )

pub returns-clause-opens : goal.returns-clause-opens
returns-clause-opens g c =
    let p : ℕ = c.place-place.result in
    let some : 1 ≤ c.args.home = c.place-place.ensures.least in
    let is : p ≡ c.args.home - 1 = c.place-place.ensures.place in
    let within : c.args.home ≤ length c.args.workers.now.items = c.requires.within in
    let at : c.args.home ≡ 1 + p = omega (arith, some, is) in
    let few : p < length c.args.workers.now.items = omega (arith, some, is, within) in
    λ (done homes : List ℕ) (size : ℕ) (lost : Loss) number ready.
    subst (λ (es : List EditorValue). AreOpen (done ++ c.args.home ∷ []) homes size lost es 1
    (set c.args.workers.now.items p c.push_line.new.self) (set c.args.readers.now.items p c.take_first-reader.new.self))
    (sym c.in_ok-push.ensures.items)
    (opens done homes size lost c.args.editors.now.items 1 c.args.home p c.args.workers.now.items
    c.args.readers.now.items
    c.index_mut-worker.result.now c.push_line.new.self c.index_mut-its.result.now c.take_first-reader.new.self
    c.take_first-reader.result c.in_ok-line.line c.in_ok-line.editor c.args.number at few
    c.index_mut-worker.ensures.value
    c.index_mut-its.ensures.value c.in_ok-line.ensures.editor.home_is c.in_ok-push_line.ensures
    c.take_first-reader.ensures number
    c.in_ok-line.ensures.line c.in_ok-line.ensures.belongs c.in_ok-line.ensures.editor.reader_is ready)

pub returns-clause-opened : goal.returns-clause-opened
returns-clause-opened g c =
    let o = c.requires.opens in
    let p : ℕ = c.place-place.result in
    let some : 1 ≤ c.args.home = c.place-place.ensures.least in
    let is : p ≡ c.args.home - 1 = c.place-place.ensures.place in
    let within : c.args.home ≤ length c.args.workers.now.items = c.requires.within in
    let at : c.args.home ≡ 1 + p = omega (arith, some, is) in
    let few : p < length c.args.workers.now.items = omega (arith, some, is, within) in
    let t = there o.done o.left o.size o.lost c.args.editors.now.items 1 c.args.home p c.args.workers.now.items
    c.args.readers.now.items at few o.are_open in
    let first = t.first c.index_mut-worker.result.now c.index_mut-its.result.now c.take_first-reader.new.self
    c.take_first-reader.result
    c.index_mut-worker.ensures.value c.index_mut-its.ensures.value c.take_first-reader.ensures in (
      c.in_ok-line.editor,
      c.in_ok-push.ensures.items,
      opened c.args.home c.args.calls c.take_first-reader.result c.in_ok-line.editor
          c.index_mut-worker.result.now.site.writer.views
          some c.in_ok-line.ensures.editor first,
    )

pub returns-clause-peers : goal.returns-clause-peers
returns-clause-peers g c =
    peers_set c.args.workers.now.items c.place-place.result c.index_mut-worker.result.now c.push_line.new.self
    c.in_ok-line.line
    c.index_mut-worker.ensures.value c.in_ok-push_line.ensures
