use Rattle.td_idle.proofs.unknown.row_ids.Goals.{else-loop-test, then-loop-test+in_default}
use Rattle.std.proofs.Common.{◌∙◌, ◌≤◌, length, List, ℕ, arith, map, subst, sym, ap}
use Rattle.std.proofs.lemmas.List.{take_all}
use Rattle.std.proofs.lemmas.Option.{same_Some}
use Rattle.td_base.specs.Value.{AtomIdValue}
use Rattle.td_doc.specs.Answers.{IsRow}
use Rattle.td_doc.specs.Document.{DocRow, row_id, IsDocument}
use Rattle.td_idle.proofs.UnknownRows.{ids_next}
use Rattle.td_doc.proofs.Walking.{comes, comes_to_a_row, goes_to_the_end}
use Rattle.td_idle.proofs.unknown.row_ids.Goals as goal

pub loop-preserved : goal.loop-preserved
loop-preserved g c =
    let rows : List DocRow = g.D.Doc.rows c.args.doc.now in
    let k : ℕ = c.loop.counter in
    let x : AtomIdValue = c.in-Some.id in
    let next = sym c.after.ensures ∙ c.in-Some.is in
    let come = λ (d : IsDocument rows). comes rows k x _ d (c.loop.invariant.at d) next in
    record {
      all = c.loop.invariant.all;
      row = λ (y : AtomIdValue) e. subst (IsRow rows) (same_Some x y e) (comes_to_a_row rows c.loop.last x next);
      at = λ (d : IsDocument rows). (come d).goes_on;
      ids = λ (d : IsDocument rows). ids_next rows k x c.loop.ids.items c.push.new.self.items
          (comes_to_a_row rows c.loop.last x next) (come d).found (c.loop.invariant.ids d) c.in_ok-push.ensures.items;
    }

pub returns : goal.returns
returns g c = λ (d : IsDocument (g.D.Doc.rows c.args.doc.now)).
    c.loop.invariant.ids d
    ∙ ap (map row_id) (take_all c.loop.counter (g.D.Doc.rows c.args.doc.now) (at d))
  where
    at : IsDocument (g.D.Doc.rows c.args.doc.now) → length (g.D.Doc.rows c.args.doc.now) ≤ c.loop.counter
    at d =
        elim c.loop-test.branch [
          | else-loop-test w ↦ omega (arith, c.loop.invariant.all)
          | then-loop-test+in_default w ↦
              absurd (goes_to_the_end (g.D.Doc.rows c.args.doc.now) c.loop.counter w.after.result
              (omega (arith, c.loop.invariant.all)) (w.after.ensures ∙ c.loop.invariant.at d) w.in_default.not-Some)
        ]
