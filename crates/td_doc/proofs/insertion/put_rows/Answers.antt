use Rattle.std.proofs.Common.{◌≡◌, List, length, true, Result, Ok, sym, refl, ap, ◌∙◌, arith}
use Rattle.std.specs.Prelude.{insert}
use Rattle.std.specs.List.{position_or_len}
use Rattle.std.specs.Ordering.{is_lt}
use Rattle.std.specs.Result.{is_ok}
use Rattle.std.specs.Vec.Iter.{into_iter_items}
use Rattle.std.proofs.lemmas.List.{nil_from_length}
use Rattle.td_path.specs.Infix.{path_cmp}
use Rattle.td_doc.specs.Document.{DocRow}
use Rattle.td_doc.specs.Insertion.{put_row, put_rows}
use Rattle.td_doc.proofs.RowLists.{put_row_inserts}
use Rattle.td_doc.proofs.insertion.put_rows.Goals as goal

succeeds : {T E : Type 0} (r : Result T E) (x : T) → r ≡ Ok x → is_ok r ≡ true
succeeds r x is = rw is refl

pub unwrap-requires : goal.unwrap-requires
unwrap-requires c =
    let left = ap length c.in-Some.ensures.steps.0 in
    c.insert.ensures.succeeds (omega (arith, c.loop-row.invariant.room, left))

pub loop-row-preserved : goal.loop-row-preserved
loop-row-preserved c =
    let row = c.in-Some.row in
    let rows = c.loop-row.rows.items in
    let ok = succeeds c.insert.result c.unwrap.result c.unwrap.ensures in
    let left = ap length c.in-Some.ensures.steps.0 in
    let place = c.place_of-at.ensures.value ∙ ap (λ (q : List DocRow). position_or_len
    (λ (r : DocRow). is_lt (path_cmp row.path r.path)) q) c.deref.ensures.value in
    let put : insert rows c.place_of-at.result row ≡ put_row row rows = ap (λ k. insert rows k row) place
    ∙ sym (put_row_inserts row rows) in
    record {
      can_next = tt;
      is_finite = tt;
      rows = rw (c.insert.ensures.items, ok, put) (sym
          (ap (λ (q : List DocRow). put_rows q rows) c.in-Some.ensures.steps.0) ∙ c.loop-row.invariant.rows);
      room = rw (c.insert.ensures.len, ok) (omega (arith, c.insert.ensures.capacity, c.loop-row.invariant.room, left));
    }

pub returns : goal.returns
returns c =
    let none = nil_from_length (into_iter_items c.loop-row.row-iterator)
    (omega (arith, c.in-None.ensures.steps.0, c.loop-row.row-iterator.rest.ok.0)) in
    ap (λ (q : List DocRow). put_rows q c.loop-row.rows.items) (sym none) ∙ c.loop-row.invariant.rows
