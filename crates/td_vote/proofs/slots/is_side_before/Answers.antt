use Rattle.std.proofs.Common.{◌≡◌, ◌≢◌, ◌∙◌, sym, ap, false, true≢false}
use Rattle.td_base.specs.Equality.{same_id}
use Rattle.td_base.specs.Value.{AtomIdValue}
use Rattle.td_base.proofs.Equals.{same_id_true, same_id_refl}
use Rattle.td_path.specs.declared.slot.Slot.TheVariants.{At}
use Rattle.td_vote.specs.ByPlace.{place_before}
use Rattle.td_vote.proofs.Sides.{one_row, no_row_before, two_rows}
use Rattle.td_vote.proofs.slots.is_side_before.Goals as goal

pub returns-then-is_left_of : goal.returns-then-is_left_of
returns-then-is_left_of g c =
    let rows = g.D.Doc.rows c.args.doc.now in
    let x : AtomIdValue = c.args.atom in
    let same : x ≡ c.args.other = same_id_true x c.args.other (sym c.eq.ensures ∙ c.if-eq.true) in
    c.is_row.ensures
    ∙ one_row rows x c.args.bit c.args.side (sym c.is_left_of.ensures ∙ c.if-is_left_of.true)
    ∙ ap (λ (y : AtomIdValue). place_before rows (At x c.args.bit) (At y c.args.side)) same

pub returns-else-is_left_of : goal.returns-else-is_left_of
returns-else-is_left_of g c =
    let rows = g.D.Doc.rows c.args.doc.now in
    let x : AtomIdValue = c.args.atom in
    let same : x ≡ c.args.other = same_id_true x c.args.other (sym c.eq.ensures ∙ c.if-eq.true) in
    c.if-is_left_of.false
    ∙ no_row_before rows x c.args.bit c.args.side (sym c.is_left_of.ensures ∙ c.if-is_left_of.false)
    ∙ ap (λ (y : AtomIdValue). place_before rows (At x c.args.bit) (At y c.args.side)) same

pub returns-else-eq : goal.returns-else-eq
returns-else-eq g c =
    let x : AtomIdValue = c.args.atom in
    let other : same_id x c.args.other ≡ false = sym c.eq.ensures ∙ c.if-eq.false in
    let differ : x ≢ c.args.other =
    λ e. true≢false (sym (same_id_refl x) ∙ ap (λ (y : AtomIdValue). same_id x y) e ∙ other) in
    c.stands_before.ensures
    ∙ two_rows (g.D.Doc.rows c.args.doc.now) x c.args.bit c.args.side c.args.other differ
