use Rattle.std.proofs.Common.{ℕ, drop, refl, ap, sym, ◌∙◌, subst}
use Rattle.td_view.specs.declared.shown.Shown.{Shown}
use Rattle.td_view.specs.Values.{WriterValue}
use Rattle.td_view.specs.Parts.{IsWriterParts}
use Rattle.td_view.specs.Owing.{StillOwes}
use Rattle.td_view.proofs.Results.{of_err}
use Rattle.td_view.proofs.Owings.{what_is_owed, owes_entered}
use Rattle.td_view.proofs.writer.Writer.published.Goals as goal

pub begin-requires-clause-owed : goal.begin-requires-clause-owed
begin-requires-clause-owed g c =
    let upto = c.args.upto in
    let changes = c.args.changes.now in
    what_is_owed _ upto changes (subst (λ (w : WriterValue). StillOwes w upto changes) (sym c.self.view_is)
    c.requires.owed)

-- the number of the next publish is told by the history itself
pub begin-requires-clause-parts : goal.begin-requires-clause-parts
begin-requires-clause-parts g c =
    let inside = c.self.inside in
    let parts = c.self.invariant in
    subst
    (λ (n : ℕ). IsWriterParts inside.press.desk.shown.value (drop inside.press.behind inside.press.log.items)
    inside.head inside.past n inside.owed)
    parts.counted parts

pub returns-then-not-give-clause-owes : goal.returns-then-not-give-clause-owes
returns-then-not-give-clause-owes g c =
    let upto = c.args.upto in
    let changes = c.args.changes.now in
    let inside = c.self.inside in
    let atoms = inside.press.desk.shown.value.atoms in
    let shown = ap (λ d. d.shown.value.atoms) c.give.ensures.desk in
    subst (λ (w : WriterValue). StillOwes w upto changes) (sym c.new-then-not-give.ensures)
    (owes_entered _ c.in-Some.next upto inside.count changes atoms refl c.in-Some.ensures.owes.0 shown
    c.self.invariant.counted c.give.ensures.given c.give.ensures.few)

pub returns-then-is_err-clause-owes : goal.returns-then-is_err-clause-owes
returns-then-is_err-clause-owes g c =
    let upto = c.args.upto in
    let changes = c.args.changes.now in
    let inside = c.self.inside in
    let atoms = inside.press.desk.shown.value.atoms in
    let same = of_err c.show-press.result.1 _ (sym c.is_err.ensures.value ∙ c.if-is_err.true)
    c.show-press.ensures.same in
    let shown = ap (λ (x : Shown). x.atoms) same.0 ∙ ap (λ d. d.shown.value.atoms) c.give.ensures.desk in
    subst (λ (w : WriterValue). StillOwes w upto changes) (sym c.new-then-is_err.ensures)
    (owes_entered _ c.in-Some.next upto inside.count changes atoms refl c.in-Some.ensures.owes.0 shown
    c.self.invariant.counted (same.1 ∙ c.give.ensures.given) c.give.ensures.few)
