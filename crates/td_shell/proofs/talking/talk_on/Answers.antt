use Rattle.std.proofs.Common.{◌≡◌, ◌++◌, [], List, ℕ, Bool, true, false, Ok, sym, subst, ap, ◌∙◌, rules}
use Rattle.std.proofs.KnownBytes.{Consumes-nil}
use Rattle.std.proofs.lemmas.Result.{err_from_is_err_and}
use Rattle.td_journal.specs.Seen.{replica_of}
use Rattle.td_shell.specs.Lines.{IsInLine, shortened}
use Rattle.td_shell.proofs.UnderWay.{IsUnderWay, answered_so, answers_line, begins, ends_err, ends_ok, fill_fails}
use Rattle.td_shell.proofs.UnderWay.{goes_on, none_told, unanswered, wants_memory}
use Rattle.td_shell.proofs.talking.talk_on.Goals as goal

pub loop-init : goal.loop-init
loop-init g c =
    let k = c.args.kept.now in
    subst (λ (l : List ℕ). IsUnderWay g.S.Source g.W.Sink k k c.args.source.now c.args.source.now c.args.sink.now
    c.args.sink.now l 0) (sym c.new-lines.ensures)
    (begins g.S.Source g.W.Sink k c.args.source.now c.args.sink.now (λ e f left. g.met.K.Disk.only_now e f left)
    c.requires)

pub returns-in_err-line-clause-halted : goal.returns-in_err-line-clause-halted
returns-in_err-line-clause-halted g c =
    let p = err_from_is_err_and c.from_residual.result c.from_residual.ensures.1 in
    rw (p.1, p.2) (wants_memory g.S.Source g.W.Sink c.args.kept.now c.loop.kept c.args.source.now c.loop.source
    c.loop.source c.args.sink.now c.loop.sink c.loop.lines [] c.loop.number c.loop.invariant
    (Consumes-nil (g.S.Source.left c.loop.source)))

pub returns-in_err-answer_into-clause-halted : goal.returns-in_err-answer_into-clause-halted
returns-in_err-answer_into-clause-halted g c =
    let k = c.args.kept.now in
    let off = rw c.in-Some-2.is at c.in_ok-line.ensures.some in
    let p = err_from_is_err_and c.from_residual-in_err-answer_into.result
    c.from_residual-in_err-answer_into.ensures.1 in
    rw (p.1, p.2) (unanswered g.S.Source g.W.Sink k c.loop.kept c.answer_into.new.kept c.args.source.now c.loop.source
    c.args.sink.now c.loop.sink c.answer_into.new.sink c.loop.lines c.in-Some-2.line c.next-in-loop.new.self
    c.loop.number c.in_err-answer_into.field-0.0 (λ e t f le left. g.met.K.Disk.counts_now e t f le left)
    c.loop.invariant off.0 off.1
    (answered_so g.W.Sink (replica_of c.loop.kept) c.loop.number c.counted-number.result c.in-Some-2.line
    c.as_slice.result.now c.loop.kept c.answer_into.new.kept c.loop.sink c.answer_into.new.sink _
    c.counted-number.ensures c.as_slice.ensures c.in_err-answer_into.ensures.answered))

pub loop-preserved-in-Some-2 : goal.loop-preserved-in-Some-2
loop-preserved-in-Some-2 g c =
    let k = c.args.kept.now in
    let off = rw c.in-Some-2.is at c.in_ok-line.ensures.some in
    subst (λ (n : ℕ). IsUnderWay g.S.Source g.W.Sink k c.answer_into.new.kept c.args.source.now c.loop.source
    c.args.sink.now c.answer_into.new.sink c.next-in-loop.new.self n) (sym c.counted-number.ensures)
    (answers_line g.S.Source g.W.Sink k c.loop.kept c.answer_into.new.kept c.args.source.now c.loop.source
    c.args.sink.now c.loop.sink c.answer_into.new.sink c.loop.lines c.in-Some-2.line c.next-in-loop.new.self
    c.loop.number c.in_ok-answer_into.field-0 c.loop.invariant off.0 off.1
    (answered_so g.W.Sink (replica_of c.loop.kept) c.loop.number c.counted-number.result c.in-Some-2.line
    c.as_slice.result.now c.loop.kept c.answer_into.new.kept c.loop.sink c.answer_into.new.sink _
    c.counted-number.ensures c.as_slice.ensures c.in_ok-answer_into.ensures.answered) c.answer_into.ensures.count)

pub returns-in_err-fill-clause-halted : goal.returns-in_err-fill-clause-halted
returns-in_err-fill-clause-halted g c =
    let p = err_from_is_err_and c.from_residual-in_err-fill.result c.from_residual-in_err-fill.ensures.1 in
    rw (p.1, p.2) (fill_fails g.S.Source g.W.Sink c.args.kept.now c.loop.kept c.args.source.now c.loop.source
    c.fill.new.source c.args.sink.now c.loop.sink c.loop.lines c.loop.number c.in_err-fill.field-0.0 c.loop.invariant
    c.in_err-fill.ensures.lost c.in_err-fill.ensures.wanting c.in_err-fill.ensures.failed)

pub loop-preserved : goal.loop-preserved
loop-preserved g c =
    let none : IsInLine c.loop.lines × (c.next-in-loop.new.self ≡ c.loop.lines) =
    none_told c.in_ok-line.field-0 _ c.in_default.not-Some c.in_ok-line.ensures.none in
    let filled : c.in_ok-fill.field-0 ≡ true = search rules in
    let more = c.in_ok-fill.ensures.more (ap (λ (b : Bool). Ok b) filled) in
    goes_on g.S.Source g.W.Sink c.args.kept.now c.loop.kept c.args.source.now c.loop.source c.fill.new.source
    c.args.sink.now c.loop.sink c.loop.lines c.fill.new.self more.0 c.loop.number c.loop.invariant none.0 more.1
    (more.2 ∙ ap (λ (l : List ℕ). shortened l ++ more.0) none.1) c.fill.ensures.count

pub returns-then-not-branch-clause-ok : goal.returns-then-not-branch-clause-ok
returns-then-not-branch-clause-ok g c =
    let none : IsInLine c.loop.lines × (c.next-in-loop.new.self ≡ c.loop.lines) =
    none_told c.in_ok-line.field-0 _ c.in_default.not-Some c.in_ok-line.ensures.none in
    let over : c.in_ok-fill.field-0 ≡ false = search rules in
    let end = c.in_ok-fill.ensures.end (ap (λ (b : Bool). Ok b) over) in
    ends_ok g.S.Source g.W.Sink c.args.kept.now c.loop.kept c.args.source.now c.loop.source c.fill.new.source
    c.args.sink.now c.loop.sink c.answer_cut.new.sink c.loop.lines c.unread.result.now c.loop.number
    c.answer_cut.result c.loop.invariant none.0 (c.unread.ensures ∙ end.2 ∙ none.1) end.0 end.1 c.answer_cut.ensures.ok

pub returns-then-not-branch-clause-halted : goal.returns-then-not-branch-clause-halted
returns-then-not-branch-clause-halted g c =
    let none : IsInLine c.loop.lines × (c.next-in-loop.new.self ≡ c.loop.lines) =
    none_told c.in_ok-line.field-0 _ c.in_default.not-Some c.in_ok-line.ensures.none in
    let over : c.in_ok-fill.field-0 ≡ false = search rules in
    let end = c.in_ok-fill.ensures.end (ap (λ (b : Bool). Ok b) over) in
    ends_err g.S.Source g.W.Sink c.args.kept.now c.loop.kept c.args.source.now c.loop.source c.fill.new.source
    c.args.sink.now c.loop.sink c.answer_cut.new.sink c.loop.lines c.unread.result.now c.loop.number
    c.answer_cut.result c.loop.invariant none.0 (c.unread.ensures ∙ end.2 ∙ none.1) end.0 end.1
    c.answer_cut.ensures.halted
