use Rattle.std.proofs.Common.{◌≡◌, ℕ, ap, subst, sym, ◌∙◌}
use Rattle.td_reader.specs.Values.{TraceValue}
use Rattle.td_check.specs.Looks.{AreLooks, one_more}
use Rattle.td_check.specs.Sites.{ReplayValue}
use Rattle.td_check.proofs.Judgements.{on_ok_so}
use Rattle.td_check.proofs.replay.Replay.look.Goals as goal

pub returns-then-not-is_due-clause-ok : goal.returns-then-not-is_due-clause-ok
returns-then-not-is_due-clause-ok g c = λ seen text_at l s e.
    c.is_due.ensures c.if-not-is_due.true c.args.self.now.trace seen text_at l (s ∙ sym c.done_by-done.ensures.done)

pub returns-clause-ok : goal.returns-clause-ok
returns-clause-ok g c =
    let r : ReplayValue = c.args.self.now in
    let same : c.self.inside.trace.now ≡ r.trace = ap (λ (q : ReplayValue). q.trace) c.self.view_is in
    on_ok_so _ _ c.see.result
    (λ given seen text_at l s e.
    subst (λ (t : TraceValue). AreLooks t (one_more c.args.site seen) text_at c.see.new.self) same
    (given seen text_at (subst (λ (t : TraceValue). AreLooks t seen text_at c.args.looks.now) (sym same) l)
    (s ∙ sym c.done_by-done.ensures.done)
    (c.as_slice.ensures ∙ c.in_ok-text.ensures ∙ e
    ∙ ap (λ (k : ℕ). text_at c.args.site k) (sym c.done_by-done.ensures.done)))) c.see.ensures
