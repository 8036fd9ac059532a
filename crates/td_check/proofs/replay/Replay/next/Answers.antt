use Rattle.std.proofs.Common.{◌≤◌, ℕ, length, sym, subst, ◌∙◌, refl, true≢false}
use Rattle.td_check.specs.Sites.{ReplayValue, histories_of}
use Rattle.td_check.proofs.Nexts.{none_next, next_is, is_left}
use Rattle.td_check.proofs.replay.Replay.next.Goals as goal

pub returns-in_default : goal.returns-in_default
returns-in_default g c =
    let e = c.next_entry.ensures in
    let within : c.args.site ≤ length (histories_of c.args.self.now) =
    subst (λ (n : ℕ). c.args.site ≤ n) (sym e.histories) c.requires.within in
    (none_next c.args.self.now c.args.site e.some within (sym e.entry ∙ c.in_default.is), refl)

pub count_done-requires-clause-left : goal.count_done-requires-clause-left
count_done-requires-clause-left g c =
    let e = c.next_entry.ensures in
    is_left c.args.self.now c.judge.new.self c.args.site c.in-Some.entry (sym e.entry ∙ c.in-Some.is)
    c.in_ok-judged.ensures.1

pub returns-then-is_done : goal.returns-then-is_done
returns-then-is_done g c =
    let e = c.next_entry.ensures in
    let r : ReplayValue = c.args.self.now in
    let within : c.args.site ≤ length (histories_of r) =
    subst (λ (n : ℕ). c.args.site ≤ n) (sym e.histories) c.requires.within in
    next_is r c.args.site e.some within c.in-Some.entry (sym e.entry ∙ c.in-Some.is) (e.machines ∙ sym e.histories)
    (e.done ∙ sym e.histories) c.judge.new.self c.count_done.new.self c.in_ok-judged.judged c.in_ok-judged.ensures
    (λ same. c.count_done.ensures) (λ never. absurd (never (c.is_done.ensures.0 c.if-is_done.true)))

pub returns-else-is_done : goal.returns-else-is_done
returns-else-is_done g c =
    let e = c.next_entry.ensures in
    let r : ReplayValue = c.args.self.now in
    let within : c.args.site ≤ length (histories_of r) =
    subst (λ (n : ℕ). c.args.site ≤ n) (sym e.histories) c.requires.within in
    next_is r c.args.site e.some within c.in-Some.entry (sym e.entry ∙ c.in-Some.is) (e.machines ∙ sym e.histories)
    (e.done ∙ sym e.histories) c.judge.new.self c.judge.new.self c.in_ok-judged.judged c.in_ok-judged.ensures
    (λ same. absurd (true≢false (sym (c.is_done.ensures.1 same) ∙ c.if-is_done.false))) (λ never. refl)
