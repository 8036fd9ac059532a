use Rattle.std.proofs.Common.{ℕ, Option, sym, subst, true≢false, ◌∙◌}
use Rattle.std.specs.Prelude.{MatchOption}
use Rattle.td_check.specs.declared.verdict.Fault.TheVariants.{Open}
use Rattle.td_check.specs.declared.verdict.Verdict.TheVariants.{No}
use Rattle.td_check.specs.Findings.{AreAllTexts, IsFirstAlone, IsFirstText, NoneAlone}
use Rattle.td_check.specs.Verdict.{IsFinding, OfDeed, OfAlone, OfText, OfOpen, OfNone}
use Rattle.td_check.proofs.check.judge_end.Goals as goal

pub returns-in-Some : goal.returns-in-Some
returns-in-Some g c = λ last text_at seated replayed looked.
    subst (IsFinding c.args.trace.now) (sym c.no.ensures) (OfDeed replayed (c.in-Some.ensures text_at looked))

pub returns-in-Some-2 : goal.returns-in-Some-2
returns-in-Some-2 g c = λ last text_at seated replayed looked.
    let t = c.args.trace.now in
    let first : IsFirstAlone t c.in-Some-2.line =
    subst (λ (found : Option ℕ). MatchOption found (NoneAlone t)
    (IsFirstAlone t)) c.in-Some-2.is c.in_ok-line.ensures in
    subst (IsFinding t) (sym c.no-in-Some-2.ensures) (OfAlone replayed (c.in_default.ensures text_at looked) first)

pub returns-in-Some-3 : goal.returns-in-Some-3
returns-in-Some-3 g c = λ last text_at seated replayed looked.
    let t = c.args.trace.now in
    let none : NoneAlone t =
    subst (λ (found : Option ℕ). MatchOption found (NoneAlone t) (IsFirstAlone t)) c.in_default-2.is
    c.in_ok-line.ensures in
    let first : IsFirstText t last c.in-Some-3.line =
    subst (λ (found : Option ℕ). MatchOption found (AreAllTexts t last) (IsFirstText t last)) c.in-Some-3.is
    (c.in_ok-line-2.ensures last seated) in
    subst (IsFinding t) (sym c.no-in-Some-3.ensures) (OfText replayed (c.in_default.ensures text_at looked) none first)

pub returns-then-is_settled : goal.returns-then-is_settled
returns-then-is_settled g c = λ last text_at seated replayed looked.
    let t = c.args.trace.now in
    let none : NoneAlone t =
    subst (λ (found : Option ℕ). MatchOption found (NoneAlone t) (IsFirstAlone t)) c.in_default-2.is
    c.in_ok-line.ensures in
    let texts : AreAllTexts t last =
    subst (λ (found : Option ℕ). MatchOption found (AreAllTexts t last) (IsFirstText t last)) c.in_default-3.is
    (c.in_ok-line-2.ensures last seated) in
    OfNone replayed (c.in_default.ensures text_at looked) none texts
    ((c.is_settled.ensures t last seated c.sites.ensures.value.each_history).0 c.if-is_settled.true)

pub returns : goal.returns
returns g c = λ last text_at seated replayed looked.
    let t = c.args.trace.now in
    let none : NoneAlone t =
    subst (λ (found : Option ℕ). MatchOption found (NoneAlone t) (IsFirstAlone t)) c.in_default-2.is
    c.in_ok-line.ensures in
    let texts : AreAllTexts t last =
    subst (λ (found : Option ℕ). MatchOption found (AreAllTexts t last) (IsFirstText t last)) c.in_default-3.is
    (c.in_ok-line-2.ensures last seated) in
    subst (IsFinding t) (sym c.no-2.ensures)
    (subst (λ (line : ℕ). IsFinding t (No line Open)) (sym c.line_of_end.ensures)
    (OfOpen replayed (c.in_default.ensures text_at looked) none texts
    (λ settled. true≢false
    (sym ((c.is_settled.ensures t last seated c.sites.ensures.value.each_history).1 settled) ∙ c.if-is_settled.false))))
