use Rattle.std.proofs.Common.{◌≡◌, ◌≢◌, ◌-◌, ℕ, List, get_or, set, sym, ap, subst, ◌∙◌}
use Rattle.std.proofs.lemmas.Bool.{eqb-true, eqb-false}
use Rattle.td_marks.specs.Marks.{MarksValue, IsMarks}
use Rattle.td_marks.specs.Taking.{after_takes}
use Rattle.td_report.specs.Marks.{meet_line}
use Rattle.td_run.specs.Marking.{Marking, marks_of, meet, with_marks}
use Rattle.td_run.proofs.Meeting.{marks_there, met_itself, other_stays, put_back}
use Rattle.td_run.proofs.marking.meet_at.Goals as goal

pub returns-then-eq-clause-marks : goal.returns-then-eq-clause-marks
returns-then-eq-clause-marks c =
    let all : List MarksValue = c.args.all.now in
    let here : c.index-all-place.result ≡ marks_of c.args.site all =
    marks_there all c.args.site c.place.result c.index-all-place.result c.place.ensures.place c.place.ensures.least
    c.requires.site c.index-all-place.is in
    let same : c.args.site ≡ c.args.other =
    eqb-true c.args.site c.args.other (sym c.eq.ensures ∙ c.if-eq.true) in
    let met = met_itself all c.args.site (subst IsMarks (sym c.index-all-place.is ∙ here) c.ops.ensures.marks) in
    subst (λ (other : ℕ). all ≡ (meet c.args.site other all).marks) same (sym (ap (λ (m : Marking). m.marks) met))

pub returns-then-eq-clause-new : goal.returns-then-eq-clause-new
returns-then-eq-clause-new c =
    let all : List MarksValue = c.args.all.now in
    let here : c.index-all-place.result ≡ marks_of c.args.site all =
    marks_there all c.args.site c.place.result c.index-all-place.result c.place.ensures.place c.place.ensures.least
    c.requires.site c.index-all-place.is in
    let same : c.args.site ≡ c.args.other =
    eqb-true c.args.site c.args.other (sym c.eq.ensures ∙ c.if-eq.true) in
    let met = met_itself all c.args.site (subst IsMarks (sym c.index-all-place.is ∙ here) c.ops.ensures.marks) in
    subst (λ (other : ℕ). meet_line c.args.site other 0 ≡ (meet c.args.site other all).line) same
    (sym (ap (λ (m : Marking). m.line) met))

pub returns-clause-marks : goal.returns-clause-marks
returns-clause-marks c =
    let all : List MarksValue = c.args.all.now in
    let differ : c.args.site ≢ c.args.other =
    eqb-false c.args.site c.args.other (sym c.eq.ensures ∙ c.if-eq.false) in
    let here : c.replace-marks.result ≡ marks_of c.args.site all =
    c.replace-marks.ensures.value ∙ sym c.index-all-place-2.is
    ∙ marks_there all c.args.site c.place-2.result c.index-all-place-2.result c.place-2.ensures.place
    c.place-2.ensures.least c.requires.site c.index-all-place-2.is in
    let there : get_or (set all c.place-2.result c.replace-marks.new.dest) c.place-3.result c.index-all-place-3.result
    ≡ marks_of c.args.other all =
    sym c.index-all-place-3.is
    ∙ other_stays all c.args.site c.args.other c.place-2.result c.place-3.result c.replace-marks.new.dest
    c.index-all-place-3.result c.place-2.ensures.place c.place-3.ensures.place c.place-2.ensures.least
    c.place-3.ensures.least c.requires.other differ c.index-all-place-3.is in
    let place : c.place-4.result ≡ c.place-2.result = c.place-4.ensures.place ∙ sym c.place-2.ensures.place in
    ap (λ (k : ℕ). set (set all c.place-2.result c.replace-marks.new.dest) k c.meet-new.new.self) place
    ∙ put_back all c.args.site c.place-2.result c.replace-marks.new.dest c.meet-new.new.self c.place-2.ensures.place
    ∙ ap (λ (m : MarksValue). with_marks c.args.site m all)
    (c.in_ok-new.ensures.met ∙ (λ i. after_takes (there i).ops (here i)))
