use Rattle.std.proofs.Common.{◌≢◌, ◌<◌, ◌^◌, ◌++◌, ℕ, List, length, subst, sym, ◌∙◌}
use Rattle.std.specs.Prelude.{IsTrue}
use Rattle.std.proofs.lemmas.Bool.{false≢true}
use Rattle.td_records.specs.Records.{record_of}
use Rattle.td_records.proofs.Reading.{Reached, one_more, no_records, none_part}
use Rattle.td_records.proofs.records.records_end.Goals as goal

pub loop-len-preserved : goal.loop-len-preserved
loop-len-preserved c =
    subst (λ (l : List ℕ). Reached c.args.bytes.now l) (sym c.split_at.ensures.back)
    (one_more c.args.bytes.now c.loop-len.rest.now c.in-Some.len c.loop-len.invariant c.in-Some.ensures.short
    c.in-Some.ensures.is)

pub returns-clause-none : goal.returns-clause-none
returns-clause-none c =
    no_records c.args.bytes.now c.loop-len.rest.now c.loop-len.invariant
    (none_part c.record_len.result ((body more : List ℕ) → length body < 2 ^ 16 → c.loop-len.rest.now ≢ record_of body
    ++ more) c.in_default.not-Some c.record_len.ensures.none)
    (λ gate more shut e. let yes : IsTrue c.is_closed.result = c.is_closed.ensures.1 (gate, more, shut, e) in
    false≢true (sym c.if-is_closed.false ∙ yes))
