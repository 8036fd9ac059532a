use Rattle.std.proofs.Common.{◌≡◌, ◌≤◌, ◌+◌, ℕ, Some, length, refl, sym, ap, ◌∙◌, subst, arith}
use Rattle.std.proofs.lemmas.Option.{slice_get_read}
use Rattle.std.specs.Prelude.{slice_get}
use Rattle.td_check.specs.Alone.{IsRowOfCalls}
use Rattle.td_check.specs.Findings.{IsAlone}
use Rattle.td_check.proofs.AloneFirst.{none_of_all, none_of_more}
use Rattle.td_check.proofs.alone.first_in.Goals as goal

pub loop-n-preserved : goal.loop-n-preserved
loop-n-preserved c =
    let t = c.args.trace.now in
    let site : c.at.result ≡ c.loop-n.n + 1 = c.at.ensures in
    none_of_more t c.loop-n.n (subst (λ (s : ℕ). (k : ℕ) → ¬ IsAlone t s k) site c.in_default.ensures)
    c.loop-n.invariant

pub returns : goal.returns
returns c =
    let t = c.args.trace.now in
    let all : length t.histories ≤ c.loop-n.n =
    omega (arith, c.sites-n-end.ensures.sites, c.sites-n-end.ensures.value.each_history) in
    none_of_all t c.loop-n.n all c.loop-n.invariant

pub first_of-requires-clause-row : goal.first_of-requires-clause-row
first_of-requires-clause-row c =
    let t = c.args.trace.now in
    let rows = c.args.rows.now in
    let site : c.at.result ≡ c.loop-n.n + 1 = c.at.ensures in
    let row = c.index-rows-from.result in
    let at : slice_get rows c.loop-n.n ≡ Some row =
    ap (slice_get rows) (sym c.from.ensures)
    ∙ slice_get_read rows (length rows) c.from.result row refl
    (omega (arith, c.from.ensures, c.requires.each, c.sites-n-end.ensures.sites)) c.index-rows-from.is in
    subst (IsRowOfCalls t t.logs c.at.result) (sym c.deref.ensures.value)
    (subst (λ (s : ℕ). IsRowOfCalls t t.logs s row.items) (sym site) (c.requires.row c.loop-n.n row at))
