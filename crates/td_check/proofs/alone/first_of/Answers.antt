use Rattle.std.proofs.Common.{◌≡◌, ◌<◌, ◌+◌, true, length, sym, ap, ◌∙◌, arith}
use Rattle.td_trace.specs.Entries.{is_request_at}
use Rattle.td_law_replay.specs.Traced.{site_entries}
use Rattle.td_check.proofs.AloneFirst.{first_at}
use Rattle.td_check.proofs.alone.first_of.Goals as goal

pub returns-then-is_request : goal.returns-then-is_request
returns-then-is_request c =
    let t = c.args.trace.now in
    let site = c.args.site in
    let less : c.loop-index.index < length (site_entries t.histories site) =
    omega (arith, c.entries-index-end.ensures) in
    let asked : is_request_at (site_entries t.histories site) (c.loop-index.index + 1) ≡ true =
    ap (is_request_at (site_entries t.histories site)) (sym c.from.ensures) ∙ sym c.is_request.ensures
    ∙ c.if-is_request.true in
    first_at t site c.loop-index.index c.line_of_entry.result c.args.row.now c.requires.some c.requires.within
    c.requires.row less c.if-row-index-ne1.true asked c.line_of_entry.ensures c.loop-index.invariant
