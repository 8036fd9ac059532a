use Rattle.std.proofs.Common.{◌∙◌}
use Rattle.td_store.proofs.StoredRuns.{is_read}
use Rattle.td_store.proofs.runs.read_stored.Goals as goal

pub total-requires : goal.total-requires
total-requires c = (is_read c.args.bytes.now c.split_at.result.0.now c.split_at.result.1.now c.requires
    c.split_at.ensures.front c.split_at.ensures.back).few

pub slice_bounds-cut-end : goal.slice_bounds-cut-end
slice_bounds-cut-end c =
    let read = is_read c.args.bytes.now c.split_at.result.0.now c.split_at.result.1.now c.requires
    c.split_at.ensures.front c.split_at.ensures.back in
    rw c.total.ensures read.whole

pub cut-requires-clause-whole : goal.cut-requires-clause-whole
cut-requires-clause-whole c =
    let read = is_read c.args.bytes.now c.split_at.result.0.now c.split_at.result.1.now c.requires
    c.split_at.ensures.front c.split_at.ensures.back in
    rw c.total.ensures read.whole

pub cut-requires-clause-run : goal.cut-requires-clause-run
cut-requires-clause-run c =
    let read = is_read c.args.bytes.now c.split_at.result.0.now c.split_at.result.1.now c.requires
    c.split_at.ensures.front c.split_at.ensures.back in
    rw (c.total.ensures, read.again) c.requires.run

pub returns : goal.returns
returns c =
    let read = is_read c.args.bytes.now c.split_at.result.0.now c.split_at.result.1.now c.requires
    c.split_at.ensures.front c.split_at.ensures.back in
    c.cut.ensures ∙ rw c.total.ensures read.again
