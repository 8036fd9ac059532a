use Rattle.std.proofs.Common.{◌≡◌, ◌<◌, ◌^◌, ap, ◌∙◌, length, false, arith}
use Rattle.std.specs.Option.{is_some}
use Rattle.td_causal.proofs.Entries.{entries_inserted, few_more}
use Rattle.td_causal.specs.Waiting.{Numbers, is_kept, put_in_order}
use Rattle.td_causal.proofs.buffer.Buffer.keep.Goals as goal

pub invariant_of-self-2 : goal.invariant_of-self-2
invariant_of-self-2 c =
    let h = c.in_ok-insert.ensures in
    let new : is_kept c.args.dot c.self.inside.waiting.entries ≡ false =
    ap (λ (ws : Numbers). is_kept c.args.dot ws) c.self.view_is ∙ c.requires in
    let few : length c.insert.new.self.entries < 2 ^ 32 =
    few_more (is_some c.in_ok-insert.field-0) (length c.self.inside.waiting.entries) _ h.len
    (omega (arith, c.if-len.false, c.len.ensures.len)) in
    (entries_inserted c.args.dot c.args.number c.self.inside.waiting.entries c.insert.new.self.entries h.entries
    c.self.invariant c.is_in_range.ensures new h.ordered few).0

pub returns-clause-ok : goal.returns-clause-ok
returns-clause-ok c =
    let h = c.in_ok-insert.ensures in
    let new : is_kept c.args.dot c.self.inside.waiting.entries ≡ false =
    ap (λ (ws : Numbers). is_kept c.args.dot ws) c.self.view_is ∙ c.requires in
    let few : length c.insert.new.self.entries < 2 ^ 32 =
    few_more (is_some c.in_ok-insert.field-0) (length c.self.inside.waiting.entries) _ h.len
    (omega (arith, c.if-len.false, c.len.ensures.len)) in
    (entries_inserted c.args.dot c.args.number c.self.inside.waiting.entries c.insert.new.self.entries h.entries
    c.self.invariant c.is_in_range.ensures new h.ordered few).1
    ∙ ap (put_in_order (c.args.dot, c.args.number)) c.self.view_is
