use Rattle.td_live.proofs.Telling.{is_traced, trace_joined, five_parts}
use Rattle.td_live.proofs.printing.trace_of.Goals as goal

pub returns : goal.returns
returns g c =
    is_traced c.args.world.now c.sent.ensures.world c.args.logs.now c.push.new.self
    (trace_joined c.args.world.now c.args.logs.now c.args.sites c.push.new.self c.requires.sites
    (five_parts _ _ _ c.in_ok-bytes.ensures c.in_ok-push_sites.ensures c.in_ok-push_editors.ensures
    c.in_ok-push_texts.ensures
    c.in_ok-push.ensures.ok c.as_slice.ensures c.in_ok-end.ensures))
