use Rattle.std.proofs.Common.{List, subst}
use Rattle.td_trace.specs.declared.log.EditorLog.{EditorLog}
use Rattle.td_world.specs.World.{family_of}
use Rattle.td_live.specs.Live.{IsTraced}
use Rattle.td_live.proofs.Winding.{wound_up, size_wound}
use Rattle.td_live.proofs.ending.wind_up.Goals as goal

pub trace_of-requires-clause-sites : goal.trace_of-requires-clause-sites
trace_of-requires-clause-sites g c =
    size_wound c.args.world c.finish.new.world c.settle.new.self c.in_ok-settle.field-0 c.args.books.items
    c.in_ok-logs.logs.items c.in_ok-logs.ensures.finished c.in_ok-settle.ensures.given c.args.sites c.requires.sites

pub returns : goal.returns
returns g c =
    wound_up c.args.world c.finish.new.world c.settle.new.self c.in_ok-settle.field-0 c.args.books.items
    c.in_ok-logs.logs.items c.in_ok-logs.ensures.finished c.in_ok-settle.ensures.given c.in_ok-bytes.bytes
    c.settle.ensures.world (c.in_ok-settle.ensures.vectors (c.in_ok-logs.ensures.nobody c.requires.nobody))
    (c.in_ok-settle.ensures.decided (c.in_ok-logs.ensures.nobody c.requires.nobody))
    (subst (λ (ls : List EditorLog). IsTraced (family_of c.settle.new.self) ls c.in_ok-bytes.bytes)
    c.deref.ensures.value
    c.in_ok-bytes.ensures)
