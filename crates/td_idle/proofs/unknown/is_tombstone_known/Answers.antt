use Rattle.std.proofs.Common.{sym, ◌∙◌}
use Rattle.td_idle.proofs.UnknownRows.{deletes_told, none_told}
use Rattle.td_idle.proofs.unknown.is_tombstone_known.Goals as goal

pub are_all_known-requires : goal.are_all_known-requires
are_all_known-requires g c = deletes_told (g.D.Doc.rows c.args.doc.now) c.args.id c.in-Some.row
    (sym c.find.ensures ∙ c.in-Some.is)

pub returns-in-None : goal.returns-in-None
returns-in-None g c = none_told c.args.v.now (g.D.Doc.rows c.args.doc.now) c.args.id (sym c.find.ensures ∙ c.in-None.is)
