use Rattle.std.proofs.Common.{◌∙◌, sym, ap, subst}
use Rattle.td_view.specs.Values.{ToldValue}
use Rattle.td_room.specs.Ending.{SeenFrom}
use Rattle.td_room.proofs.Looks.{seeing_first, first_views, seeing_next}
use Rattle.td_room.proofs.looking.see_all.Goals as goal

pub loop-readers-init : goal.loop-readers-init
loop-readers-init g c = seeing_first c.args.told.now.list c.args.told.now.views c.args.readers.items c.requires

pub see_end-requires : goal.see_end-requires
see_end-requires g c =
    ap (λ (t : ToldValue). t.views) c.again.ensures
    ∙ sym (first_views c.args.told.now.views c.loop-readers.readers.items c.first_reader-reader.new.readers.items
    c.first_reader-reader.result c.first_reader-reader.ensures c.loop-readers.invariant.views_left)

pub loop-readers-preserved : goal.loop-readers-preserved
loop-readers-preserved g c =
    seeing_next c.args.told.now.list c.args.told.now.views c.args.readers.items c.loop-readers.readers.items
    c.first_reader-reader.new.readers.items c.first_reader-reader.result c.first_reader-reader.ensures
    (subst (λ (t : ToldValue). SeenFrom t.list c.first_reader-reader.result) c.again.ensures c.see_end.ensures)
    c.loop-readers.invariant
