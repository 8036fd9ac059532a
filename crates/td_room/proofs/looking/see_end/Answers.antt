use Rattle.std.proofs.Common.{ap, subst, List}
use mathlib.Core.List.{IsPrefix}
use Rattle.td_view.specs.declared.publish.Publish.{Publish}
use Rattle.td_view.specs.Values.{ReaderValue}
use Rattle.td_site.proofs.Lists.{prefix_then}
use Rattle.td_room.proofs.looking.see_end.Goals as goal

pub returns : goal.returns
returns g c =
    let last : List Publish = c.look_once.new.reader.seen in
    record {
      last = last;
      goes_on = prefix_then c.args.told.list c.learn.new.self.known last c.learn.ensures.told c.look_once.ensures.known;
      legal = c.look_once.ensures.legal;
      seen = subst (λ (l : List Publish). IsPrefix l last) (ap (λ (r : ReaderValue). r.seen) c.learn.ensures.same)
          c.look_once.ensures.seen;
    }
