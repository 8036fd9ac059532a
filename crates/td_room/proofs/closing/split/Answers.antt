use Rattle.std.proofs.Common.{◌≡◌, List, length, refl, rules}
use Rattle.td_line.specs.Editors.{EditorValue}
use Rattle.td_room.specs.Rooms.{editors_of}
use Rattle.td_room.specs.Ending.{others_of}
use Rattle.td_room.proofs.Gathers.{none_to_sort}
use Rattle.td_room.proofs.closing.split.Goals as goal

pub returns-clause-own : goal.returns-clause-own
returns-clause-own c =
    let none : length c.loop-home.editors.items ≡ 0 = search rules in
    none_to_sort (λ (es : List EditorValue). editors_of c.args.home es) c.loop-home.own.items
    (editors_of c.args.home c.args.editors.items) c.loop-home.editors.items refl none c.loop-home.invariant.own

pub returns-clause-others : goal.returns-clause-others
returns-clause-others c =
    let none : length c.loop-home.editors.items ≡ 0 = search rules in
    none_to_sort (λ (es : List EditorValue). others_of c.args.home es) c.loop-home.others.items
    (others_of c.args.home c.args.editors.items) c.loop-home.editors.items refl none c.loop-home.invariant.others
