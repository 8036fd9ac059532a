use Rattle.std.proofs.Common.{◌≡◌, ◌<◌, ◌^◌, ◌++◌, length, drop, []}
use Rattle.td_view.specs.History.{head_of}
use Rattle.td_view.specs.Publishes.{again, MayFollow}
use Rattle.td_view.specs.Deeds.{publish_of}
use Rattle.td_view.specs.Tied.{StandsAtEnd}
use Rattle.td_view.specs.Values.{tolds}
use Rattle.td_view.proofs.writer.Writer.end.Given as goal

abbrev pub invariant-loop-last : goal.invariant-loop-last
invariant-loop-last g l =
    let p = l.fn.self.shown in
    let x = l.press.desk.shown.value in
    (l.head ≡ head_of l.past.book)
    × ((l.number ≡ length l.past.log) × (l.number < 2 ^ 63))
    × (x.past ≡ l.past)
    × StandsAtEnd x
    × ((x.upto ≡ l.upto) × (l.upto ≡ p.upto) × (x.atoms ≡ p.atoms))
    × (drop l.press.behind l.press.log.items ≡ [])
    × (0 < l.last → MayFollow (publish_of x) (again p l.last))
    × (l.all.items ++ tolds l.past.book l.past.log p l.last ≡ tolds l.fn.self.views l.fn.self.publishes p l.fn.count)

abbrev pub decreases-loop-last : goal.decreases-loop-last
decreases-loop-last g l = l.last
