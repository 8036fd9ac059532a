use Rattle.std.proofs.Common.{◌≡◌, length}
use Rattle.td_editor.proofs.Going.{IsGoing}
use Rattle.td_editor.proofs.editor.Editor.catch_up.Given as goal

abbrev pub invariant-loop-count : goal.invariant-loop-count
invariant-loop-count g l =
    IsGoing g.S.Screen.heard l.waiting l.count l.fn.self l.self
    × (l.waiting ≡ length l.fn.self.replica.machine.waiting)
