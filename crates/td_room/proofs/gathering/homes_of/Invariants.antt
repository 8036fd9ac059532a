use Rattle.std.proofs.Common.{◌≡◌, take}
use Rattle.td_room.proofs.Gathers.{homes}
use Rattle.td_room.proofs.gathering.homes_of.Given as goal

abbrev pub invariant-loop-editor : goal.invariant-loop-editor
invariant-loop-editor l = l.homes.items ≡ homes (take l.editor-index l.editors)
