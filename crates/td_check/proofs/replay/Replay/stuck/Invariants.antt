use Rattle.std.proofs.Common.{◌≡◌, ◌<◌, ◌≤◌, ℕ, []}
use Rattle.td_check.specs.Sites.{states_of}
use Rattle.td_check.proofs.replay.Replay.stuck.Given as goal

abbrev pub invariant-loop-place : goal.invariant-loop-place
invariant-loop-place g l = (site : ℕ) → 0 < site → site ≤ l.place → (states_of l.self site).left ≡ []
