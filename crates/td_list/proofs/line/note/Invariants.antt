use Rattle.std.proofs.Common.{◌≡◌, ◌<◌, ℕ, length, get_or}
use Rattle.td_list.specs.Places.{nothing}
use Rattle.td_list.proofs.line.note.Given as goal

abbrev pub invariant-loop-place : goal.invariant-loop-place
invariant-loop-place l = record {
  long : length l.places.items ≡ length l.fn.places.items;
  noted : (k : ℕ) → k < l.place → k < length l.items → get_or l.places.items (get_or l.items k nothing).name 0 ≡ k;
}
