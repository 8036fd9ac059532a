use Rattle.std.proofs.Common.{◌≡◌, ℕ, length, take, get_or}
use Rattle.td_list.specs.Items.{IsItem}
use Rattle.td_list.proofs.homes.settle.Given as goal

abbrev pub invariant-loop-i : goal.invariant-loop-i
invariant-loop-i l = record {
  long : length l.homes.items ≡ length l.fn.homes.items;
  inside : (x : ℕ) → IsItem x (take l.i l.items) → get_or l.homes.items x 0 ≡ l.home;
  outside : (x : ℕ) → (IsItem x (take l.i l.items) → ⊥) → get_or l.homes.items x 0 ≡ get_or l.fn.homes.items x 0;
}
