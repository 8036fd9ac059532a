use Rattle.std.proofs.Common.{◌≡◌, ◌<◌, ℕ, length, take, get_or}
use Rattle.td_list.specs.Items.{IsItem}
use Rattle.td_list.proofs.homes.grow.Given as goal

abbrev pub invariant-loop-i : goal.invariant-loop-i
invariant-loop-i l = record {
  old : (x : ℕ) → x < length l.fn.homes.items → (x < length l.homes.items)
      × (get_or l.homes.items x 0 ≡ get_or l.fn.homes.items x 0);
  room : (x : ℕ) → IsItem x (take l.i l.items) → x < length l.homes.items;
}
