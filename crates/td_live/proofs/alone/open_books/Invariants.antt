use Rattle.std.proofs.Common.{◌≡◌, ◌+◌, ◌++◌, length, drop}
use Rattle.td_live.specs.Alone.{new_books}
use Rattle.td_live.proofs.alone.open_books.Given as goal

abbrev pub invariant-loop-home : goal.invariant-loop-home
invariant-loop-home l = record {
  many : length l.lines.items + l.home-index ≡ length l.homes;
  books : l.books.items ++ new_books (drop l.home-index l.homes) l.lines.items ≡ new_books l.homes l.fn.lines.items;
}
