-- When nothing is left to do at a site that is to have given operations.
use Rattle.std.specs.Prelude.{◌==◌, ◌&&◌, ℕ, List, Bool, nat_eq}
use Rattle.std.specs.Cmp.Lexicographic.{pointwise}
use Rattle.td_machine.specs.Machine.{Machine, undecided}

-- it has exactly so many operations of each site, and no proposal of its is undecided
abbrev pub is_at_rest : List ℕ → Machine → Bool
is_at_rest have m = pointwise nat_eq m.have have && undecided m == 0
