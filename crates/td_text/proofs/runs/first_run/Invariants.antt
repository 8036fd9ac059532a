use Rattle.std.proofs.Common.{◌≡◌, ◌+◌, List, ℕ, length, map, take, drop, sum}
use Rattle.td_text.specs.Runs.{runs_of, runs_on}
use Rattle.td_text.proofs.runs.first_run.Given as goal

abbrev pub invariant-loop-len : goal.invariant-loop-len
invariant-loop-len l = record {
  counted : l.count ≡ l.len-index;
  bytes : l.room + sum (take l.count l.lengths) ≡ 64;
  same : (atoms : List (List ℕ)) → map length atoms ≡ l.lengths → runs_of atoms
      ≡ runs_on (take l.count atoms) l.room (drop l.count atoms);
}
