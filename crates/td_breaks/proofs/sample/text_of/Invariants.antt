use Rattle.std.proofs.Common.{◌≡◌, ◌++◌, string_bytes}
use Rattle.std.specs.List.{concat}
use Rattle.td_breaks.proofs.sample.text_of.Given as goal

-- the bytes of the atoms that were put, and of those that are to come
abbrev pub invariant-loop-atom : goal.invariant-loop-atom
invariant-loop-atom l = record {
  can : (goal.iterator-loop-atom).can_next l.atom-iterator;
  ends : (goal.iterator-loop-atom).is_finite l.atom-iterator;
  bytes : string_bytes l.text ++ concat l.atom-iterator ≡ concat l.atoms;
}
