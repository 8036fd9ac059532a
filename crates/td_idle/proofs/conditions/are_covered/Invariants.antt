use Rattle.std.proofs.Common.{◌≡◌, length, take, drop}
use Rattle.std.specs.List.{list_all}
use Rattle.std.specs.Option.{ForSome}
use Rattle.td_doc.specs.Allocation.{first_id, id_after}
use Rattle.td_doc.specs.Answers.{IsRow}
use Rattle.td_idle.specs.Certificate.{is_covered}
use Rattle.td_idle.proofs.conditions.are_covered.Given as goal

abbrev pub invariant-loop : goal.invariant-loop
invariant-loop g l = record {
  count : l.end ≡ length l.replica.machine.doc;
  row : ForSome l.last (IsRow l.replica.machine.doc);
  at : id_after l.replica.machine.doc l.last ≡ first_id (drop l.counter l.replica.machine.doc);
  so_far : l.all ≡ list_all (is_covered l.replica.machine l.idle.tops.items l.idle.unknown.items)
      (take l.counter l.replica.machine.doc);
}
