use Rattle.std.proofs.Common.{◌≡◌, length}
use Rattle.td_journal.specs.Seen.{released, replica_of}
use Rattle.td_kept.specs.Sites.{IsPending}
use Rattle.td_kept.proofs.Inputs.{IsGoing}
use Rattle.td_kept.proofs.site.go_on.Given as goal

abbrev pub invariant-loop-k : goal.invariant-loop-k
invariant-loop-k g l = record {
  going : IsGoing (length (replica_of l.fn.kept).machine.waiting) l.k (replica_of l.fn.kept) (replica_of l.kept);
  pending : IsPending l.kept;
  counted : released l.kept ≡ released l.fn.kept;
}
