-- Kept replicas of which all is on the disk: after the first bytes of a journal, a commit, and a crash.
use Rattle.std.proofs.Common.{◌≡◌, ◌≢◌, ◌++◌, ℕ, List, [], ◌∷◌, true, false}
use Rattle.std.proofs.Common.{length, take, drop, sym, ap, ◌∙◌, subst}
use Rattle.td_disk.specs.declared.disk.Disk as disk
use Rattle.td_disk.specs.Calls.{Puts, Grows}
use Rattle.td_disk.specs.Gated.{Stands, disk_of, end_of}
use Rattle.td_disk.specs.MemDisk.{MemDiskValue, new_disk}
use Rattle.td_doc.specs.declared.doc.Doc as doc
use Rattle.td_op.specs.declared.input.Input.{Input}
use Rattle.td_op.specs.declared.message.Message.{Message}
use Rattle.td_machine.specs.Machine.{start}
use Rattle.td_machine.specs.History.{after}
use Rattle.td_replica.specs.Replica.{ReplicaValue, IsReplica, new_replica}
use Rattle.td_journal.specs.declared.check.Check.{Check}
use Rattle.td_journal.specs.declared.format.Format.{Format}
use Rattle.td_journal.specs.declared.format.Format.TheVariants.{Plain}
use Rattle.td_journal.specs.declared.kept.Kept.{Kept}
use Rattle.td_journal.specs.Journal.{journal_bytes, IsJournal}
use Rattle.td_journal.specs.Seen.{acknowledged, check_behind, format_of, inputs_in, is_closed, journal_of}
use Rattle.td_journal.specs.Seen.{released, replica_of, staged_bytes}
use Rattle.td_kept.specs.KeptWorld.{is_done}
use Rattle.td_kept.specs.Sites.{IsQuiet, IsWhole, IsPending, IsAsked, after_steps, crash_inputs, left_inputs}
use Rattle.td_kept.specs.Sites.{sent_since}
use Rattle.td_kept.specs.Seats.{SeatValue, IsAfter, taken}
use Rattle.td_kept.proofs.Failing.{IsInMemory, quiet_synced, quiet_put, quiet_grown}
use Rattle.td_kept.proofs.Restored.{came_back, released_whole}

quiet_new : (disk : MemDiskValue) (first : List ℕ) → disk ≡ new_disk first [] → IsQuiet disk
quiet_new disk first is = record {
  fails = ap (λ (x : MemDiskValue). x.fails) is;
  fuse = ap (λ (x : MemDiskValue). x.fuse) is;
  starved = ap (λ (x : MemDiskValue). x.starved) is;
}

module _ {D : Type 0} {d : doc.Ghosts D} {w : disk.Ghosts MemDiskValue} (k : Kept D MemDiskValue d w)
    (m : IsInMemory w) where
  pub begun_whole : (disk : MemDiskValue) (site n : ℕ) (bytes : List ℕ) → disk ≡ new_disk [] []
      → Puts w disk 0 bytes true (disk_of (journal_of k)) → replica_of k ≡ new_replica site n → format_of k ≡ Plain
      → is_closed k ≡ false → acknowledged k ≡ 0 → staged_bytes k ≡ [] → IsWhole k
  begun_whole disk site n bytes is put replica format open_ none staged = record {
    goes_on = record {
      still_open = open_;
      format = format;
      quiet = quiet_put k m disk 0 bytes (disk_of (journal_of k)) (quiet_new disk [] is) put;
    };
    nothing_staged = staged;
    acknowledged_all = none ∙ sym (ap (λ (r : ReplicaValue). length r.entries) replica);
    released_all = k.counted.released_is
        ∙ (λ i. length (after (start (replica i).machine.site (replica i).machine.size)
        (take (none i) (replica i).entries)).sent)
        ∙ sym (ap (λ (r : ReplicaValue). length r.machine.sent) replica);
  }

  pub committed_whole : (old : Kept D MemDiskValue d w) → IsPending old
      → (staged_bytes old ≢ [] → Grows w (disk_of (journal_of old)) (end_of (journal_of old))
      (staged_bytes old ++ 0 ∷ []) true (disk_of (journal_of k)))
      → staged_bytes k ≡ [] → acknowledged k ≡ length (replica_of k).entries → is_closed k ≡ false
      → check_behind k ≡ check_behind old → IsReplica (replica_of k) → IsWhole k
  committed_whole old p done staged all open_ check h = record {
    goes_on = record {
      still_open = open_;
      format = ap (λ (c : Check). c.format) check ∙ p.goes_on.format;
      quiet = quiet_grown k m (disk_of (journal_of old)) (end_of (journal_of old)) (staged_bytes old ++ 0 ∷ [])
          (disk_of (journal_of k)) p.goes_on.quiet (done p.some_staged);
    };
    nothing_staged = staged;
    acknowledged_all = all;
    released_all = released_whole (replica_of k) (acknowledged k) (released k) h k.counted all;
  }

  pub opened_whole : (disk : MemDiskValue) (first : List ℕ) → disk ≡ new_disk first []
      → w.syncs disk true (disk_of (journal_of k)) → format_of k ≡ Plain → is_closed k ≡ false
      → acknowledged k ≡ length (replica_of k).entries → staged_bytes k ≡ [] → IsReplica (replica_of k) → IsWhole k
  opened_whole disk first is synced format open_ all staged h = record {
    goes_on = record {
      still_open = open_;
      format = format;
      quiet = quiet_synced k m disk (disk_of (journal_of k)) (quiet_new disk first is) synced;
    };
    nothing_staged = staged;
    acknowledged_all = all;
    released_all = released_whole (replica_of k) (acknowledged k) (released k) h k.counted all;
  }

-- the journal of a site, in other words
pub journal_again : (f : Format) (site n site_2 n_2 : ℕ) (inputs : List Input) (file file_2 : List ℕ) → f ≡ Plain
    → site_2 ≡ site → n_2 ≡ n → file_2 ≡ file → IsJournal f site n inputs file
    → IsJournal Plain site_2 n_2 inputs file_2
journal_again f site n site_2 n_2 inputs file file_2 plain site_is n_is same j =
    subst (λ (l : List ℕ). IsJournal Plain site_2 n_2 inputs l) (sym same)
    (subst (λ (l : List ℕ). Stands l file) (λ i. journal_bytes (plain i) (sym site_is i) (sym n_is i) inputs) j)

-- the site that came back, with what it then released
pub crashed_after : {D : Type 0} {d : doc.Ghosts D} {w : disk.Ghosts MemDiskValue} (asked new : Kept D MemDiskValue d w)
    (old : ReplicaValue) (input : Input) (k choice : ℕ) (seat : SeatValue) (before sent : List Message)
    → IsAsked input old asked → old ≡ seat.replica → inputs_in new ≡ left_inputs k choice asked
    → ((replica_of new).machine.site ≡ (replica_of asked).machine.site)
    × ((replica_of new).machine.size ≡ (replica_of asked).machine.size) → IsReplica (replica_of new)
    → sent ≡ before ++ drop (released asked) (replica_of new).machine.sent
    → IsAfter (crash_inputs input k choice) seat (taken (replica_of new)) before sent
crashed_after asked new old input k choice seat before sent a same inputs place h sent_is =
    let back : replica_of new ≡ after_steps (crash_inputs input k choice) old =
    came_back old (replica_of asked) (replica_of new) input (acknowledged asked) (is_done k choice) a.was a.now h
    a.replica place.0 place.1 a.site_is a.size_is a.acknowledged_is inputs in
    record {
      seat = ap taken (back ∙ ap (λ (r : ReplicaValue). after_steps (crash_inputs input k choice) r) same);
      sent_is = sent_is
          ∙ (λ i. before ++ drop (a.released_is i) (back i).machine.sent)
          ∙ ap (λ (r : ReplicaValue). before ++ sent_since r (after_steps (crash_inputs input k choice) r)) same;
    }
