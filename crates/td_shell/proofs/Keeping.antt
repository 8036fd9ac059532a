-- What a line that was done, or was not, leaves on the disk.
use Rattle.std.proofs.Common.{◌≡◌, ◌≤◌, ◌∙◌, ℕ, List, Result, Ok, Err, length, take, inl, inr}
use Rattle.std.proofs.Common.{true, false, true≢false, ap, subst, sym, ◌⊎◌, arith}
use Rattle.std.proofs.Math.Seq.{take-append_seam}
use Rattle.std.specs.Prelude.{IfOk, OnErr, OnOk}
use Rattle.td_disk.specs.declared.disk.Disk as disk
use Rattle.td_disk.specs.declared.gated.Gated.{Gated}
use Rattle.td_disk.specs.Gated.{disk_of}
use Rattle.td_io.specs.Count.{Rose}
use Rattle.td_disk.specs.Moments.{LeavesOnly}
use Rattle.td_disk.proofs.Moments.{started, weakened}
use Rattle.td_doc.specs.declared.doc.Doc as doc
use Rattle.td_op.specs.declared.input.Input.{Input}
use Rattle.td_journal.specs.declared.check.Check.{Check}
use Rattle.td_journal.specs.declared.fault.KeptFault.{KeptFault}
use Rattle.td_journal.specs.declared.fault.KeptFault.TheVariants as Fault
use Rattle.td_journal.specs.declared.format.Format.{Format}
use Rattle.td_journal.specs.declared.kept.Kept.{Kept}
use Rattle.td_journal.specs.Journal.{inputs_of, IsJournal}
use Rattle.td_journal.specs.Seen.{acknowledged, acknowledged_in, check_behind, is_closed, format_of, inputs_in}
use Rattle.td_journal.specs.Seen.{journal_of, replica_of}
use Rattle.td_journal.specs.Seen.{IsOwnJournal, IsOwnJournalOfEither}
use Rattle.td_replica.specs.Replica.{ReplicaValue}
use Rattle.td_shell.specs.declared.halt.Halt.{Halt}
use Rattle.td_shell.specs.declared.halt.Halt.TheVariants as Why
use Rattle.td_shell.specs.Answers.{Effect}
use Rattle.td_shell.specs.Staging.{HasFailed, IsAllKept, IsLineDone, IsHalted, IsSamePlace, IsStaged}
use Rattle.td_shell.specs.Wanting.{IsWanting, halt_of}
use Rattle.td_shell.proofs.Staged.{fault_of, place_on}

module _ {D K : Type 0} {d : doc.Ghosts D} {w : disk.Ghosts K} where
  -- a journal of the one is one of the other
  pub own_journal : (old new : Kept D K d w) (inputs others : List Input) (c : List ℕ) → IsSamePlace old new
      → inputs ≡ others
      → IsOwnJournal new inputs c → IsOwnJournal old others c
  own_journal old new inputs others c place same j =
      subst (λ (f : Format). IsJournal f (replica_of old).machine.site (replica_of old).machine.size others c)
      place.format
      (subst (λ (k : ℕ). IsJournal (format_of new) k (replica_of old).machine.size others c) place.site
      (subst (λ (k : ℕ). IsJournal (format_of new) (replica_of new).machine.site k others c) place.size
      (subst (λ (is : List Input). IsJournal (format_of new) (replica_of new).machine.site
      (replica_of new).machine.size is c) same j)))

  pub place_back : (old new : Kept D K d w) → IsSamePlace old new → IsSamePlace new old
  place_back old new p = record { format = sym p.format; site = sym p.site; size = sym p.size }

  -- of either
  pub either_journal : (old new : Kept D K d w) (a b a' b' : List Input) (c : List ℕ) → IsSamePlace old new → a ≡ a'
      → b ≡ b' → IsOwnJournalOfEither new a b c → IsOwnJournalOfEither old a' b' c
  either_journal old new a b a' b' c place p q (inl j) = inl (own_journal old new a a' c place p j)
  either_journal old new a b a' b' c place p q (inr j) = inr (own_journal old new b b' c place q j)

  -- nothing is done on the disk
  pub at_rest : (k : Kept D K d w) (others : List Input) → IsAllKept w k
      → ((c : List ℕ) → w.left_since (disk_of (journal_of k)) (w.clock (disk_of (journal_of k))) c
      → w.leaves (disk_of (journal_of k)) c)
      → LeavesOnly w (disk_of (journal_of k)) (disk_of (journal_of k)) (IsOwnJournalOfEither k (inputs_in k) others)
  at_rest k others kept only_now =
      started w (disk_of (journal_of k)) (IsOwnJournalOfEither k (inputs_in k) others)
      (λ c left. inl (kept.leaves c (only_now c left)))

  halted_of : (old new : Kept D K d w) (behind : ReplicaValue) (halt : Halt) → IsWanting new behind halt
      → IsStaged old new → IsHalted w old new behind halt
  halted_of old new behind Why.Memory wanting staged = staged
  halted_of old new behind (Why.Full len) wanting staged = (wanting, staged)
  halted_of old new behind Why.Disk wanting staged = absurd wanting
  halted_of old new behind Why.Read wanting staged = absurd wanting
  halted_of old new behind Why.Write wanting staged = absurd wanting

  -- the disk is the same
  still_counted : (old new : Kept D K d w) → journal_of new ≡ journal_of old
      → w.faults (disk_of (journal_of old)) ≤ w.faults (disk_of (journal_of new))
  still_counted old new same =
      subst (λ (j : Gated K). w.faults (disk_of (journal_of old)) ≤ w.faults (disk_of j)) (sym same) (omega arith)

  -- a line whose steps were not all staged was not done
  pub not_done : (old new : Kept D K d w) (e : Effect) (halt : Halt) → IsAllKept w old
      → ((c : List ℕ) → w.left_since (disk_of (journal_of old)) (w.clock (disk_of (journal_of old))) c
      → w.leaves (disk_of (journal_of old)) c) → IsWanting new e.replica halt → IsStaged old new
      → IsLineDone w old new e (Err halt)
  not_done old new e halt kept only_now wanting staged =
      record {
        text = tt;
        replica = tt;
        kept = tt;
        halted = halted_of old new e.replica halt wanting staged;
        counts = still_counted old new staged.journal;
        place = staged.place;
        any_moment = subst (λ (j : Gated K). LeavesOnly w (disk_of (journal_of old)) (disk_of j)
            (IsOwnJournalOfEither old (inputs_in old) (inputs_of e.replica.entries))) (sym staged.journal)
            (at_rest old (inputs_of e.replica.entries) kept only_now);
      }

  -- what a commit leaves behind steps that were staged
  committed : (old mid new : Kept D K d w) (r : ReplicaValue) → IsAllKept w old → IsStaged old mid
      → replica_of mid ≡ r
      → LeavesOnly w (disk_of (journal_of mid)) (disk_of (journal_of new))
      (IsOwnJournalOfEither mid (acknowledged_in mid) (inputs_in mid))
      → LeavesOnly w (disk_of (journal_of old)) (disk_of (journal_of new))
      (IsOwnJournalOfEither old (inputs_in old) (inputs_of r.entries))
  committed old mid new r kept staged is only =
      subst (λ (j : Gated K). LeavesOnly w (disk_of j) (disk_of (journal_of new))
      (IsOwnJournalOfEither old (inputs_in old) (inputs_of r.entries))) staged.journal
      (weakened w (disk_of (journal_of mid)) (disk_of (journal_of new))
      (IsOwnJournalOfEither mid (acknowledged_in mid) (inputs_in mid))
      (IsOwnJournalOfEither old (inputs_in old) (inputs_of r.entries)) only
      (λ c j. either_journal old mid (acknowledged_in mid) (inputs_in mid) (inputs_in old) (inputs_of r.entries) c
      staged.place first (ap (λ (x : ReplicaValue). inputs_of x.entries) is) j))
    where
      first : acknowledged_in mid ≡ inputs_in old
      first =
          let count : acknowledged mid ≡ length (replica_of old).entries = staged.counted ∙ kept.counted in
          (λ i. inputs_of (take (count i) (staged.entries i)))
          ∙ ap inputs_of (take-append_seam (replica_of old).entries staged.more)

  counted_from : (old mid new : Kept D K d w) → journal_of mid ≡ journal_of old
      → w.faults (disk_of (journal_of mid)) ≤ w.faults (disk_of (journal_of new))
      → w.faults (disk_of (journal_of old)) ≤ w.faults (disk_of (journal_of new))
  counted_from old mid new same less =
      subst (λ (j : Gated K). w.faults (disk_of j) ≤ w.faults (disk_of (journal_of new))) same less

  -- a line whose steps were staged was done, or the disk failed
  pub done_behind : (old mid new : Kept D K d w) (e : Effect) (text : List ℕ) (result : Result (List ℕ) Halt)
      → IsAllKept w old → IsStaged old mid → text ≡ e.text → replica_of mid ≡ e.replica
      → IfOk result (λ kept_text. kept_text ≡ text) → replica_of new ≡ replica_of mid
      → OnOk result (IsAllKept w new) → IsSamePlace mid new
      → OnErr result ((result ≡ Err Why.Disk) × HasFailed w mid new)
      → w.faults (disk_of (journal_of mid)) ≤ w.faults (disk_of (journal_of new))
      → LeavesOnly w (disk_of (journal_of mid)) (disk_of (journal_of new))
      (IsOwnJournalOfEither mid (acknowledged_in mid) (inputs_in mid)) → IsLineDone w old new e result
  done_behind old mid new e text (Ok put) kept staged text_is is same_text same all place failed counts only =
      record {
        text = same_text ∙ text_is;
        replica = same ∙ is;
        kept = all;
        halted = tt;
        counts = counted_from old mid new staged.journal counts;
        place = place_on old mid new staged.place place;
        any_moment = committed old mid new e.replica kept staged is only;
      }
  done_behind old mid new e text (Err halt) kept staged text_is is same_text same all place failed counts only =
      record {
        text = tt;
        replica = tt;
        kept = tt;
        halted = subst (IsHalted w old new e.replica) (sym (disk_alone halt failed.0))
            (subst (λ (j : Gated K). Rose (w.faults (disk_of j)) (w.faults (disk_of (journal_of new)))) staged.journal
            failed.1);
        counts = counted_from old mid new staged.journal counts;
        place = place_on old mid new staged.place place;
        any_moment = committed old mid new e.replica kept staged is only;
      }
    where
      disk_alone : (halt : Halt) → ◌≡◌ {A = Result (List ℕ) Halt} (Err halt) (Err Why.Disk) → halt ≡ Why.Disk
      disk_alone halt e = cc

  -- a commit that changes neither the replica nor the check
  pub same_place_by : (old new : Kept D K d w) → replica_of new ≡ replica_of old → check_behind new ≡ check_behind old
      → IsSamePlace old new
  same_place_by old new is check =
      record {
        format = ap (λ (x : Check). x.format) check;
        site = ap (λ (r : ReplicaValue). r.machine.site) is;
        size = ap (λ (r : ReplicaValue). r.machine.size) is;
      }

  -- a commit that failed, where none did before, failed at the disk
  pub not_kept : (old new : Kept D K d w) (fault : KeptFault) (halt : Halt) → halt ≡ halt_of fault
      → is_closed old ≡ false → (fault ≡ Fault.Closed → is_closed old ≡ true)
      → (fault ≡ Fault.Closed) ⊎ (fault ≡ Fault.Disk)
      → (fault ≡ Fault.Disk → (is_closed new ≡ true)
      × Rose (w.faults (disk_of (journal_of old))) (w.faults (disk_of (journal_of new))))
      → (◌≡◌ {A = Result (List ℕ) Halt} (Err halt) (Err Why.Disk)) × HasFailed w old new
  not_kept old new fault halt is is_open shut (inl closed) rose =
      absurd (true≢false (sym (shut closed) ∙ is_open))
  not_kept old new fault halt is is_open shut (inr failed) rose =
      (ap (λ (h : Halt). Err h) (is ∙ ap halt_of failed), (rose failed).1)

-- a commit fails as one of these
pub only_two : {T : Type 0} (fault : KeptFault) → (◌≡◌ {A = Result T KeptFault} (Err fault) (Err Fault.Closed))
    ⊎ (◌≡◌ {A = Result T KeptFault} (Err fault) (Err Fault.Disk)) → (fault ≡ Fault.Closed) ⊎ (fault ≡ Fault.Disk)
only_two fault (inl e) = inl (fault_of fault Fault.Closed e)
only_two fault (inr e) = inr (fault_of fault Fault.Disk e)
