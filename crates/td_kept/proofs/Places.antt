-- The seat of a site and the kept replica in it.
use Rattle.std.proofs.Common.{◌≡◌, ◌++◌, ℕ, List, true, false, Option, Some, None, refl, sym, ap, ◌∙◌, subst}
use Rattle.std.specs.Prelude.{is_some}
use Rattle.std.proofs.lemmas.Bool.{false≢true}
use Rattle.std.proofs.lemmas.Option.{same_Some}
use Rattle.td_disk.specs.MemDisk.{MemDiskValue}
use Rattle.td_disk.specs.declared.disk.Disk as disk
use Rattle.td_disk.specs.Gated.{disk_of}
use Rattle.td_doc.specs.declared.doc.Doc as doc
use Rattle.td_op.specs.declared.input.Input.{Input}
use Rattle.td_op.specs.declared.message.Message.{Message}
use Rattle.td_replica.specs.Replica.{ReplicaValue}
use Rattle.td_journal.specs.Check.{bytes_of}
use Rattle.td_journal.specs.declared.kept.Kept.{Kept}
use Rattle.td_journal.specs.Seen.{inputs_in, journal_of, replica_of, IsOwnJournal}
use Rattle.td_journal.proofs.Keeping.{leaves_all}
use Rattle.td_kept.specs.KeptWorld.{fits, journal_len}
use Rattle.td_kept.specs.Sites.{after_steps, fitting_inputs, given_inputs, sent_since, IsDone, IsWhole}
use Rattle.td_kept.specs.Seats.{SeatValue, IsAfter, IsSeat, seat_value, taken}

module _ {D : Type 0} {d : doc.Ghosts D} {w : disk.Ghosts MemDiskValue} where
  pub is_taken : (o : Option (Kept D MemDiskValue d w)) (seat : SeatValue) → seat_value o ≡ seat
      → seat.there ≡ true → is_some o ≡ true
  is_taken None seat is here = absurd (false≢true (ap (λ (s : SeatValue). s.there) is ∙ here))
  is_taken (Some k) seat is here = refl

  pub whole_in : (o : Option (Kept D MemDiskValue d w)) (k : Kept D MemDiskValue d w) → o ≡ Some k → IsSeat o
      → IsWhole k
  whole_in None k e s = absurd cc
  whole_in (Some j) k e s = subst (λ (x : Kept D MemDiskValue d w). IsWhole x) (same_Some j k e) s

  pub replica_in : (o : Option (Kept D MemDiskValue d w)) (k : Kept D MemDiskValue d w) (seat : SeatValue)
      → seat_value o ≡ seat → o ≡ Some k → replica_of k ≡ seat.replica
  replica_in o k seat is e =
      ap (λ (s : SeatValue). s.replica) (sym (ap (λ (x : Option (Kept D MemDiskValue d w)). seat_value x) e) ∙ is)

  pub after_done : (inputs : List Input) (old : ReplicaValue) (seat : SeatValue) (k : Kept D MemDiskValue d w)
      (before sent : List Message) → old ≡ seat.replica → IsDone inputs old k before sent
      → IsAfter inputs seat (taken (replica_of k)) before sent
  after_done inputs old seat k before sent is done = record {
    seat = ap taken (done.replica ∙ ap (λ (r : ReplicaValue). after_steps inputs r) is);
    sent_is = done.sent_is ∙ ap (λ (r : ReplicaValue). before ++ sent_since r (after_steps inputs r)) is;
  }

  -- it had no room
  pub full_in : (k new : Kept D MemDiskValue d w) (seat : SeatValue) (input : Input) (len : ℕ)
      → replica_of k ≡ seat.replica → seat.there ≡ true → fits input (replica_of k) ≡ false
      → len ≡ journal_len (replica_of k) → replica_of new ≡ replica_of k
      → (fits input seat.replica ≡ false) × (len ≡ journal_len seat.replica) × (taken (replica_of new) ≡ seat)
  full_in k new seat input len is here full long same = (
    ap (fits input) (sym is) ∙ full,
    long ∙ ap journal_len is,
    ap taken (same ∙ is) ∙ (λ i. record { replica = seat.replica; there = sym here i }),
  )

  pub cut_in : (k new : Kept D MemDiskValue d w) (seat : SeatValue) (message : Message) (before sent : List Message)
      → replica_of k ≡ seat.replica
      → IsDone (fitting_inputs (given_inputs message (replica_of k)) (replica_of k)) (replica_of k) new before sent
      → IsAfter (fitting_inputs (given_inputs message seat.replica) seat.replica) seat (taken (replica_of new))
      before sent
  cut_in k new seat message before sent is done =
      subst (λ (r : ReplicaValue). IsAfter (fitting_inputs (given_inputs message r) r) seat (taken (replica_of new))
      before sent) is
      (after_done (fitting_inputs (given_inputs message (replica_of k)) (replica_of k)) (replica_of k) seat new before
      sent is done)

  -- a crash leaves a journal of its inputs
  pub leaves_whole : (k : Kept D MemDiskValue d w) → IsWhole k → (c : List ℕ) → w.leaves (disk_of (journal_of k)) c
      → IsOwnJournal k (inputs_in k) c
  leaves_whole k h c left =
      leaves_all w k.check.format k.replica k.acknowledged k.journal (bytes_of k.check) k.staged
      (k.kept h.goes_on.still_open) h.acknowledged_all c left
