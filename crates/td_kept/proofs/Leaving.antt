-- The journal that is left of a kept replica where one call of its commit failed.
use Rattle.std.proofs.Common.{◌≡◌, ◌≢◌, ◌<◌, ◌≤◌, ◌++◌, ◌⊎◌, ◌↔◌, inl, inr, ℕ, List, [], ◌∷◌, Bool, true, false}
use Rattle.std.proofs.Common.{if◌then◌else◌, length, take, drop, refl, sym, ap, ◌∙◌, subst}
use Rattle.std.specs.Prelude.{Result, Ok, Err, OnOk, OnErr, IsErrOf, slice_index, ⊤}
use Rattle.std.proofs.lemmas.Bool.{false≢true}
use Rattle.td_disk.specs.declared.disk.Disk as disk
use Rattle.td_disk.specs.Calls.{Grows}
use Rattle.td_disk.specs.Device.{Only}
use Rattle.td_disk.specs.Events.{Leaves}
use Rattle.td_disk.specs.Gated.{Stands, IsPiece, disk_of, end_of}
use Rattle.td_disk.specs.Image.{image}
use Rattle.td_disk.specs.MemDisk.{MemDiskValue}
use Rattle.td_disk.specs.Record.{device_of}
use Rattle.td_doc.specs.declared.doc.Doc as doc
use Rattle.td_op.specs.declared.input.Input.{Input}
use Rattle.td_journal.specs.declared.fault.KeptFault.{KeptFault}
use Rattle.td_journal.specs.declared.fault.KeptFault.TheVariants.{Closed, Disk}
use Rattle.td_journal.specs.declared.format.Format.{Format}
use Rattle.td_journal.specs.declared.kept.Kept.{Kept}
use Rattle.td_journal.specs.Check.{bytes_of}
use Rattle.td_journal.specs.Journal.{inputs_of, journal_bytes}
use Rattle.td_journal.specs.Kept.{acknowledged_of, staged_of, IsKept}
use Rattle.td_journal.specs.Seen.{acknowledged, check_behind, is_closed, journal_of, replica_of, staged_bytes}
use Rattle.td_journal.specs.Seen.{IsOwnJournal}
use Rattle.td_journal.proofs.Growing.{inputs_split, journal_both}
use Rattle.td_journal.proofs.Keeping.{none_left, staged_piece}
use Rattle.td_journal.proofs.Pieces.{piece_is}
use Rattle.td_kept.specs.KeptWorld.{is_done}
use Rattle.td_kept.specs.Sites.{left_inputs, IsPending}
use Rattle.td_kept.proofs.Failing.{IsInMemory, IsBehind, IsAtGate, cut_at, left_early, left_late}

-- the list of bytes in front, with the piece or without it, as a journal
front_is : (done : Bool) (front piece one first whole : List ℕ) → front ≡ first → one ≡ piece
    → first ++ piece ≡ whole
    → (if done then front ++ one else front) ≡ (if done then whole else first)
front_is true front piece one first whole e f g = (λ i. e i ++ f i) ∙ g
front_is false front piece one first whole e f g = e

by_done : (done : Bool) (f : Format) (site n : ℕ) (all first : List Input)
    → (if done then journal_bytes f site n all else journal_bytes f site n first)
    ≡ journal_bytes f site n (if done then all else first)
by_done true f site n all first = refl
by_done false f site n all first = refl

module _ {D : Type 0} {d : doc.Ghosts D} {w : disk.Ghosts MemDiskValue} (mid : Kept D MemDiskValue d w)
    (m : IsInMemory w) (kept : IsKept w (replica_of mid) (journal_of mid) (check_behind mid) (staged_bytes mid)
    (acknowledged mid)) (some : staged_bytes mid ≢ []) where
  abbrev gate : ℕ
  gate = end_of (journal_of mid)

  abbrev held : MemDiskValue
  held = disk_of (journal_of mid)

  abbrev bytes : List ℕ
  bytes = staged_bytes mid ++ 0 ∷ []

  abbrev f : Format
  f = (check_behind mid).format

  abbrev site : ℕ
  site = (replica_of mid).machine.site

  abbrev n : ℕ
  n = (replica_of mid).machine.size

  abbrev first : List Input
  first = acknowledged_of (acknowledged mid) (replica_of mid)

  abbrev rest : List Input
  rest = staged_of (acknowledged mid) (replica_of mid)

  piece : IsPiece (staged_bytes mid ++ 0 ∷ [])
  piece =
      staged_piece w f site n first rest (journal_of mid) (bytes_of (check_behind mid)) (staged_bytes mid)
      (staged_bytes mid ++ 0 ∷ []) kept (λ none. some (none_left (staged_bytes mid) none)) refl

  opened_piece : 1 ∷ piece.body ≡ staged_bytes mid
  opened_piece =
      sym (piece_is (1 ∷ piece.body) (staged_bytes mid ++ 0 ∷ []) piece.is)
      ∙ piece_is (staged_bytes mid) (staged_bytes mid ++ 0 ∷ []) refl

  within : end_of (journal_of mid) < length (device_of (disk_of (journal_of mid)).past).reads
  within = subst (λ (l : List ℕ). end_of (journal_of mid) < length l) (m.reads held) kept.settled.within

  shut : slice_index (device_of (disk_of (journal_of mid)).past).reads (end_of (journal_of mid)) ≢ 1
  shut = subst (λ (l : List ℕ). slice_index l (end_of (journal_of mid)) ≢ 1) (m.reads held) kept.settled.shut

  durable : Only (device_of (disk_of (journal_of mid)).past).reads (Leaves (device_of (disk_of (journal_of mid)).past))
  durable c left = kept.settled.synced.durable c (m.leaves held c left) ∙ m.reads held

  front_spelled : take (end_of (journal_of mid)) (device_of (disk_of (journal_of mid)).past).reads
      ≡ journal_bytes f site n first
  front_spelled = ap (λ (l : List ℕ). take (end_of (journal_of mid)) l) (sym (m.reads held)) ∙ kept.spelled

  all_spelled : journal_bytes f site n first ++ staged_bytes mid
      ≡ journal_bytes f site n (inputs_of (replica_of mid).entries)
  all_spelled =
      ap (λ (l : List ℕ). journal_bytes f site n first ++ l) kept.staged_is
      ∙ sym (journal_both f site n first rest)
      ∙ ap (λ (l : List Input). journal_bytes f site n l)
      (sym (inputs_split (acknowledged mid) (replica_of mid).entries))

  as_journal : (k choice : ℕ) (c : List ℕ)
      → Stands (if is_done k choice then take (end_of (journal_of mid)) (device_of held.past).reads ++ 1 ∷ piece.body
      else take (end_of (journal_of mid)) (device_of held.past).reads) c
      → IsOwnJournal mid (left_inputs k choice mid) c
  as_journal k choice c stands =
      subst (λ (l : List ℕ). Stands l c)
      (front_is (is_done k choice) (take (end_of (journal_of mid)) (device_of held.past).reads) (staged_bytes mid)
      (1 ∷ piece.body) (journal_bytes f site n first)
      (journal_bytes f site n (inputs_of (replica_of mid).entries)) front_spelled opened_piece all_spelled
      ∙ by_done (is_done k choice) f site n (inputs_of (replica_of mid).entries) first) stands

  -- by the growth that was made of its disk
  pub grown_leaves : (k : ℕ) (ok : Bool) (new : MemDiskValue) → 1 ≤ k → k ≤ 4
      → (disk_of (journal_of mid)).fails ≡ [] → (disk_of (journal_of mid)).fuse ≡ k → new.starved ≡ 0
      → Grows w (disk_of (journal_of mid)) (end_of (journal_of mid)) (staged_bytes mid ++ 0 ∷ []) ok new
      → (choice : ℕ) → Leaves (device_of new.past) (image choice (device_of new.past))
      → IsOwnJournal mid (left_inputs k choice mid) (image choice (device_of new.past))
  grown_leaves k ok new low high fails fuse fed g choice left =
      as_journal k choice (image choice (device_of new.past)) (at
      (cut_at mid m (disk_of (journal_of mid)) k (end_of (journal_of mid)) (staged_bytes mid ++ 0 ∷ []) ok new fails
      fuse low high (sym (m.sound held) ∙ kept.settled.synced.sound) fed g))
    where
      at : IsBehind (end_of (journal_of mid)) (drop 1 (staged_bytes mid ++ 0 ∷ [])) held.past new.past k
          ⊎ IsAtGate (end_of (journal_of mid)) (drop 1 (staged_bytes mid ++ 0 ∷ [])) held.past new.past k
          → Stands (if is_done k choice then take (end_of (journal_of mid)) (device_of held.past).reads
          ++ 1 ∷ piece.body else take (end_of (journal_of mid)) (device_of held.past).reads)
          (image choice (device_of new.past))
      at (inl b) =
          left_early held.past (end_of (journal_of mid)) (staged_bytes mid ++ 0 ∷ []) piece.body piece.is within shut
          durable k choice new.past b.early b.past left
      at (inr b) =
          left_late held.past (end_of (journal_of mid)) (staged_bytes mid ++ 0 ∷ []) piece.body piece.is within shut
          durable k choice new.past b.late b.past

-- a commit that answered so grew the file, or failed to
grows_any : (P : Bool → Type 0) (result : Result ⊤ KeptFault) → OnOk result (P true)
    → (IsErrOf result Disk → P false) → OnErr result (IsErrOf result Closed ⊎ IsErrOf result Disk)
    → (IsErrOf result Closed → ⊥) → (ok : Bool) × P ok
grows_any P (Ok x) done failed only going = (true, done)
grows_any P (Err e) done failed only going = at only
  where
    at : IsErrOf {T = ⊤} (Err e) Closed ⊎ IsErrOf {T = ⊤} (Err e) Disk → (ok : Bool) × P ok
    at (inl closed) = absurd (going closed)
    at (inr at_disk) = (false, failed at_disk)

-- so after a commit of which the k-th call was told to fail
pub failed_leaves : {D : Type 0} {d : doc.Ghosts D} {w : disk.Ghosts MemDiskValue}
    (old mid new : Kept D MemDiskValue d w) (m : IsInMemory w) (k : ℕ) (result : Result ⊤ KeptFault) (disk : MemDiskValue) → IsPending old → 1 ≤ k → k ≤ 4
    → disk_of (journal_of mid) ≡ record (disk_of (journal_of old)) { fuse = k }
    → replica_of mid ≡ replica_of old
    → (staged_bytes mid ≡ staged_bytes old) × (check_behind mid ≡ check_behind old)
    → acknowledged mid ≡ acknowledged old → is_closed mid ≡ is_closed old
    → OnOk result (staged_bytes mid ≢ [] → Grows w (disk_of (journal_of mid)) (end_of (journal_of mid))
    (staged_bytes mid ++ 0 ∷ []) true (disk_of (journal_of new)))
    → (IsErrOf result Disk → Grows w (disk_of (journal_of mid)) (end_of (journal_of mid))
    (staged_bytes mid ++ 0 ∷ []) false (disk_of (journal_of new)))
    → OnErr result (IsErrOf result Closed ⊎ IsErrOf result Disk)
    → (IsErrOf result Closed ↔ (is_closed mid ≡ true)) → disk ≡ disk_of (journal_of new) → disk.starved ≡ 0
    → (choice : ℕ) → Leaves (device_of disk.past) (image choice (device_of disk.past))
    → IsOwnJournal old (left_inputs k choice old) (image choice (device_of disk.past))
failed_leaves {w = w} old mid new m k result disk p low high disk_is replica staged acknowledged_is closed done failed
    only when_closed is fed choice =
    subst (λ (x : MemDiskValue). Leaves (device_of x.past) (image choice (device_of x.past))
    → IsOwnJournal old (left_inputs k choice old) (image choice (device_of x.past))) (sym is)
    (λ left. subst (λ (l : List ℕ). Stands l (image choice (device_of (disk_of (journal_of new)).past))) same
    (grown_leaves mid m (mid.kept still_open) some k grew.0 (disk_of (journal_of new)) low high fails fuse fed_now
    grew.1 choice left))
  where
    still_open : is_closed mid ≡ false
    still_open = closed ∙ p.goes_on.still_open

    some : staged_bytes mid ≢ []
    some none = p.some_staged (sym staged.0 ∙ none)

    fails : (disk_of (journal_of mid)).fails ≡ []
    fails = ap (λ (x : MemDiskValue). x.fails) disk_is ∙ p.goes_on.quiet.fails

    fuse : (disk_of (journal_of mid)).fuse ≡ k
    fuse = ap (λ (x : MemDiskValue). x.fuse) disk_is

    fed_now : (disk_of (journal_of new)).starved ≡ 0
    fed_now = ap (λ (x : MemDiskValue). x.starved) (sym is) ∙ fed

    grown_ok : (r : Result ⊤ KeptFault) → OnOk r (staged_bytes mid ≢ []
        → Grows w (disk_of (journal_of mid)) (end_of (journal_of mid)) (staged_bytes mid ++ 0 ∷ []) true
        (disk_of (journal_of new)))
        → OnOk r (Grows w (disk_of (journal_of mid)) (end_of (journal_of mid)) (staged_bytes mid ++ 0 ∷ []) true
        (disk_of (journal_of new)))
    grown_ok (Ok x) h = h some
    grown_ok (Err e) h = tt

    grew : (ok : Bool) × Grows w (disk_of (journal_of mid)) (end_of (journal_of mid)) (staged_bytes mid ++ 0 ∷ []) ok
        (disk_of (journal_of new))
    grew =
        grows_any (λ (ok : Bool). Grows w (disk_of (journal_of mid)) (end_of (journal_of mid))
        (staged_bytes mid ++ 0 ∷ []) ok (disk_of (journal_of new))) result (grown_ok result done) failed only
        (λ is_closed_2. false≢true (sym still_open ∙ when_closed.0 is_closed_2))

    same : journal_bytes (check_behind mid).format (replica_of mid).machine.site (replica_of mid).machine.size
        (left_inputs k choice mid)
        ≡ journal_bytes (check_behind old).format (replica_of old).machine.site (replica_of old).machine.size
        (left_inputs k choice old)
    same = λ i. journal_bytes (staged.1 i).format (replica i).machine.site (replica i).machine.size
        (if is_done k choice then inputs_of (replica i).entries
        else acknowledged_of (acknowledged_is i) (replica i))
