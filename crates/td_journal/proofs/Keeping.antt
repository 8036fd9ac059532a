-- What steps and commits make of a kept replica.
use Rattle.std.proofs.Common.{◌≡◌, ◌≢◌, inl, inr, ℕ, ◌+◌, ◌≤◌, List, [], ◌∷◌, ◌++◌, length}
use Rattle.std.proofs.Common.{take, drop, refl, sym, ◌∙◌, ap, subst, arith, length-append, length-drop}
use Rattle.std.specs.Prelude.{true, false, Result, Ok, Err, is_err, OnOk, OnErr}
use Rattle.std.proofs.lemmas.Bool.{false≢true}
use Rattle.std.proofs.lemmas.List.{take_all, drop_all, length-map, length-take-le}
use Rattle.td_op.specs.declared.entry.Entry.{Entry}
use Rattle.td_op.specs.declared.input.Input.{Input}
use Rattle.td_op.specs.declared.input.Input.TheVariants.{Local, Take, Next}
use Rattle.td_op.specs.Input.{IsInput}
use Rattle.td_disk.specs.declared.disk.TheConstants.{MAX_DISK_LEN}
use Rattle.td_disk.specs.declared.disk.Disk as disk
use Rattle.td_disk.specs.declared.gated.Gated.{Gated}
use Rattle.td_disk.specs.Moments.{LeavesOnly}
use Rattle.td_disk.specs.Calls.{Puts}
use Rattle.td_disk.specs.Gated.{Stands, StandsBeforeOrAfter, IsPiece, IsSettled, disk_of, end_of, front_of, piece_of}
use Rattle.td_disk.proofs.Moments.{started, weakened}
use Rattle.td_disk.proofs.Growing.{stands_of}
use Rattle.td_machine.specs.Machine.{Machine, start}
use Rattle.td_machine.specs.History.{after, IsReached}
use Rattle.td_machine.specs.Step.{step}
use Rattle.td_machine.proofs.Induction.{built_of}
use Rattle.td_machine.proofs.Walk.{built_step}
use Rattle.td_machine.proofs.Turns.{placed}
use Rattle.td_replica.specs.Replica.{ReplicaValue, IsReplica, after_step}
use Rattle.td_input.specs.Spelling.{CanWrite}
use Rattle.td_journal.specs.declared.check.Check.{Check}
use Rattle.td_journal.specs.declared.format.Format.{Format}
use Rattle.td_journal.specs.Journal.{first_check, next_check, body_bytes, record_bytes, records_bytes}
use Rattle.td_journal.specs.Journal.{journal_bytes, journal_check, IsJournal, IsJournalOfEither}
use Rattle.td_journal.specs.Journal.{inputs_of}
use Rattle.td_journal.specs.Kept.{acknowledged_of, staged_of, IsKept, IsKeptAt, IsCounted}
use Rattle.td_journal.proofs.Growing.{check_both, records_grow, journal_both, first_entries}
use Rattle.td_journal.proofs.Growing.{first_inputs, last_inputs, inputs_grow, inputs_split}
use Rattle.td_journal.proofs.Pieces.{piece_is, is_piece}

-- ---- the site stays

pub can_is_input : (input : Input) → CanWrite input → IsInput input
can_is_input (Local r) h = h.0
can_is_input (Take m) h = h
can_is_input Next h = tt

pub reached_of : (r : ReplicaValue) → IsReplica r → IsReached r.machine
reached_of r h = record {
  site = r.machine.site;
  size = r.machine.size;
  some = h.some;
  within = h.within;
  few = h.few;
  entries = r.entries;
  legal = h.legal;
  is = h.is;
}

pub record SamePlace (m n : Machine) : Type 0 where
  pub site : n.site ≡ m.site
  pub size : n.size ≡ m.size

pub step_stays : (m : Machine) (input : Input) → IsReached m → IsInput input → SamePlace m (step m input).machine
step_stays m input r valid =
    let b = built_of m r in
    let was = placed m b.built in
    let now = placed (step m input).machine (built_step m input valid (λ message e. tt) b.built) in
    record { site = now.2 ∙ sym was.2; size = now.3 ∙ sym was.3 }

-- ---- what is kept

module _ {K : Type 0} (w : disk.Ghosts K) where
  -- a record is staged
  pub grown : (f : Format) (site n : ℕ) (ks ls : List Input) (i : Input) (j : Gated K) (check next piece more : List ℕ)
      → IsKeptAt w f site n ks ls j check piece → next ≡ next_check f check i → more ≡ piece ++ record_bytes f check i
      → j.end + length more + 1 ≤ MAX_DISK_LEN → IsKeptAt w f site n ks (ls ++ i ∷ []) j next more
  grown f site n ks ls i j check next piece more k next_is more_is room = record {
    settled = k.settled;
    room = room;
    spelled = k.spelled;
    staged_is = more_is ∙ ap (λ (l : List ℕ). l ++ record_bytes f check i) k.staged_is
        ∙ ap (λ (c : List ℕ). records_bytes f (journal_check f site n ks) ls ++ record_bytes f c i) k.check_is
        ∙ sym (records_grow f (journal_check f site n ks) ls i);
    check_is = next_is ∙ ap (λ (c : List ℕ). next_check f c i) k.check_is
        ∙ sym (check_both f (journal_check f site n ks) ls (i ∷ []));
  }

  -- all is committed
  pub committed : (f : Format) (site n : ℕ) (ks ls : List Input) (j now : Gated K) (check piece : List ℕ)
      → IsKeptAt w f site n ks ls j check piece → IsSettled w now → now.end + 1 ≤ MAX_DISK_LEN
      → front_of w now ≡ front_of w j ++ piece → IsKeptAt w f site n (ks ++ ls) [] now check []
  committed f site n ks ls j now check piece k settled room front = record {
    settled = settled;
    room = omega (arith, room);
    spelled = front ∙ ap (λ (l : List ℕ). l ++ piece) k.spelled
        ∙ ap (λ (l : List ℕ). journal_bytes f site n ks ++ l) k.staged_is ∙ sym (journal_both f site n ks ls);
    staged_is = refl;
    check_is = k.check_is ∙ sym (check_both f (first_check f site n) ks ls);
  }

  -- in other words
  pub same_kept : (f g : Format) (site site_2 n n_2 : ℕ) (ks as_2 ls bs_2 : List Input) (j : Gated K)
      (check piece : List ℕ)
      → f ≡ g → site ≡ site_2 → n ≡ n_2 → ks ≡ as_2 → ls ≡ bs_2
      → IsKeptAt w f site n ks ls j check piece → IsKeptAt w g site_2 n_2 as_2 bs_2 j check piece
  same_kept f g site site_2 n n_2 ks as_2 ls bs_2 j check piece p q r s t k =
      subst (λ (x : Format). IsKeptAt w x site_2 n_2 as_2 bs_2 j check piece) p
      (subst (λ (x : ℕ). IsKeptAt w f x n_2 as_2 bs_2 j check piece) q
      (subst (λ (x : ℕ). IsKeptAt w f site x as_2 bs_2 j check piece) r
      (subst (λ (x : List Input). IsKeptAt w f site n x bs_2 j check piece) s
      (subst (λ (x : List Input). IsKeptAt w f site n ks x j check piece) t k))))

  -- what a crash leaves of a journal at rest is it
  pub leaves_journal : (f : Format) (site n : ℕ) (ks ls : List Input) (j : Gated K) (check piece : List ℕ)
      → IsKeptAt w f site n ks ls j check piece → (c : List ℕ) → w.leaves (disk_of j) c → IsJournal f site n ks c
  leaves_journal f site n ks ls j check piece k c now =
      let file : List ℕ = w.reads (disk_of j) in
      let stands : Stands (journal_bytes f site n ks) file =
      subst (λ (front : List ℕ). Stands front file) k.spelled
      (stands_of file (end_of j) k.settled.within k.settled.shut) in
      subst (λ (l : List ℕ). Stands (journal_bytes f site n ks) l) (sym (k.settled.synced.durable c now)) stands

  -- so nothing that is not done on the disk changes it
  pub at_rest : (f : Format) (site n : ℕ) (ks ls others : List Input) (j : Gated K) (check piece : List ℕ)
      → IsKeptAt w f site n ks ls j check piece
      → ((c : List ℕ) → w.left_since (disk_of j) (w.clock (disk_of j)) c → w.leaves (disk_of j) c)
      → LeavesOnly w (disk_of j) (disk_of j) (IsJournalOfEither f site n ks others)
  at_rest f site n ks ls others j check piece k only_now =
      started w (disk_of j) (IsJournalOfEither f site n ks others)
      (λ c left. inl (leaves_journal f site n ks ls j check piece k c (only_now c left)))

  -- and a piece that is put behind it leaves it, or it with what was staged
  pub either_journal : (f : Format) (site n : ℕ) (ks ls all : List Input) (j now : Gated K) (check piece bytes : List ℕ)
      → IsKeptAt w f site n ks ls j check piece → all ≡ ks ++ ls → bytes ≡ piece ++ 0 ∷ []
      → LeavesOnly w (disk_of j) (disk_of now) (StandsBeforeOrAfter (front_of w j) (piece_of bytes))
      → LeavesOnly w (disk_of j) (disk_of now) (IsJournalOfEither f site n ks all)
  either_journal f site n ks ls all j now check piece bytes k all_is bytes_is only =
      weakened w (disk_of j) (disk_of now) (StandsBeforeOrAfter (front_of w j) (piece_of bytes))
      (IsJournalOfEither f site n ks all) only either
    where
      whole : front_of w j ++ piece_of bytes ≡ journal_bytes f site n all
      whole =
          ap (λ (l : List ℕ). front_of w j ++ l) (piece_is piece bytes bytes_is ∙ k.staged_is)
          ∙ ap (λ (l : List ℕ). l ++ records_bytes f (journal_check f site n ks) ls) k.spelled
          ∙ sym (journal_both f site n ks ls) ∙ ap (λ (l : List Input). journal_bytes f site n l) (sym all_is)

      either : (file : List ℕ) → StandsBeforeOrAfter (front_of w j) (piece_of bytes) file
          → IsJournalOfEither f site n ks all file
      either file (inl without) = inl (subst (λ (front : List ℕ). Stands front file) k.spelled without)
      either file (inr with_it) = inr (subst (λ (front : List ℕ). Stands front file) whole with_it)

  -- what is staged is a piece, where there is any
  pub staged_piece : (f : Format) (site n : ℕ) (ks ls : List Input) (j : Gated K) (check piece bytes : List ℕ)
      → IsKeptAt w f site n ks ls j check piece → length piece ≢ 0 → bytes ≡ piece ++ 0 ∷ [] → IsPiece bytes
  staged_piece f site n ks [] j check piece bytes k some is = absurd (some (ap length k.staged_is))
  staged_piece f site n ks (b ∷ ls) j check piece bytes k some is =
      let before : List ℕ = journal_check f site n ks in
      let next : List ℕ = next_check f before b in
      is_piece 1 ((body_bytes b ++ next) ++ records_bytes f next ls) bytes refl
      (is ∙ ap (λ (l : List ℕ). l ++ 0 ∷ []) k.staged_is)

  -- where there is none, no input is staged
  pub none_staged : (f : Format) (site n : ℕ) (ks ls : List Input) (j : Gated K) (check piece : List ℕ)
      → IsKeptAt w f site n ks ls j check piece → length piece ≡ 0 → ls ≡ []
  none_staged f site n ks [] j check piece k none = refl
  none_staged f site n ks (b ∷ ls) j check piece k none = absurd (omega (arith, none, ap length k.staged_is))

-- ---- counts

module _ (r : ReplicaValue) (input : Input) (place : SamePlace r.machine (step r.machine input).machine) where
  pub counted_on : (count released : ℕ) → IsCounted r count released → IsCounted (after_step input r) count released
  counted_on count released c =
      let e : Entry = record { input = input; reply = (step r.machine input).reply } in
      let front : take count (r.entries ++ e ∷ []) ≡ take count r.entries = first_entries count r.entries e c.within in
      record {
        within = omega (arith, c.within, length-append r.entries (e ∷ []));
        released_is = c.released_is
            ∙ ap (λ (es : List Entry). length (after (start r.machine.site r.machine.size) es).sent) (sym front)
            ∙ ap (λ (s : ℕ). length (after (start s r.machine.size) (take count (r.entries ++ e ∷ []))).sent)
            (sym place.site)
            ∙ ap (λ (n : ℕ). length (after (start (step r.machine input).machine.site n)
            (take count (r.entries ++ e ∷ []))).sent) (sym place.size);
      }

  pub kept_on : {K : Type 0} (w : disk.Ghosts K) (f g : Format) (count : ℕ) (j : Gated K)
      (check next piece more : List ℕ)
      → IsKeptAt w f r.machine.site r.machine.size (acknowledged_of count r) (staged_of count r) j check piece
      → count ≤ length r.entries → f ≡ g → next ≡ next_check f check input → more ≡ piece ++ record_bytes f check input
      → j.end + length more + 1 ≤ MAX_DISK_LEN
      → IsKeptAt w g (step r.machine input).machine.site (step r.machine input).machine.size
      (acknowledged_of count (after_step input r)) (staged_of count (after_step input r)) j next more
  kept_on w f g count j check next piece more k within same next_is more_is room =
      let e : Entry = record { input = input; reply = (step r.machine input).reply } in
      same_kept w f g r.machine.site (step r.machine input).machine.site r.machine.size
      (step r.machine input).machine.size
      (acknowledged_of count r) (acknowledged_of count (after_step input r))
      (staged_of count r ++ input ∷ []) (staged_of count (after_step input r)) j next more
      same (sym place.site) (sym place.size) (sym (first_inputs count r.entries e within))
      (sym (last_inputs count r.entries e within))
      (grown w f r.machine.site r.machine.size (acknowledged_of count r) (staged_of count r) input j check next piece
      more k next_is more_is room)

-- all entries are acknowledged
pub counted_all : (r : ReplicaValue) (count released : ℕ) → IsReplica r → count ≡ length r.entries → released
    ≡ length r.machine.sent
    → IsCounted r count released
counted_all r count released h c s = record {
  within = omega (arith, c);
  released_is = s ∙ ap (λ (m : Machine). length m.sent) (h.is
      ∙ ap (after (start r.machine.site r.machine.size)) (sym (take_all count r.entries (omega (arith, c)))));
}

pub kept_all : {K : Type 0} (w : disk.Ghosts K) (f : Format) (r : ReplicaValue) (was count : ℕ) (j now : Gated K)
    (check piece none : List ℕ)
    → IsKeptAt w f r.machine.site r.machine.size (acknowledged_of was r) (staged_of was r) j check piece
    → count ≡ length r.entries → none ≡ [] → IsSettled w now → now.end + 1 ≤ MAX_DISK_LEN → front_of w now
    ≡ front_of w j ++ piece
    → IsKeptAt w f r.machine.site r.machine.size (acknowledged_of count r) (staged_of count r) now check none
kept_all w f r was count j now check piece none k c empty settled room front =
    let all : acknowledged_of was r ++ staged_of was r ≡ acknowledged_of count r =
    sym (inputs_split was r.entries) ∙ ap inputs_of (sym (take_all count r.entries (omega (arith, c)))) in
    let nobody : [] ≡ staged_of count r = ap inputs_of (sym (drop_all count r.entries (omega (arith, c)))) in
    subst (λ (x : List ℕ). IsKeptAt w f r.machine.site r.machine.size (acknowledged_of count r) (staged_of count r)
    now check x) (sym empty)
    (same_kept w f f r.machine.site r.machine.site r.machine.size r.machine.size
    (acknowledged_of was r ++ staged_of was r) (acknowledged_of count r) [] (staged_of count r) now check []
    refl refl refl all nobody
    (committed w f r.machine.site r.machine.size (acknowledged_of was r) (staged_of was r) j now check piece k settled
    room front))

-- what a crash leaves then
pub leaves_all : {K : Type 0} (w : disk.Ghosts K) (f : Format) (r : ReplicaValue) (count : ℕ) (j : Gated K)
    (check piece : List ℕ)
    → IsKeptAt w f r.machine.site r.machine.size (acknowledged_of count r) (staged_of count r) j check piece
    → count ≡ length r.entries → (c : List ℕ) → w.leaves (disk_of j) c
    → IsJournal f r.machine.site r.machine.size (inputs_of r.entries) c
leaves_all w f r count j check piece k all c left =
    subst (λ (x : List Input). IsJournal f r.machine.site r.machine.size x c)
    (ap inputs_of (take_all count r.entries (omega (arith, all))))
    (leaves_journal w f r.machine.site r.machine.size (acknowledged_of count r) (staged_of count r) j check piece k c
    left)

-- how long it is with what is staged
pub as_long : {K : Type 0} (w : disk.Ghosts K) (r : ReplicaValue) (j : Gated K) (check : Check) (piece : List ℕ)
    (count : ℕ) → IsKept w r j check piece count
    → j.end + length piece ≡ length (journal_bytes check.format r.machine.site r.machine.size (inputs_of r.entries))
as_long w r j check piece count k =
    let f : Format = check.format in
    let site : ℕ = r.machine.site in
    let n : ℕ = r.machine.size in
    let ks : List Input = acknowledged_of count r in
    let ls : List Input = staged_of count r in
    let front : end_of j ≡ length (journal_bytes f site n ks) =
    sym (length-take-le (end_of j) (w.reads (disk_of j)) (omega (arith, k.settled.within))) ∙ ap length k.spelled in
    let whole : journal_bytes f site n (inputs_of r.entries)
    ≡ journal_bytes f site n ks ++ records_bytes f (journal_check f site n ks) ls =
    ap (λ (l : List Input). journal_bytes f site n l) (inputs_split count r.entries) ∙ journal_both f site n ks ls in
    omega (
      arith,
      front,
      ap length whole,
      ap length k.staged_is,
      length-append (journal_bytes f site n ks) (records_bytes f (journal_check f site n ks) ls),
    )

-- where nothing is staged, all is acknowledged
pub all_counted : {K : Type 0} (w : disk.Ghosts K) (f : Format) (r : ReplicaValue) (count : ℕ) (j : Gated K)
    (check piece : List ℕ)
    → IsKeptAt w f r.machine.site r.machine.size (acknowledged_of count r) (staged_of count r) j check piece
    → count ≤ length r.entries → length piece ≡ 0 → count ≡ length r.entries
all_counted w f r count j check piece k within none =
    let nobody : staged_of count r ≡ [] =
    none_staged w f r.machine.site r.machine.size (acknowledged_of count r) (staged_of count r) j check piece k none in
    omega (
      arith,
      within,
      ap length nobody,
      length-map (drop count r.entries) (λ (e : Entry). e.input),
      length-drop
          count r.entries,
    )

-- a replica that is the one after a step
pub kept_after : {K : Type 0} (w : disk.Ghosts K) (f g : Format) (r new : ReplicaValue) (input : Input) (count : ℕ)
    (j : Gated K) (check next piece more : List ℕ)
    → IsReplica r → CanWrite input → new ≡ after_step input r
    → IsKeptAt w f r.machine.site r.machine.size (acknowledged_of count r) (staged_of count r) j check piece
    → count ≤ length r.entries → f ≡ g → next ≡ next_check f check input → more ≡ piece ++ record_bytes f check input
    → j.end + length more + 1 ≤ MAX_DISK_LEN
    → IsKeptAt w g new.machine.site new.machine.size (acknowledged_of count new) (staged_of count new) j next more
kept_after w f g r new input count j check next piece more h can is k within same next_is more_is room =
    subst (λ (x : ReplicaValue). IsKeptAt w g x.machine.site x.machine.size (acknowledged_of count x)
    (staged_of count x) j next more) (sym is)
    (kept_on r input (step_stays r.machine input (reached_of r h) (can_is_input input can)) w f g count j check next
    piece more k within same next_is more_is room)

pub counted_after : (r new : ReplicaValue) (input : Input) (count released : ℕ) → IsReplica r → CanWrite input → new
    ≡ after_step input r
    → IsCounted r count released → IsCounted new count released
counted_after r new input count released h can is c =
    subst (λ (x : ReplicaValue). IsCounted x count released) (sym is)
    (counted_on r input (step_stays r.machine input (reached_of r h) (can_is_input input can)) count released c)

pub ok_part : {T E : Type 0} (r : Result T E) (P : Type 0) → is_err r ≡ false → OnOk r P → P
ok_part (Ok x) P e on = on
ok_part (Err x) P e on = absurd (false≢true (sym e))

pub err_part : {T E : Type 0} (r : Result T E) (P : Type 0) → is_err r ≡ true → OnErr r P → P
err_part (Ok x) P e on = absurd (false≢true e)
err_part (Err x) P e on = on

-- nothing is changed
pub kept_same : {K : Type 0} (w : disk.Ghosts K) (r new : ReplicaValue) (j : Gated K) (check : Check)
    (piece now : List ℕ) (count : ℕ)
    → new ≡ r → now ≡ piece → IsKept w r j check piece count → IsKept w new j check now count
kept_same w r new j check piece now count same cut k =
    subst (λ (x : ReplicaValue). IsKept w x j check now count) (sym same)
    (subst (λ (l : List ℕ). IsKept w r j check l count) (sym cut) k)

-- a commit behind a step
pub either_after : {K : Type 0} (w : disk.Ghosts K) (f g : Format) (r new : ReplicaValue) (input : Input)
    (count count_2 : ℕ) (old j now : K)
    → f ≡ g → count ≡ count_2 → old ≡ j → new ≡ after_step input r → count ≤ length r.entries
    → SamePlace r.machine new.machine
    → LeavesOnly w j now (IsJournalOfEither g new.machine.site new.machine.size (acknowledged_of count_2 new)
    (inputs_of new.entries))
    → LeavesOnly w old now (IsJournalOfEither f r.machine.site r.machine.size (acknowledged_of count r)
    (inputs_of r.entries ++ input ∷ []))
either_after {K} w f g r new input count count_2 old j now p q e is within place only =
    let entry : Entry = record { input = input; reply = (step r.machine input).reply } in
    let first : acknowledged_of count_2 new ≡ acknowledged_of count r =
    ap (λ (k : ℕ). acknowledged_of k new) (sym q) ∙ ap (λ (x : ReplicaValue). acknowledged_of count x) is
    ∙ first_inputs count r.entries entry within in
    let all : inputs_of new.entries ≡ inputs_of r.entries ++ input ∷ [] =
    ap (λ (x : ReplicaValue). inputs_of x.entries) is ∙ inputs_grow r.entries entry in
    subst (λ (d : K). LeavesOnly w d now (IsJournalOfEither f r.machine.site r.machine.size (acknowledged_of count r)
    (inputs_of r.entries ++ input ∷ []))) (sym e)
    (subst (λ (x : Format). LeavesOnly w j now (IsJournalOfEither x r.machine.site r.machine.size
    (acknowledged_of count r) (inputs_of r.entries ++ input ∷ []))) (sym p)
    (subst (λ (x : ℕ). LeavesOnly w j now (IsJournalOfEither g x r.machine.size (acknowledged_of count r)
    (inputs_of r.entries ++ input ∷ []))) place.site
    (subst (λ (x : ℕ). LeavesOnly w j now (IsJournalOfEither g new.machine.site x (acknowledged_of count r)
    (inputs_of r.entries ++ input ∷ []))) place.size
    (subst (λ (x : List Input). LeavesOnly w j now
    (IsJournalOfEither g new.machine.site new.machine.size x (inputs_of r.entries ++ input ∷ []))) first
    (subst (λ (x : List Input). LeavesOnly w j now
    (IsJournalOfEither g new.machine.site new.machine.size (acknowledged_of count_2 new) x)) all only)))))

pub after_stays : (r new : ReplicaValue) (input : Input) → IsReplica r → CanWrite input → new ≡ after_step input r
    → SamePlace r.machine new.machine
after_stays r new input h can is =
    subst (λ (x : ReplicaValue). SamePlace r.machine x.machine) (sym is)
    (step_stays r.machine input (reached_of r h) (can_is_input input can))

-- a list of no bytes
pub none_left : (l : List ℕ) → length l ≡ 0 → l ≡ []
none_left [] e = refl
none_left (x ∷ l) e = absurd (omega (arith, e))

-- what was done to a disk, in other words
pub puts_on : {K : Type 0} (w : disk.Ghosts K) (old mid new : K) (bytes same : List ℕ) → bytes ≡ same → new ≡ mid
    → Puts w old 0 bytes true mid → Puts w old 0 same true new
puts_on {K} w old mid new bytes same bytes_are is done =
    subst (λ (d : K). Puts w old 0 same true d) (sym is)
    (subst (λ (l : List ℕ). Puts w old 0 l true mid) bytes_are done)

pub syncs_on : {K : Type 0} (w : disk.Ghosts K) (old mid new : K) → new ≡ mid → w.syncs old true mid
    → w.syncs old true new
syncs_on {K} w old mid new is done = subst (λ (d : K). w.syncs old true d) (sym is) done

-- nothing was done on the disk
pub rest_after : {K : Type 0} (w : disk.Ghosts K) (f : Format) (site n : ℕ) (ks ls others : List Input)
    (j now : Gated K) (check piece : List ℕ)
    → now ≡ j → IsKeptAt w f site n ks ls j check piece
    → ((c : List ℕ) → w.left_since (disk_of j) (w.clock (disk_of j)) c → w.leaves (disk_of j) c)
    → LeavesOnly w (disk_of j) (disk_of now) (IsJournalOfEither f site n ks others)
rest_after {K} w f site n ks ls others j now check piece same k only_now =
    subst (λ (x : Gated K). LeavesOnly w (disk_of j) (disk_of x) (IsJournalOfEither f site n ks others)) (sym same)
    (at_rest w f site n ks ls others j check piece k only_now)
