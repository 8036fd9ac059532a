-- What is read of the bytes of a journal, and of bytes that are none.
use Rattle.std.proofs.Common.{◌≡◌, ◌≢◌, inl, inr, ◌<◌, ◌≤◌, ◌+◌, ◌-◌, ◌++◌, ℕ, List, [], ◌∷◌, length}
use Rattle.std.proofs.Common.{take, refl, sym, ap, ◌∙◌, subst, arith, append_assoc, length-append}
use Rattle.std.specs.Prelude.{slice_index}
use Rattle.std.specs.List.{AllByRecursion}
use Rattle.std.proofs.lemmas.List.{take_at, take_all, drop_all, take-append-le, append-nil}
use Rattle.td_op.specs.declared.input.Input.{Input}
use Rattle.td_disk.specs.declared.disk.TheConstants.{MAX_DISK_LEN}
use Rattle.td_disk.specs.declared.disk.Disk as disk
use Rattle.td_disk.specs.declared.gated.Gated.{Gated}
use Rattle.td_disk.specs.Gated.{IsSettled, disk_of}
use Rattle.td_disk.specs.Moments.{LeavesOnly}
use Rattle.td_replica.specs.Replica.{ReplicaValue, new_replica}
use Rattle.td_input.specs.Spelling.{CanWrite}
use Rattle.td_journal.specs.declared.check.Check.{Check}
use Rattle.td_journal.specs.declared.fault.OpenFault.{OpenFault}
use Rattle.td_journal.specs.declared.fault.OpenFault.TheVariants.{Bad}
use Rattle.td_journal.specs.declared.format.Format.{Format}
use Rattle.td_journal.specs.Bad.{format_in, Begins, LacksRecord, IsBadHeadAt, IsBadAt}
use Rattle.td_journal.specs.Check.{bytes_of}
use Rattle.td_journal.specs.Journal.{header, head_bytes, first_check, record_bytes, records_bytes, last_check}
use Rattle.td_journal.specs.Journal.{journal_bytes, journal_check, inputs_of, IsJournal}
use Rattle.td_journal.specs.Kept.{IsKept, acknowledged_of, staged_of}
use Rattle.td_journal.specs.Opening.{IsHead, IsPlayed, IsFound}
use Rattle.td_journal.proofs.Unique.{format_of_journal, one_journal, no_journal}

-- ---- what was read

-- behind a header and its check, records were read
pub read_on : (f g : Format) (site n : ℕ) (bytes first records : List ℕ) (inputs : List Input) (rest : List ℕ)
    → bytes ≡ head_bytes f site n ++ records → first ≡ first_check f site n → g ≡ f
    → records ≡ records_bytes g first inputs ++ rest → bytes ≡ journal_bytes f site n inputs ++ rest
read_on f g site n bytes first records inputs rest is first_is same read =
    is ∙ ap (λ (l : List ℕ). head_bytes f site n ++ l) (read
    ∙ ap (λ (h : Format). records_bytes h first inputs ++ rest) same
    ∙ ap (λ (c : List ℕ). records_bytes f c inputs ++ rest) first_is)
    ∙ sym (append_assoc (head_bytes f site n) (records_bytes f (first_check f site n) inputs) rest)

pub check_on : (f g : Format) (site n : ℕ) (first last : List ℕ) (inputs : List Input) → first ≡ first_check f site n
    → g ≡ f → last ≡ last_check g first inputs → last ≡ journal_check f site n inputs
check_on f g site n first last inputs first_is same is =
    is ∙ ap (λ (h : Format). last_check h first inputs) same ∙ ap (λ (c : List ℕ). last_check f c inputs) first_is

pub behind : (front bytes rest : List ℕ) → bytes ≡ front ++ rest → length bytes - length rest ≡ length front
behind front bytes rest is = omega (arith, ap length is, length-append front rest)

-- a replica was given these inputs, and a closed gate stands behind them
pub found : (f : Format) (site n : ℕ) (bytes rest : List ℕ) (r : ReplicaValue) (check : Check) (end : ℕ)
    → check.format ≡ f → bytes ≡ journal_bytes f site n (inputs_of r.entries) ++ rest
    → AllByRecursion CanWrite (inputs_of r.entries) → (r.machine.site ≡ site) × (r.machine.size ≡ n)
    → bytes_of check ≡ journal_check f site n (inputs_of r.entries) → end ≡ length bytes - length rest
    → (gate : ℕ) × (more : List ℕ) × (gate ≢ 1) × (rest ≡ gate ∷ more) → IsFound site n bytes r check end
found f site n bytes rest r check end same is can place check_is end_is closed =
    let inputs : List Input = inputs_of r.entries in
    let back : f ≡ check.format = sym same in
    record {
      journal = record {
        gate = closed.0;
        rest = closed.1;
        shut = closed.2;
        is = is ∙ ap (λ (l : List ℕ). journal_bytes f site n inputs ++ l) closed.3
            ∙ ap (λ (h : Format). journal_bytes h site n inputs ++ closed.0 ∷ closed.1) back;
      };
      can = can;
      site_is = place.0;
      size_is = place.1;
      check_is = check_is ∙ ap (λ (h : Format). journal_check h site n inputs) back;
      end_is = end_is ∙ behind (journal_bytes f site n inputs) bytes rest is
          ∙ ap (λ (h : Format). length (journal_bytes h site n inputs)) back;
    }

-- neither a record nor a closed gate stands there
pub lacks : (f : Format) (site n : ℕ) (bytes rest : List ℕ) (inputs : List Input) (check : Check) (end : ℕ)
    → check.format ≡ f → bytes ≡ journal_bytes f site n inputs ++ rest → AllByRecursion CanWrite inputs
    → bytes_of check ≡ journal_check f site n inputs → end ≡ length bytes - length rest
    → ((input : Input) → CanWrite input → ¬ Begins (record_bytes check.format (bytes_of check) input) rest)
    → ((gate : ℕ) (more : List ℕ) → gate ≢ 1 → rest ≢ gate ∷ more) → LacksRecord f site n bytes end
lacks f site n bytes rest inputs check end same is can check_is end_is no_record no_gate = record {
  inputs = inputs;
  rest = rest;
  can = can;
  is = is;
  no_record = λ input may begins.
      no_record input may
      (subst (λ (h : Format). Begins (record_bytes h (bytes_of check) input) rest) (sym same)
      (subst (λ (c : List ℕ). Begins (record_bytes f c input) rest) (sym check_is) begins));
  no_gate = no_gate;
  place = end_is ∙ behind (journal_bytes f site n inputs) bytes rest is;
}

pub bad_here : (place at : ℕ) → ◌≡◌ {A = OpenFault} (Bad place) (Bad at) → at ≡ place
bad_here place at e = cc

-- what was played behind a header
module _ (site n : ℕ) (bytes : List ℕ) (first : Check) (records : List ℕ) (r : ReplicaValue) (check : Check)
    (rest : List ℕ) (h : IsHead site n bytes first records) (p : IsPlayed site n first records r check rest) where
  is_behind : bytes ≡ journal_bytes (format_in bytes) site n (inputs_of r.entries) ++ rest
  is_behind = read_on (format_in bytes) first.format site n bytes (bytes_of first) records (inputs_of r.entries) rest
      h.is h.check_is h.format p.records

  is_checked : bytes_of check ≡ journal_check (format_in bytes) site n (inputs_of r.entries)
  is_checked = check_on (format_in bytes) first.format site n (bytes_of first) (bytes_of check) (inputs_of r.entries)
      h.check_is h.format p.check_is

  pub is_found : (end : ℕ) → end ≡ length bytes - length rest
      → (gate : ℕ) × (more : List ℕ) × (gate ≢ 1) × (rest ≡ gate ∷ more) → IsFound site n bytes r check end
  is_found end end_is closed =
      found (format_in bytes) site n bytes rest r check end (p.format ∙ h.format) is_behind p.can
      (p.site_is, p.size_is) is_checked end_is closed

  pub is_bad : (end : ℕ) → end ≡ length bytes - length rest
      → ((gate : ℕ) (more : List ℕ) → gate ≢ 1 → rest ≢ gate ∷ more) → IsBadAt site n bytes end
  is_bad end end_is no_gate =
      inr (lacks (format_in bytes) site n bytes rest (inputs_of r.entries) check end (p.format ∙ h.format) is_behind
      p.can is_checked end_is p.no_record no_gate)

-- a journal of no inputs
pub found_new : (f : Format) (site n : ℕ) (check : Check) (front head : List ℕ) (end : ℕ) (r : ReplicaValue)
    → check.format ≡ f → front ≡ header f site n ++ bytes_of check → bytes_of check ≡ first_check f site n
    → head ≡ front ++ 0 ∷ [] → end ≡ length front → r ≡ new_replica site n → IsFound site n head r check end
found_new f site n check front head end r same front_is check_is head_is end_is new_is =
    subst (λ (x : ReplicaValue). IsFound site n head x check end) (sym new_is) (record {
      journal = record {
        gate = 0;
        rest = [];
        shut = λ one. absurd (omega (arith, one));
        is = head_is ∙ ap (λ (l : List ℕ). l ++ 0 ∷ []) all;
      };
      can = tt;
      site_is = refl;
      size_is = refl;
      check_is = check_is ∙ ap (λ (h : Format). first_check h site n) (sym same);
      end_is = end_is ∙ ap length all;
    })
  where
    all : front ≡ journal_bytes check.format site n []
    all = front_is ∙ ap (λ (l : List ℕ). header f site n ++ l) check_is
        ∙ ap (λ (h : Format). head_bytes h site n) (sym same) ∙ sym (append-nil (head_bytes check.format site n))

-- at the place of the replica
pub found_here : (site n : ℕ) (file : List ℕ) (r : ReplicaValue) (check : Check) (end : ℕ)
    → IsFound site n file r check end → IsFound r.machine.site r.machine.size file r check end
found_here site n file r check end f =
    subst (λ (s : ℕ). IsFound s r.machine.size file r check end) (sym f.site_is)
    (subst (λ (m : ℕ). IsFound site m file r check end) (sym f.size_is) f)

-- that of a replica which has done nothing
pub journal_new : (f g : Format) (site n : ℕ) (r : ReplicaValue) (file : List ℕ) → g ≡ f → r ≡ new_replica site n
    → IsJournal g r.machine.site r.machine.size (inputs_of r.entries) file → IsJournal f site n [] file
journal_new f g site n r file same is j =
    subst (λ (x : ReplicaValue). IsJournal f x.machine.site x.machine.size (inputs_of x.entries) file) is
    (subst (λ (h : Format). IsJournal h r.machine.site r.machine.size (inputs_of r.entries) file) same j)

-- ---- the disk under another name

module _ {K : Type 0} (w : disk.Ghosts K) where
  pub left_on : (old new : K) (file : List ℕ) → new ≡ old → w.leaves new file → w.leaves old file
  left_on old new file same left = subst (λ (d : K). w.leaves d file) same left

  pub begun : (old new now : K) (len most : ℕ) → now ≡ new → len ≡ most
      → LeavesOnly w old new (λ (c : List ℕ). length c ≤ len) → LeavesOnly w old now (λ (c : List ℕ). length c ≤ most)
  begun old new now len most same all only =
      subst (λ (d : K). LeavesOnly w old d (λ (c : List ℕ). length c ≤ most)) (sym same)
      (subst (λ (k : ℕ). LeavesOnly w old new (λ (c : List ℕ). length c ≤ k)) all only)

-- ---- the replica that is kept

-- the closed gate of what was found
pub gate_within : (site n : ℕ) (file : List ℕ) (r : ReplicaValue) (check : Check) (end : ℕ)
    → IsFound site n file r check end → end < length file
gate_within site n file r check end f =
    let front : List ℕ = journal_bytes check.format site n (inputs_of r.entries) in
    omega (arith, f.end_is, ap length f.journal.is, length-append front (f.journal.gate ∷ f.journal.rest))

pub gate_shut : (site n : ℕ) (file : List ℕ) (r : ReplicaValue) (check : Check) (end : ℕ)
    → IsFound site n file r check end → slice_index file end ≢ 1
gate_shut site n file r check end f is =
    let front : List ℕ = journal_bytes check.format site n (inputs_of r.entries) in
    f.journal.shut (sym (seam front f.journal.gate f.journal.rest)
    ∙ ap (slice_index (front ++ f.journal.gate ∷ f.journal.rest)) (sym f.end_is)
    ∙ ap (λ (l : List ℕ). slice_index l end) (sym f.journal.is) ∙ is)
  where
    seam : (xs : List ℕ) (y : ℕ) (ys : List ℕ) → slice_index (xs ++ y ∷ ys) (length xs) ≡ y
    seam [] y ys = refl
    seam (x ∷ xs) y ys = seam xs y ys

pub kept_found : {K : Type 0} (w : disk.Ghosts K) (site n : ℕ) (file : List ℕ) (r : ReplicaValue) (check : Check)
    (end : ℕ) (j : Gated K) (piece : List ℕ) (count : ℕ)
    → IsFound site n file r check end → w.reads (disk_of j) ≡ file → j.end ≡ end → IsSettled w j
    → length file ≤ MAX_DISK_LEN → piece ≡ [] → count ≡ length r.entries → IsKept w r j check piece count
kept_found w site n file r check end j piece count f reads at settled short none all =
    let inputs : List Input = inputs_of r.entries in
    let taken : acknowledged_of count r ≡ inputs = ap inputs_of (take_all count r.entries (omega (arith, all))) in
    let others : staged_of count r ≡ [] = ap inputs_of (drop_all count r.entries (omega (arith, all))) in
    let spelled : journal_bytes check.format site n inputs
    ≡ journal_bytes check.format r.machine.site r.machine.size (acknowledged_of count r) =
    λ i. journal_bytes check.format (sym f.site_is i) (sym f.size_is i) (sym taken i) in
    let checked : journal_check check.format site n inputs
    ≡ journal_check check.format r.machine.site r.machine.size (acknowledged_of count r) =
    λ i. journal_check check.format (sym f.site_is i) (sym f.size_is i) (sym taken i) in
    let first : List ℕ = journal_check check.format r.machine.site r.machine.size (acknowledged_of count r) in
    record {
      settled = settled;
      room = omega (arith, at, gate_within site n file r check end f, short, ap length none);
      spelled = (λ i. take (at i) (reads i)) ∙ ap (take end) f.journal.is
          ∙ take_at (journal_bytes check.format site n inputs) (f.journal.gate ∷ f.journal.rest) end (sym f.end_is)
          ∙ spelled;
      staged_is = none ∙ ap (λ (l : List Input). records_bytes check.format first l) (sym others);
      check_is = f.check_is ∙ checked ∙ ap (λ (l : List Input). last_check check.format first l) (sym others);
    }

-- ---- what is bad is no journal

begins_with : (front rest bytes : List ℕ) (n : ℕ) → bytes ≡ front ++ rest → n ≤ length front
    → take n bytes ≡ take n front
begins_with front rest bytes n is within = ap (take n) is ∙ take-append-le n front rest within

module _ (site n : ℕ) (bytes : List ℕ) (f : Format) (inputs : List Input) (can : AllByRecursion CanWrite inputs)
    (j : IsJournal f site n inputs bytes) where
  same_format : format_in bytes ≡ f
  same_format = format_of_journal f site n inputs bytes (j.gate ∷ j.rest) j.is

  tail : List ℕ
  tail = first_check f site n ++ (records_bytes f (first_check f site n) inputs ++ j.gate ∷ j.rest)

  has_head : Begins (head_bytes f site n) bytes
  has_head = (
    records_bytes f (first_check f site n) inputs ++ j.gate ∷ j.rest,
    j.is ∙ append_assoc (head_bytes f site n) (records_bytes f (first_check f site n) inputs) (j.gate ∷ j.rest),
  )

  has_header : bytes ≡ header f site n ++ tail
  unfolding tail has_head
  has_header = has_head.1 ∙ append_assoc (header f site n) (first_check f site n) has_head.0

  head_is_there : (at : ℕ) → ¬ IsBadHeadAt site n bytes at
  head_is_there at (inl d) =
      d.here (subst (λ (h : Format). take (at + 1) bytes ≡ take (at + 1) (header h site n)) (sym same_format)
      (begins_with (header f site n) tail bytes (at + 1) has_header
      (subst (λ (h : Format). at + 1 ≤ length (header h site n)) same_format (omega (arith, d.within)))))
  head_is_there at (inr l) =
      l.lacks (subst (λ (h : Format). Begins (head_bytes h site n) bytes) (sym same_format) has_head)

  pub not_bad : (at : ℕ) → ¬ IsBadAt site n bytes at
  not_bad at (inl head) = head_is_there at head
  not_bad at (inr l) =
      no_journal (format_in bytes) f site n l.inputs inputs bytes l.rest l.can can l.is l.no_record l.no_gate j

  -- and what was found is it
  pub restored : (g : Format) (found_inputs : List Input) → AllByRecursion CanWrite found_inputs
      → IsJournal g site n found_inputs bytes → (g ≡ f) × (found_inputs ≡ inputs)
  restored g found_inputs may there = one_journal g f site n found_inputs inputs bytes may can there j
