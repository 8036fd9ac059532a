-- Journals that are written whole, and the replica that one is of.
use Rattle.std.proofs.Common.{◌≡◌, ◌⊎◌, ◌<◌, ◌+◌, ◌++◌, ℕ, List, [], ◌∷◌, Some, length, take, drop}
use Rattle.std.proofs.Common.{refl, sym, ap, ◌∙◌, subst, ⊎_elim, inl, inr, arith, slice_get}
use Rattle.std.proofs.Common.{append-nil, length-append, take-append-drop}
use Rattle.std.proofs.lemmas.List.{map-append}
use Rattle.td_base.proofs.Places.{drop_there, take_there}
use Rattle.td_disk.specs.declared.disk.TheConstants.{MAX_DISK_LEN}
use Rattle.td_op.specs.declared.entry.Entry.{Entry}
use Rattle.td_op.specs.declared.input.Input.{Input}
use Rattle.td_machine.specs.Machine.{Machine, start}
use Rattle.td_machine.specs.History.{History, after, IsLegalFrom}
use Rattle.td_machine.specs.Shown.{change_between}
use Rattle.td_replica.specs.Replica.{ReplicaValue, IsReplica}
use Rattle.td_input.specs.Spelling.{CanWrite}
use Rattle.td_journal.specs.declared.check.Check.{Check}
use Rattle.td_journal.specs.declared.format.Format.{Format}
use Rattle.td_journal.specs.Bad.{IsBadAt}
use Rattle.td_journal.specs.Check.{bytes_of}
use Rattle.td_journal.specs.Journal.{first_check, next_check, record_bytes, records_bytes}
use Rattle.td_journal.specs.Journal.{journal_bytes, journal_check, inputs_of}
use Rattle.td_journal.specs.Opening.{IsFound}
use Rattle.td_journal.specs.Whole.{IsJournalOf, HasNoRoom, IsWritten}
use Rattle.td_journal.proofs.Finding.{not_bad}
use Rattle.td_journal.proofs.Growing.{check_both, journal_both}
use Rattle.td_journal.proofs.Histories.{same_history}
use Rattle.td_journal.proofs.Playing.{all_more}
use Rattle.td_journal.proofs.Unique.{one_journal}

-- ---- what is written

-- the entry at a place is the one behind those before it
inputs_there : (es : List Entry) (k : ℕ) (e : Entry) → slice_get es k ≡ Some e
    → inputs_of (take (k + 1) es) ≡ inputs_of (take k es) ++ e.input ∷ []
inputs_there es k e at =
    ap inputs_of (take_there es k e at) ∙ map-append (λ (x : Entry). x.input) (take k es) (e ∷ [])

inputs_around : (es : List Entry) (k : ℕ) (e : Entry) → slice_get es k ≡ Some e
    → inputs_of es ≡ inputs_of (take k es) ++ e.input ∷ inputs_of (drop (k + 1) es)
inputs_around es k e at =
    ap inputs_of (sym (take-append-drop k es))
    ∙ map-append (λ (x : Entry). x.input) (take k es) (drop k es)
    ∙ ap (λ (l : List Entry). inputs_of (take k es) ++ inputs_of l) (drop_there es k e at)

-- one more record
pub written_more : (f : Format) (site n : ℕ) (es : List Entry) (k : ℕ) (e : Entry) (bytes : List ℕ) (check : Check)
    (now : List ℕ) (next : Check)
    → IsWritten f site n (inputs_of (take k es)) bytes check → slice_get es k ≡ Some e → CanWrite e.input
    → now ≡ bytes ++ record_bytes check.format (bytes_of check) e.input
    → bytes_of next ≡ next_check check.format (bytes_of check) e.input → next.format ≡ check.format
    → IsWritten f site n (inputs_of (take (k + 1) es)) now next
written_more f site n es k e bytes check now next w at can now_is next_is same =
    let ks : List Input = inputs_of (take k es) in
    let more : inputs_of (take (k + 1) es) ≡ ks ++ e.input ∷ [] = inputs_there es k e at in
    let last : List ℕ = journal_check f site n ks in
    subst (λ (l : List Input). IsWritten f site n l now next) (sym more) (record {
      is = now_is ∙ (λ i. w.is i ++ record_bytes (w.format i) (w.check_is i) e.input)
          ∙ ap (λ (l : List ℕ). journal_bytes f site n ks ++ l) (sym (append-nil (record_bytes f last e.input)))
          ∙ sym (journal_both f site n ks (e.input ∷ []));
      check_is = next_is ∙ (λ i. next_check (w.format i) (w.check_is i) e.input)
          ∙ sym (check_both f (first_check f site n) ks (e.input ∷ []));
      format = same ∙ w.format;
      can = all_more ks e.input w.can can;
    })

-- a record that does not fit is one too many
pub long_there : (f : Format) (r : ReplicaValue) (k : ℕ) (e : Entry) (bytes : List ℕ) (check : Check)
    → IsWritten f r.machine.site r.machine.size (inputs_of (take k r.entries)) bytes check
    → slice_get r.entries k ≡ Some e
    → MAX_DISK_LEN < length bytes + length (record_bytes check.format (bytes_of check) e.input) + 1 → HasNoRoom f r
long_there f r k e bytes check w at long =
    let site : ℕ = r.machine.site in
    let n : ℕ = r.machine.size in
    let ks : List Input = inputs_of (take k r.entries) in
    let ls : List Input = inputs_of (drop (k + 1) r.entries) in
    let last : List ℕ = journal_check f site n ks in
    let one : List ℕ = record_bytes f last e.input in
    let rest : List ℕ = records_bytes f (next_check f last e.input) ls in
    let whole : journal_bytes f site n (inputs_of r.entries) ≡ journal_bytes f site n ks ++ (one ++ rest) =
    ap (journal_bytes f site n) (inputs_around r.entries k e at) ∙ journal_both f site n ks (e.input ∷ ls) in
    let size : length (record_bytes check.format (bytes_of check) e.input) ≡ length one =
    λ i. length (record_bytes (w.format i) (w.check_is i) e.input) in
    omega (
      arith,
      long,
      size,
      ap length w.is,
      ap length whole,
      length-append (journal_bytes f site n ks) (one ++ rest),
      length-append one rest,
      length-append (journal_bytes f site n (inputs_of r.entries)) (0 ∷ []),
    )

-- ---- the replica that a journal is of

-- what was found is one
pub found_is_journal : (site n : ℕ) (bytes : List ℕ) (r : ReplicaValue) (check : Check) (end : ℕ)
    → IsFound site n bytes r check end → IsReplica r → IsJournalOf site n bytes r
found_is_journal site n bytes r check end f legal = record {
  format = check.format;
  journal = f.journal;
  can = f.can;
  site_is = f.site_is;
  size_is = f.size_is;
  legal = legal;
}

-- a history is empty, or has a last entry
last_of : (es : History) → (es ≡ []) ⊎ ((front : History) × (e : Entry) × (es ≡ front ++ e ∷ []))
last_of [] = inl refl
last_of (e ∷ es) =
    ⊎_elim
    (λ (none : es ≡ []). inr ([], e, ap (λ (l : History). e ∷ l) none))
    (λ (some : (front : History) × (x : Entry) × (es ≡ front ++ x ∷ [])).
    inr (e ∷ some.0, some.1, ap (λ (l : History). e ∷ l) some.2)) (last_of es)

-- replicas of one site with the same inputs are the same
module _ (a b : ReplicaValue) (h : IsReplica a) (k : IsReplica b) (site : a.machine.site ≡ b.machine.site)
    (size : a.machine.size ≡ b.machine.size) (inputs : inputs_of a.entries ≡ inputs_of b.entries) where
  begin : ReplicaValue → Machine
  begin r = start r.machine.site r.machine.size

  same_begin : begin a ≡ begin b
  unfolding begin
  same_begin = λ i. start (site i) (size i)

  same_entries : a.entries ≡ b.entries
  unfolding begin
  same_entries =
      same_history (begin b) a.entries b.entries
      (subst (λ (m : Machine). IsLegalFrom m a.entries) same_begin h.legal) k.legal inputs

  same_machine : a.machine ≡ b.machine
  unfolding begin
  same_machine = h.is ∙ (λ i. after (same_begin i) (same_entries i)) ∙ sym k.is

  same_change : a.change ≡ b.change
  unfolding begin
  same_change =
      ⊎_elim
      (λ (none : a.entries ≡ []). h.still none ∙ sym (k.still (sym same_entries ∙ none)))
      (λ (some : (front : History) × (e : Entry) × (a.entries ≡ front ++ e ∷ [])).
      h.told some.0 some.1 some.2
      ∙ (λ i. change_between (after (same_begin i) some.0) (same_machine i))
      ∙ sym (k.told some.0 some.1 (sym same_entries ∙ some.2))) (last_of a.entries)

  pub same_replica : a ≡ b
  same_replica = λ i. record { machine = same_machine i; entries = same_entries i; change = same_change i }

-- a journal is of one replica
pub one_replica : (site n : ℕ) (file : List ℕ) (a b : ReplicaValue) → IsJournalOf site n file a
    → IsJournalOf site n file b → a ≡ b
one_replica site n file a b h k =
    same_replica a b h.legal k.legal (h.site_is ∙ sym k.site_is) (h.size_is ∙ sym k.size_is)
    (one_journal h.format k.format site n (inputs_of a.entries) (inputs_of b.entries) file h.can k.can h.journal
    k.journal).1

-- and it is not bad
pub of_is_not_bad : (site n : ℕ) (file : List ℕ) (r : ReplicaValue) → IsJournalOf site n file r → (at : ℕ)
    → ¬ IsBadAt site n file at
of_is_not_bad site n file r h at = not_bad site n file h.format (inputs_of r.entries) h.can h.journal at
