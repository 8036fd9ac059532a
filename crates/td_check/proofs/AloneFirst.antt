-- The first request that is not the entry of exactly one call.
use Rattle.std.proofs.Common.{◌≡◌, ◌<◌, ◌≤◌, ◌+◌, ℕ, zero, suc, List, true, false, Option, Some, None, length, min}
use Rattle.std.proofs.Common.{refl, sym, ◌∙◌, subst, inl, inr, ⊎_elim, arith}
use Rattle.std.proofs.lemmas.Bool.{cases_eq, both_ways}
use Rattle.std.proofs.lemmas.Option.{slice_get_within}
use Rattle.std.specs.Prelude.{slice_get, slice_index}
use Rattle.td_trace.specs.Editors.{site_calls_at}
use Rattle.td_trace.specs.Entries.{is_request_at, tells_request}
use Rattle.td_trace.specs.declared.entry.TraceEntry.{TraceEntry}
use Rattle.td_reader.specs.LineNumbers.{line_of_entry}
use Rattle.td_reader.specs.Values.{TraceValue}
use Rattle.td_law_replay.specs.Traced.{site_entries}
use Rattle.td_check.specs.Alone.{IsFirstAloneAt, IsRowOfCalls}
use Rattle.td_check.specs.Findings.{IsAlone, IsFirstAlone, NoneAlone}
use Rattle.td_check.specs.Stops.{IsBefore}

told_within : (entries : List TraceEntry) (k : ℕ) (o : Option TraceEntry) → slice_get entries k ≡ o
    → tells_request o ≡ true → k < length entries
told_within entries k None e is = absurd cc
told_within entries k (Some entry) e is = slice_get_within entries k entry e

-- a request has the number of an entry
request_within : (entries : List TraceEntry) (k : ℕ) → is_request_at entries k ≡ true
    → (0 < k) × (k ≤ length entries)
request_within entries zero is = absurd cc
request_within entries (suc k) is =
    let less : k < length entries = told_within entries k (slice_get entries k) refl is in
    (omega arith, omega arith)

-- ---- at a site

-- the requests with numbers up to this are each the entry of one call
abbrev pub NoneUpTo : TraceValue → ℕ → ℕ → Type 0
NoneUpTo t site n = (k : ℕ) → k ≤ n → ¬ IsAlone t site k

pub none_up_to : (t : TraceValue) (site : ℕ) → NoneUpTo t site 0
none_up_to t site k least a =
    let w = request_within (site_entries t.histories site) k a.asked in
    omega (arith, w.0)

pub none_more : (t : TraceValue) (site n : ℕ) → ¬ IsAlone t site (n + 1) → NoneUpTo t site n → NoneUpTo t site (n + 1)
none_more t site n not before k least =
    ⊎_elim
    (λ (same : k ≡ n + 1). subst (λ (j : ℕ). ¬ IsAlone t site j) (sym same) not)
    (λ (other : ¬ (k ≡ n + 1)). before k (omega arith))
    (cases_eq k (n + 1))

pub none_at_all : (t : TraceValue) (site n : ℕ) → length (site_entries t.histories site) ≤ n → NoneUpTo t site n
    → (k : ℕ) → ¬ IsAlone t site k
none_at_all t site n all before k a =
    let w = request_within (site_entries t.histories site) k a.asked in
    before k (omega (arith, w.1)) a

count_here : (t : TraceValue) (site i : ℕ) (row : List ℕ) → IsRowOfCalls t t.logs site row
    → i < length (site_entries t.histories site) → slice_index row i ≡ min (site_calls_at site (i + 1) t.logs) 255
count_here t site i row r less = r.counts i (omega (arith, r.size))

pub one_call : (t : TraceValue) (site i : ℕ) (row : List ℕ) → IsRowOfCalls t t.logs site row
    → i < length (site_entries t.histories site) → slice_index row i ≡ 1 → ¬ IsAlone t site (i + 1)
one_call t site i row r less one a =
    let capped : min (site_calls_at site (i + 1) t.logs) 255 ≡ 1 = sym (count_here t site i row r less) ∙ one in
    a.alone (omega arith)

pub no_request : (t : TraceValue) (site k : ℕ) → is_request_at (site_entries t.histories site) k ≡ false
    → ¬ IsAlone t site k
no_request t site k none a = both_ways (is_request_at (site_entries t.histories site) k) none a.asked

pub first_at : (t : TraceValue) (site i line : ℕ) (row : List ℕ) → 0 < site → site ≤ length t.histories
    → IsRowOfCalls t t.logs site row → i < length (site_entries t.histories site) → ¬ (slice_index row i ≡ 1)
    → is_request_at (site_entries t.histories site) (i + 1) ≡ true → line ≡ line_of_entry t site (i + 1)
    → NoneUpTo t site i → IsFirstAloneAt t site line
first_at t site i line row some within r less other asked is before = record {
  k = i + 1;
  is = record {
    some = some;
    within = within;
    asked = asked;
    alone = λ (one : site_calls_at site (i + 1) t.logs ≡ 1).
        let count = count_here t site i row r less in
        other (omega (arith, count, one));
  };
  before = λ j sooner. before j (omega arith);
  line_is = is;
}

-- ---- of all sites

-- those of the sites up to this are
abbrev pub NoneOfSites : TraceValue → ℕ → Type 0
NoneOfSites t n = (site k : ℕ) → site ≤ n → ¬ IsAlone t site k

pub none_of_none : (t : TraceValue) → NoneOfSites t 0
none_of_none t site k least a = omega (arith, a.some)

pub none_of_more : (t : TraceValue) (n : ℕ) → ((k : ℕ) → ¬ IsAlone t (n + 1) k) → NoneOfSites t n
    → NoneOfSites t (n + 1)
none_of_more t n not before site k least =
    ⊎_elim
    (λ (same : site ≡ n + 1). subst (λ (s : ℕ). ¬ IsAlone t s k) (sym same) (not k))
    (λ (other : ¬ (site ≡ n + 1)). before site k (omega arith))
    (cases_eq site (n + 1))

pub none_of_all : (t : TraceValue) (n : ℕ) → length t.histories ≤ n → NoneOfSites t n → NoneAlone t
none_of_all t n all before site k a = before site k (omega (arith, a.within)) a

pub first_of_all : (t : TraceValue) (n line : ℕ) → IsFirstAloneAt t (n + 1) line → NoneOfSites t n → IsFirstAlone t line
first_of_all t n line f before = record {
  site = n + 1;
  k = f.k;
  is = f.is;
  before = λ r j b. sooner r j b;
  line_is = f.line_is;
}
  where
    sooner : (r j : ℕ) → IsBefore r j (n + 1) f.k → ¬ IsAlone t r j
    sooner r j (inl less) = before r j (omega arith)
    sooner r j (inr own) = subst (λ (s : ℕ). ¬ IsAlone t s j) (sym own.0) (f.before j own.1)
