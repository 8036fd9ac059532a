-- The worked example that no order in time gives is the trace of a live family.
use Rattle.std.proofs.Common.{◌≡◌, ◌<◌, ◌≤◌, ◌-◌, ℕ, zero, suc, List, [], ◌∷◌, true}
use Rattle.std.proofs.Common.{codes, refl, sym, ◌∙◌, true≢false, arith}
use Rattle.std.specs.Prelude.{Some, slice_get}
use Rattle.td_doc.specs.Document.{text_of}
use Rattle.td_machine.specs.Machine.{undecided}
use Rattle.td_trace.specs.Entries.{is_request_at}
use Rattle.td_trace.specs.declared.log.Did.TheVariants.{Call, Look}
use Rattle.td_trace.specs.Editors.{nothing_yet, AreDid, site_calls_at}
use Rattle.td_law_replay.specs.Traced.{site_entries}
use Rattle.td_law_replay.specs.Judging.{States}
use Rattle.td_law_replay.specs.Replay.{Reaches, GoesOnTo}
use Rattle.td_law_replay.specs.Accepted.{IsLiveTrace, AreTextsOnTheWay, IsAcceptedAt}
use Rattle.td_law_replay.specs.Stage.{after_sites}
use Rattle.td_law_replay.specs.Examples.{crossing, crossing_sites, crossing_logs, crossing_texts}
use Rattle.td_law_replay.proofs.Staged.{reaches_sites, leads_then}
use Rattle.td_law_replay.proofs.Crossing.{at_three, crossing_entries, crossing_goes}
use Rattle.td_law_replay.proofs.Crossing.{crossing_reaches, crossing_over, crossing_votes}
use Rattle.td_law_replay.proofs.Accepting.{texts_there, accepted_is_live}

abbrev last : States
last = after_sites crossing crossing_sites

-- ---- where the editor of site 3 looked

abbrev typed_sites : List ℕ
typed_sites = 1 ∷ 2 ∷ 3 ∷ 3 ∷ []

abbrev typed : States
typed = after_sites crossing typed_sites

typed_reaches : Reaches crossing typed
typed_reaches =
    reaches_sites crossing typed_sites (
      (omega arith, omega arith, refl, refl, tt),
      (
        (omega arith, omega arith, refl, refl, tt),
        ((omega arith, omega arith, refl, refl, tt), ((omega arith, omega arith, refl, refl, tt), tt)),
      ),
    )

typed_leads : GoesOnTo crossing typed last
typed_leads =
    leads_then crossing typed (1 ∷ 1 ∷ 1 ∷ 2 ∷ 2 ∷ 2 ∷ 2 ∷ 3 ∷ 3 ∷ 1 ∷ []) crossing_goes.1.1.1.1

-- ---- each request is one call

first_calls : (k : ℕ) → is_request_at (site_entries crossing 1) k ≡ true → site_calls_at 1 k crossing_logs ≡ 1
first_calls zero e = absurd (true≢false (sym e))
first_calls (suc zero) e = absurd (true≢false (sym e))
first_calls (suc (suc zero)) e = absurd (true≢false (sym e))
first_calls (suc (suc (suc zero))) e = refl
first_calls (suc (suc (suc (suc zero)))) e = absurd (true≢false (sym e))
first_calls (suc (suc (suc (suc (suc zero))))) e = absurd (true≢false (sym e))
first_calls (suc (suc (suc (suc (suc (suc k)))))) e = absurd (true≢false (sym e))

second_calls : (k : ℕ) → is_request_at (site_entries crossing 2) k ≡ true → site_calls_at 2 k crossing_logs ≡ 1
second_calls zero e = absurd (true≢false (sym e))
second_calls (suc zero) e = absurd (true≢false (sym e))
second_calls (suc (suc zero)) e = absurd (true≢false (sym e))
second_calls (suc (suc (suc zero))) e = absurd (true≢false (sym e))
second_calls (suc (suc (suc (suc zero)))) e = refl
second_calls (suc (suc (suc (suc (suc zero))))) e = absurd (true≢false (sym e))
second_calls (suc (suc (suc (suc (suc (suc k)))))) e = absurd (true≢false (sym e))

third_calls : (k : ℕ) → is_request_at (site_entries crossing 3) k ≡ true → site_calls_at 3 k crossing_logs ≡ 1
third_calls zero e = absurd (true≢false (sym e))
third_calls (suc zero) e = refl
third_calls (suc (suc zero)) e = refl
third_calls (suc (suc (suc zero))) e = absurd (true≢false (sym e))
third_calls (suc (suc (suc (suc zero)))) e = absurd (true≢false (sym e))
third_calls (suc (suc (suc (suc (suc k))))) e = absurd (true≢false (sym e))

-- ---- the end

abbrev HasAll : ℕ → Type 0
HasAll site = (last site).machine.have ≡ 1 ∷ 1 ∷ 2 ∷ []

has_all : (site : ℕ) → 0 < site → site ≤ 3 → HasAll site
has_all = at_three HasAll refl refl refl

accepted : (told : ℕ → ℕ → List ℕ) → AreTextsOnTheWay crossing last told
    → IsAcceptedAt crossing last told crossing_logs crossing_texts
accepted told way =
    record {
      votes = crossing_votes;
      logs_are = (
        record { some = omega arith; within = omega arith; did = ((refl, omega arith, refl), tt) },
        (
          record { some = omega arith; within = omega arith; did = ((refl, omega arith, refl), tt) },
          (record { some = omega arith; within = omega arith; did = third_did }, tt),
        ),
      );
      calls = λ site k some within asked. calls site some within k asked;
      each_text = refl;
      text = at_three
          (λ (site : ℕ). slice_get crossing_texts (site - 1) ≡ Some (text_of (last site).machine.doc)) refl refl refl;
      vectors = λ r s r_some r_within s_some s_within. has_all r r_some r_within ∙ sym (has_all s s_some s_within);
      decided = at_three (λ (site : ℕ). undecided (last site).machine ≡ 0) refl refl refl;
    }
  where
    calls : (site : ℕ) → 0 < site → site ≤ 3 → (k : ℕ) → is_request_at (site_entries crossing site) k ≡ true
        → site_calls_at site k crossing_logs ≡ 1
    calls =
        at_three
        (λ (site : ℕ). (k : ℕ) → is_request_at (site_entries crossing site) k ≡ true
        → site_calls_at site k crossing_logs ≡ 1) first_calls second_calls third_calls

    looked : codes "yx" ≡ told 3 2
    looked = way typed typed_reaches typed_leads 3 (omega arith) (omega arith)

    third_did : AreDid (site_entries crossing 3) (told 3) nothing_yet
        (Call 1 1 ∷ Call 2 2 ∷ Look 2 2 (codes "yx") ∷ [])
    third_did = (
      (refl, omega arith, refl),
      ((refl, omega arith, refl), ((refl, omega arith, omega arith, omega arith, looked), tt)),
    )

pub crossing_live : IsLiveTrace crossing crossing_logs crossing_texts
crossing_live =
    let w = texts_there crossing crossing_entries last crossing_reaches crossing_over crossing_votes in
    accepted_is_live crossing crossing_logs crossing_texts crossing_entries last crossing_reaches crossing_over w.0 w.1
    (accepted w.0 w.1)
