-- A verdict is Yes exactly for possible traces.
use Rattle.std.proofs.Common.{◌≡◌, ◌↔◌, ◌<◌, ◌≤◌, ◌⊎◌, List, ℕ, length, refl, sym, subst, inl, inr}
use Rattle.std.proofs.Common.{⊎_elim, arith}
use Rattle.td_reader.specs.Form.{IsTraceOf}
use Rattle.td_reader.specs.Values.{TraceValue}
use Rattle.td_reader.proofs.Collecting.{no_fault, one_value}
use Rattle.td_law_replay.specs.Accepted.{IsLiveTrace}
use Rattle.td_check.specs.declared.verdict.Verdict.{Verdict}
use Rattle.td_check.specs.declared.verdict.Verdict.TheVariants.{Yes}
use Rattle.td_check.specs.Verdict.{IsFinding, IsVerdict, TooLong, NoTrace, OfNoSite, OfTrace, IsPossible}
use Rattle.td_check.proofs.Exact.{found_exactly}

pub yes_is_possible : (bytes : List ℕ) (v : Verdict) → IsVerdict bytes v → (v ≡ Yes) ↔ IsPossible bytes
yes_is_possible bytes _ (TooLong long) =
    (λ e. absurd cc, λ possible. let short = possible.short in absurd (omega (arith, long, short)))
yes_is_possible bytes _ (NoTrace {line} short faulty) =
    (λ e. absurd cc, λ possible. absurd (no_fault bytes possible.value line possible.is faulty))
yes_is_possible bytes _ (OfNoSite short t is none) =
    (λ e. record { short = short; value = t; is = is; live = inl none }, λ possible. refl)
yes_is_possible bytes _ (OfTrace {verdict} short t is some found) =
    let exactly = found_exactly t is.0 some verdict found in (
      λ e. record { short = short; value = t; is = is; live = inr (exactly.0 e) },
      λ possible. exactly.1 (live possible),
    )
  where
    live : IsPossible bytes → IsLiveTrace t.histories t.logs t.texts
    live possible =
        let same : possible.value ≡ t = one_value bytes possible.value t possible.is is in
        ⊎_elim
        (λ (none : possible.value.sites ≡ 0).
        let zero_sites : t.sites ≡ 0 = subst (λ (u : TraceValue). u.sites ≡ 0) same none in
        absurd (omega (arith, zero_sites, some)))
        (λ (l : IsLiveTrace possible.value.histories possible.value.logs possible.value.texts).
        subst (λ (u : TraceValue). IsLiveTrace u.histories u.logs u.texts) same l) possible.live

-- ---- the verdict on a trace

-- what is found of a trace of a site or more, or of none, is the verdict on its bytes
pub verdict_is : (bytes : List ℕ) (t : TraceValue) (v : Verdict) → length bytes ≤ 536870912 → IsTraceOf bytes t
    → ((t.sites ≡ 0) × (v ≡ Yes)) ⊎ ((0 < t.sites) × IsFinding t v) → IsVerdict bytes v
verdict_is bytes t v short is (inl (none, e)) = subst (IsVerdict bytes) (sym e) (OfNoSite short t is none)
verdict_is bytes t v short is (inr (there, found)) = OfTrace short t is there found
