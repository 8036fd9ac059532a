-- A trace with the verdict yes is that of a family that keeps the promises.
use Rattle.std.proofs.Common.{◌≡◌, ℕ, List, refl, ⊎_elim, inl, inr}
use Rattle.td_check.proofs.Exact.{found_exactly}
use Rattle.td_check.specs.Verdict.{IsPossible, IsVerdict, TooLong, NoTrace, OfNoSite, OfTrace}
use Rattle.td_check.specs.declared.verdict.Verdict.{Verdict}
use Rattle.td_check.specs.declared.verdict.Verdict.TheVariants.{Yes}
use Rattle.td_law_convergence.proofs.EveryFamily.{promises}
use Rattle.td_reader.specs.Values.{TraceValue}
use Rattle.td_law_replay.specs.Accepted.{IsLiveTrace}
use Rattle.td_run.specs.Kept.{IsOfLiveFamily, TracesLiveFamily}

of_live : (t : TraceValue) → IsLiveTrace t.histories t.logs t.texts → IsOfLiveFamily t
of_live t l = record {
  family = l.family;
  live = l.live;
  histories = l.is;
  texts = l.texts_are;
  promises = promises l.family l.live.settled.consistent;
}

pub possible_kept : (bytes : List ℕ) → IsPossible bytes → TracesLiveFamily bytes
possible_kept bytes p = record {
  value = p.value;
  is = p.is;
  live = ⊎_elim (λ (none : p.value.sites ≡ 0). inl none)
      (λ (l : IsLiveTrace p.value.histories p.value.logs p.value.texts). inr (of_live p.value l)) p.live;
}

verdict_kept : (bytes : List ℕ) (verdict : Verdict) → IsVerdict bytes verdict → verdict ≡ Yes → TracesLiveFamily bytes
verdict_kept bytes _ (TooLong long) e = absurd cc
verdict_kept bytes _ (NoTrace short faulty) e = absurd cc
verdict_kept bytes _ (OfNoSite short t is none) e = record { value = t; is = is; live = inl none }
verdict_kept bytes _ (OfTrace {verdict} short t is some found) e = record {
  value = t;
  is = is;
  live = inr (of_live t ((found_exactly t is.0 some verdict found).0 e));
}

pub yes_kept : (bytes : List ℕ) → IsVerdict bytes Yes → TracesLiveFamily bytes
yes_kept bytes is = verdict_kept bytes Yes is refl
