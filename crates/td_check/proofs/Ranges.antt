-- The entries of a trace are in the ranges that the replay asks for.
use Rattle.std.proofs.Common.{◌<◌, ◌≤◌, ◌-◌, List, [], ◌∷◌, ℕ, zero, suc, get_or, sym, subst}
use Rattle.std.specs.List.{AllByRecursion}
use Rattle.td_base.specs.Lists.{In}
use Rattle.td_base.proofs.Lists.{all_in}
use Rattle.td_trace.specs.declared.entry.TraceEntry.{TraceEntry}
use Rattle.td_trace.specs.declared.told_input.ToldInput.{ToldInput}
use Rattle.td_trace.specs.declared.told_input.ToldInput.TheVariants.{Asked, TookOp, TookVote, Went}
use Rattle.td_reader.specs.Values.{TraceValue, IsTraceValue, FitsHistory, FitsEntry, FitsTold}
use Rattle.td_law_replay.specs.Traced.{IsTold, AreInRange}

told_fits : (told : ToldInput) → FitsTold told → IsTold told
told_fits (Asked request) fits = fits.0
told_fits (TookOp dot) fits = fits
told_fits (TookVote vote) fits = fits
told_fits Went fits = tt

history_fits : (all : List (List TraceEntry)) (k : ℕ) → AllByRecursion FitsHistory all → (e : TraceEntry)
    → In e (get_or all k []) → IsTold e.told
history_fits [] k each e i = absurd i
history_fits (entries ∷ all) zero each e i = told_fits e.told (all_in FitsEntry entries each.0.each e i).0
history_fits (entries ∷ all) (suc k) each e i = history_fits all k each.1 e i

pub in_range : (t : TraceValue) → IsTraceValue t → 0 < t.sites → AreInRange t.histories
in_range t is some =
    record {
      some = subst (λ (n : ℕ). 0 < n) (sym is.each_history) some;
      few = subst (λ (n : ℕ). n ≤ 64) (sym is.each_history) is.few;
      each = λ site there within e i. history_fits t.histories (site - 1) is.histories e i;
    }
