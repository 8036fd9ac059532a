-- What the entries of a family say that it made, it made.
use Rattle.std.proofs.Common.{◌≡◌, ◌<◌, ◌≤◌, ◌+◌, ◌-◌, List, ℕ, length, Some, ap, refl, ◌∙◌, arith}
use Rattle.std.proofs.lemmas.List.{get_or-replicate, length-map}
use Rattle.td_clock.specs.Vector.{vector_get}
use Rattle.td_op.specs.Op.{OpValue}
use Rattle.td_machine.specs.Machine.{start, made}
use Rattle.td_machine.specs.History.{Family, IsReached, IsConsistent, IsOpOf, history, machine}
use Rattle.td_machine.proofs.Induction.{reached_start}
use Rattle.td_machine.proofs.Family.{made_at, valid_of}
use Rattle.td_trace.specs.Entries.{traced_history, traced_family}
use Rattle.td_trace.specs.declared.entry.TraceEntry.{TraceEntry}
use Rattle.td_law_replay.specs.Counting.{no_count, deps_from, made_deps}
use Rattle.td_law_replay.specs.Traced.{site_entries}
use Rattle.td_law_replay.proofs.Counts.{made_deps_is}
use Rattle.td_law_replay.proofs.Matching.{matches_start}
use Rattle.td_law_replay.proofs.Telling.{entries_there, reached_after, tells}
use Rattle.td_law_replay.proofs.Values.{values_of}

pub made_deps_of : (family : Family) (c : IsConsistent family) (x : OpValue) → IsOpOf family x
    → made_deps (traced_family family) x.dot ≡ Some x.deps
made_deps_of family c x o =
    let n : ℕ = length family in
    let site : ℕ = x.dot.site in
    let p = made_at family c x o in
    let seq : vector_get x.deps x.dot.site + 1 ≡ x.dot.seq = (valid_of family c x o).next in
    let some : 0 < site = p.0 in
    let within : site ≤ n = p.1 in
    let zero_made : made (start site n) ≡ 0 = get_or-replicate n (site - 1) 0 0 (omega (arith, some, within)) in
    let many : length (traced_family family) ≡ n = length-map family traced_history in
    let legal = c.legal.legal site some within in
    let begun : IsReached (start site n) = reached_start site n some within c.legal.few in
    let reached : IsReached (machine family site) = reached_after (start site n) begun (history family site) legal in
    let told : deps_from site (length (traced_family family)) x.dot.seq (no_count (length (traced_family family)))
    (site_entries (traced_family family) site) ≡ Some x.deps =
    ap (λ (k : ℕ). deps_from site k x.dot.seq (no_count k) (site_entries (traced_family family) site)) many
    ∙ ap (λ (l : List TraceEntry). deps_from site n x.dot.seq (no_count n) l) (entries_there family (site - 1))
    ∙ tells (history family site) (start site n) begun (no_count n) (matches_start site n) legal x p.2 refl
    (omega (arith, seq, zero_made)) in
    made_deps_is (traced_family family) x.dot x.deps (values_of (machine family site) reached x p.2).deps told
