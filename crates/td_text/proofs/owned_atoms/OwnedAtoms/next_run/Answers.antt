use Rattle.std.proofs.Common.{◌≡◌, ◌≤◌, ◌∙◌, ℕ, List, take, drop, ap, sym, subst}
use Rattle.std.specs.Prelude.{All}
use Rattle.td_base.specs.declared.atom.TheConstants.{MAX_ATOM_LEN}
use Rattle.td_text.specs.Runs.{runs_of}
use Rattle.td_text.proofs.RunLemmas.{lengths_short}
use Rattle.td_text.proofs.OwnedAtomsLemmas.{from_place, next_run_of}
use Rattle.td_text.proofs.owned_atoms.OwnedAtoms.next_run.Goals as goal

pub first_run-count-requires-clause-short : goal.first_run-count-requires-clause-short
first_run-count-requires-clause-short c =
    let lens : List ℕ = c.self.inside.lengths.items in
    let left = from_place c.deref.result.now lens c.self.inside.count c.deref.ensures.value in
    subst (All (λ (len : ℕ). len ≤ MAX_ATOM_LEN)) (sym left)
    (lengths_short (drop c.self.inside.count lens) (drop c.self.inside.len c.self.inside.bytes.items)
    c.self.invariant.left)

pub cut-run-requires-clause-run : goal.cut-run-requires-clause-run
cut-run-requires-clause-run c =
    let lens : List ℕ = c.self.inside.lengths.items in
    let bytes : List ℕ = c.self.inside.bytes.items in
    let more : ℕ = c.first_run-count.result.0 in
    let size : ℕ = c.first_run-count.result.1 in
    let left = from_place c.deref.result.now lens c.self.inside.count c.deref.ensures.value in
    let next = next_run_of lens bytes _ c.self.inside.count c.self.inside.len more size c.self.invariant left
    c.first_run-count.ensures.within c.first_run-count.ensures.bytes c.first_run-count.ensures.first in
    let lengths : c.split_at.result.0.now ≡ take more (drop c.self.inside.count lens) = c.split_at.ensures.front
    ∙ ap (take more) left in
    let front : c.split_at-2.result.0.now ≡ take size (drop c.self.inside.len bytes) =
    c.split_at-2.ensures.front ∙ ap (take size) (from_place c.deref-2.result.now bytes c.self.inside.len
    c.deref-2.ensures.value) in
    rw (lengths, front) next.run

pub invariant_of-self : goal.invariant_of-self
invariant_of-self c =
    let lens : List ℕ = c.self.inside.lengths.items in
    let left = from_place c.deref.result.now lens c.self.inside.count c.deref.ensures.value in
    (next_run_of lens c.self.inside.bytes.items _ c.self.inside.count c.self.inside.len c.first_run-count.result.0
    c.first_run-count.result.1
    c.self.invariant left c.first_run-count.ensures.within c.first_run-count.ensures.bytes
    c.first_run-count.ensures.first).others

pub returns : goal.returns
returns c =
    let lens : List ℕ = c.self.inside.lengths.items in
    let bytes : List ℕ = c.self.inside.bytes.items in
    let more : ℕ = c.first_run-count.result.0 in
    let size : ℕ = c.first_run-count.result.1 in
    let left = from_place c.deref.result.now lens c.self.inside.count c.deref.ensures.value in
    let next = next_run_of lens bytes _ c.self.inside.count c.self.inside.len more size c.self.invariant left
    c.first_run-count.ensures.within c.first_run-count.ensures.bytes c.first_run-count.ensures.first in
    let lengths : c.split_at.result.0.now ≡ take more (drop c.self.inside.count lens) = c.split_at.ensures.front
    ∙ ap (take more) left in
    let front : c.split_at-2.result.0.now ≡ take size (drop c.self.inside.len bytes) =
    c.split_at-2.ensures.front ∙ ap (take size) (from_place c.deref-2.result.now bytes c.self.inside.len
    c.deref-2.ensures.value) in
    rw (c.cut-run.ensures, lengths, front) (ap runs_of (sym c.self.view_is) ∙ next.runs)
