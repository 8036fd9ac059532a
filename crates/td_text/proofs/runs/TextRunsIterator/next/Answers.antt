use Rattle.std.proofs.Common.{◌≡◌, ◌∷◌, ◌∙◌, sym, arith}
use Rattle.td_base.specs.Run.{pieces}
use Rattle.td_text.specs.Runs.{runs_of}
use Rattle.td_text.proofs.RunLemmas.{first_run_is, lengths_short}
use Rattle.td_text.proofs.runs.TextRunsIterator.next.Goals as goal

pub first_run-count-requires-clause-short : goal.first_run-count-requires-clause-short
first_run-count-requires-clause-short c = lengths_short c.self.inside.lengths.now c.self.inside.bytes.now
    c.self.invariant

pub cut-requires-clause-run : goal.cut-requires-clause-run
cut-requires-clause-run c =
    let first = first_run_is c.self.inside.lengths.now c.self.inside.bytes.now c.first_run-count.result.0
    c.first_run-count.result.1 c.self.invariant
    c.first_run-count.ensures.bytes c.first_run-count.ensures.first in
    rw (c.split_at.ensures.front, c.split_at-2.ensures.front) first.run

pub invariant_of-self : goal.invariant_of-self
invariant_of-self c =
    let first = first_run_is c.self.inside.lengths.now c.self.inside.bytes.now c.first_run-count.result.0
    c.first_run-count.result.1 c.self.invariant
    c.first_run-count.ensures.bytes c.first_run-count.ensures.first in
    rw (c.split_at.ensures.back, c.split_at-2.ensures.back) first.left

pub returns-clause-steps : goal.returns-clause-steps
returns-clause-steps c =
    let first = first_run_is c.self.inside.lengths.now c.self.inside.bytes.now c.first_run-count.result.0
    c.first_run-count.result.1 c.self.invariant
    c.first_run-count.ensures.bytes c.first_run-count.ensures.first in
    rw (
      c.cut.ensures,
      c.split_at.ensures.front,
      c.split_at-2.ensures.front,
      c.split_at.ensures.back,
      c.split_at-2.ensures.back,
    )
    (sym c.self.view_is ∙ first.runs)

pub returns-clause-goes : goal.returns-clause-goes
returns-clause-goes c =
    let first = first_run_is c.self.inside.lengths.now c.self.inside.bytes.now c.first_run-count.result.0
    c.first_run-count.result.1 c.self.invariant
    c.first_run-count.ensures.bytes c.first_run-count.ensures.first in
    let now : c.args.self.now ≡ c.cut.result ∷ runs_of (pieces c.split_at.result.1.now c.split_at-2.result.1.now) =
    rw (
      c.cut.ensures,
      c.split_at.ensures.front,
      c.split_at-2.ensures.front,
      c.split_at.ensures.back,
      c.split_at-2.ensures.back,
    )
    (sym c.self.view_is ∙ first.runs) in
    rw now record {
      on = λ _. (tt, tt, omega arith);
      keeps = tt;
      rests = λ _. tt;
    }
