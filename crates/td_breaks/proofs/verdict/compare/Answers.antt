use Rattle.std.proofs.Common.{◌∙◌, true≢false, sym, string_bytes}
use Rattle.td_breaks.proofs.Atoms.{found_atoms}
use Rattle.td_breaks.proofs.verdict.compare.Goals as goal

pub returns : goal.returns
returns c =
    let found = found_atoms c.args.clusters.now c.in_ok-atoms.atoms (string_bytes c.in_ok-text.text)
    c.deref.result.now c.in_ok-text.ensures c.deref.ensures c.in_ok-atoms.ensures.ok in
    (λ e. absurd (cc e), λ e. absurd (true≢false (sym (c.are_same.ensures.1 (sym found ∙ e)) ∙ c.if-are_same.false)))
