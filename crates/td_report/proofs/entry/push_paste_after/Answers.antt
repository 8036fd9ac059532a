use Rattle.std.proofs.Common.{◌≡◌, ◌∙◌, ◌++◌, List, ℕ, OnOk, ap, append_assoc, codes, subst}
use Rattle.std.specs.List.{flat_map}
use Rattle.td_report.specs.Parts.{spaced_quoted}
use Rattle.td_report.specs.TraceLines.{spaced_after}
use Rattle.td_report.proofs.entry.push_paste_after.Goals as goal

pub returns : goal.returns
returns c =
    let atoms : List ℕ = flat_map spaced_quoted c.args.run.now in
    let place : List ℕ = spaced_after c.args.after in
    subst (λ (line : List ℕ). OnOk c.push_run.result (c.push_run.new.line ≡ line))
    (ap (λ (line : List ℕ). line ++ atoms) c.in_ok-push_after.ensures
    ∙ append_assoc c.args.line.now (codes " pasteafter" ++ place) atoms
    ∙ ap (λ (rest : List ℕ). c.args.line.now ++ rest) (append_assoc (codes " pasteafter") place atoms))
    c.push_run.ensures
