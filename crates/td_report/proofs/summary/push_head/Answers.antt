use Rattle.std.proofs.Common.{◌≡◌, ◌∙◌, ◌++◌, List, ℕ, OnOk, ap, arith, codes, refl, subst, take}
use Rattle.std.specs.List.{flat_map}
use Rattle.td_doc.specs.Document.{live_atoms}
use Rattle.td_script.specs.Texts.{escaped}
use Rattle.td_report.proofs.LiveRows.{head_written}
use Rattle.td_report.proofs.Printing.{printed_behind}
use Rattle.td_report.proofs.summary.push_head.Goals as goal

pub loop-index-preserved : goal.loop-index-preserved
loop-index-preserved g c =
    printed_behind (flat_map escaped) (c.args.lines.now ++ codes "head \"") c.loop-index.lines c.push_atom.new.lines
    (live_atoms (g.D.Doc.rows c.args.doc.now)) c.loop-index.index _ c.in_ok-push_atom.ensures refl
    c.loop-index.invariant

pub returns : goal.returns
returns g c =
    let atoms : List (List ℕ) = live_atoms (g.D.Doc.rows c.args.doc.now) in
    let all : c.loop-index.index ≡ 32 = omega arith in
    let start : List ℕ = c.args.lines.now in
    let written = c.loop-index.invariant
    ∙ ap (λ (n : ℕ). (start ++ codes "head \"") ++ flat_map (flat_map escaped) (take n atoms)) all in
    subst
    (λ (lines : List ℕ). OnOk c.push-2.result (c.push-2.new.self ≡ lines))
    (ap (λ (lines : List ℕ). lines ++ codes "\"\n") written ∙ head_written start (take 32 atoms))
    c.push-2.ensures.ok
