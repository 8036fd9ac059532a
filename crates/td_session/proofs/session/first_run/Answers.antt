use Rattle.std.proofs.Common.{◌≡◌, ◌∙◌, ℕ, List, Result, IfOk, All, ap, inr, refl, subst, sym, true}
use Rattle.unicode_segmentation.specs.Grapheme.{graphemes}
use Rattle.td_base.specs.Atom.{IsAtom}
use Rattle.td_text.specs.Clusters.{IsCutFault}
use Rattle.td_session.specs.declared.fault.Fault.{Fault}
use Rattle.td_session.specs.Calls.{IsFirstRun, IsText}
use Rattle.td_session.proofs.FirstRun.{first_of, no_text}
use Rattle.td_session.proofs.session.first_run.Goals as goal

pub returns-in-Ok-cut-clause-ok : goal.returns-in-Ok-cut-clause-ok
returns-in-Ok-cut-clause-ok c =
    let text : List ℕ = c.args.text.now in
    let is : c.into_atoms.result ≡ c.in-Ok-cut.atoms = c.into_atoms.ensures.atoms in
    subst (λ (r : Result (List (List ℕ)) Fault). IfOk r (IsFirstRun text)) (sym c.ok_or.ensures.value)
    (first_of text c.into_atoms.result c.next_run.new.self c.next_run.result c.in-Ok.ensures.cases.1
    (is ∙ c.in-Ok-cut.ensures.ok ∙ ap (graphemes true) c.in-Ok.ensures.cases.0)
    (subst (All IsAtom) (sym is) c.in-Ok-cut.ensures.atoms) c.next_run.ensures)

pub returns-in-Err-Long-clause-err : goal.returns-in-Err-Long-clause-err
returns-in-Err-Long-clause-err c =
    let long = subst (IsCutFault (graphemes true c.in-Ok.text.now)) c.in-Err-Long.field-0-is
    c.in-Err-Long.ensures.fault in
    inr (
      refl,
      λ (is : IsText c.args.text.now).
          no_text c.args.text.now c.in-Ok.text.now _ c.in-Ok.ensures.cases.0 long is,
    )
