-- A step in which a commit is made or taken leaves the live atoms, and so the marked text.
use Rattle.std.proofs.Common.{◌≡◌, List, ◌∷◌, Option, Some, None, map, refl, sym, ap, ◌∙◌, subst, ⊎_elim}
use Rattle.td_base.specs.Lists.{In}
use Rattle.td_base.specs.RunAtoms.{NamedAtom}
use Rattle.td_base.specs.Value.{DotValue}
use Rattle.td_path.specs.declared.slot.Slot.{Slot}
use Rattle.td_op.specs.declared.body.Body.{Body}
use Rattle.td_op.specs.declared.body.Body.TheVariants.{Insert, Delete, Propose, Commit, Abort}
use Rattle.td_op.specs.Op.{OpValue}
use Rattle.td_doc.specs.Array.{named}
use Rattle.td_doc.specs.Document.{DocRow, live_rows}
use Rattle.td_doc.proofs.Flattened.{flatten_keeps_live}
use Rattle.td_machine.specs.Log.{proposed_slot}
use Rattle.td_machine.specs.Making.{effect, flatten_found}
use Rattle.td_machine.specs.History.{Family, IsConsistent}
use Rattle.td_machine.specs.Replay.{doc_of}
use Rattle.td_law_logs.specs.Entries.{machine_before, machine_then}
use Rattle.td_law_logs.specs.Logs.{IsLogOf}
use Rattle.td_law_logs.proofs.Bases.{tail}
use Rattle.td_law_logs.proofs.Fitting.{moment_doc, entry_doc}
use Rattle.td_law_logs.proofs.Moments.{moment_before, entry_log}
use Rattle.td_law_logs.proofs.Steps.{doc}
use Rattle.td_law_commitment.proofs.KeptText.{Grew, IsQuiet, grew}
use Rattle.td_law_commitment.proofs.KeptText.Grew.{no_more, one_more, two_more}
use Rattle.td_marks.proofs.Sets.{text_of_named}
use Rattle.td_law_marks.specs.Promises.{CommitsKeepMarks}

-- the live atoms of a document, with their identities
abbrev lives : List DocRow → List NamedAtom
lives rows = map named (live_rows rows)

module _ (family : Family) (c : IsConsistent family) where
  quiet : (o : OpValue) (log : List OpValue) → IsLogOf family (o ∷ log) → IsQuiet o.body
      → lives (doc_of (o ∷ log)) ≡ lives (doc_of log)
  quiet o log l q = from o.body q
    where
      flat : (s : Option Slot) → lives (flatten_found s (doc_of log)) ≡ lives (doc_of log)
      flat None = refl
      flat (Some s) = flatten_keeps_live (doc_of log) s (doc family c log (tail family c o log l))

      from : (b : Body) → IsQuiet b → lives (effect log o.dot b (doc_of log)) ≡ lives (doc_of log)
      from (Propose slot) k = refl
      from (Abort p) k = refl
      from (Commit p) k = flat (proposed_slot p log)
      from (Insert slot run) k = absurd k
      from (Delete target) k = absurd k

  -- two logs of one site, the later with the entry's operations
  kept : (before later : List OpValue) → IsLogOf family later → Grew before later → (d : OpValue) (p : DotValue)
      → d.body ≡ Commit p → In d later → ¬ In d before → lives (doc_of later) ≡ lives (doc_of before)
  kept before later l (no_more g) d p is i out = ap (λ (log : List OpValue). lives (doc_of log)) g
  kept before later l (one_more x g) d p is i out =
      let dx : d ≡ x = ⊎_elim (λ k. k) (λ k. absurd (out k)) (subst (λ (z : List OpValue). In d z) g i) in
      let q : IsQuiet x.body =
      subst (λ (b : Body). IsQuiet b) (sym (ap (λ (o : OpValue). o.body) (sym dx) ∙ is)) tt in
      ap (λ (log : List OpValue). lives (doc_of log)) g
      ∙ quiet x before (subst (λ (log : List OpValue). IsLogOf family log) g l) q
  kept before later l (two_more x y g qx qy) d p is i out =
      let ly : IsLogOf family (y ∷ x ∷ before) = subst (λ (log : List OpValue). IsLogOf family log) g l in
      ap (λ (log : List OpValue). lives (doc_of log)) g
      ∙ (quiet y (x ∷ before) ly qy ∙ quiet x before (tail family c y (x ∷ before) ly) qx)

  pub commits_keep_marks : CommitsKeepMarks family
  commits_keep_marks t d p ops is i out =
      text_of_named ops (machine_then family t).doc (machine_before family t).doc
      (ap lives (entry_doc family c t)
      ∙ (kept (machine_before family t).log (machine_then family t).log (entry_log family c t)
      (grew (machine_before family t) t.entry.input) d p is i out
      ∙ sym (ap lives (moment_doc family c (moment_before family t)))))
