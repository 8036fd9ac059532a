use Rattle.std.proofs.Common.{◌∙◌, ◌++◌, ◌∷◌, [], List, take, sym, ap, arith}
use Rattle.td_base.specs.Value.{AtomIdValue}
use Rattle.td_base.specs.RunAtoms.{run_ids_from}
use Rattle.td_base.proofs.RunIds.{ids_more, offset_fits}
use Rattle.td_op.proofs.insertion.Insertion.ids.Goals as goal
use Rattle.td_op.proofs.insertion.Insertion.ids.Goals.{in-Some+in_ok-push, in_default}

pub loop-offset-preserved : goal.loop-offset-preserved
loop-offset-preserved c =
    let run = c.args.self.now.run in
    let n = c.loop-offset.offset in
    elim c.match-new.branch [
      | in-Some+in_ok-push w ↦
          rw w.ids-is (w.in_ok-push.ensures.items
          ∙ ap (λ (ids : List AtomIdValue). ids ++ (w.in-Some.id ∷ [])) c.loop-offset.invariant
          ∙ ap (λ (id : AtomIdValue). run_ids_from c.args.self.now.dot 0 (take n run) ++ (id ∷ [])) w.in-Some.ensures.1
          ∙ sym (ids_more c.args.self.now.dot n run (omega (arith, c.len-offset-end.ensures.len))))
      | in_default w ↦ absurd (w.in_default.ensures (offset_fits run n c.len-offset-end.ensures.run
          (omega (arith, c.len-offset-end.ensures.len))))
    ]
