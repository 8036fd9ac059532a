use Rattle.std.proofs.Common.{List, IsSome, position, refl, ap, ◌∙◌, subst}
use Rattle.td_doc.specs.Document.{DocRow, has_id, find_row}
use Rattle.td_doc.specs.Deletion.{delete}
use Rattle.td_doc.proofs.Deletes.{marked_here, not_found, set_parts}
use Rattle.td_doc.proofs.rows.RowsDoc.delete.Goals as goal

pub invariant_of-self-in-Some : goal.invariant_of-self-in-Some
invariant_of-self-in-Some c =
    set_parts c.self.inside.rows.items c.in-Some.place c.index_mut.result.now c.add_delete.new.self c.self.invariant
    c.index_mut.ensures.value c.add_delete.ensures.path

pub returns-in_ok-add_delete-in-Some-clause-ok : goal.returns-in_ok-add_delete-in-Some-clause-ok
returns-in_ok-add_delete-in-Some-clause-ok c =
    let id = c.args.id in
    let found = c.in-Some.ensures.value ∙ ap (λ (q : List DocRow). position (has_id id) q) c.deref.ensures.value in
    let parts =
    marked_here id c.args.by c.self.inside.rows.items c.in-Some.place c.index_mut.result.now c.add_delete.new.self
    found c.index_mut.ensures.value c.in_ok-add_delete-in-Some.ensures.ok
    (c.self.invariant.apart id) in (
      subst (λ (q : List DocRow). IsSome (find_row id q)) c.self.view_is parts.0,
      parts.1
          ∙ ap (delete id c.args.by) c.self.view_is,
    )

pub returns-in-None-clause-fault : goal.returns-in-None-clause-fault
returns-in-None-clause-fault c =
    let none = c.in-None.ensures.value ∙ ap (λ (q : List DocRow). position (has_id c.args.id) q)
    (c.deref.ensures.value ∙ c.self.view_is) in
    (refl, not_found c.args.id c.args.self.now none)
