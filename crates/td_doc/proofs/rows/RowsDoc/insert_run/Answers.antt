use Rattle.std.proofs.Common.{List, sym, ◌∙◌, subst}
use Rattle.td_base.specs.RunAtoms.{NamedAtom}
use Rattle.td_doc.specs.RowParts.{AreNew}
use Rattle.td_doc.proofs.Identities.{new_run}
use Rattle.td_doc.proofs.rows.RowsDoc.insert_run.Goals as goal

pub put_array-requires : goal.put_array-requires
put_array-requires c =
    let rows = c.args.self.now in
    let atoms = c.deref.ensures.value ∙ c.in_ok-atoms.ensures in
    subst (λ (q : List NamedAtom). AreNew rows q) (sym atoms) (new_run rows c.args.dot c.args.run c.requires)
