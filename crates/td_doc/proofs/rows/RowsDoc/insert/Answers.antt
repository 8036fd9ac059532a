use Rattle.td_doc.proofs.Identities.{new_atom}
use Rattle.td_doc.proofs.rows.RowsDoc.insert.Goals as goal

pub put_array-requires : goal.put_array-requires
put_array-requires c = new_atom c.args.self.now _ c.requires
