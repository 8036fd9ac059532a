use Rattle.std.proofs.Common.{List, sym, ap, subst}
use Rattle.td_doc.specs.Document.{DocRow}
use Rattle.td_doc.specs.Answers.{IsRow}
use Rattle.td_replica.specs.Parts.{StateValue}
use Rattle.td_replica.proofs.state.State.place.Goals as goal

pub alloc_slot-requires : goal.alloc_slot-requires
alloc_slot-requires g c = λ x e.
    subst (λ (rows : List DocRow). IsRow rows x) (sym (ap (λ (s : StateValue). s.machine.doc) c.self.view_is))
    (c.requires.row x e)
