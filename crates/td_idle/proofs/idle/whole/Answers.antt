use Rattle.std.proofs.Common.{[], ◌∷◌, ◌++◌, List, ap, refl, ◌∙◌, length}
use Rattle.td_path.specs.declared.slot.Slot.{Slot}
use Rattle.td_path.specs.declared.slot.Slot.TheVariants.{Root}
use Rattle.td_idle.proofs.Replicas.{document}
use Rattle.td_idle.proofs.Certifying.{root_certified}
use Rattle.td_idle.proofs.Maximum.{certified_is_best}
use Rattle.td_idle.proofs.idle.whole.Goals as goal

pub returns-clause-certified : goal.returns-clause-certified
returns-clause-certified g c =
    root_certified c.args.replica.now.machine (document c.args.replica.now c.entries.ensures.replica) c.requires
    (record { slot = Root; rows = c.rows.result; tops = c.push.new.self; unknown = c.new.result })
    refl (c.rows.ensures ∙ ap length c.doc.ensures)
    (c.in_ok-push.ensures.items ∙ ap (λ (ts : List Slot). ts ++ Root ∷ []) c.new-tops.ensures.items)

pub returns-clause-best : goal.returns-clause-best
returns-clause-best g c =
    certified_is_best c.args.replica.now.machine (document c.args.replica.now c.entries.ensures.replica)
    (record { slot = Root; rows = c.rows.result; tops = c.push.new.self; unknown = c.new.result })
    (root_certified c.args.replica.now.machine (document c.args.replica.now c.entries.ensures.replica) c.requires
    (record { slot = Root; rows = c.rows.result; tops = c.push.new.self; unknown = c.new.result })
    refl (c.rows.ensures ∙ ap length c.doc.ensures)
    (c.in_ok-push.ensures.items ∙ ap (λ (ts : List Slot). ts ++ Root ∷ []) c.new-tops.ensures.items))
