-- No stranger comes between what hangs on an insertion.
use Rattle.td_machine.specs.History.{Family, IsConsistent, machine_at}
use Rattle.td_order.specs.Order.{order}
use Rattle.td_order.proofs.StandTogether.{at_together, no_stranger}
use Rattle.td_law_logs.proofs.WellRooted.{moment_part, part_rooted}
use Rattle.td_law_agreement.proofs.EveryFamily.{epochs_of}
use Rattle.td_law_convergence.specs.Promises.{row_ids}
use Rattle.td_law_convergence.proofs.EveryFamily.{rows}
use Rattle.td_law_convergence.proofs.Sublists.{sub_stands}
use Rattle.td_law_interleaving.specs.Typing.{NoStrangerBetween, NoStrangerAtAtom, NoStrangerInDocument}

module _ (family : Family) (k : IsConsistent family) where
  pub none_between : NoStrangerBetween family
  none_between ops p a c i j x y z h g m s t =
      no_stranger ops (part_rooted family k ops p) (epochs_of family k ops p.inside) a c i j x y z h g m s t

  pub none_at_atom : NoStrangerAtAtom family
  none_at_atom ops p v x y z put h g s t =
      at_together ops (part_rooted family k ops p) (epochs_of family k ops p.inside) v x y z put h g s t

  pub none_in_document : NoStrangerInDocument family
  none_in_document t a c i j x y z h g m s u =
      none_between (machine_at family t).log (moment_part family k t) a c i j x y z h g m
      (sub_stands (row_ids (machine_at family t)) (order (machine_at family t).log) (rows family k t).part x y s)
      (sub_stands (row_ids (machine_at family t)) (order (machine_at family t).log) (rows family k t).part y z u)
