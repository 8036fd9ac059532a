-- The laws of every consistent family.
use Rattle.std.specs.Prelude.{List}
use Rattle.td_base.specs.Lists.{In}
use Rattle.td_op.specs.Op.{OpValue}
use Rattle.td_machine.specs.History.{Family, IsConsistent, IsOpOf}
use Rattle.td_order.specs.Causal.{HasEpochs}
use Rattle.td_law_commitment.proofs.Decided.{one_decision}
use Rattle.td_law_commitment.proofs.Voted.{voted}
use Rattle.td_law_agreement.specs.Agreement.{EditsMeet, CommitsMeet, SiblingsMeet}
use Rattle.td_law_agreement.specs.Unfit.{NothingUnfit}
use Rattle.td_law_agreement.specs.Parts.{PartsKeepOrder, StableOrder}
use Rattle.td_law_agreement.proofs.Meeting.{edits_meet, commits_meet, siblings_meet}
use Rattle.td_law_agreement.proofs.Epochs.{has_epochs, parts_in_order, stable_order}
use Rattle.td_law_agreement.proofs.Unfit.{nothing_unfit}

module _ (family : Family) (c : IsConsistent family) where
  pub all_edits_meet : EditsMeet family
  all_edits_meet = edits_meet family c (voted family c)

  pub all_commits_meet : CommitsMeet family
  all_commits_meet = commits_meet family c (voted family c)

  pub all_siblings_meet : SiblingsMeet family
  all_siblings_meet = siblings_meet family c (voted family c) (one_decision family c)

  pub none_unfit : NothingUnfit family
  none_unfit = nothing_unfit family c (voted family c) (one_decision family c)

  pub epochs_of : (ops : List OpValue) → ((x : OpValue) → In x ops → IsOpOf family x) → HasEpochs ops
  epochs_of = has_epochs family c (voted family c) (one_decision family c)

  pub parts : PartsKeepOrder family
  parts = parts_in_order family c (voted family c) (one_decision family c)

  pub stable : StableOrder family
  stable = stable_order family c (voted family c) (one_decision family c)
