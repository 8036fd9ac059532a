-- The six promises, of a family as a whole.
use Rattle.td_machine.specs.History.{Family}
use Rattle.td_law_commitment.specs.Promises.{OneDecision, DecisionsAgree, NoConcurrentEdit, CommitsKeepText}
use Rattle.td_law_agreement.specs.Unfit.{NothingUnfit}
use Rattle.td_law_agreement.specs.Parts.{StableOrder}
use Rattle.td_law_convergence.specs.Promises.{ConvergentText, TextsConverge}

-- whatever edits, proposals, deliveries, losses, repeats and reorderings made the family
pub record KeepsPromises (family : Family) : Type 0 where
  -- each site shows exactly the atoms inserted and not deleted by the operations that it has taken
  pub convergent_text : ConvergentText family
  -- so two sites that have taken the same operations show the same text, in whatever order these came
  pub texts_converge : TextsConverge family
  -- in one order that the insertions alone fix, across all flattens
  pub stable_order : StableOrder family
  -- no two sites decide a flatten differently
  pub one_decision : OneDecision family
  pub decisions_agree : DecisionsAgree family
  -- a committed flatten changes no text
  pub commits_keep_text : CommitsKeepText family
  -- and no edit of its subtree is concurrent with it
  pub no_concurrent_edit : NoConcurrentEdit family
  -- nothing that comes is unfit
  pub nothing_unfit : NothingUnfit family
