-- The laws of every consistent family.
use Rattle.td_machine.specs.History.{Family, Moment, IsConsistent, machine_at}
use Rattle.td_base.specs.Lists.{IsSublist}
use Rattle.td_order.specs.Order.{order}
use Rattle.td_order.proofs.Spliced.{order_distinct}
use Rattle.td_law_logs.specs.AllOps.{all_ops}
use Rattle.td_law_logs.proofs.AllOps.{all_part}
use Rattle.td_law_commitment.proofs.Decided.{one_decision, decisions_agree}
use Rattle.td_law_commitment.proofs.Beside.{no_concurrent_edit}
use Rattle.td_law_commitment.proofs.KeptText.{commits_keep_text}
use Rattle.td_law_commitment.proofs.Voted.{voted}
use Rattle.td_law_agreement.proofs.EveryFamily.{stable, none_unfit}
use Rattle.td_law_convergence.specs.Headline.{KeepsPromises}
use Rattle.td_law_convergence.specs.Promises.{RowsAreTheOrder, RowsArePart, RowsAgree, ConvergentAtoms}
use Rattle.td_law_convergence.specs.Promises.{ConvergentText, TextsConverge, row_ids}
use Rattle.td_law_convergence.specs.Subtrees.{SubtreesMeet}
use Rattle.td_law_convergence.proofs.Sublists.{sub_trans, sub_stands, stands_sub}
use Rattle.td_law_convergence.proofs.BelowMiddle.{subtrees_meet}
use Rattle.td_law_convergence.proofs.Texts.{rows_are_the_order, rows_are_part, convergent_atoms}
use Rattle.td_law_convergence.proofs.Texts.{convergent_text, texts_converge}

module _ (family : Family) (c : IsConsistent family) where
  pub subtrees : SubtreesMeet family
  subtrees = subtrees_meet family c (voted family c)

  pub rows : RowsArePart family
  rows = rows_are_part family c (voted family c) (one_decision family c)

  pub rows_whole : RowsAreTheOrder family
  rows_whole = rows_are_the_order family c (voted family c) (one_decision family c)

  pub atoms : ConvergentAtoms family
  atoms = convergent_atoms family c (voted family c) (one_decision family c)

  pub text : ConvergentText family
  text = convergent_text family c (voted family c) (one_decision family c)

  pub converge : TextsConverge family
  converge = texts_converge family c (voted family c) (one_decision family c)

  -- the rows at a moment are some of the atoms of the order of all operations
  rows_of_all : (t : Moment family) → IsSublist (row_ids (machine_at family t)) (order (all_ops family))
  rows_of_all t =
      sub_trans (row_ids (machine_at family t)) (order (machine_at family t).log) (order (all_ops family))
      (rows t).part
      (stable family c t)

  pub rows_agree : RowsAgree family
  rows_agree t u x y h i j =
      stands_sub (row_ids (machine_at family u)) (order (all_ops family)) (rows_of_all u)
      (order_distinct (all_ops family) (all_part family c).apart) x y
      (sub_stands (row_ids (machine_at family t)) (order (all_ops family)) (rows_of_all t) x y h) i j

  pub promises : KeepsPromises family
  promises =
      record {
        convergent_text = text;
        texts_converge = converge;
        stable_order = stable family c;
        one_decision = one_decision family c;
        decisions_agree = decisions_agree family c;
        commits_keep_text = commits_keep_text family c;
        no_concurrent_edit = no_concurrent_edit family c;
        nothing_unfit = none_unfit family c;
      }
