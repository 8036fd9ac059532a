use Rattle.td_journal.specs.declared.fault.KeptFault.TheVariants as Fault
use Rattle.td_shell.proofs.Keeping.{not_kept, only_two, same_place_by}
use Rattle.td_shell.proofs.Staged.{told}
use Rattle.td_shell.proofs.answering.keep.Goals as goal

pub returns-in-Ok-clause-kept : goal.returns-in-Ok-clause-kept
returns-in-Ok-clause-kept g c =
    record {
      open_still = c.in-Ok.ensures.open;
      counted = c.in-Ok.ensures.acknowledged;
      leaves = c.in-Ok.ensures.leaves;
    }

pub returns-in-Ok-clause-place : goal.returns-in-Ok-clause-place
returns-in-Ok-clause-place g c =
    same_place_by c.args.kept.now c.commit.new.self c.commit.ensures.same.0 c.commit.ensures.same.1

pub returns-in-Ok-clause-any_moment : goal.returns-in-Ok-clause-any_moment
returns-in-Ok-clause-any_moment g c = c.commit.ensures.any_moment c.requires

pub returns-in-Err-clause-place : goal.returns-in-Err-clause-place
returns-in-Err-clause-place g c =
    same_place_by c.args.kept.now c.commit.new.self c.commit.ensures.same.0 c.commit.ensures.same.1

pub returns-in-Err-clause-any_moment : goal.returns-in-Err-clause-any_moment
returns-in-Err-clause-any_moment g c = c.commit.ensures.any_moment c.requires

pub returns-in-Err-clause-failed : goal.returns-in-Err-clause-failed
returns-in-Err-clause-failed g c =
    let k = c.args.kept.now in
    not_kept k c.commit.new.self c.in-Err.fault c.of.result c.of.ensures c.requires
    (λ e. c.in-Err.ensures.closed.0 (told c.in-Err.fault Fault.Closed e))
    (only_two c.in-Err.fault c.in-Err.ensures.only)
    (λ e. c.in-Err.ensures.disk (told c.in-Err.fault Fault.Disk e))
