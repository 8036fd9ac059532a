use Rattle.std.proofs.Common.{◌∙◌, subst}
use Rattle.td_list.specs.Items.{IsItem}
use Rattle.td_list.proofs.buffered.BufferedSequence.insert_before.Goals as goal

pub begin-requires-clause-new : goal.begin-requires-clause-new
begin-requires-clause-new g c = λ x i j. c.requires.new x i
    (subst (IsItem x) (c.in_ok-put_within.ensures.not c.if-branch.false) j)

pub put_now-requires-2-clause-new : goal.put_now-requires-2-clause-new
put_now-requires-2-clause-new g c = λ x i j. c.requires.new x i
    (subst (IsItem x) (c.in_ok-begin.ensures.not c.if-branch-2.false
    ∙ c.in_ok-put_within.ensures.not c.if-branch.false) j)
