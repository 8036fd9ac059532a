use Rattle.td_brackets.proofs.Runs.{run_inserted}
use Rattle.td_brackets.proofs.laws.a_run_may_be_put_as_one_leaf.Goals as goal

pub returns : goal.returns
returns c = λ table tokens stack before m after half live front back d unknown p behind. run_inserted table tokens
    stack before m after half live front back d unknown p behind
