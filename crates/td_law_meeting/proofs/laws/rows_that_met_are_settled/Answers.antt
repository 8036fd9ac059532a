use Rattle.td_law_meeting.proofs.Matching.{have_met}
use Rattle.td_law_meeting.proofs.laws.rows_that_met_are_settled.Goals as goal

pub returns : goal.returns
returns c = λ accounts some few sites met. record {
  some = some;
  few = few;
  sites = sites;
  met = have_met accounts (λ place a e. let h = sites place a e in (h.0, h.1.peers)) met;
}
