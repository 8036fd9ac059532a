use Rattle.td_script.proofs.LiveFits.{editors_few, editors_fit, lines_fit, sites_fit}
use Rattle.td_script.proofs.live.laws.spelled_live_scripts_are_fit.Goals as goal

pub returns-clause-sites : goal.returns-clause-sites
returns-clause-sites c = sites_fit

pub returns-clause-editors : goal.returns-clause-editors
returns-clause-editors c = editors_fit

pub returns-clause-few : goal.returns-clause-few
returns-clause-few c = editors_few

pub returns-clause-lines : goal.returns-clause-lines
returns-clause-lines c = lines_fit
