use Rattle.td_view.specs.Deeds.{published}
use Rattle.td_view.proofs.publishing.enter.Given as goal

abbrev pub ghosts-enter_picked : goal.ghosts-enter_picked
ghosts-enter_picked a = record { entry = published a.publishing.now a.shown.now.atoms }
