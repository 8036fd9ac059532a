use Rattle.std.proofs.Common.{inr}
use Rattle.std.proofs.lemmas.Result.{on_ok_weaker, on_err_weaker}
use Rattle.td_disk.proofs.writing.put.Goals as goal

pub returns-clause-done : goal.returns-clause-done
returns-clause-done g c =
    on_ok_weaker c.sync.result (λ synced. (c.write.new.self, c.in_ok-write.ensures.done, synced)) c.sync.ensures.done

pub returns-clause-not_done : goal.returns-clause-not_done
returns-clause-not_done g c =
    on_err_weaker c.sync.result (λ failed. inr (c.write.new.self, c.in_ok-write.ensures.done, failed))
    c.sync.ensures.not_done
