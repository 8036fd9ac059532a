use Rattle.std.proofs.Common.{refl, ap}
use Rattle.td_disk.proofs.Writes.{asked_follows}
use Rattle.td_disk.proofs.file_disk.FileDiskDisk.write.Goals as goal
use Rattle.td_disk.proofs.file_disk.FileDiskDisk.write.Goals.{then-is_ok+in-Err, else-is_ok}

pub returns-clause-crash : goal.returns-clause-crash
returns-clause-crash c =
    asked_follows c.write.result c.args.self.now.past c.args.self.now.past c.write.new.self c.if-is_ok.self.past
    c.args.at c.args.bytes.now refl
    (elim c.if-is_ok.branch [
      | then-is_ok+in-Err w ↦ ap (λ d. d.past) w.self-is
      | else-is_ok w ↦ ap (λ d. d.past)
          w.self-is
    ])
    c.requires.within c.write.ensures.noted c.write.ensures.err
