use Rattle.std.proofs.Common.{◌∙◌, ap}
use Rattle.td_disk.proofs.Writes.{asked_follows}
use Rattle.td_disk.proofs.mem_disk.MemDiskDisk.write.Goals as goal

pub returns-clause-crash : goal.returns-clause-crash
returns-clause-crash c =
    asked_follows c.write.result c.args.self.now.past c.self.inside.past c.write.new.self c.answer.new.self.past
    c.args.at c.args.bytes.now (ap (λ d. d.past) (c.self.view_is ∙ c.call-told.ensures.counted))
    c.answer.ensures.past
    c.requires.within c.write.ensures.noted c.write.ensures.err
