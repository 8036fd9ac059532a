use Rattle.std.proofs.Common.{[], ◌∷◌, ◌++◌, sym, ◌∙◌, ap}
use Rattle.td_disk.specs.Gated.{disk_of}
use Rattle.td_journal.specs.Check.{bytes_of}
use Rattle.td_journal.specs.Journal.{inputs_of}
use Rattle.td_journal.specs.Kept.{acknowledged_of, staged_of}
use Rattle.td_journal.proofs.Keeping.{rest_after, either_after}
use Rattle.td_journal.proofs.kept.Kept.step.Goals as goal

pub returns-in_err-reply-clause-any_moment : goal.returns-in_err-reply-clause-any_moment
returns-in_err-reply-clause-any_moment g c = λ is_open.
    let s = c.args.self.now in
    rest_after g.K.Disk s.check.format s.replica.machine.site s.replica.machine.size
    (acknowledged_of s.acknowledged s.replica) (staged_of s.acknowledged s.replica)
    (inputs_of s.replica.entries ++ c.args.input ∷ []) s.journal c.stage.new.self.journal (bytes_of s.check) s.staged
    c.stage.ensures.others.0 (s.kept is_open)
    (λ f left. g.met.K.Disk.only_now (disk_of s.journal) f left)

pub returns-in_err-commit-clause-any_moment : goal.returns-in_err-commit-clause-any_moment
returns-in_err-commit-clause-any_moment g c = λ is_open.
    let s = c.args.self.now in
    let o = c.stage.ensures.others in
    either_after g.K.Disk s.check.format c.stage.new.self.check.format s.replica c.stage.new.self.replica c.args.input
    s.acknowledged c.stage.new.self.acknowledged
    (disk_of s.journal) (disk_of c.stage.new.self.journal) (disk_of c.commit.new.self.journal) (sym o.1) (sym o.2)
    (ap disk_of (sym o.0))
    c.in_ok-reply.ensures.ok s.counted.within (record
    { site = c.stage.ensures.place.0; size = c.stage.ensures.place.1 })
    (c.commit.ensures.any_moment (o.4 ∙ is_open))

pub returns-clause-any_moment : goal.returns-clause-any_moment
returns-clause-any_moment g c = λ is_open.
    let s = c.args.self.now in
    let o = c.stage.ensures.others in
    either_after g.K.Disk s.check.format c.stage.new.self.check.format s.replica c.stage.new.self.replica c.args.input
    s.acknowledged c.stage.new.self.acknowledged
    (disk_of s.journal) (disk_of c.stage.new.self.journal) (disk_of c.commit.new.self.journal) (sym o.1) (sym o.2)
    (ap disk_of (sym o.0))
    c.in_ok-reply.ensures.ok s.counted.within (record
    { site = c.stage.ensures.place.0; size = c.stage.ensures.place.1 })
    (c.commit.ensures.any_moment (o.4 ∙ is_open))

pub returns-in_err-reply-clause-long : goal.returns-in_err-reply-clause-long
returns-in_err-reply-clause-long g c = c.stage.ensures.long

pub returns-in_err-commit-clause-long : goal.returns-in_err-commit-clause-long
returns-in_err-commit-clause-long g c = c.stage.ensures.long

pub returns-clause-long : goal.returns-clause-long
returns-clause-long g c = c.stage.ensures.long
