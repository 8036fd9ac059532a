use Rattle.std.proofs.Common.{rules, ◌≡◌}
use Rattle.std.specs.Int.{w32, to_be_bytes}
use Rattle.td_crc.specs.Crc.{crc32c}
use Rattle.td_journal.proofs.Checks.{next_is}
use Rattle.td_journal.proofs.check.Check.next.Goals as goal

pub returns-clause-bytes : goal.returns-clause-bytes
returns-clause-bytes c =
    let front : c.crc32c.result ≡ crc32c (to_be_bytes w32 c.args.self.crc) = search rules in
    next_is c.args.self.format c.args.self.crc c.crc32c.result c.crc32c_append.result c.args.body.now front
    c.crc32c_append.ensures
