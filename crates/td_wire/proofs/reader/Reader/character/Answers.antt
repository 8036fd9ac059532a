use Rattle.std.proofs.Common.{arith}
use Rattle.td_wire.proofs.Loops.{character_done}
use Rattle.td_wire.proofs.reader.Reader.character.Goals as goal

pub returns-clause-read : goal.returns-clause-read
returns-clause-read c =
    character_done c.args.room c.in_ok-first.first c.character_len-len.result c.second_range-least.result.0
    c.second_range-least.result.1 c.args.self.now.rest.now c.lead.new.self.rest.now
    c.continuations.new.self.rest.now c.character_len-len.ensures
    (omega (arith, c.in_ok-first.ensures.some, c.character_len-len.ensures)) c.second_range-least.ensures.least
    c.second_range-least.ensures.most c.in_ok-first.ensures.read c.in_ok-continuations.ensures
