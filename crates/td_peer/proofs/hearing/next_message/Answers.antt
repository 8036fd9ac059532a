use Rattle.std.proofs.Common.{sym, subst, ℕ, List}
use Rattle.td_wire.specs.Spelling.{SpellsIn}
use Rattle.td_peer.proofs.hearing.next_message.Goals as goal

pub returns-in-Err-clause-taken : goal.returns-in-Err-clause-taken
returns-in-Err-clause-taken g c =
    let s = c.bytes.ensures.spelling in
    absurd (c.in-Err.ensures.malformed s.0 (subst (λ (b : List ℕ). SpellsIn s.0 b) (sym c.bytes.ensures.bytes)
    (_, s.1)))
