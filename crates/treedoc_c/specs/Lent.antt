-- What a handle has once what it lent comes back.
use base.Fml.{Fml}
use denote.Ref.{MutBor}
use denote.Follow.{follows}
use Rattle.std.specs.Prelude.{Some}
use Rattle.td_session.specs.contracts.session.Session.{the_row as session_row}
use Rattle.treedoc_c.specs.declared.handle.Handle.{Handle}
use Rattle.treedoc_c.specs.contracts.handle.Handle.{the_row as handle_row}

-- the handle with the value w
abbrev pub with_value : Handle → session_row.Denot → Handle
with_value h w = record { ptr = h.ptr; alloc = h.alloc; value = Some w }

-- once the borrow r ends, the handle behind b has the last value written through r
abbrev pub handle_follows : MutBor Handle → MutBor session_row.Denot → Fml
handle_follows b r = follows handle_row session_row b.ghost_name r.ghost_name (with_value b.now)
