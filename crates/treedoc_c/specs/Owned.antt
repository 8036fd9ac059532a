-- What a handle owns: what a box of its value owns, if it has one.
use base.Fml.{Fml, ftrue}
use base.Stored.{Coded}
use denote.RawPtr.{Ptr}
use Rattle.std.specs.Prelude.{Option, Some, None}
use Rattle.std.specs.Box.Ownership.{box_owns}
use Rattle.std.specs.Global.{Global}
use Rattle.std_heap.specs.contracts.GlobalAllocator.TheImpl.{ghosts}
use Rattle.td_session.specs.contracts.session.Session.{the_row}
use Rattle.std.specs.Coded.{coded_option}

abbrev pub Held : Type 0
Held = Option the_row.Denot

unfoldable pub held : Global → Ptr → Held → Fml
held alloc p None = ftrue
held alloc p (Some v) = box_owns (ghosts.dealloc_token alloc) the_row p v

abbrev pub held_coded : Coded Held
held_coded = coded_option the_row.coded
