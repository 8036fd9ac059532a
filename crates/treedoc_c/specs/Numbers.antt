-- The numbers of statuses, as `treedoc.h` has them.
use Rattle.std.specs.Prelude.{ℕ}
use Rattle.td_op.specs.declared.reply.Why.{Why}
use Rattle.td_op.specs.declared.reply.Why.TheVariants.{Size, Own, Atom as NoAtom, Proposal, Vote, Address}
use Rattle.td_session.specs.declared.fault.Fault.{Fault}
use Rattle.td_session.specs.declared.fault.Fault.TheVariants.{Memory as NoMemory, Site, Atom, Text, Dot, Packet}
use Rattle.td_session.specs.declared.fault.Fault.TheVariants.{Stretch, Journal, Long, Place}
use Rattle.treedoc_c.specs.declared.status.Status.{Status}
use Rattle.treedoc_c.specs.declared.status.Status.TheVariants.{Done, Made, Cancelled, Held, Position, Gone, Limit}
use Rattle.treedoc_c.specs.declared.status.Status.TheVariants.{NotOpen, New, Later, Repeat, Unfit, Taken, Dropped}
use Rattle.treedoc_c.specs.declared.status.Status.TheVariants.{Idle, Memory, Closed, Open, BadSite, BadAtom, BadText}
use Rattle.treedoc_c.specs.declared.status.Status.TheVariants.{BadDot, BadPacket, BadStretch, NoMessage, SmallRoom}
use Rattle.treedoc_c.specs.declared.status.Status.TheVariants.{BadJournal, LongJournal, BadUnit, BadPlace}

abbrev pub status_number : Status → ℕ
status_number Done = 0
status_number Made = 1
status_number Cancelled = 2
status_number Held = 3
status_number Position = 4
status_number Gone = 5
status_number Limit = 6
status_number NotOpen = 7
status_number New = 8
status_number Later = 9
status_number Repeat = 10
status_number Unfit = 11
status_number Taken = 12
status_number Dropped = 13
status_number Idle = 14
status_number Memory = 32
status_number Closed = 33
status_number Open = 34
status_number BadSite = 35
status_number BadAtom = 36
status_number BadText = 37
status_number BadDot = 38
status_number BadPacket = 39
status_number BadStretch = 40
status_number NoMessage = 41
status_number SmallRoom = 42
status_number BadJournal = 43
status_number LongJournal = 44
status_number BadUnit = 45
status_number BadPlace = 46

abbrev pub fault_status : Fault → Status
fault_status NoMemory = Memory
fault_status Site = BadSite
fault_status Atom = BadAtom
fault_status Text = BadText
fault_status Dot = BadDot
fault_status (Packet at) = BadPacket
fault_status Stretch = BadStretch
fault_status Place = BadPlace
fault_status (Journal at) = BadJournal
fault_status Long = LongJournal

abbrev pub why_number : Why → ℕ
why_number Size = 0
why_number Own = 1
why_number NoAtom = 2
why_number Proposal = 3
why_number Vote = 4
why_number Address = 5
