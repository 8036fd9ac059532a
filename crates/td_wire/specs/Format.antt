-- Which messages a format can say: format 2 all of them, and the older format 1 those of a first version of the
-- buffer.
use Rattle.std.specs.Prelude.{◌≡◌, ◌≤◌, length}
use Rattle.td_base.specs.Value.{AtomIdValue}
use Rattle.td_path.specs.declared.slot.Slot.{Slot}
use Rattle.td_path.specs.declared.slot.Slot.TheVariants.{Root, At}
use Rattle.td_op.specs.declared.body.Body.{Body}
use Rattle.td_op.specs.declared.body.Body.TheVariants.{Insert, Delete, Propose, Commit, Abort}
use Rattle.td_op.specs.declared.message.Message.{Message}
use Rattle.td_op.specs.declared.message.Message.TheVariants.{Op, Vote}
use Rattle.td_op.specs.Message.{IsMessage}
use Rattle.td_wire.specs.declared.format.Format.{Format}
use Rattle.td_wire.specs.declared.format.Format.TheVariants.{One, Two}
use Rattle.td_wire.specs.declared.format.TheConstants.{MAX_OLD_SITE}

-- the identity of the first atom of an insert, which an older program takes for the insert's only one
abbrev pub IsFirst : AtomIdValue → Type 0
IsFirst x = x.offset ≡ 0

abbrev pub IsOldSlot : Slot → Type 0
IsOldSlot Root = Unit {0}
IsOldSlot (At atom bit) = IsFirst atom

abbrev pub IsOldBody : Body → Type 0
IsOldBody (Insert slot run) = IsOldSlot slot × (length run ≡ 1)
IsOldBody (Delete target) = IsFirst target
IsOldBody (Propose slot) = IsOldSlot slot
IsOldBody (Commit proposal) = Unit {0}
IsOldBody (Abort proposal) = Unit {0}

-- sites up to `MAX_OLD_SITE`, runs of one atom, and no offset (an operation names no site past its vector's size)
abbrev pub IsOld : Message → Type 0
IsOld (Op o) = (length o.deps ≤ MAX_OLD_SITE) × IsOldBody o.body
IsOld (Vote v) = (v.voter ≤ MAX_OLD_SITE) × (v.proposal.site ≤ MAX_OLD_SITE)

-- which messages a format can say
abbrev pub CanSay : Format → Message → Type 0
CanSay One m = IsMessage m × IsOld m
CanSay Two m = IsMessage m
