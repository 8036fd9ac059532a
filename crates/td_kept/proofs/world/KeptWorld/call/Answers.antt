use Rattle.std.proofs.Common.{◌≡◌, Err, ap, set}
use Rattle.td_journal.specs.declared.fault.KeptFault.TheVariants.{Full}
use Rattle.td_op.specs.declared.input.Input.TheVariants.{Local}
use Rattle.td_op.specs.declared.reply.Reply.{Reply}
use Rattle.td_kept.proofs.Calling.{seat_there, reply_is, step_is, full_is, kept_step, kept_full, size_is}
use Rattle.td_kept.proofs.Calling.{no_full, no_closed, no_disk}
use Rattle.td_kept.proofs.Seating.{kept_spent}
use Rattle.td_kept.proofs.Staging.{err_on}
use Rattle.td_kept.proofs.world.KeptWorld.call.Goals as goal

pub step-requires : goal.step-requires
step-requires g c =
    seat_there c.self.inside.seats.items c.self.inside.sent.items c.self.inside.spent c.args.site c.place.result
    c.index_mut.result.now c.self.invariant c.if-self.false c.place.ensures.place c.place.ensures.least c.args.self.now
    c.self.view_is c.requires.within c.index_mut.ensures.value

pub invariant_of-self : goal.invariant_of-self
invariant_of-self g c =
    kept_step c.self.inside.seats.items c.self.inside.sent.items c.self.inside.spent c.args.site c.place.result
    c.index_mut.result.now c.self.invariant c.if-self.false c.place.ensures.place c.place.ensures.least c.args.self.now
    c.self.view_is c.requires.within c.index_mut.ensures.value c.args.request
    c.step.new.self c.step.new.sent.items c.self.inside.spent c.is_in_range.ensures c.in-Ok.ensures.ok

pub invariant_of-self-in-Err-Full : goal.invariant_of-self-in-Err-Full
invariant_of-self-in-Err-Full g c =
    let told = c.in-Err-Full.ensures.full c.in-Err-Full.len (ap (λ x. Err x) c.in-Err-Full.field-0-is) in
    kept_full c.self.inside.seats.items c.self.inside.sent.items c.self.inside.spent c.args.site c.place.result
    c.index_mut.result.now c.self.invariant c.if-self.false c.place.ensures.place c.place.ensures.least c.args.self.now
    c.self.view_is c.requires.within c.index_mut.ensures.value
    c.step.new.self c.step.new.sent.items c.self.inside.spent told.2 told.3

pub returns-in-Ok-clause-world : goal.returns-in-Ok-clause-world
returns-in-Ok-clause-world g c = (
    kept_step c.self.inside.seats.items c.self.inside.sent.items c.self.inside.spent c.args.site c.place.result
    c.index_mut.result.now c.self.invariant c.if-self.false c.place.ensures.place c.place.ensures.least c.args.self.now
    c.self.view_is c.requires.within c.index_mut.ensures.value c.args.request
    c.step.new.self c.step.new.sent.items c.self.inside.spent c.is_in_range.ensures c.in-Ok.ensures.ok).world

pub returns-in-Ok-clause-size : goal.returns-in-Ok-clause-size
returns-in-Ok-clause-size g c =
    size_is c.self.inside.seats.items c.self.inside.sent.items c.self.inside.spent c.args.site c.place.result
    c.index_mut.result.now c.self.invariant c.if-self.false c.place.ensures.place c.place.ensures.least c.args.self.now
    c.self.view_is c.requires.within c.index_mut.ensures.value c.step.new.self
    c.step.new.sent.items

pub returns-in-Err-Full-clause-world : goal.returns-in-Err-Full-clause-world
returns-in-Err-Full-clause-world g c =
    let told = c.in-Err-Full.ensures.full c.in-Err-Full.len (ap (λ x. Err x) c.in-Err-Full.field-0-is) in (
    kept_full c.self.inside.seats.items c.self.inside.sent.items c.self.inside.spent c.args.site c.place.result
    c.index_mut.result.now c.self.invariant c.if-self.false c.place.ensures.place c.place.ensures.least c.args.self.now
    c.self.view_is c.requires.within c.index_mut.ensures.value
    c.step.new.self c.step.new.sent.items c.self.inside.spent told.2 told.3).world

pub returns-in-Err-Full-clause-size : goal.returns-in-Err-Full-clause-size
returns-in-Err-Full-clause-size g c =
    size_is c.self.inside.seats.items c.self.inside.sent.items c.self.inside.spent c.args.site c.place.result
    c.index_mut.result.now c.self.invariant c.if-self.false c.place.ensures.place c.place.ensures.least c.args.self.now
    c.self.view_is c.requires.within c.index_mut.ensures.value c.step.new.self
    c.step.new.sent.items

pub returns-in-Ok-clause-reply : goal.returns-in-Ok-clause-reply
returns-in-Ok-clause-reply g c =
    reply_is c.self.inside.seats.items c.self.inside.sent.items c.self.inside.spent c.args.site c.place.result
    c.index_mut.result.now c.self.invariant c.if-self.false c.place.ensures.place c.place.ensures.least c.args.self.now
    c.self.view_is c.requires.within c.index_mut.ensures.value (Local c.args.request)
    c.in-Ok.reply c.in-Ok.ensures.reply

pub returns-in-Ok-clause-ok : goal.returns-in-Ok-clause-ok
returns-in-Ok-clause-ok g c =
    step_is c.self.inside.seats.items c.self.inside.sent.items c.self.inside.spent c.args.site c.place.result
    c.index_mut.result.now c.self.invariant c.if-self.false c.place.ensures.place c.place.ensures.least c.args.self.now
    c.self.view_is c.requires.within c.index_mut.ensures.value (Local c.args.request)
    c.step.new.self c.step.new.sent.items c.in-Ok.ensures.fits c.in-Ok.ensures.ok

pub returns-in-Err-Full-clause-full : goal.returns-in-Err-Full-clause-full
returns-in-Err-Full-clause-full g c = λ len is_full.
    let told = c.in-Err-Full.ensures.full len
    (err_on Reply c.in-Err-Full.field-0 (Full c.in-Err-Full.len) (Full len) c.in-Err-Full.field-0-is is_full) in
    full_is c.self.inside.seats.items c.self.inside.sent.items c.self.inside.spent c.args.site c.place.result
    c.index_mut.result.now c.self.invariant c.if-self.false c.place.ensures.place c.place.ensures.least c.args.self.now
    c.self.view_is c.requires.within c.index_mut.ensures.value (Local c.args.request)
    len c.step.new.self c.step.new.sent.items told.0 told.1 told.2 told.3

pub returns-in-Err : goal.returns-in-Err
returns-in-Err g c =
    let size_now =
    size_is c.self.inside.seats.items c.self.inside.sent.items c.self.inside.spent c.args.site c.place.result
    c.index_mut.result.now c.self.invariant c.if-self.false c.place.ensures.place c.place.ensures.least c.args.self.now
    c.self.view_is c.requires.within c.index_mut.ensures.value c.step.new.self
    c.step.new.sent.items in
    record {
      reply = tt;
      ok = tt;
      full = λ len e. absurd (no_full c.spend.result c.spend.ensures.fault len e);
      closed = no_closed c.spend.result c.spend.ensures.fault c.self.inside.seats.items c.self.inside.sent.items
          c.self.inside.spent c.args.self.now c.self.view_is c.if-self.false;
      memory = λ e. c.spend.ensures.spent;
      not_disk = no_disk c.spend.result c.spend.ensures.fault;
      world = (kept_spent (set c.self.inside.seats.items c.place.result c.step.new.self) c.step.new.sent.items
          c.spend.new.spent c.spend.ensures.spent).world;
      size = size_now;
    }
