use Rattle.std.proofs.Common.{◌≡◌, Err, ap, set}
use Rattle.td_journal.specs.declared.fault.KeptFault.TheVariants.{Full}
use Rattle.std.proofs.Common.{◌<◌, ◌∙◌, sym, length, vec_len, arith}
use Rattle.td_replica.specs.declared.given.Given.{Given}
use Rattle.td_kept.proofs.Calling.{seat_there, taken_is, give_is, cut_off_is, kept_give, kept_cut_off}
use Rattle.td_kept.proofs.Calling.{place_within, size_is, world_still, no_full, no_closed, no_disk}
use Rattle.td_kept.proofs.Seating.{kept_spent}
use Rattle.td_kept.proofs.Staging.{err_on}
use Rattle.td_kept.proofs.world.KeptWorld.give.Goals as goal

pub returns-in_default-clause-world : goal.returns-in_default-clause-world
returns-in_default-clause-world g c =
    world_still c.self.inside.seats.items c.self.inside.sent.items c.self.inside.spent c.args.self.now c.self.invariant
    c.self.view_is

pub returns-then-not-is_for-clause-world : goal.returns-then-not-is_for-clause-world
returns-then-not-is_for-clause-world g c =
    world_still c.self.inside.seats.items c.self.inside.sent.items c.self.inside.spent c.args.self.now c.self.invariant
    c.self.view_is

pub index_mut-requires : goal.index_mut-requires
index_mut-requires g c =
    let long : vec_len c.self.inside.seats ≡ length c.self.inside.seats.items =
    omega (arith, c.self.inside.seats.ok.0) in
    let low = place_within c.self.inside.seats.items c.self.inside.sent.items c.self.inside.spent c.args.to
    c.place.result c.args.self.now c.self.view_is c.place.ensures.place c.place.ensures.least c.requires.within in
    omega (arith, low, long)

pub give-requires : goal.give-requires
give-requires g c =
    seat_there c.self.inside.seats.items c.self.inside.sent.items c.self.inside.spent c.args.to c.place.result
    c.index_mut.result.now c.self.invariant c.if-self.false c.place.ensures.place c.place.ensures.least c.args.self.now
    c.self.view_is c.requires.within c.index_mut.ensures.value

pub invariant_of-self : goal.invariant_of-self
invariant_of-self g c =
    kept_give c.self.inside.seats.items c.self.inside.sent.items c.self.inside.spent c.args.to c.place.result
    c.index_mut.result.now c.self.invariant c.if-self.false c.place.ensures.place c.place.ensures.least c.args.self.now
    c.self.view_is c.requires.within c.index_mut.ensures.value c.args.number
    c.in-Some.message (sym c.numbered.ensures ∙ c.in-Some.is)
    (sym c.is_for.ensures ∙ c.if-not-is_for.false) c.is_in_range.ensures
    c.give.new.self c.give.new.sent.items c.self.inside.spent c.in-Ok.ensures.ok

pub invariant_of-self-in-Err-Full : goal.invariant_of-self-in-Err-Full
invariant_of-self-in-Err-Full g c =
    let told = c.in-Err-Full.ensures.full c.in-Err-Full.len (ap (λ x. Err x) c.in-Err-Full.field-0-is) in
    kept_cut_off c.self.inside.seats.items c.self.inside.sent.items c.self.inside.spent c.args.to c.place.result
    c.index_mut.result.now c.self.invariant c.if-self.false c.place.ensures.place c.place.ensures.least c.args.self.now
    c.self.view_is c.requires.within c.index_mut.ensures.value c.args.number
    c.in-Some.message (sym c.numbered.ensures ∙ c.in-Some.is)
    (sym c.is_for.ensures ∙ c.if-not-is_for.false) c.is_in_range.ensures
    c.give.new.self c.give.new.sent.items c.self.inside.spent told.2

pub returns-in-Ok-clause-world : goal.returns-in-Ok-clause-world
returns-in-Ok-clause-world g c = (
    kept_give c.self.inside.seats.items c.self.inside.sent.items c.self.inside.spent c.args.to c.place.result
    c.index_mut.result.now c.self.invariant c.if-self.false c.place.ensures.place c.place.ensures.least c.args.self.now
    c.self.view_is c.requires.within c.index_mut.ensures.value c.args.number
    c.in-Some.message (sym c.numbered.ensures ∙ c.in-Some.is)
    (sym c.is_for.ensures ∙ c.if-not-is_for.false) c.is_in_range.ensures
    c.give.new.self c.give.new.sent.items c.self.inside.spent c.in-Ok.ensures.ok).world

pub returns-in-Ok-clause-size : goal.returns-in-Ok-clause-size
returns-in-Ok-clause-size g c =
    size_is c.self.inside.seats.items c.self.inside.sent.items c.self.inside.spent c.args.to c.place.result
    c.index_mut.result.now c.self.invariant c.if-self.false c.place.ensures.place c.place.ensures.least c.args.self.now
    c.self.view_is c.requires.within c.index_mut.ensures.value c.give.new.self
    c.give.new.sent.items

pub returns-in-Err-Full-clause-world : goal.returns-in-Err-Full-clause-world
returns-in-Err-Full-clause-world g c =
    let told = c.in-Err-Full.ensures.full c.in-Err-Full.len (ap (λ x. Err x) c.in-Err-Full.field-0-is) in (
    kept_cut_off c.self.inside.seats.items c.self.inside.sent.items c.self.inside.spent c.args.to c.place.result
    c.index_mut.result.now c.self.invariant c.if-self.false c.place.ensures.place c.place.ensures.least c.args.self.now
    c.self.view_is c.requires.within c.index_mut.ensures.value c.args.number
    c.in-Some.message (sym c.numbered.ensures ∙ c.in-Some.is)
    (sym c.is_for.ensures ∙ c.if-not-is_for.false) c.is_in_range.ensures
    c.give.new.self c.give.new.sent.items c.self.inside.spent told.2).world

pub returns-in-Err-Full-clause-size : goal.returns-in-Err-Full-clause-size
returns-in-Err-Full-clause-size g c =
    size_is c.self.inside.seats.items c.self.inside.sent.items c.self.inside.spent c.args.to c.place.result
    c.index_mut.result.now c.self.invariant c.if-self.false c.place.ensures.place c.place.ensures.least c.args.self.now
    c.self.view_is c.requires.within c.index_mut.ensures.value c.give.new.self
    c.give.new.sent.items

pub returns-in-Ok-clause-given : goal.returns-in-Ok-clause-given
returns-in-Ok-clause-given g c =
    taken_is c.self.inside.seats.items c.self.inside.sent.items c.self.inside.spent c.args.to c.place.result
    c.index_mut.result.now c.self.invariant c.if-self.false c.place.ensures.place c.place.ensures.least c.args.self.now
    c.self.view_is c.requires.within c.index_mut.ensures.value c.args.number
    c.in-Some.message (sym c.numbered.ensures ∙ c.in-Some.is)
    (sym c.is_for.ensures ∙ c.if-not-is_for.false) c.is_in_range.ensures
    c.in-Ok.given c.in-Ok.ensures.given

pub returns-in-Ok-clause-ok : goal.returns-in-Ok-clause-ok
returns-in-Ok-clause-ok g c =
    give_is c.self.inside.seats.items c.self.inside.sent.items c.self.inside.spent c.args.to c.place.result
    c.index_mut.result.now c.self.invariant c.if-self.false c.place.ensures.place c.place.ensures.least c.args.self.now
    c.self.view_is c.requires.within c.index_mut.ensures.value c.args.number
    c.in-Some.message (sym c.numbered.ensures ∙ c.in-Some.is)
    (sym c.is_for.ensures ∙ c.if-not-is_for.false) c.is_in_range.ensures
    c.give.new.self c.give.new.sent.items c.in-Ok.ensures.fits c.in-Ok.ensures.ok

pub returns-in-Err-Full-clause-full : goal.returns-in-Err-Full-clause-full
returns-in-Err-Full-clause-full g c = λ len is_full.
    let told = c.in-Err-Full.ensures.full len
    (err_on Given c.in-Err-Full.field-0 (Full c.in-Err-Full.len) (Full len) c.in-Err-Full.field-0-is is_full) in
    cut_off_is c.self.inside.seats.items c.self.inside.sent.items c.self.inside.spent c.args.to c.place.result
    c.index_mut.result.now c.self.invariant c.if-self.false c.place.ensures.place c.place.ensures.least c.args.self.now
    c.self.view_is c.requires.within c.index_mut.ensures.value c.args.number
    c.in-Some.message (sym c.numbered.ensures ∙ c.in-Some.is)
    (sym c.is_for.ensures ∙ c.if-not-is_for.false) c.is_in_range.ensures len
    c.give.new.self c.give.new.sent.items told.0 told.1 told.2

pub returns-in-Err : goal.returns-in-Err
returns-in-Err g c =
    let size_now =
    size_is c.self.inside.seats.items c.self.inside.sent.items c.self.inside.spent c.args.to c.place.result
    c.index_mut.result.now c.self.invariant c.if-self.false c.place.ensures.place c.place.ensures.least c.args.self.now
    c.self.view_is c.requires.within c.index_mut.ensures.value c.give.new.self
    c.give.new.sent.items in
    record {
      given = tt;
      ok = tt;
      full = λ len e. absurd (no_full c.spend.result c.spend.ensures.fault len e);
      closed = no_closed c.spend.result c.spend.ensures.fault c.self.inside.seats.items c.self.inside.sent.items
          c.self.inside.spent c.args.self.now c.self.view_is c.if-self.false;
      memory = λ e. c.spend.ensures.spent;
      not_disk = no_disk c.spend.result c.spend.ensures.fault;
      world = (kept_spent (set c.self.inside.seats.items c.place.result c.give.new.self) c.give.new.sent.items
          c.spend.new.spent c.spend.ensures.spent).world;
      size = size_now;
    }
