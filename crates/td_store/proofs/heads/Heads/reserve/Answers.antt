use Rattle.std.proofs.Common.{◌≡◌, arith, length}
use Rattle.std.proofs.lemmas.List.{length-map}
use Rattle.td_store.proofs.StoredHeads.{roomier}
use Rattle.td_store.proofs.heads.Heads.reserve.Goals as goal

pub invariant_of-self-in_err-reserve-3 : goal.invariant_of-self-in_err-reserve-3
invariant_of-self-in_err-reserve-3 c =
    rw c.reserve.ensures.items (roomier c.self.inside.size c.self.inside.room c.self.inside.room _ _
    c.self.inside.ops.items c.self.inside.runs c.reserve-2.new.self c.self.inside.rows c.reserve-3.new.self
    c.self.invariant
    c.reserve-2.ensures.runs c.reserve-3.ensures.rows
    (omega (arith, c.self.invariant.runs_room, c.reserve-2.ensures.room))
    (omega (arith, c.self.invariant.rows_room, c.reserve-3.ensures.room))
    (omega (arith, c.self.invariant.ops_room, c.reserve.ensures.capacity)) c.self.invariant.places)

pub invariant_of-self-2 : goal.invariant_of-self-2
invariant_of-self-2 c =
    let count : length c.args.self.now.ops ≡ length c.self.inside.ops.items =
    rw (← c.self.view_is) (length-map c.self.inside.ops.items _) in
    rw c.reserve.ensures.items (roomier c.self.inside.size c.self.inside.room c.max-self-inside.result _ _
    c.self.inside.ops.items c.self.inside.runs c.reserve-2.new.self c.self.inside.rows c.reserve-3.new.self
    c.self.invariant
    c.reserve-2.ensures.runs c.reserve-3.ensures.rows
    (omega (
      arith,
      c.max-self-inside.ensures,
      c.self.invariant.runs_room,
      c.reserve-2.ensures.room,
      c.in_ok-reserve-2.ensures.ok,
    ))
    (omega (
      arith,
      c.max-self-inside.ensures,
      c.self.invariant.rows_room,
      c.reserve-3.ensures.room,
      c.in_ok-reserve-3.ensures.ok,
    ))
    (omega (
      arith,
      c.max-self-inside.ensures,
      c.self.invariant.ops_room,
      c.reserve.ensures.capacity,
      c.in_ok-reserve.ensures.ok,
    ))
    (omega (arith, c.max-self-inside.ensures, c.self.invariant.places, count, c.len.ensures, c.if-more-len.false)))
