use Rattle.std.proofs.Common.{◌+◌, ap, ◌∙◌, refl, arith, length, ◌++◌}
use Rattle.td_base.specs.Padded.{len_again}
use Rattle.td_wire.specs.declared.length.TheConstants.{MAX_PACKET_LEN}
use Rattle.td_wire.proofs.Extended.{extended}
use Rattle.td_wire.proofs.packet_bytes.PacketBytes.extend.Goals as goal

pub invariant_of-self : goal.invariant_of-self
invariant_of-self c =
    let long = len_again MAX_PACKET_LEN c.self.inside.len c.self.inside.bytes c.self.invariant in
    (extended c.self.inside.len (c.self.inside.len + length c.args.piece.now) c.self.inside.bytes c.args.piece.now
    c.copy_from_slice.new.self c.self.invariant c.copy_from_slice.ensures.after refl
    (omega (arith, c.requires, ap length c.self.view_is))).0

pub returns : goal.returns
returns c =
    let long = len_again MAX_PACKET_LEN c.self.inside.len c.self.inside.bytes c.self.invariant in
    (extended c.self.inside.len (c.self.inside.len + length c.args.piece.now) c.self.inside.bytes c.args.piece.now
    c.copy_from_slice.new.self c.self.invariant c.copy_from_slice.ensures.after refl
    (omega (arith, c.requires, ap length c.self.view_is))).1
    ∙ ap (λ ys. ys ++ c.args.piece.now) c.self.view_is
