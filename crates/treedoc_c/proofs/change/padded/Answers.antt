use Rattle.std.proofs.Common.{refl}
use Rattle.treedoc_c.proofs.Padding.{padded_is}
use Rattle.treedoc_c.proofs.change.padded.Goals as goal

pub returns : goal.returns
returns c = padded_is c.args.bytes.now _ _ c.copy_from_slice.ensures.after refl
