use Rattle.std.proofs.Common.{arith}
use Rattle.td_base.proofs.RunPieces.{bytes_are}
use Rattle.td_base.proofs.run.Run.bytes.Goals as goal

pub returns : goal.returns
returns c = bytes_are 64 c.args.self.now c.self.inside.bytes c.self.inside.ends (omega arith)
    (rw (← c.self.view_is) c.self.invariant.run)
    (rw (← c.self.view_is) c.self.invariant.bytes_again) (rw (← c.self.view_is) c.self.invariant.ends_again)
