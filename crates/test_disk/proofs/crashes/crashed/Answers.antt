use Rattle.std.proofs.Common.{[], ◌∷◌, refl}
use Rattle.test_disk.proofs.crashes.crashed.Goals as goal

pub grow-requires-clause-piece : goal.grow-requires-clause-piece
grow-requires-clause-piece c = record { body = 5 ∷ 6 ∷ []; is = refl }
