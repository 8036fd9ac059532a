use Rattle.std.proofs.Common.{rules}
use Rattle.test_room.proofs.Staging.{zip_front}
use Rattle.test_room.proofs.room.side_by_side.run_both.Goals as goal

pub returns : goal.returns
returns g c =
    let s = c.split_at_mut-front in
    rw s.ensures.value (zip_front s.result.0.now c.front-1.given.0 s.result.1.now c.back-1.given.0 (search rules)
    (search rules))
