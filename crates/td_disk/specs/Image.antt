-- The images of a crash that a disk in memory makes, one for each choice.
use Rattle.std.specs.Prelude.{◌==◌, ◌%◌, ℕ, List, [], ◌∷◌, replicate, if◌then◌else◌}
use Rattle.td_disk.specs.Device.{overwritten}
use Rattle.td_disk.specs.Events.{Device}

-- the file with each byte of these ranges turned into this one, of which the oldest comes last
abbrev pub filled : ℕ → List (ℕ × ℕ) → List ℕ → List ℕ
filled byte [] file = file
filled byte (write ∷ earlier) file = overwritten (filled byte earlier file) write.0 (replicate write.1 byte)

-- 0: what the last sync left; 1: all that was written; else each pending byte is the choice mod 256
abbrev pub image : ℕ → Device → List ℕ
image choice d =
    if choice == 0 then d.synced else if choice == 1 then d.reads else filled (choice % 256) d.pending d.synced
