-- Counts of calls and of faults, which are a u64 and stand still at its end.
use Rattle.std.specs.Prelude.{◌≡◌, ◌<◌, ◌+◌, ◌-◌, ◌^◌, ◌⊎◌, ℕ, Option, None, Some, nat_eq, min, if◌then◌else◌}

abbrev pub greatest_count : ℕ
greatest_count = 2 ^ 64 - 1

-- the count after one more
abbrev pub counted : ℕ → ℕ
counted count = min (count + 1) greatest_count

-- the count rose, or stands at its end
abbrev pub Rose : ℕ → ℕ → Type 0
Rose old new = (old < new) ⊎ (new ≡ greatest_count)

-- the number of the first call that found the end, once this call gave so many bytes
abbrev pub end_found : Option ℕ → ℕ → ℕ → Option ℕ
end_found (Some first) call given = Some first
end_found None call given = if nat_eq given 0 then Some call else None
