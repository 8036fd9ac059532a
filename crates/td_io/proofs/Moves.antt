-- Moves of one piece after another.
use Rattle.std.proofs.Common.{◌≡◌, ◌≤◌, ◌+◌, ◌-◌, ◌++◌, ℕ, List, None, Some, length, take, drop}
use Rattle.std.proofs.Common.{refl, sym, ap, ◌∙◌, arith, append_assoc, length-append}
use Rattle.std.proofs.Math.Seq.{take-add}
use Rattle.std.proofs.lemmas.List.{take_rest, length-take}
use Rattle.std.proofs.KnownBytes.{Consumes-trans}
use Rattle.std.specs.Prelude.{Option}
use Rattle.std.specs.Io.KnownBytes.{Appends, Consumes}
use Rattle.td_io.specs.Whole.{ConsumesFirst}

-- after the first n of the bytes the next k were put
pub appends_next : (old mid new : Option (List ℕ)) (bytes : List ℕ) (n k : ℕ) → Appends old mid (take n bytes)
    → Appends mid new (take k (take (length bytes - n) (drop n bytes)))
    → Appends old new (take (n + k) bytes)
appends_next None mid new bytes n k first next = tt
appends_next (Some held) None new bytes n k first next = absurd first
appends_next (Some held) (Some more) None bytes n k first next = absurd next
appends_next (Some held) (Some more) (Some all) bytes n k first next =
    let rest : take k (take (length bytes - n) (drop n bytes))
    ≡ take k (drop n bytes) = ap (λ (b : List ℕ). take k b) (take_rest bytes n) in
    let both : take n bytes ++ take k (drop n bytes) ≡ take (n + k) bytes = sym (take-add n k bytes) in
    next ∙ (λ i. first i ++ rest i) ∙ append_assoc held (take n bytes) (take k (drop n bytes))
    ∙ ap (λ (b : List ℕ). held ++ b) both

-- after some bytes the first k of a buffer were taken
pub consumes_next : (old mid new : Option (List ℕ)) (taken buf : List ℕ) (k most : ℕ) → Consumes old mid taken
    → Consumes mid new (take k buf) → length taken + k ≤ most
    → (n : ℕ) × (n ≤ most) × ConsumesFirst old new n
consumes_next old mid new taken buf k most first next fits =
    let all : List ℕ = taken ++ take k buf in (
      length all,
      omega (arith, length-append taken (take k buf), length-take k buf),
      (all, refl, Consumes-trans old mid new taken (take k buf) first next),
    )
