-- Those that pass stand first, and the last passes.
use Rattle.std.proofs.Common.{◌≡◌, ◌-◌, ℕ, List, Bool, Some, true, false, length, ap, ◌∙◌, arith}
use Rattle.std.proofs.lemmas.Option.{get_or_from_slice_get}
use Rattle.std.specs.List.{slice_get}
use Rattle.std.specs.List.Sorted.{IsPartitionedBy, IsPartitionPoint}

pub all_pass_first : {X : Type 0} (test : X → Bool) (xs : List X) (last : X) → IsPartitionedBy test xs
    → slice_get xs (length xs - 1) ≡ Some last → test last ≡ true
    → IsPartitionPoint (λ (x : X). test x ≡ true) (λ (x : X). test x ≡ false) xs (length xs)
all_pass_first test xs last first e h = (
  λ i d from l.
      first i (length xs - 1) d (omega (arith, l)) (omega (arith, l))
      (ap test (get_or_from_slice_get xs (length xs - 1) last d e) ∙ h),
  λ i d from l. absurd (omega (arith, from, l)),
)
