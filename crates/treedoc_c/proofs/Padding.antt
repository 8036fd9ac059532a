-- Bytes that are copied to the front of zeros.
use Rattle.std.proofs.Common.{◌≡◌, ◌++◌, ◌∙◌, ℕ, List, ap, drop, length, replicate}
use Rattle.std.proofs.lemmas.List.{drop-replicate}
use Rattle.td_base.specs.Padded.{padded_with_zeros}
use Rattle.td_base.specs.declared.run.TheConstants.{MAX_RUN_LEN}

pub padded_is : (bytes copied zeros : List ℕ) → copied ≡ bytes → zeros ≡ replicate MAX_RUN_LEN 0
    → copied ++ drop (length bytes) zeros ≡ padded_with_zeros MAX_RUN_LEN bytes
padded_is bytes copied zeros same all =
    λ i. same i
    ++ (ap (λ (z : List ℕ). drop (length bytes) z) all ∙ drop-replicate (length bytes) MAX_RUN_LEN 0) i
