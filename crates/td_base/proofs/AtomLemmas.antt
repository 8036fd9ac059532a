-- How an `Atom` keeps its bytes.
use Rattle.std.proofs.Common.{◌≡◌, ◌<◌, ◌≤◌, ◌++◌, ℕ, List, length, drop, replicate, ap, ◌∙◌}
use Rattle.std.proofs.lemmas.List.{drop-replicate}
use Rattle.std.specs.Str.{IsUtf8}
use Rattle.td_base.specs.Padded.{padded_with_zeros}
use Rattle.td_base.specs.AtomParts.{IsAtomParts}
use Rattle.td_base.specs.declared.atom.TheConstants.{MAX_ATOM_LEN}
use Rattle.td_base.proofs.Padding.{padded, front_again}

padded_parts : (bytes : List ℕ) → 0 < length bytes → length bytes ≤ MAX_ATOM_LEN → IsUtf8 bytes
    → IsAtomParts (length bytes) (padded_with_zeros MAX_ATOM_LEN bytes)
padded_parts bytes some short text =
    record {
      some = some;
      padded = padded MAX_ATOM_LEN bytes short;
      text = rw (front_again MAX_ATOM_LEN bytes) text;
    }

-- bytes copied to the front of an array of zeros
pub parts_of : (bytes copied zeros : List ℕ) → 0 < length bytes → length bytes ≤ MAX_ATOM_LEN → IsUtf8 bytes
    → copied ≡ bytes → zeros ≡ replicate MAX_ATOM_LEN 0
    → IsAtomParts (length bytes) (copied ++ drop (length bytes) zeros)
parts_of bytes copied zeros some short text same all =
    let array : copied ++ drop (length bytes) zeros ≡ padded_with_zeros MAX_ATOM_LEN bytes =
    λ i. same i ++ (ap (λ (z : List ℕ). drop (length bytes) z) all ∙ drop-replicate (length bytes) MAX_ATOM_LEN 0) i in
    rw array (padded_parts bytes some short text)
