-- Atoms as lists of bytes.
use Rattle.std.specs.Prelude.{◌≡◌, ◌<◌, ◌≤◌, ℕ, List, [], length}
use Rattle.std.specs.Str.{IsUtf8, IsValidUpTo}
use Rattle.td_base.specs.declared.atom.TheConstants.{MAX_ATOM_LEN}
use Rattle.td_base.specs.declared.atom.AtomFault.{AtomFault}
use Rattle.td_base.specs.declared.atom.AtomFault.TheVariants.{Empty, Long, Utf8}

-- 1 to 64 bytes of UTF-8
pub record IsAtom (bytes : List ℕ) : Type 0 where
  pub some : 0 < length bytes
  pub short : length bytes ≤ MAX_ATOM_LEN
  pub text : IsUtf8 bytes

-- why these bytes are no atom: the first of the three causes that holds
abbrev pub IsAtomFault : List ℕ → AtomFault → Type 0
IsAtomFault bytes Empty = bytes ≡ []
IsAtomFault bytes (Long len) = (MAX_ATOM_LEN < length bytes) × (len ≡ length bytes)
IsAtomFault bytes (Utf8 at) = (0 < length bytes) × (length bytes ≤ MAX_ATOM_LEN) × IsValidUpTo bytes at
