-- What is kept of bytes that come, and that it is read as they are.
use Rattle.std.proofs.Common.{◌≡◌, ◌⊎◌, ◌<◌, ◌++◌, ℕ, List, length}
use Rattle.td_script.specs.declared.script.TheConstants.{MAX_LINE}
use Rattle.td_shell.specs.Lines.{IsInLine}

abbrev pub IsLong : List ℕ → Type 0
IsLong bytes = MAX_LINE < length bytes

-- the same line, or one that is too long where it is
abbrev pub IsReadAs : List ℕ → List ℕ → Type 0
IsReadAs line kept = (kept ≡ line) ⊎ (IsLong kept × IsLong line)

-- what is kept of bytes: in front of the rest a part of a line may stand for a longer one
pub record IsKeptOf (bytes kept : List ℕ) : Type 0 where
  pub front : List ℕ
  pub part : List ℕ
  pub rest : List ℕ
  pub bytes_are : bytes ≡ front ++ rest
  pub kept_is : kept ≡ part ++ rest
  pub in_line : IsInLine front
  pub part_in_line : IsInLine part
  pub read_as : IsReadAs front part
