-- How an `Atom` keeps its bytes: in an array of fixed size, with zeros behind them.
use Rattle.std.specs.Prelude.{◌<◌, ℕ, List, take}
use Rattle.std.specs.Str.{IsUtf8}
use Rattle.td_base.specs.Padded.{IsPadded}
use Rattle.td_base.specs.declared.atom.TheConstants.{MAX_ATOM_LEN}

pub record IsAtomParts (len : ℕ) (bytes : List ℕ) : Type 0 where
  pub some : 0 < len
  pub padded : IsPadded MAX_ATOM_LEN len bytes
  pub text : IsUtf8 (take len bytes)
