-- What is said of the clusters of a text (UAX #29) where they are not all atoms.
use Rattle.std.specs.Prelude.{◌≡◌, ◌<◌, ◌≤◌, ℕ, ⊤, List, ◌∷◌, ◌++◌, length, All}
use Rattle.td_base.specs.declared.atom.TheConstants.{MAX_ATOM_LEN}
use Rattle.td_text.specs.declared.clusters.CutFault.{CutFault}
use Rattle.td_text.specs.declared.clusters.CutFault.TheVariants.{Long, Memory}

-- the first cluster that fits no atom stands at the index
pub record IsFirstLong (clusters : List (List ℕ)) (index : ℕ) : Type 0 where
  pub before : List (List ℕ)
  pub cluster : List ℕ
  pub behind : List (List ℕ)
  pub whole : clusters ≡ before ++ cluster ∷ behind
  pub place : index ≡ length before
  pub short : All (λ c. length c ≤ MAX_ATOM_LEN) before
  pub long : MAX_ATOM_LEN < length cluster

abbrev pub IsCutFault : List (List ℕ) → CutFault → Type 0
IsCutFault clusters (Long index) = IsFirstLong clusters index
IsCutFault clusters Memory = ⊤
