-- What a tree keeps besides its tokens: the rows by their identities, and the dots that it has seen.
use Rattle.std.specs.Prelude.{◌<◌, ℕ, length, IsTrue}
use Rattle.std.specs.List.{AllByRecursion}
use Rattle.td_base.specs.Value.{DotValue}
use Rattle.td_clock.specs.Vector.{vector_has}
use Rattle.td_brackets.specs.Brackets.{Entry}
use Rattle.td_identities.specs.declared.identities.Identities.{Identities}
use Rattle.td_identities.specs.Identities.{number_of}
use Rattle.td_tree.specs.Parts.{Parts, table, IsTree, IsNamed}
use Rattle.std.specs.Prelude.{List}

-- all that was done to a row was seen
pub record IsSeen (seen : List ℕ) (e : Entry) : Type 0 where
  pub made : IsTrue (vector_has seen e.id.dot)
  pub deletes : AllByRecursion (λ (d : DotValue). IsTrue (vector_has seen d)) e.deletes

pub record IsWhole (p : Parts) (identities : Identities) (seen : List ℕ) : Type 0 where
  pub tree : IsTree p
  pub named : IsNamed (number_of identities) p.rows
  pub each_seen : (r : ℕ) → r < length p.rows → IsSeen seen (table p r)
