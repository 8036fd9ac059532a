-- The text that operations make: the atoms in order, without those that a delete names.
use Rattle.std.specs.Prelude.{ℕ, List, [], Bool, false, not, Option, filter, find, map}
use Rattle.std.specs.Prelude.{slice_get, unwrap_or, option_and_then}
use Rattle.std.specs.List.{concat, list_any}
use Rattle.td_base.specs.Value.{AtomIdValue}
use Rattle.td_op.specs.declared.body.Body.{Body}
use Rattle.td_op.specs.declared.body.Body.TheVariants.{Insert, Delete, Propose, Commit, Abort}
use Rattle.td_op.specs.Op.{OpValue}
use Rattle.td_op.specs.declared.insertion.Insertion.{Insertion}
use Rattle.td_op.specs.Insertion.{insertions}
use Rattle.td_base.specs.Equality.{same_dot, same_id}
use Rattle.td_order.specs.Order.{order}

-- the body deletes the atom
abbrev pub deletes : AtomIdValue → Body → Bool
deletes x (Insert slot run) = false
deletes x (Delete target) = same_id target x
deletes x (Propose slot) = false
deletes x (Commit proposal) = false
deletes x (Abort proposal) = false

-- one of the operations deletes the atom
abbrev pub is_deleted : List OpValue → AtomIdValue → Bool
is_deleted ops x = list_any (λ (o : OpValue). deletes x o.body) ops

-- what the insertion with the dot of the atom puts at its offset
abbrev pub atom_in : List Insertion → AtomIdValue → Option (List ℕ)
atom_in inserted x =
    option_and_then (λ (a : Insertion). slice_get a.run x.offset)
    (find (λ (a : Insertion). same_dot a.dot x.dot) inserted)

-- the bytes of an atom (an atom of no insertion among the operations has none)
abbrev pub atom_of : List OpValue → AtomIdValue → List ℕ
atom_of ops x = unwrap_or (atom_in (insertions ops) x) []

-- the identities of the atoms that are shown
abbrev pub shown_ids : List OpValue → List AtomIdValue
shown_ids ops = filter (λ (x : AtomIdValue). not (is_deleted ops x)) (order ops)

-- and the atoms themselves
abbrev pub shown_atoms : List OpValue → List (List ℕ)
shown_atoms ops = map (atom_of ops) (shown_ids ops)

abbrev pub show : List OpValue → List ℕ
show ops = concat (shown_atoms ops)
