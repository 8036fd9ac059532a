-- Which operations are looked at for an atom: by their numbers, which are their places in the list.
use Rattle.std.specs.Prelude.{◌≡◌, ℕ, Bool, false, List, [], Option, Some, None, slice_get}
use Rattle.std.specs.BTreeMap.{get}
use Rattle.std.specs.List.{filter_map}
use Rattle.std.specs.declared.alloc.Global.{Global}
use Rattle.std.specs.declared.vec.Vec.{Vec}
use Rattle.td_base.specs.Lists.{In}
use Rattle.td_base.specs.Order.{id_cmp}
use Rattle.td_base.specs.Value.{AtomIdValue}
use Rattle.td_marks.specs.Mark.{MarkOpValue}
use Rattle.td_marks.specs.declared.index.Index.{Index}

abbrev pub listed : Option (Vec ℕ Global) → List ℕ
listed None = []
listed (Some numbers) = numbers.items

-- the numbers under an atom
abbrev pub numbers_at : Index → AtomIdValue → List ℕ
numbers_at index x = listed (get id_cmp index.lists x)

-- what was listed still is
abbrev pub KeepsListed : Index → Index → Type 0
KeepsListed old new = (x : AtomIdValue) (k : ℕ) → In k (numbers_at old x) → In k (numbers_at new x)

-- the numbers of the operations that name the atom are among these
abbrev pub HaveAll : List MarkOpValue → AtomIdValue → List ℕ → Type 0
HaveAll ops x numbers = (k : ℕ) (o : MarkOpValue) → slice_get ops k ≡ Some o → In x o.atoms → In k numbers

-- each operation is listed under the atoms that it names
abbrev pub AreListed : List MarkOpValue → Index → Type 0
AreListed ops index = (x : AtomIdValue) → HaveAll ops x (numbers_at index x)

-- the operations with these numbers
abbrev pub ops_at : List MarkOpValue → List ℕ → List MarkOpValue
ops_at ops numbers = filter_map (slice_get ops) numbers

-- one that is there passes
abbrev pub passes : (MarkOpValue → Bool) → Option MarkOpValue → Bool
passes test None = false
passes test (Some o) = test o
