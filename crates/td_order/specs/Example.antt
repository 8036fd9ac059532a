-- Two small lists of operations: a history of two sites in which a slot is used again after a flatten, and insertions
-- that no family has, in which a slot is used again without one.
use Rattle.std.specs.Prelude.{ℕ, List, [], ◌∷◌, codes}
use Rattle.td_base.specs.declared.bit.Bit.TheVariants.{Right}
use Rattle.td_base.specs.Run.{letters}
use Rattle.td_base.specs.Value.{DotValue, AtomIdValue}
use Rattle.td_path.specs.declared.slot.Slot.{Slot}
use Rattle.td_path.specs.declared.slot.Slot.TheVariants.{Root, At}
use Rattle.td_op.specs.declared.body.Body.{Body}
use Rattle.td_op.specs.declared.body.Body.TheVariants.{Insert, Delete, Propose, Commit}
use Rattle.td_op.specs.Op.{OpValue}

abbrev pub dot : ℕ → ℕ → DotValue
dot site seq = record { site = site; seq = seq }

-- the first atom of an insertion
abbrev pub atom : ℕ → ℕ → AtomIdValue
atom site seq = record { dot = dot site seq; offset = 0 }

abbrev pub op : ℕ → ℕ → List ℕ → Body → OpValue
op site seq deps body = record { dot = dot site seq; deps = deps; body = body }

-- The first of two sites types xy and deletes y, and both agree to flatten the slot of y. Then each site puts a letter
-- there.

-- the slot on the right of x
abbrev pub right_of_x : Slot
right_of_x = At (atom 1 1) Right

abbrev pub x_typed : OpValue
x_typed = op 1 1 (0 ∷ 0 ∷ []) (Insert Root (letters (codes "x")))

abbrev pub y_typed : OpValue
y_typed = op 1 2 (1 ∷ 0 ∷ []) (Insert right_of_x (letters (codes "y")))

abbrev pub y_deleted : OpValue
y_deleted = op 1 3 (2 ∷ 0 ∷ []) (Delete (atom 1 2))

abbrev pub flatten_proposed : OpValue
flatten_proposed = op 1 4 (3 ∷ 0 ∷ []) (Propose right_of_x)

abbrev pub flatten_committed : OpValue
flatten_committed = op 1 5 (4 ∷ 0 ∷ []) (Commit (dot 1 4))

abbrev pub p_typed : OpValue
p_typed = op 1 6 (5 ∷ 0 ∷ []) (Insert right_of_x (letters (codes "p")))

abbrev pub q_typed : OpValue
q_typed = op 2 1 (5 ∷ 0 ∷ []) (Insert right_of_x (letters (codes "q")))

abbrev pub history : List OpValue
history = x_typed ∷ y_typed ∷ y_deleted ∷ flatten_proposed ∷ flatten_committed ∷ p_typed ∷ q_typed ∷ []

-- without what the first site typed last, which the second did not know
abbrev pub known_to_second : List OpValue
known_to_second = x_typed ∷ y_typed ∷ y_deleted ∷ flatten_proposed ∷ flatten_committed ∷ q_typed ∷ []

-- Site 1 puts c at the root, site 2 does not know it and puts d there, and site 3, which knows c alone, puts a there:
-- though the root was not empty, and no flatten emptied it.
abbrev pub c_put : OpValue
c_put = op 1 1 (0 ∷ 0 ∷ 0 ∷ []) (Insert Root (letters (codes "c")))

abbrev pub d_put : OpValue
d_put = op 2 1 (0 ∷ 0 ∷ 0 ∷ []) (Insert Root (letters (codes "d")))

abbrev pub a_put : OpValue
a_put = op 3 1 (1 ∷ 0 ∷ 0 ∷ []) (Insert Root (letters (codes "a")))

abbrev pub without_epochs : List OpValue
without_epochs = c_put ∷ d_put ∷ a_put ∷ []

abbrev pub known_to_third : List OpValue
known_to_third = c_put ∷ a_put ∷ []
