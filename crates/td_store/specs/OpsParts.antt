-- How `Ops` keeps its operations: whole, as heads, or typed behind a head.
use Rattle.std.specs.Prelude.{◌≡◌, ◌≤◌, ◌<◌, ℕ, List, [], ◌∷◌, length, slice_index_or, All}
use Rattle.td_base.specs.Atom.{IsAtom}
use Rattle.td_base.specs.declared.dot.TheConstants.{MAX_SEQ}
use Rattle.td_op.specs.declared.body.Body.TheVariants.{Propose}
use Rattle.td_op.specs.Op.{OpValue, IsOp}
use Rattle.td_path.specs.declared.slot.Slot.TheVariants.{Root}
use Rattle.td_store.specs.declared.place.Place.{Place}
use Rattle.td_store.specs.declared.place.Place.TheVariants.{Head, Letter}
use Rattle.td_store.specs.declared.place.Typed.{Typed}
use Rattle.td_store.specs.Lists.{OpsValue, ChainsValue}
use Rattle.td_store.specs.Typed.{dot_behind, typed_op}

-- the head of a number, and anything where there is none
abbrev pub head_of : List OpValue → ℕ → OpValue
head_of heads number =
    slice_index_or heads number
    (record { dot = record { site = 0; seq = 0 }; deps = []; body = Propose Root })

-- the operation at a place
abbrev pub op_in : List OpValue → Place → OpValue
op_in heads (Head number) = head_of heads number
op_in heads (Letter typed) = typed_op (head_of heads typed.head) typed

-- it is typed behind one of the heads
pub record IsTypedIn (heads : List OpValue) (typed : Typed) : Type 0 where
  pub head : typed.head < length heads
  pub some : 1 ≤ typed.behind
  pub letter : IsAtom (typed.letter ∷ [])
  pub seq : (dot_behind (head_of heads typed.head).dot typed.behind).seq ≤ MAX_SEQ
  pub op : IsOp (typed_op (head_of heads typed.head) typed)

-- there is an operation at the place
abbrev pub IsPlaced : List OpValue → Place → Type 0
IsPlaced heads (Head number) = number < length heads
IsPlaced heads (Letter typed) = IsTypedIn heads typed

pub record AreOpsParts (heads : OpsValue) (chains : ChainsValue) : Type 0 where
  pub count : chains.heads ≡ length heads.ops
  pub placed : All (IsPlaced heads.ops) chains.places
  pub room : chains.room ≤ heads.room
