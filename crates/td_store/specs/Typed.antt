-- Operations that are typed behind another one: the next one of the site, with nothing taken between, puts a letter
-- right behind what the one before it put. Of each of them a letter is new.
use Rattle.std.specs.Prelude.{◌≡◌, ◌+◌, ◌-◌, ℕ, List, [], ◌∷◌}
use Rattle.td_base.specs.declared.bit.Bit.TheVariants.{Right}
use Rattle.td_base.specs.Value.{DotValue}
use Rattle.td_op.specs.Op.{OpValue}
use Rattle.td_path.specs.declared.slot.Slot.{Slot}
use Rattle.td_path.specs.declared.slot.Slot.TheVariants.{At}
use Rattle.td_store.specs.declared.place.Typed.{Typed}
use Rattle.td_store.specs.HeadsParts.{deps_of}
use Rattle.td_store.specs.Inserting.{inserting}

-- the dot of the site's operation so many behind
abbrev pub dot_behind : DotValue → ℕ → DotValue
dot_behind dot behind = record { site = dot.site; seq = dot.seq + behind }

-- right behind the first atom of the operation before the one with this dot
abbrev pub slot_typed : DotValue → Slot
slot_typed dot = At (record { dot = record { site = dot.site; seq = dot.seq - 1 }; offset = 0 }) Right

-- an operation with this dot and these dependencies is so many behind a head, with nothing taken between
pub record ComesBehind (head : OpValue) (behind : ℕ) (dot : DotValue) (deps : List ℕ) : Type 0 where
  pub later : dot ≡ dot_behind head.dot behind
  pub known : deps ≡ deps_of head.deps dot

-- the operation that is typed behind a head
abbrev pub typed_op : OpValue → Typed → OpValue
typed_op head typed =
    let dot : DotValue = dot_behind head.dot typed.behind in
    inserting dot (deps_of head.deps dot) (slot_typed dot) ((typed.letter ∷ []) ∷ [])
