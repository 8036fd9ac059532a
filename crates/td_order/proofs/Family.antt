-- What is known of the insertions of one family, the last in line-up first.
use Rattle.std.proofs.Common.{◌≡◌, ◌⊎◌, List, [], ◌∷◌, true, false}
use Rattle.td_base.specs.Value.{AtomIdValue}
use Rattle.td_base.specs.Lists.{In}
use Rattle.td_path.specs.declared.slot.Slot.{Slot}
use Rattle.td_path.specs.declared.slot.Slot.TheVariants.{Root, At}
use Rattle.td_op.specs.declared.insertion.Insertion.{Insertion}
use Rattle.td_op.specs.Insertion.{ids_of}
use Rattle.td_order.specs.Place.{precedes, has_some}

-- the atom is of one of these insertions
abbrev pub Names : List Insertion → AtomIdValue → Type 0
Names os y = (c : Insertion) × In c os × In y (ids_of c)

abbrev pub IsRooted : List Insertion → Slot → Type 0
IsRooted os Root = Unit {0}
IsRooted os (At x s) = Names os x

-- an insertion and those before it in line-up: its slot names an atom of one of them, none has its dot, and it is in
-- the past of none
pub record Follows (a : Insertion) (os : List Insertion) : Type 0 where
  pub rooted : IsRooted os a.slot
  pub fresh : (c : Insertion) → In c os → c.dot ≡ a.dot → ⊥
  pub later : (c : Insertion) → In c os → precedes a c ≡ false
  pub full : has_some a.run ≡ true

abbrev pub AllFollow : List Insertion → Type 0
AllFollow [] = Unit {0}
AllFollow (a ∷ os) = Follows a os × AllFollow os

-- pasts are pasts; and where one insertion of a slot is in the past of another, each third insertion of the slot
-- comes after the first or before the second
pub record HasPasts (os : List Insertion) : Type 0 where
  pub onward : (c d e : Insertion) → In c os → In d os → In e os → precedes c d ≡ true → precedes d e ≡ true
      → precedes c e ≡ true
  pub apart : (c : Insertion) → In c os → precedes c c ≡ false
  pub epochs : (c d e : Insertion) → In c os → In d os → In e os → c.slot ≡ d.slot → e.slot ≡ d.slot → precedes c d
      ≡ true → (precedes c e ≡ true) ⊎ (precedes e d ≡ true)
