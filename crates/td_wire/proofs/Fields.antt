-- Dots, identities and slots at the front of the bytes.
use Rattle.std.proofs.Common.{◌≡◌, ℕ, zero, suc, ◌≤◌, cond, eqb, List, [], ◌∷◌, Ok, refl, sym, ap, ◌∙◌, arith}
use Rattle.td_base.specs.Value.{DotValue, AtomIdValue}
use Rattle.td_base.specs.declared.bit.Bit.{Bit}
use Rattle.td_base.specs.declared.bit.Bit.TheVariants.{Left, Right}
use Rattle.td_path.specs.declared.slot.Slot.{Slot}
use Rattle.td_path.specs.declared.slot.Slot.TheVariants.{Root, At}
use Rattle.td_wire.specs.declared.format.Format.{Format}
use Rattle.td_wire.specs.declared.format.Format.TheVariants.{One, Two}
use Rattle.td_wire.specs.Spelling.{number_bytes as number, dot_bytes as dot}
use Rattle.td_wire.specs.Spelling.{identity_bytes as identity, bit_byte as bit}
use Rattle.td_wire.specs.Spelling.{slot_bytes as slot}
use Rattle.td_wire.specs.Reading.{byte_at, number_at, dot_at, identity_at, bit_of, placed_at, slot_at}
use Rattle.td_wire.proofs.Exact.{Reads, Field, renamed, made, chain, nothing}
use Rattle.td_wire.proofs.Bytes.{InRange, one_byte, byte_reads, number_reads}

-- a dot of a site up to the greatest one
pub record DotIn (max_site : ℕ) (d : DotValue) : Type 0 where
  pub site : InRange 1 max_site d.site
  pub seq : InRange 1 65535 d.seq

pub dot_reads : (max_site : ℕ) → 1 ≤ max_site → Reads (Field (DotIn max_site) dot) (dot_at max_site)
unfolding dot_at
dot_reads max_site some = renamed _ (DotIn max_site) _ dot (dot_at max_site)
    (λ d h. record { site = h.0; seq = h.1.0 }) (λ d h. (h.site, (h.seq, refl))) (λ d h. refl)
    (chain (InRange 1 max_site) one_byte (λ site d. InRange 1 65535 d.seq × (with_site site d.seq ≡ d))
    (λ site d. number d.seq) (λ d. d.site) (byte_at 1 max_site) _
    (λ site d z h. ap (λ (e : DotValue). e.site) (sym h.1)) (byte_reads 1 max_site some) (λ site g.
    made (InRange 1 65535) number (with_site site) (λ d. d.seq) (number_at 1 65535) (λ seq. refl)
    (number_reads 1 65535 (omega arith) (omega arith)))) where
      with_site : ℕ → ℕ → DotValue
      with_site site seq = record { site = site; seq = seq }

-- ---- identities

abbrev pub OffsetIn : Format → ℕ → Type 0
OffsetIn One offset = offset ≡ 0
OffsetIn Two offset = offset ≤ 63

pub record IdentityIn (f : Format) (max_site : ℕ) (x : AtomIdValue) : Type 0 where
  pub dot : DotIn max_site x.dot
  pub offset : OffsetIn f x.offset

abbrev with_offset : ℕ → DotValue → AtomIdValue
with_offset offset d = record { dot = d; offset = offset }

abbrev with_dot : DotValue → ℕ → AtomIdValue
with_dot d offset = record { dot = d; offset = offset }

pub identity_reads : (f : Format) (max_site : ℕ) → 1 ≤ max_site
    → Reads (Field (IdentityIn f max_site) (identity f)) (identity_at f max_site)
unfolding identity_at
identity_reads One max_site some = renamed _ (IdentityIn One max_site) _ (identity One) (identity_at One max_site)
    (λ x h. record { dot = h.0; offset = ap (λ (y : AtomIdValue). y.offset) (sym h.1) })
    (λ x h. (h.dot, ap (λ (n : ℕ). with_offset n x.dot) (sym h.offset))) (λ x h. refl)
    (made (DotIn max_site) dot (with_offset 0) (λ x. x.dot) (dot_at max_site) (λ d. refl) (dot_reads max_site some))
identity_reads Two max_site some = renamed _ (IdentityIn Two max_site) _ (identity Two) (identity_at Two max_site)
    (λ x h. record { dot = h.0; offset = h.1.0.most })
    (λ x h. (h.dot, (record { least = omega arith; most = h.offset }, refl))) (λ x h. refl)
    (chain (DotIn max_site) dot (λ d x. InRange 0 63 x.offset × (with_dot d x.offset ≡ x)) (λ d x. one_byte x.offset)
    (λ x. x.dot) (dot_at max_site) _
    (λ d x z h. ap (λ (y : AtomIdValue). y.dot) (sym h.1)) (dot_reads max_site some) (λ d g.
    made (InRange 0 63) one_byte (with_dot d) (λ x. x.offset) (byte_at 0 63) (λ offset. refl)
    (byte_reads 0 63 (omega arith))))

-- ---- slots

abbrev atom_of : Slot → AtomIdValue
atom_of Root = record { dot = record { site = 0; seq = 0 }; offset = 0 }
atom_of (At atom b) = atom

abbrev bit_byte : Slot → ℕ
bit_byte Root = 0
bit_byte (At atom b) = bit b

abbrev tag_of : Slot → ℕ
tag_of Root = 0
tag_of (At atom b) = 1

-- a slot at an atom, and its spelling behind the tag
abbrev PlacedIn : Format → ℕ → Slot → Type 0
PlacedIn f max_site Root = ⊥
PlacedIn f max_site (At atom b) = IdentityIn f max_site atom

abbrev placed : Format → Slot → List ℕ
placed f Root = []
placed f (At atom b) = bit b ∷ identity f atom

bit_back : (b : Bit) → bit_of (bit b) ≡ b
bit_back Left = refl
bit_back Right = refl

byte_back : (n : ℕ) → n ≤ 1 → bit (bit_of n) ≡ n
byte_back zero h = refl
byte_back (suc zero) h = refl
byte_back (suc (suc n)) h = absurd (omega (arith, h))

bit_in : (b : Bit) → InRange 0 1 (bit b)
bit_in Left = record { least = omega arith; most = omega arith }
bit_in Right = record { least = omega arith; most = omega arith }

abbrev side : ℕ → AtomIdValue → Slot
side b atom = At atom (bit_of b)

to_placed : (f : Format) (max_site : ℕ) (s : Slot) → InRange 0 1 (bit_byte s)
    × (IdentityIn f max_site (atom_of s) × (side (bit_byte s) (atom_of s) ≡ s)) → PlacedIn f max_site s
to_placed f max_site Root h = absurd (differ 0 (atom_of Root) h.1.1) where
  differ : (b : ℕ) (atom : AtomIdValue) → side b atom ≡ Root → ⊥
  differ b atom e = cc
to_placed f max_site (At atom b) h = h.1.0

from_placed : (f : Format) (max_site : ℕ) (s : Slot) → PlacedIn f max_site s → InRange 0 1 (bit_byte s)
    × (IdentityIn f max_site (atom_of s) × (side (bit_byte s) (atom_of s) ≡ s))
from_placed f max_site Root h = absurd h
from_placed f max_site (At atom b) h = (bit_in b, (h, ap (At atom) (bit_back b)))

placed_spelled : (f : Format) (max_site : ℕ) (s : Slot) → PlacedIn f max_site s → bit_byte s ∷ identity f (atom_of s)
    ≡ placed f s
placed_spelled f max_site Root h = absurd h
placed_spelled f max_site (At atom b) h = refl

placed_reads : (f : Format) (max_site : ℕ) → 1 ≤ max_site
    → Reads (Field (PlacedIn f max_site) (placed f)) (placed_at f max_site)
placed_reads f max_site some = renamed _ (PlacedIn f max_site) _ (placed f) (placed_at f max_site)
    (to_placed f max_site) (from_placed f max_site) (placed_spelled f max_site)
    (chain (InRange 0 1) one_byte (λ b s. IdentityIn f max_site (atom_of s) × (side b (atom_of s) ≡ s))
    (λ b s. identity f (atom_of s)) bit_byte (byte_at 0 1) _
    (λ b s z h. ap bit_byte (sym h.1) ∙ byte_back b z.most) (byte_reads 0 1 (omega arith)) (λ b g.
    made (IdentityIn f max_site) (identity f) (side b) atom_of (identity_at f max_site) (λ atom. refl)
    (identity_reads f max_site some)))

abbrev pub SlotIn : Format → ℕ → Slot → Type 0
SlotIn f max_site Root = Unit {0}
SlotIn f max_site (At atom b) = IdentityIn f max_site atom

abbrev SlotOf : Format → ℕ → ℕ → Slot → Type 0
SlotOf f max_site zero s = Root ≡ s
SlotOf f max_site (suc k) s = PlacedIn f max_site s

abbrev behind_tag : Format → ℕ → Slot → List ℕ
behind_tag f zero s = []
behind_tag f (suc k) s = placed f s

tag_is : (f : Format) (max_site tag : ℕ) (s : Slot) → InRange 0 1 tag → SlotOf f max_site tag s → tag_of s ≡ tag
tag_is f max_site zero s z h = ap tag_of (sym h)
tag_is f max_site (suc zero) Root z h = absurd h
tag_is f max_site (suc zero) (At atom b) z h = refl
tag_is f max_site (suc (suc k)) s z h = absurd (omega (arith, z.most))

by_tag : (f : Format) (max_site tag : ℕ) → 1 ≤ max_site → InRange 0 1 tag
    → Reads (Field (SlotOf f max_site tag) (behind_tag f tag))
    (λ xs. cond (eqb tag 0) (Ok (Root, xs)) (placed_at f max_site xs))
by_tag f max_site zero some z = nothing Root
by_tag f max_site (suc zero) some z = placed_reads f max_site some
by_tag f max_site (suc (suc k)) some z = absurd (omega (arith, z.most))

to_slot : (f : Format) (max_site : ℕ) (s : Slot) → InRange 0 1 (tag_of s) × SlotOf f max_site (tag_of s) s
    → SlotIn f max_site s
to_slot f max_site Root h = tt
to_slot f max_site (At atom b) h = h.1

from_slot : (f : Format) (max_site : ℕ) (s : Slot) → SlotIn f max_site s → InRange 0 1 (tag_of s)
    × SlotOf f max_site (tag_of s) s
from_slot f max_site Root h = (record { least = omega arith; most = omega arith }, refl)
from_slot f max_site (At atom b) h = (record { least = omega arith; most = omega arith }, h)

slot_spelled : (f : Format) (max_site : ℕ) (s : Slot) → SlotIn f max_site s → tag_of s ∷ behind_tag f (tag_of s) s
    ≡ slot f s
slot_spelled f max_site Root h = refl
slot_spelled f max_site (At atom b) h = refl

pub slot_reads : (f : Format) (max_site : ℕ) → 1 ≤ max_site
    → Reads (Field (SlotIn f max_site) (slot f)) (slot_at f max_site)
unfolding slot_at
slot_reads f max_site some = renamed _ (SlotIn f max_site) _ (slot f) (slot_at f max_site)
    (to_slot f max_site) (from_slot f max_site) (slot_spelled f max_site)
    (chain (InRange 0 1) one_byte (SlotOf f max_site) (behind_tag f) tag_of (byte_at 0 1) _
    (tag_is f max_site) (byte_reads 0 1 (omega arith)) (λ tag z. by_tag f max_site tag some z))
