-- How `Chains` keeps the places of its operations: as links of two bytes, and for each `BLOCK` operations a base, which
-- is how many heads stand before them.
use Rattle.std.specs.Prelude.{◌≡◌, ◌≤◌, ◌<◌, ◌+◌, ◌-◌, ◌*◌, ◌/◌, ◌^◌, ℕ, List, zero, suc, length, map}
use Rattle.std.specs.Prelude.{slice_get, slice_index, slice_index_or, Some}
use Rattle.std.specs.List.{range_with_len}
use Rattle.td_store.specs.declared.chains.Link.{Link}
use Rattle.td_store.specs.declared.chains.TheConstants.{BLOCK}
use Rattle.td_store.specs.declared.place.Place.{Place}
use Rattle.td_store.specs.declared.place.Place.TheVariants.{Head, Letter}
use Rattle.td_store.specs.declared.place.Typed.{Typed}
use Rattle.td_store.specs.Lists.{ChainsValue}

abbrev pub link_at : List Link → ℕ → Link
link_at links k = slice_index_or links k (record { behind = 0; byte = 0 })

-- the number of the head that stands there: its byte counts from the base
abbrev pub number_at : List Link → List ℕ → ℕ → ℕ
number_at links bases k = slice_index bases (k / BLOCK) + (link_at links k).byte

-- the place of an operation that stands so many behind the head of a number, with this byte
abbrev pub place_of : ℕ → ℕ → ℕ → Place
place_of number zero byte = Head number
place_of number (suc before) byte = Letter (record { head = number; behind = suc before; letter = byte })

abbrev pub place_at : List Link → List ℕ → ℕ → Place
place_at links bases k =
    let link : Link = link_at links k in place_of (number_at links bases (k - link.behind)) link.behind link.byte

abbrev pub places_of : List Link → List ℕ → List Place
places_of links bases = map (place_at links bases) (range_with_len 0 (length links))

-- where an operation has its head, one of so many heads stands
pub record IsLinked (links : List Link) (bases : List ℕ) (heads k : ℕ) : Type 0 where
  pub within : (link_at links k).behind ≤ k
  pub head : (link_at links (k - (link_at links k).behind)).behind ≡ 0
  pub number : number_at links bases (k - (link_at links k).behind) < heads

-- behind these operations the letter stands so many behind its head
pub record IsNextLetter (chains : ChainsValue) (typed : Typed) : Type 0 where
  pub some : 1 ≤ typed.behind
  pub within : typed.behind ≤ length chains.places
  pub head : slice_get chains.places (length chains.places - typed.behind) ≡ Some (Head typed.head)
  pub number : typed.head < chains.heads

abbrev pub last_base : List ℕ → ℕ
last_base bases = slice_index bases (length bases - 1)

-- there are bases for so many operations, of which so many are heads, and a byte is enough from the last base on
pub record AreBases (bases : List ℕ) (len heads : ℕ) : Type 0 where
  pub enough : len ≤ length bases * BLOCK
  pub few : length bases * BLOCK < len + BLOCK
  pub low : last_base bases ≤ heads
  pub near : heads + length bases * BLOCK ≤ last_base bases + len + BLOCK

-- there is room for so many more operations
pub record AreChainsParts (links : List Link) (bases : List ℕ) (heads room links_capacity bases_capacity : ℕ)
    : Type 0 where
  pub linked : (k : ℕ) → k < length links → IsLinked links bases heads k
  pub blocks : AreBases bases (length links) heads
  pub few : heads ≤ length links
  pub links_room : length links + room ≤ links_capacity
  pub bases_room : length links + room ≤ bases_capacity * BLOCK
  pub places : length links + room < 2 ^ 32
