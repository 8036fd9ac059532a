-- Places that are kept as links are those that were added, whatever stands behind them.
use borrow.Author.Count.{below_more}
use Rattle.std.proofs.Common.{◌≡◌, ◌<◌, ◌≤◌, ◌+◌, ◌-◌, ◌*◌, ◌/◌, ◌^◌, ◌++◌, ◌∷◌, [], ℕ, List, length, map}
use Rattle.std.proofs.Common.{take, get_or, refl, sym, ap, ◌∙◌, arith, zero, suc}
use Rattle.std.specs.Prelude.{Some, slice_get}
use Rattle.std.specs.List.{range_with_len}
use Rattle.std.proofs.lemmas.List.{get_or_append_left, get_or_push, length_push, get_or_read}
use Rattle.std.proofs.lemmas.List.FromFn.{length-map-range_with_len, get_or-map-range_with_len}
use Rattle.std.proofs.lemmas.List.FromFn.{map-range_with_len_more, fill_by_all}
use Rattle.std.proofs.lemmas.Option.{slice_get-get_or, same_Some}
use Rattle.td_store.specs.declared.chains.Link.{Link}
use Rattle.td_store.specs.declared.chains.TheConstants.{BLOCK}
use Rattle.td_store.specs.declared.place.Place.{Place}
use Rattle.td_store.specs.declared.place.Place.TheVariants.{Head, Letter}
use Rattle.td_store.specs.declared.place.Typed.{Typed}
use Rattle.td_store.specs.ChainsParts.{link_at, number_at, place_of, place_at, places_of, IsLinked}
use Rattle.td_store.specs.ChainsParts.{IsNextLetter, last_base, AreBases, AreChainsParts}
use Rattle.td_store.proofs.StoredHeads.{as_front}

-- ---- one place

pub count_places : (links : List Link) (bases : List ℕ) → length (places_of links bases) ≡ length links
count_places links bases = length-map-range_with_len (place_at links bases) 0 (length links)

pub found_place : (links : List Link) (bases : List ℕ) (k : ℕ) → k < length links
    → slice_get (places_of links bases) k ≡ Some (place_at links bases k)
found_place links bases k within =
    slice_get-get_or (places_of links bases) k (place_at links bases k)
    (omega (arith, within, count_places links bases))
    ∙ ap Some (get_or-map-range_with_len (place_at links bases) 0 (length links) k k (place_at links bases k) within
    (omega arith))

-- one that stands behind none is a head
is_head : (number behind byte : ℕ) → behind ≡ 0 → place_of number behind byte ≡ Head number
is_head number behind byte none = rw none refl

is_letter : (number behind byte : ℕ) → 1 ≤ behind
    → place_of number behind byte ≡ Letter (record { head = number; behind = behind; letter = byte })
is_letter number zero byte some = absurd (omega arith)
is_letter number (suc before) byte some = refl

is_head_at : (links : List Link) (bases : List ℕ) (k : ℕ) → (link_at links k).behind ≡ 0
    → place_at links bases k ≡ Head (number_at links bases k)
is_head_at links bases k none =
    let here : k - (link_at links k).behind ≡ k = omega (arith, none) in
    is_head _ _ _ none ∙ ap (λ (j : ℕ). Head (number_at links bases j)) here

-- a link that was read, and its operation's place
pub record IsRead (links : List Link) (bases : List ℕ) (heads k : ℕ) (link : Link) : Type 0 where
  pub within : link.behind ≤ k
  pub inside : k - link.behind < length links
  pub number : number_at links bases (k - link.behind) < heads
  pub small : number_at links bases (k - link.behind) < 2 ^ 32
  pub head : slice_get (places_of links bases) (k - link.behind)
      ≡ Some (Head (number_at links bases (k - link.behind)))
  pub place : slice_get (places_of links bases) k
      ≡ Some (place_of (number_at links bases (k - link.behind)) link.behind link.byte)

pub read_link : (links : List Link) (bases : List ℕ) (heads room links_capacity bases_capacity k : ℕ) (link : Link)
    → AreChainsParts links bases heads room links_capacity bases_capacity → k < length links
    → link ≡ get_or links k link → IsRead links bases heads k link
read_link links bases heads room links_capacity bases_capacity k link parts inside at =
    let linked : IsLinked links bases heads k = parts.linked k inside in
    let is : link_at links k ≡ link = sym (get_or_read links k link inside at (record { behind = 0; byte = 0 })) in
    let within : link.behind ≤ k = rw is at linked.within in
    let head : (link_at links (k - link.behind)).behind ≡ 0 = rw is at linked.head in
    let number : number_at links bases (k - link.behind) < heads = rw is at linked.number in
    record {
      within = within;
      inside = omega (arith, inside);
      number = number;
      small = omega (arith, number, parts.few, parts.places);
      head = found_place links bases (k - link.behind) (omega (arith, inside))
          ∙ ap Some (is_head_at links bases (k - link.behind) head);
      place = found_place links bases k inside
          ∙ ap (λ (l : Link). Some (place_of (number_at links bases (k - l.behind)) l.behind l.byte)) is;
    }

-- the same by the places that are seen
pub read_place : (links : List Link) (bases : List ℕ) (heads room links_capacity bases_capacity k : ℕ) (link : Link)
    (places : List Place) → AreChainsParts links bases heads room links_capacity bases_capacity
    → places_of links bases ≡ places → k < length places → link ≡ get_or links k link
    → IsRead links bases heads k link
read_place links bases heads room links_capacity bases_capacity k link places parts seen bound at =
    read_link links bases heads room links_capacity bases_capacity k link parts
    (omega (arith, count_places links bases, rw (← seen) at bound)) at

-- as the place of a head, or of a letter
pub read_head : (places : List Place) (number behind byte k read : ℕ)
    → slice_get places k ≡ Some (place_of number behind byte) → behind ≡ 0 → read ≡ number
    → slice_get places k ≡ Some (Head read)
read_head places number behind byte k read place none is =
    place ∙ ap Some (is_head _ _ _ none ∙ ap Head (sym is))

pub read_letter : (places : List Place) (number behind byte k read : ℕ)
    → slice_get places k ≡ Some (place_of number behind byte) → 1 ≤ behind → read ≡ number
    → slice_get places k ≡ Some (Letter (record { head = read; behind = behind; letter = byte }))
read_letter places number behind byte k read place some is =
    place ∙ ap Some (is_letter _ _ _ some
    ∙ ap (λ (n : ℕ). Letter (record { head = n; behind = behind; letter = byte })) (sym is))

-- ---- the letter that may be next

pub next_letter : (links : List Link) (bases : List ℕ) (heads room links_capacity bases_capacity : ℕ) (last : Link)
    (behind number letter : ℕ) → AreChainsParts links bases heads room links_capacity bases_capacity → 0 < length links
    → last ≡ get_or links (length links - 1) last → behind ≡ last.behind + 1
    → number ≡ number_at links bases (length links - behind)
    → IsNextLetter (record { heads = heads; places = places_of links bases; room = room })
    (record { head = number; behind = behind; letter = letter })
next_letter links bases heads room links_capacity bases_capacity last behind number letter parts some at is_behind
    is_number =
    let read = read_link links bases heads room links_capacity bases_capacity (length links - 1) last parts
    (omega (arith, some)) at in
    let count = count_places links bases in
    let place : length links - 1 - last.behind ≡ length links - behind = omega (arith, is_behind) in
    record {
      some = omega (arith, is_behind);
      within = omega (arith, is_behind, read.within, count, some);
      head = rw (count, is_number) (rw place at read.head);
      number = rw is_number (rw place at read.number);
    }

-- ---- one operation more

link_stays : (links more : List Link) (k : ℕ) → k < length links → link_at (links ++ more) k ≡ link_at links k
link_stays links more k inside = get_or_append_left links more (record { behind = 0; byte = 0 }) k inside

number_stays : (links more_links : List Link) (bases more_bases : List ℕ) (k : ℕ) → k < length links
    → length links ≤ length bases * BLOCK
    → number_at (links ++ more_links) (bases ++ more_bases) k ≡ number_at links bases k
number_stays links more_links bases more_bases k inside enough =
    let base = get_or_append_left bases more_bases 0 (k / BLOCK) (omega (arith, inside, enough)) in
    let link = link_stays links more_links k inside in
    λ i. base i + (link i).byte

-- with more behind it an operation is kept as it was
record StaysAt (links now_links : List Link) (bases now_bases : List ℕ) (heads k : ℕ) : Type 0 where
  pub linked : IsLinked now_links now_bases heads k
  pub same : place_at now_links now_bases k ≡ place_at links bases k

stays : (links more_links : List Link) (bases more_bases : List ℕ) (heads now_heads k : ℕ) → k < length links
    → length links ≤ length bases * BLOCK → heads ≤ now_heads → IsLinked links bases heads k
    → StaysAt links (links ++ more_links) bases (bases ++ more_bases) now_heads k
stays links more_links bases more_bases heads now_heads k inside enough more linked =
    let link = link_stays links more_links k inside in
    let place : ℕ = k - (link_at links k).behind in
    let within : place < length links = omega (arith, inside) in
    let head = link_stays links more_links place within in
    let number = number_stays links more_links bases more_bases place within enough in
    record {
      linked = record {
        within = rw link linked.within;
        head = rw (link, head) linked.head;
        number = rw (link, number) (omega (arith, linked.number, more));
      };
      same = ap (λ (l : Link).
          place_of (number_at (links ++ more_links) (bases ++ more_bases) (k - l.behind)) l.behind l.byte) link
          ∙ ap (λ (n : ℕ). place_of n (link_at links k).behind (link_at links k).byte) number;
    }

places_stay : (links more_links : List Link) (bases more_bases : List ℕ) (heads : ℕ)
    → length links ≤ length bases * BLOCK → ((k : ℕ) → k < length links → IsLinked links bases heads k)
    → map (place_at (links ++ more_links) (bases ++ more_bases)) (range_with_len 0 (length links))
    ≡ places_of links bases
places_stay links more_links bases more_bases heads enough linked =
    sym (fill_by_all (place_at (links ++ more_links) (bases ++ more_bases)) (places_of links bases) (length links)
    (Head 0) (count_places links bases) (λ k inside.
    get_or-map-range_with_len (place_at links bases) 0 (length links) k k (Head 0) inside (omega arith)
    ∙ sym (stays links more_links bases more_bases heads heads k inside enough (omega arith) (linked k inside)).same))

-- what is kept and seen after a push
pub record IsPushed (links : List Link) (bases : List ℕ) (heads room links_capacity bases_capacity : ℕ)
    (before : List Place) (place : Place) : Type 0 where
  pub parts : AreChainsParts links bases heads room links_capacity bases_capacity
  pub places : places_of links bases ≡ before ++ place ∷ []

pushed_on : (links : List Link) (bases more_bases : List ℕ)
    (heads now_heads room links_capacity bases_capacity now_links_capacity now_bases_capacity : ℕ) (last : Link)
    (place : Place) → AreChainsParts links bases heads room links_capacity bases_capacity → 1 ≤ room
    → links_capacity ≤ now_links_capacity → bases_capacity ≤ now_bases_capacity
    → AreBases (bases ++ more_bases) (length links + 1) now_heads → heads ≤ now_heads → now_heads ≤ heads + 1
    → IsLinked (links ++ last ∷ []) (bases ++ more_bases) now_heads (length links)
    → place_at (links ++ last ∷ []) (bases ++ more_bases) (length links) ≡ place
    → IsPushed (links ++ last ∷ []) (bases ++ more_bases) now_heads (room - 1) now_links_capacity now_bases_capacity
    (places_of links bases) place
pushed_on links bases more_bases heads now_heads room links_capacity bases_capacity now_links_capacity
    now_bases_capacity last place parts some wide long blocks more few linked is_place =
    let count : length (links ++ last ∷ []) ≡ length links + 1 = length_push links last in
    record {
      parts = record {
        linked = rw count (below_more (IsLinked (links ++ last ∷ []) (bases ++ more_bases) now_heads) (length links)
            (λ k inside. (stays links (last ∷ []) bases more_bases heads now_heads k inside parts.blocks.enough more
            (parts.linked k inside)).linked) linked);
        blocks = rw count blocks;
        few = omega (arith, count, few, parts.few);
        links_room = omega (arith, count, some, parts.links_room, wide);
        bases_room = omega (arith, count, some, parts.bases_room, long);
        places = omega (arith, count, some, parts.places);
      };
      places = rw count (map-range_with_len_more (place_at (links ++ last ∷ []) (bases ++ more_bases)) 0 (length links)
          (length links) (omega arith)
          ∙ (λ i. places_stay links (last ∷ []) bases more_bases heads parts.blocks.enough parts.linked i
          ++ is_place i ∷ []));
    }

link_last : (links : List Link) (last : Link) → link_at (links ++ last ∷ []) (length links) ≡ last
link_last links last = get_or_push links last (record { behind = 0; byte = 0 }) (length links) refl

-- the last operation, and the number of its head
last_number : (links : List Link) (bases : List ℕ) (last : Link) (heads : ℕ) → AreBases bases (length links + 1) heads
    → number_at (links ++ last ∷ []) bases (length links) ≡ last_base bases + last.byte
last_number links bases last heads blocks =
    let block : length links / BLOCK ≡ length bases - 1 = omega (arith, blocks.enough, blocks.few) in
    λ i. get_or bases (block i) 0 + (link_last links last i).byte

head_pushed : (links now_links : List Link) (bases now_bases more_bases : List ℕ)
    (heads room links_capacity bases_capacity now_links_capacity now_bases_capacity : ℕ) (last : Link)
    → AreChainsParts links bases heads room links_capacity bases_capacity → 1 ≤ room
    → links_capacity ≤ now_links_capacity → bases_capacity ≤ now_bases_capacity → now_bases ≡ bases ++ more_bases
    → now_links ≡ links ++ last ∷ [] → AreBases now_bases (length links + 1) (heads + 1) → last.behind ≡ 0
    → last_base now_bases + last.byte ≡ heads
    → IsPushed now_links now_bases (heads + 1) (room - 1) now_links_capacity now_bases_capacity (places_of links bases)
    (Head heads)
head_pushed links now_links bases now_bases more_bases heads room links_capacity bases_capacity now_links_capacity
    now_bases_capacity last parts some wide long is_bases is_links blocks none byte =
    let is = link_last links last in
    let here : length links - last.behind ≡ length links = omega (arith, none) in
    let number : number_at (links ++ last ∷ []) (bases ++ more_bases) (length links) ≡ heads =
    last_number links (bases ++ more_bases) last (heads + 1) (rw is_bases at blocks) ∙ rw is_bases at byte in
    rw (is_links, is_bases) (pushed_on links bases more_bases heads (heads + 1) room links_capacity bases_capacity
    now_links_capacity now_bases_capacity last (Head heads) parts some wide long (rw is_bases at blocks)
    (omega arith) (omega arith)
    (record {
      within = rw is (omega (arith, none));
      head = rw (is, here, is) none;
      number = rw (is, here, number) (omega arith);
    })
    (is_head_at (links ++ last ∷ []) (bases ++ more_bases) (length links) (rw is none) ∙ ap Head number))

from_head : (number behind byte head : ℕ) → place_of number behind byte ≡ Head head
    → (behind ≡ 0) × (number ≡ head)
from_head number zero byte head is = (refl, cc)
from_head number (suc before) byte head is = absurd (cc)

letter_pushed : (links now_links : List Link) (bases now_bases more_bases : List ℕ)
    (heads room links_capacity bases_capacity now_links_capacity now_bases_capacity : ℕ) (typed : Typed)
    → AreChainsParts links bases heads room links_capacity bases_capacity → 1 ≤ room
    → links_capacity ≤ now_links_capacity → bases_capacity ≤ now_bases_capacity → now_bases ≡ bases ++ more_bases
    → now_links ≡ links ++ record { behind = typed.behind; byte = typed.letter } ∷ []
    → AreBases now_bases (length links + 1) heads
    → IsNextLetter (record { heads = heads; places = places_of links bases; room = room }) typed
    → IsPushed now_links now_bases heads (room - 1) now_links_capacity now_bases_capacity (places_of links bases)
    (Letter typed)
letter_pushed links now_links bases now_bases more_bases heads room links_capacity bases_capacity now_links_capacity
    now_bases_capacity typed parts some wide long is_bases is_links blocks next =
    let last : Link = record { behind = typed.behind; byte = typed.letter } in
    let is = link_last links last in
    let count = count_places links bases in
    let place : ℕ = length links - typed.behind in
    let inside : place < length links = omega (arith, next.some, next.within, count) in
    let found : place_at links bases place ≡ Head typed.head =
    same_Some _ _ (sym (found_place links bases place inside) ∙ rw count at next.head) in
    let stood : Link = link_at links place in
    let head = from_head (number_at links bases (place - stood.behind)) stood.behind stood.byte typed.head found in
    let link = link_stays links (last ∷ []) place inside in
    let here : place - stood.behind ≡ place = omega (arith, head.0) in
    let number : number_at (links ++ last ∷ []) (bases ++ more_bases) place ≡ typed.head =
    number_stays links (last ∷ []) bases more_bases place inside parts.blocks.enough ∙ rw here at head.1 in
    rw (is_links, is_bases) (pushed_on links bases more_bases heads heads room links_capacity bases_capacity
    now_links_capacity now_bases_capacity last (Letter typed) parts some wide long (rw is_bases at blocks)
    (omega arith) (omega arith)
    (record {
      within = rw is (omega (arith, next.within, count));
      head = rw (is, link) head.0;
      number = rw (is, number) next.number;
    })
    (rw (is, number) (is_letter typed.head typed.behind typed.letter next.some)))

pub pushed_head : (links now_links : List Link) (bases now_bases : List ℕ)
    (heads room links_capacity bases_capacity now_links_capacity now_bases_capacity : ℕ) (last : Link)
    → AreChainsParts links bases heads room links_capacity bases_capacity → 1 ≤ room
    → links_capacity ≤ now_links_capacity → bases_capacity ≤ now_bases_capacity
    → take (length bases) now_bases ≡ bases
    → now_links ≡ links ++ last ∷ [] → AreBases now_bases (length links + 1) (heads + 1) → last.behind ≡ 0
    → last_base now_bases + last.byte ≡ heads
    → IsPushed now_links now_bases (heads + 1) (room - 1) now_links_capacity now_bases_capacity (places_of links bases)
    (Head heads)
pushed_head links now_links bases now_bases heads room links_capacity bases_capacity now_links_capacity
    now_bases_capacity last parts some wide long front is_links blocks none byte =
    head_pushed links now_links bases now_bases _ heads room links_capacity bases_capacity now_links_capacity
    now_bases_capacity last parts some wide long (as_front bases now_bases front) is_links blocks none byte

pub pushed_letter : (links now_links : List Link) (bases now_bases : List ℕ)
    (heads room links_capacity bases_capacity now_links_capacity now_bases_capacity : ℕ) (typed : Typed)
    → AreChainsParts links bases heads room links_capacity bases_capacity → 1 ≤ room
    → links_capacity ≤ now_links_capacity → bases_capacity ≤ now_bases_capacity
    → take (length bases) now_bases ≡ bases
    → now_links ≡ links ++ record { behind = typed.behind; byte = typed.letter } ∷ []
    → AreBases now_bases (length links + 1) (heads + 1) → last_base now_bases ≤ heads
    → IsNextLetter (record { heads = heads; places = places_of links bases; room = room }) typed
    → IsPushed now_links now_bases heads (room - 1) now_links_capacity now_bases_capacity (places_of links bases)
    (Letter typed)
pushed_letter links now_links bases now_bases heads room links_capacity bases_capacity now_links_capacity
    now_bases_capacity typed parts some wide long front is_links blocks low next =
    letter_pushed links now_links bases now_bases _ heads room links_capacity bases_capacity now_links_capacity
    now_bases_capacity typed parts some wide long (as_front bases now_bases front) is_links
    (record { enough = blocks.enough; few = blocks.few; low = low; near = omega (arith, blocks.near) }) next

-- ---- more room

pub roomier : (links : List Link) (bases : List ℕ)
    (heads room now_room links_capacity bases_capacity now_links_capacity now_bases_capacity : ℕ)
    → AreChainsParts links bases heads room links_capacity bases_capacity
    → length links + now_room ≤ now_links_capacity → length links + now_room ≤ now_bases_capacity * BLOCK
    → length links + now_room < 2 ^ 32
    → AreChainsParts links bases heads now_room now_links_capacity now_bases_capacity
roomier links bases heads room now_room links_capacity bases_capacity now_links_capacity now_bases_capacity parts wide
    long places =
    record {
      linked = parts.linked;
      blocks = parts.blocks;
      few = parts.few;
      links_room = wide;
      bases_room = long;
      places = places;
    }

-- the last base, as it is read
pub read_last : (bases : List ℕ) (len heads count base : ℕ) → AreBases bases (len + 1) heads → count ≡ length bases
    → base ≡ get_or bases (count - 1) base → base ≡ last_base bases
read_last bases len heads count base blocks all at =
    get_or_read bases (length bases - 1) base (omega (arith, blocks.enough)) (rw all at at) 0
