-- Operations that are kept as places among heads are those that were added, also where there are more heads.
use Rattle.std.proofs.Common.{◌≡◌, ◌≤◌, ◌++◌, ◌∷◌, [], List, length, map, refl, ap, ◌∙◌, arith}
use Rattle.std.specs.List.{All}
use Rattle.std.proofs.lemmas.List.{get_or_append_left, get_or_push, map-append}
use Rattle.std.proofs.lemmas.List.Elements.{All-tail}
use Rattle.td_op.specs.Op.{OpValue}
use Rattle.td_store.specs.declared.place.Place.{Place}
use Rattle.td_store.specs.declared.place.Place.TheVariants.{Head, Letter}
use Rattle.td_store.specs.Lists.{OpsValue, ChainsValue}
use Rattle.td_store.specs.OpsParts.{head_of, op_in, IsPlaced, AreOpsParts}
use Rattle.td_store.specs.Typed.{typed_op}

stays : (heads more : List OpValue) (place : Place) → IsPlaced heads place
    → op_in (heads ++ more) place ≡ op_in heads place
stays heads more (Head number) placed = get_or_append_left heads more _ number placed
stays heads more (Letter typed) placed =
    ap (λ (op : OpValue). typed_op op typed) (get_or_append_left heads more _ typed.head placed.head)

all_stay : (heads more : List OpValue) (places : List Place) → All (IsPlaced heads) places
    → map (op_in (heads ++ more)) places ≡ map (op_in heads) places
all_stay heads more [] placed = refl
all_stay heads more (place ∷ places) placed =
    let first = stays heads more place (placed 0 place (omega arith)) in
    let rest = all_stay heads more places (All-tail (IsPlaced heads) place places placed) in
    λ i. first i ∷ rest i

-- one head more
pub head_pushed : (heads now_heads : List OpValue) (places now_places : List Place) (op : OpValue)
    → All (IsPlaced heads) places → now_heads ≡ heads ++ op ∷ [] → now_places ≡ places ++ Head (length heads) ∷ []
    → map (op_in now_heads) now_places ≡ map (op_in heads) places ++ op ∷ []
head_pushed heads now_heads places now_places op placed is_heads is_places =
    let last : head_of (heads ++ op ∷ []) (length heads) ≡ op = get_or_push heads op _ (length heads) refl in
    rw (is_heads, is_places) (map-append (op_in (heads ++ op ∷ [])) places (Head (length heads) ∷ [])
    ∙ (λ i. all_stay heads (op ∷ []) places placed i ++ last i ∷ []))

-- more room
pub roomier : (heads now_heads : OpsValue) (chains now_chains : ChainsValue) → AreOpsParts heads chains
    → now_heads ≡ record heads { room = now_heads.room } → now_chains ≡ record chains { room = now_chains.room }
    → now_chains.room ≤ now_heads.room → AreOpsParts now_heads now_chains
roomier heads now_heads chains now_chains parts same_heads same_chains room =
    let ops_are : now_heads.ops ≡ heads.ops = ap (λ (v : OpsValue). v.ops) same_heads in
    let places_are : now_chains.places ≡ chains.places = ap (λ (v : ChainsValue). v.places) same_chains in
    let count : now_chains.heads ≡ chains.heads = ap (λ (v : ChainsValue). v.heads) same_chains in
    record {
      count = rw (ops_are, count) parts.count;
      placed = rw (ops_are, places_are) parts.placed;
      room = room;
    }
