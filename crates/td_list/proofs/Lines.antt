-- A list in one line, and the places of its items.
use Rattle.std.proofs.Common.{◌≡◌, ◌+◌, ◌<◌, ◌≤◌, ℕ, List, ◌++◌, length, take, get_or}
use Rattle.std.proofs.Common.{set, sym, ap, ◌∙◌, subst, ⊎_elim, arith}
use Rattle.std.proofs.lemmas.List.{get_or-set_same, get_or-set_other, get_or-take}
use Rattle.std.proofs.lemmas.List.{get_or_append_left, length-take-le, length-set}
use Rattle.std.proofs.lemmas.Bool.{cases_eq}
use Rattle.td_list.specs.Items.{Item, names, IsItem, AreApart, place_of}
use Rattle.td_list.specs.Places.{nothing, ArePlaces}
use Rattle.td_list.proofs.Parted.{place_below, name_there}
use Rattle.td_list.proofs.Distinct.{successive_of, differ, name_at, names_counted}

module _ (items : List Item) (places : List ℕ) (each : ArePlaces items places) where
  -- an item is found by its name
  pub found : (x : ℕ) → IsItem x items → (x < length places) × (get_or places x 0 ≡ place_of x items)
  found x i =
      let e = each (place_of x items) (place_below x items i) in
      let n = name_there x items i in
      (subst (λ (y : ℕ). y < length places) n e.0, ap (λ (y : ℕ). get_or places y 0) (sym n) ∙ e.1)

  -- so no two have one name
  pub line_apart : AreApart items
  line_apart = successive_of (names items) (λ j k l m e.
      let few : k < length items = subst (λ (n : ℕ). k < n) (names_counted items) m in
      let same : (get_or items j nothing).name ≡ (get_or items k nothing).name = sym (name_at items j) ∙ e
      ∙ name_at items k in
      no j k l (sym (each j (omega arith)).1 ∙ ap (λ (y : ℕ). get_or places y 0) same ∙ (each k few).1))
    where
      no : (a b : ℕ) → a < b → a ≡ b → ⊥
      no a b h e = omega arith

-- one place more
pub one_noted : (items : List Item) (places : List ℕ) (p : ℕ) → AreApart items → p < length items
    → (get_or items p nothing).name < length places
    → ((k : ℕ) → k < p → k < length items → get_or places (get_or items k nothing).name 0 ≡ k)
    → (k : ℕ) → k < p + 1 → k < length items → get_or (set places (get_or items p nothing).name p)
    (get_or items k nothing).name 0 ≡ k
one_noted items places p apart there fits noted k l m =
    ⊎_elim
    (λ (e : k ≡ p). ap (λ (j : ℕ). get_or (set places (get_or items p nothing).name p) (get_or items j nothing).name
    0) e ∙ get_or-set_same places (get_or items p nothing).name p 0 fits ∙ sym e)
    (λ (n : k ≡ p → ⊥).
    let before : k < p = below k p l n in
    get_or-set_other places (get_or items p nothing).name (get_or items k nothing).name p 0
    (differ items apart k p before there) ∙ noted k before m)
    (cases_eq k p)
  where
    below : (k p : ℕ) → k < p + 1 → (k ≡ p → ⊥) → k < p
    below k p l n = omega arith

-- what is changed from a place on keeps the places before it
pub front_same : (items after : List Item) (place k : ℕ) → k < place → place ≤ length items
    → get_or (take place items ++ after) k nothing ≡ get_or items k nothing
front_same items after place k h l =
    get_or_append_left (take place items) after nothing k (short items place k h l)
    ∙ get_or-take place items k nothing h
  where
    short : (items : List Item) (place k : ℕ) → k < place → place ≤ length items → k < length (take place items)
    short items place k h l = omega (arith, length-take-le place items l)

-- another item of the same name at a place
pub line_renewed : (items : List Item) (places : List ℕ) (place : ℕ) (i : Item) → ArePlaces items places
    → place < length items
    → i.name ≡ (get_or items place nothing).name → ArePlaces (set items place i) places
line_renewed items places place i each below named k l =
    let m : k < length items = subst (λ (n : ℕ). k < n) (length-set items place i) l in
    let e = each k m in
    let same : (get_or items k nothing).name ≡ (get_or (set items place i) k nothing).name =
    ⊎_elim
    (λ (q : k ≡ place). ap (λ (j : ℕ). (get_or items j nothing).name) q ∙ sym named
    ∙ ap (λ (j : Item). j.name) (sym (get_or-set_same items place i nothing below))
    ∙ ap (λ (j : ℕ). (get_or (set items place i) j nothing).name) (sym q))
    (λ (q : k ≡ place → ⊥). ap (λ (j : Item). j.name) (sym (get_or-set_other items place k i nothing q)))
    (cases_eq k place) in
    (subst (λ (y : ℕ). y < length places) same e.0, ap (λ (y : ℕ). get_or places y 0) (sym same) ∙ e.1)
