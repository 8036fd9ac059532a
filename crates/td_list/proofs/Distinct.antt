-- Numbers that differ, by their places; and names that do.
use Rattle.std.proofs.Common.{◌≡◌, ◌≢◌, ◌<◌, ◌≤◌, ℕ, zero, suc, List, [], ◌∷◌, length, get_or}
use Rattle.std.proofs.Common.{refl, sym, ap, ◌∙◌, subst, inl, inr, ⊎_elim, arith}
use Rattle.td_base.specs.Lists.{In, Successive}
use Rattle.td_base.proofs.Lists.{all_in, all_of}
use Rattle.td_list.specs.Items.{Item, names, IsItem, AreApart, place_of}
use Rattle.std.proofs.lemmas.Bool.{cases_lt}
use Rattle.td_list.specs.Places.{nothing}
use Rattle.td_list.proofs.Names.{item_at}
use Rattle.td_list.proofs.Parted.{name_there, place_below}

abbrev pub Distinct : List ℕ → Type 0
Distinct xs = (j k : ℕ) → j < k → k < length xs → get_or xs j 0 ≡ get_or xs k 0 → ⊥

up : (a b : ℕ) → a < b → suc a < suc b
up a b h = omega arith

-- an element has a place
pub place_In : (c : ℕ) (xs : List ℕ) → In c xs → (j : ℕ) × (j < length xs) × (get_or xs j 0 ≡ c)
place_In c [] h = absurd h
place_In c (x ∷ xs) h =
    ⊎_elim (λ (e : c ≡ x). (0, omega arith, sym e))
    (λ (i : In c xs). let r = place_In c xs i in (suc r.0, up r.0 (length xs) r.1, r.2)) h

pub In_at : (xs : List ℕ) (j : ℕ) → j < length xs → In (get_or xs j 0) xs
In_at [] j h = absurd (omega arith)
In_at (x ∷ xs) zero h = inl refl
In_at (x ∷ xs) (suc j) h = inr (In_at xs j (omega arith))

pub successive_of : (xs : List ℕ) → Distinct xs → Successive (λ (x y : ℕ). x ≢ y) xs
successive_of [] h = tt
successive_of (x ∷ xs) h = (
  all_of (λ (y : ℕ). x ≢ y) xs (λ y i e. let r = place_In y xs i in
      h 0 (suc r.0) (omega arith) (up r.0 (length xs) r.1) (e ∙ sym r.2)),
  successive_of xs (λ j k l m. h (suc j) (suc k) (up j k l) (up k (length xs) m)),
)

pub distinct_of : (xs : List ℕ) → Successive (λ (x y : ℕ). x ≢ y) xs → Distinct xs
distinct_of [] s j k l m e = absurd (omega arith)
distinct_of (x ∷ xs) s j zero l m e = absurd (omega arith)
distinct_of (x ∷ xs) s zero (suc k) l m e = all_in (λ (y : ℕ). x ≢ y) xs s.0 (get_or xs k 0)
    (In_at xs k (omega arith)) e
distinct_of (x ∷ xs) s (suc j) (suc k) l m e = distinct_of xs s.1 j k (omega arith) (omega arith) e

-- the names of a list, by their places
pub name_at : (items : List Item) (k : ℕ) → get_or (names items) k 0 ≡ (get_or items k nothing).name
name_at [] k = refl
name_at (i ∷ items) zero = refl
name_at (i ∷ items) (suc k) = name_at items k

pub names_counted : (items : List Item) → length (names items) ≡ length items
names_counted [] = refl
names_counted (i ∷ items) = ap suc (names_counted items)

pub differ : (items : List Item) → AreApart items → (j k : ℕ) → j < k → k < length items
    → (get_or items j nothing).name ≡ (get_or items k nothing).name → ⊥
differ items a j k l m e = distinct_of (names items) a j k l (subst (λ (n : ℕ). k < n) (sym (names_counted items)) m)
    (name_at items j ∙ e ∙ sym (name_at items k))

-- an item's place is the only one at which its name stands
pub only_place : (x : ℕ) (items : List Item) → AreApart items → (k : ℕ) → k < length items
    → (get_or items k nothing).name ≡ x → place_of x items ≡ k
only_place x items a k l e =
    let there : IsItem x items = subst (λ (y : ℕ). IsItem y items) e (item_at items k l) in
    let at : (get_or items (place_of x items) nothing).name ≡ x = name_there x items there in
    let below : place_of x items < length items = place_below x items there in
    ⊎_elim (λ (f : place_of x items < k). absurd (differ items a (place_of x items) k f l (at ∙ sym e)))
    (λ (g : k ≤ place_of x items).
    ⊎_elim (λ (f : k < place_of x items). absurd (differ items a k (place_of x items) f below (e ∙ sym at)))
    (λ (h : place_of x items ≤ k). same (place_of x items) k g h) (cases_lt k (place_of x items)))
    (cases_lt (place_of x items) k)
  where
    same : (a b : ℕ) → b ≤ a → a ≤ b → a ≡ b
    same a b g h = omega arith
