-- Items of a list that is parted at one of them.
use Rattle.std.proofs.Common.{◌≡◌, ℕ, List, [], ◌∷◌, ◌++◌, length, refl, sym, ap, ◌∙◌, subst, inl, Option}
use Rattle.td_base.specs.Lists.{In}
use Rattle.td_base.proofs.Lists.{In-back}
use Rattle.td_list.specs.Items.{Item, IsItem, AreApart, items_before, items_after, items_from_end, first_name}
use Rattle.td_list.proofs.Names.{apart-parts}
use Rattle.td_list.proofs.Parted.{parted, from_at, before_is, after_is}

-- the items from the first of a part on are that part
pub rest_back : (front back : List Item) → AreApart (front ++ back) → items_from_end (first_name back) (front ++ back)
    ≡ back
rest_back front [] apart = refl
rest_back front (i ∷ back) apart = from_at i.name front i back refl
    (λ k. apart-parts front (i ∷ back) apart i.name k (inl refl))

pub rest_long : (items : List Item) → AreApart items → (rest : List Item) (next : Option ℕ) → first_name rest ≡ next
    → (front : List Item) → items ≡ front ++ rest → length (items_from_end next items) ≡ length rest
rest_long items apart rest next e front is = (λ i. length (items_from_end (sym e i) (is i)))
    ∙ ap length (rest_back front rest (subst AreApart is apart))

-- an item leads to the list parted at it
pub record PartedAt (i : Item) (items : List Item) : Type 0 where
  pub front : List Item
  pub back : List Item
  pub is : items ≡ front ++ i ∷ back
  pub before : items_before i.name items ≡ front
  pub after : items_after i.name items ≡ back

pub parted_at : (i : Item) (items : List Item) → AreApart items → ((j : Item) → In j items → j.name ≡ i.name → j ≡ i)
    → IsItem i.name items → PartedAt i items
parted_at i items apart one there =
    let p = parted i.name items there in
    let same : p.item ≡ i = one p.item (subst (In p.item) (sym p.is)
    (In-back p.item p.front (p.item ∷ p.back) (inl refl))) p.named in
    record {
      front = p.front;
      back = p.back;
      is = p.is ∙ ap (λ (j : Item). p.front ++ j ∷ p.back) same;
      before = before_is i.name items there;
      after = after_is i.name items there;
    }
