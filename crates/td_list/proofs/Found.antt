-- What is read from the order of the chunks, and then from one of them, is read from the whole list.
use Rattle.std.proofs.Common.{◌≡◌, ◌+◌, ◌-◌, ◌<◌, ◌≤◌, ℕ, List, [], ◌∷◌, ◌++◌, Bool, true, false}
use Rattle.std.proofs.Common.{if◌then◌else◌, ◌||◌, length, nat_lt, refl, sym, ap, ◌∙◌, subst, inl}
use Rattle.std.proofs.Common.{inr, ⊎_elim, arith, Option, Some, None}
use Rattle.std.proofs.lemmas.Bool.{cases_lt, lt-ltb, le-ltb, ltb-true, ltb-false}
use Rattle.std.proofs.lemmas.List.{append-nil}
use Rattle.std.proofs.lemmas.Option.{none-some, same_Some}
use Rattle.td_base.specs.Lists.{In}
use Rattle.td_list.specs.Items.{Item, IsItem, items_after, first_name, last_name}
use Rattle.td_list.specs.Items.{first_marked, has_mark, share_at, weight_of}
use Rattle.td_list.specs.declared.item.Share.{Share}
use Rattle.td_list.specs.Index.{Parts, chunk_at, joined, summary, IsIndex}
use Rattle.td_list.proofs.Names.{item-back}
use Rattle.td_list.proofs.Parted.{after_is}
use Rattle.td_list.proofs.Joined.{q, back_in}
use Rattle.td_list.proofs.Ends.{last-append}

-- the first item of the first chunk, and the last of the last

pub first-append : (xs ys : List Item) → 0 < length xs → first_name (xs ++ ys) ≡ first_name xs
first-append [] ys h = absurd (omega arith)
first-append (x ∷ xs) ys h = refl

pub last-behind : (xs ys : List Item) → 0 < length ys → last_name (xs ++ ys) ≡ last_name ys
last-behind xs [] h = absurd (omega arith)
last-behind xs (y ∷ ys) h = last-append xs y ys

same_some : {a b : ℕ} → Some a ≡ Some b → a ≡ b
same_some e = cc

pub first_in : (chunks : List (List Item)) (order : List Item)
    → ((i : Item) → In i order → 0 < length (chunk_at chunks i.name)) → (c : ℕ) → Some c ≡ first_name order
    → IsItem c order × (first_name (joined chunks order) ≡ first_name (chunk_at chunks c))
first_in chunks [] h c e = absurd (no c e)
  where
    no : (c : ℕ) → Some c ≡ None → ⊥
    no c e = cc
first_in chunks (i ∷ order) h c e = (
  inl (same_some e),
  first-append (chunk_at chunks i.name) (joined chunks order) (h i (inl refl))
      ∙ ap (λ (d : ℕ). first_name (chunk_at chunks d)) (sym (same_some e)),
)

pub first_none : (chunks : List (List Item)) (order : List Item) → None ≡ first_name order → None
    ≡ first_name (joined chunks order)
first_none chunks [] e = refl
first_none chunks (i ∷ order) e = absurd (no i.name e)
  where
    no : (c : ℕ) → None ≡ Some c → ⊥
    no c e = cc

some_joined : (chunks : List (List Item)) (i : Item) (order : List Item) → 0 < length (chunk_at chunks i.name)
    → 0 < length (joined chunks (i ∷ order))
some_joined chunks i order h = more (chunk_at chunks i.name) (joined chunks order) h
  where
    more : (xs ys : List Item) → 0 < length xs → 0 < length (xs ++ ys)
    more [] ys h = absurd (omega arith)
    more (x ∷ xs) ys h = omega arith

pub last_in : (chunks : List (List Item)) (order : List Item)
    → ((i : Item) → In i order → 0 < length (chunk_at chunks i.name)) → (c : ℕ) → Some c ≡ last_name order
    → IsItem c order × (last_name (joined chunks order) ≡ last_name (chunk_at chunks c))
last_in chunks [] h c e = absurd (no c e)
  where
    no : (c : ℕ) → Some c ≡ None → ⊥
    no c e = cc
last_in chunks (i ∷ []) h c e = (
  inl (same_some e),
  ap last_name (append-nil (chunk_at chunks i.name))
      ∙ ap (λ (d : ℕ). last_name (chunk_at chunks d)) (sym (same_some e)),
)
last_in chunks (i ∷ j ∷ order) h c e =
    let r = last_in chunks (j ∷ order) (λ k m. h k (inr m)) c e in (
      inr r.0,
      last-behind (chunk_at chunks i.name) (joined chunks (j ∷ order))
          (some_joined chunks j order (h j (inr (inl refl)))) ∙ r.1,
    )

pub last_none : (chunks : List (List Item)) (order : List Item) → None ≡ last_name order → order ≡ []
last_none chunks [] e = refl
last_none chunks (i ∷ []) e = absurd (no i.name e)
  where
    no : (c : ℕ) → None ≡ Some c → ⊥
    no c e = cc
last_none chunks (i ∷ j ∷ order) e = absurd (never j order (last_none chunks (j ∷ order) e))
  where
    never : (j : Item) (order : List Item) → j ∷ order ≡ [] → ⊥
    never j order e = cc

-- the first mark

some_not_none : (c : ℕ) → Some c ≡ None → ⊥
some_not_none c e = cc

no_share : (s : Share) → Some s ≡ None → ⊥
no_share s e = cc

false_not_true : false ≡ true → ⊥
false_not_true e = cc

true_not_false : true ≡ false → ⊥
true_not_false e = cc

past_at : (x : Item) (xs ys : List Item) (b : Bool) → x.marked ≡ b → None
    ≡ (if b then Some x.name else first_marked xs)
    → (None ≡ first_marked xs → first_marked (xs ++ ys) ≡ first_marked ys)
    → (if x.marked then Some x.name else first_marked (xs ++ ys)) ≡ first_marked ys
past_at x xs ys true e h ih = absurd (none-some x.name h)
past_at x xs ys false e h ih = ap (λ (b : Bool). if b then Some x.name else first_marked (xs ++ ys)) e ∙ ih h

here_at : (x : Item) (xs ys : List Item) (c : ℕ) (b : Bool) → x.marked ≡ b → Some c
    ≡ (if b then Some x.name else first_marked xs)
    → (Some c ≡ first_marked xs → first_marked (xs ++ ys) ≡ first_marked xs)
    → (if x.marked then Some x.name else first_marked (xs ++ ys)) ≡ (if x.marked then Some x.name else first_marked xs)
here_at x xs ys c true e h ih = ap (λ (b : Bool). if b then Some x.name else first_marked (xs ++ ys)) e
    ∙ sym (ap (λ (b : Bool). if b then Some x.name else first_marked xs) e)
here_at x xs ys c false e h ih = ap (λ (b : Bool). if b then Some x.name else first_marked (xs ++ ys)) e ∙ ih h
    ∙ sym (ap (λ (b : Bool). if b then Some x.name else first_marked xs) e)

no_mark_at : (x : Item) (xs : List Item) (b : Bool) → x.marked ≡ b → b || has_mark xs ≡ false
    → (has_mark xs ≡ false → None ≡ first_marked xs) → None ≡ (if x.marked then Some x.name else first_marked xs)
no_mark_at x xs true e h ih = absurd (true_not_false h)
no_mark_at x xs false e h ih = ih h ∙ sym (ap (λ (b : Bool). if b then Some x.name else first_marked xs) e)

a_mark_at : (x : Item) (xs : List Item) (b : Bool) → x.marked ≡ b → b || has_mark xs ≡ true
    → (has_mark xs ≡ true → (c : ℕ) × (Some c ≡ first_marked xs)) → (c : ℕ)
    × (Some c ≡ (if x.marked then Some x.name else first_marked xs))
a_mark_at x xs true e h ih = (x.name, sym (ap (λ (b : Bool). if b then Some x.name else first_marked xs) e))
a_mark_at x xs false e h ih = let r = ih h in (
  r.0,
  r.1
      ∙ sym (ap (λ (b : Bool). if b then Some x.name else first_marked xs) e),
)

-- where none is found there is none, and else the first is found
pub marked_past : (xs ys : List Item) → None ≡ first_marked xs → first_marked (xs ++ ys) ≡ first_marked ys
marked_past [] ys h = refl
marked_past (x ∷ xs) ys h = past_at x xs ys x.marked refl h (λ g. marked_past xs ys g)

pub marked_here : (xs ys : List Item) (c : ℕ) → Some c ≡ first_marked xs → first_marked (xs ++ ys) ≡ first_marked xs
marked_here [] ys c h = absurd (some_not_none c h)
marked_here (x ∷ xs) ys c h = here_at x xs ys c x.marked refl h (λ g. marked_here xs ys c g)

pub no_mark : (xs : List Item) → has_mark xs ≡ false → None ≡ first_marked xs
no_mark [] h = refl
no_mark (x ∷ xs) h = no_mark_at x xs x.marked refl h (λ g. no_mark xs g)

pub a_mark : (xs : List Item) → has_mark xs ≡ true → (c : ℕ) × (Some c ≡ first_marked xs)
a_mark [] h = absurd (false_not_true h)
a_mark (x ∷ xs) h = a_mark_at x xs x.marked refl h (λ g. a_mark xs g)

marked_in_at : (chunks : List (List Item)) (i : Item) (order : List Item) → i.marked
    ≡ has_mark (chunk_at chunks i.name) → (c : ℕ) (b : Bool) → i.marked ≡ b → Some c
    ≡ (if b then Some i.name else first_marked order)
    → (Some c ≡ first_marked order → IsItem c order
    × (first_marked (joined chunks order) ≡ first_marked (chunk_at chunks c)))
    → IsItem c (i ∷ order) × (first_marked (joined chunks (i ∷ order)) ≡ first_marked (chunk_at chunks c))
marked_in_at chunks i order t c true e h ih =
    let m = a_mark (chunk_at chunks i.name) (sym t ∙ e) in (
      inl (same_some h),
      marked_here (chunk_at chunks i.name) (joined chunks order) m.0 m.1
          ∙ ap (λ (d : ℕ). first_marked (chunk_at chunks d)) (sym (same_some h)),
    )
marked_in_at chunks i order t c false e h ih =
    let r = ih h in (
      inr r.0,
      marked_past (chunk_at chunks i.name) (joined chunks order)
          (no_mark (chunk_at chunks i.name) (sym t ∙ e)) ∙ r.1,
    )

pub marked_in : (chunks : List (List Item)) (order : List Item)
    → ((i : Item) → In i order → i ≡ summary i.name (chunk_at chunks i.name)) → (c : ℕ) → Some c ≡ first_marked order
    → IsItem c order × (first_marked (joined chunks order) ≡ first_marked (chunk_at chunks c))
marked_in chunks [] h c e = absurd (some_not_none c e)
marked_in chunks (i ∷ order) h c e =
    marked_in_at chunks i order (ap (λ (j : Item). j.marked) (h i (inl refl))) c i.marked refl e
    (λ g. marked_in chunks order (λ j m. h j (inr m)) c g)

marked_none_at : (chunks : List (List Item)) (i : Item) (order : List Item) → i.marked
    ≡ has_mark (chunk_at chunks i.name) → (b : Bool) → i.marked ≡ b → None
    ≡ (if b then Some i.name else first_marked order)
    → (None ≡ first_marked order → None ≡ first_marked (joined chunks order)) → None
    ≡ first_marked (joined chunks (i ∷ order))
marked_none_at chunks i order t true e h ih = absurd (none-some i.name h)
marked_none_at chunks i order t false e h ih = ih h
    ∙ sym (marked_past (chunk_at chunks i.name) (joined chunks order) (no_mark (chunk_at chunks i.name) (sym t ∙ e)))

pub marked_none : (chunks : List (List Item)) (order : List Item)
    → ((i : Item) → In i order → i ≡ summary i.name (chunk_at chunks i.name)) → None ≡ first_marked order → None
    ≡ first_marked (joined chunks order)
marked_none chunks [] h e = refl
marked_none chunks (i ∷ order) h e =
    marked_none_at chunks i order (ap (λ (j : Item). j.marked) (h i (inl refl))) i.marked refl e
    (λ g. marked_none chunks order (λ j m. h j (inr m)) g)

-- the unit of weight

share_here_at : (k : ℕ) (x : Item) (xs ys : List Item) → (k < weight_of (x ∷ xs))
    → ((j : ℕ) → j < weight_of xs → share_at j (xs ++ ys) ≡ share_at j xs) → share_at k (x ∷ xs ++ ys)
    ≡ share_at k (x ∷ xs)
share_here_at k x xs ys h ih =
    ⊎_elim (λ (l : k < x.weight). first k x (share_at (k - x.weight) (xs ++ ys)) l
    ∙ sym (first k x (share_at (k - x.weight) xs) l))
    (λ (g : x.weight ≤ k). later k x (share_at (k - x.weight) (xs ++ ys)) g ∙ ih (k - x.weight) (omega arith)
    ∙ sym (later k x (share_at (k - x.weight) xs) g))
    (cases_lt k x.weight)
  where
    first : (k : ℕ) (x : Item) (o : Option Share) → k < x.weight
        → (if nat_lt k x.weight then Some (record { name = x.name; rest = k }) else o)
        ≡ Some (record { name = x.name; rest = k })
    first k x o l = ap (λ (b : Bool). if b then Some (record { name = x.name; rest = k }) else o) (lt-ltb k x.weight l)

    later : (k : ℕ) (x : Item) (o : Option Share) → x.weight ≤ k
        → (if nat_lt k x.weight then Some (record { name = x.name; rest = k }) else o) ≡ o
    later k x o g = ap (λ (b : Bool). if b then Some (record { name = x.name; rest = k }) else o) (le-ltb k x.weight g)

pub share_here : (k : ℕ) (xs ys : List Item) → k < weight_of xs → share_at k (xs ++ ys) ≡ share_at k xs
share_here k [] ys h = absurd (omega arith)
share_here k (x ∷ xs) ys h = share_here_at k x xs ys h (λ j l. share_here j xs ys l)

pub share_past : (k : ℕ) (xs ys : List Item) → weight_of xs ≤ k → share_at k (xs ++ ys) ≡ share_at (k - weight_of xs) ys
share_past k [] ys h = ap (λ (j : ℕ). share_at j ys) (minus_none k)
  where
    minus_none : (k : ℕ) → k ≡ k - 0
    minus_none k = omega arith
share_past k (x ∷ xs) ys h =
    ap (λ (b : Bool). if b then Some (record { name = x.name; rest = k }) else share_at (k - x.weight) (xs ++ ys))
    (le-ltb k x.weight (omega arith))
    ∙ share_past (k - x.weight) xs ys (omega arith)
    ∙ ap (λ (j : ℕ). share_at j ys) (minus_both k x.weight (weight_of xs))
  where
    minus_both : (k a b : ℕ) → k - a - b ≡ k - (a + b)
    minus_both k a b = omega arith

share_in_at : (chunks : List (List Item)) (i : Item) (order : List Item) → i.weight
    ≡ weight_of (chunk_at chunks i.name) → (k : ℕ) (s : Share) (b : Bool) → nat_lt k i.weight ≡ b
    → Some s ≡ (if b then Some (record { name = i.name; rest = k }) else share_at (k - i.weight) order)
    → (Some s ≡ share_at (k - i.weight) order → IsItem s.name order
    × (share_at (k - i.weight) (joined chunks order) ≡ share_at s.rest (chunk_at chunks s.name)))
    → IsItem s.name (i ∷ order) × (share_at k (joined chunks (i ∷ order)) ≡ share_at s.rest (chunk_at chunks s.name))
share_in_at chunks i order t k s true e h ih =
    let is : s ≡ record { name = i.name; rest = k } = same_Some s (record { name = i.name; rest = k }) h in (
      inl (ap (λ (r : Share). r.name) is),
      share_here k (chunk_at chunks i.name) (joined chunks order)
          (subst (λ (n : ℕ). k < n) t (ltb-true k i.weight e))
          ∙ ap (λ (r : Share). share_at r.rest (chunk_at chunks r.name)) (sym is),
    )
share_in_at chunks i order t k s false e h ih =
    let r = ih h in
    let g : i.weight ≤ k = ltb-false k i.weight e in (
      inr r.0,
      share_past k (chunk_at chunks i.name) (joined chunks order) (subst (λ (n : ℕ). n ≤ k) t g)
          ∙ ap (λ (n : ℕ). share_at (k - n) (joined chunks order)) (sym t) ∙ r.1,
    )

pub share_in : (chunks : List (List Item)) (order : List Item)
    → ((i : Item) → In i order → i ≡ summary i.name (chunk_at chunks i.name)) → (k : ℕ) (s : Share) → Some s
    ≡ share_at k order
    → IsItem s.name order × (share_at k (joined chunks order) ≡ share_at s.rest (chunk_at chunks s.name))
share_in chunks [] h k s e = absurd (no_share s e)
share_in chunks (i ∷ order) h k s e =
    share_in_at chunks i order (ap (λ (j : Item). j.weight) (h i (inl refl))) k s (nat_lt k i.weight) refl e
    (λ g. share_in chunks order (λ j m. h j (inr m)) (k - i.weight) s g)

share_none_at : (chunks : List (List Item)) (i : Item) (order : List Item) → i.weight
    ≡ weight_of (chunk_at chunks i.name) → (k : ℕ) (b : Bool) → nat_lt k i.weight ≡ b
    → None ≡ (if b then Some (record { name = i.name; rest = k }) else share_at (k - i.weight) order)
    → (None ≡ share_at (k - i.weight) order → None ≡ share_at (k - i.weight) (joined chunks order))
    → None ≡ share_at k (joined chunks (i ∷ order))
share_none_at chunks i order t k true e h ih = absurd (none-some (record { name = i.name; rest = k }) h)
share_none_at chunks i order t k false e h ih =
    ih h ∙ sym (share_past k (chunk_at chunks i.name) (joined chunks order)
    (subst (λ (n : ℕ). n ≤ k) t (ltb-false k i.weight e))
    ∙ ap (λ (n : ℕ). share_at (k - n) (joined chunks order)) (sym t))

pub share_none : (chunks : List (List Item)) (order : List Item)
    → ((i : Item) → In i order → i ≡ summary i.name (chunk_at chunks i.name)) → (k : ℕ) → None ≡ share_at k order
    → None ≡ share_at k (joined chunks order)
share_none chunks [] h k e = refl
share_none chunks (i ∷ order) h k e =
    share_none_at chunks i order (ap (λ (j : Item). j.weight) (h i (inl refl))) k (nat_lt k i.weight) refl e
    (λ g. share_none chunks order (λ j m. h j (inr m)) (k - i.weight) g)

-- the chunks that follow a chunk

module _ (p : Parts) (index : IsIndex p) (c : ℕ) (there : IsItem c p.order) where
  behind_in : (i : Item) → In i (items_after c p.order) → In i p.order
  behind_in i m = back_in p index c there i (subst (In i) (after_is c p.order there) m)

  pub item_behind : (d : ℕ) → IsItem d (items_after c p.order) → IsItem d p.order
  item_behind d m =
      subst (IsItem d) (sym (q p index c there).is)
      (item-back d (q p index c there).front ((q p index c there).item ∷ (q p index c there).back)
      (inr (subst (IsItem d) (after_is c p.order there) m)))

  pub filled_behind : (i : Item) → In i (items_after c p.order) → 0 < length (chunk_at p.chunks i.name)
  filled_behind i m = (index.each i (behind_in i m)).some

  pub told_behind : (i : Item) → In i (items_after c p.order) → i ≡ summary i.name (chunk_at p.chunks i.name)
  told_behind i m = (index.each i (behind_in i m)).told
