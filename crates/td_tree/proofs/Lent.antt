-- Walks over items that are lent some at a time.
use Rattle.std.proofs.Common.{◌≡◌, ◌≢◌, ◌<◌, ◌≤◌, ℕ, List, [], ◌∷◌, ◌++◌, Bool, true, false, not, nat_eq}
use Rattle.std.proofs.Common.{true≢false, if◌then◌else◌, length, Option, Some, None, refl, sym, ap, ◌∙◌}
use Rattle.std.proofs.Common.{subst, inl, inr, arith, append_assoc, length-append}
use Rattle.std.specs.Option.{option_eq}
use Rattle.std.proofs.lemmas.List.{append-nil}
use Rattle.std.proofs.lemmas.Bool.{eqb-true, eq-eqb}
use Rattle.td_base.specs.Lists.{In}
use Rattle.td_base.proofs.Lists.{In-front, In-back, In-map}
use Rattle.td_base.proofs.Elements.{same_head, same_tail}
use Rattle.td_list.specs.Items.{Item, IsItem, AreApart, first_name, items_before, items_from, items_from_end}
use Rattle.td_list.proofs.Parted.{here_named, not_named}
use Rattle.td_list.proofs.Names.{apart-parts, apart-back}
use Rattle.td_tree.specs.Parts.{Parts, IsTree}
use Rattle.td_tree.specs.Stretches.{items_up_to}
use Rattle.td_tree.specs.Walks.{IsStretch}
use Rattle.td_tree.proofs.Lists.{rest_long}
use Rattle.td_tree.proofs.Walked.{Walked, Step, step}

-- the lent items lead past the end, or they are some of the rest
data Reach (end : Option ℕ) (rest back lent behind : List Item) : Type 0 where
  Past : items_up_to end lent ≡ rest → length rest < length lent → Reach end rest back lent behind
  Short : (more : List Item) → items_up_to end lent ≡ lent → rest ≡ lent ++ more → behind ≡ more ++ back
      → Reach end rest back lent behind

one_more : (e : ℕ) (x : Item) (rest back lent behind : List Item) → (e ≡ x.name → ⊥)
    → Reach (Some e) rest back lent behind → Reach (Some e) (x ∷ rest) back (x ∷ lent) behind
one_more e x rest back lent behind n (Past f l) =
    Past (ap (λ (b : Bool). if b then [] else x ∷ items_before e lent) (not_named e x n)
    ∙ ap (λ (xs : List Item). x ∷ xs) f) (omega arith)
one_more e x rest back lent behind n (Short more f g h) =
    Short more (ap (λ (b : Bool). if b then [] else x ∷ items_before e lent) (not_named e x n)
    ∙ ap (λ (xs : List Item). x ∷ xs) f) (ap (λ (xs : List Item). x ∷ xs) g) h

reach_some : (b : Item) (rest back lent behind : List Item) → lent ++ behind ≡ rest ++ b ∷ back
    → (IsItem b.name rest → ⊥) → Reach (Some b.name) rest (b ∷ back) lent behind
reach_some b rest back [] behind f n = Short rest refl refl f
reach_some b [] back (x ∷ lent) behind f n =
    Past (ap (λ (c : Bool). if c then [] else x ∷ items_before b.name lent)
    (here_named b.name x (ap (λ (i : Item). i.name) (same_head x (lent ++ behind) b back f)))) (omega arith)
reach_some b (r ∷ rest) back (x ∷ lent) behind f n =
    let same : x ≡ r = same_head x (lent ++ behind) r (rest ++ b ∷ back) f in
    let other : b.name ≡ r.name → ⊥ = λ e. n (inl e) in
    let deep = reach_some b rest back lent behind (same_tail x (lent ++ behind) r (rest ++ b ∷ back) f)
    (λ k. n (inr k)) in
    subst (λ (y : Item). Reach (Some b.name) (r ∷ rest) (b ∷ back) (y ∷ lent) behind) (sym same)
    (one_more b.name r rest (b ∷ back) lent behind other deep)

reach : (end : Option ℕ) (rest back lent behind : List Item) → first_name back ≡ end → lent ++ behind ≡ rest ++ back
    → ((b : Item) (more : List Item) → back ≡ b ∷ more → IsItem b.name rest → ⊥) → Reach end rest back lent behind
reach end rest [] lent behind e f n = subst (λ (o : Option ℕ). Reach o rest [] lent behind) e
    (Short behind refl (sym (append-nil rest) ∙ sym f) (sym (append-nil behind)))
reach end rest (b ∷ back) lent behind e f n = subst (λ (o : Option ℕ). Reach o rest (b ∷ back) lent behind) e
    (reach_some b rest back lent behind f (n b back refl))

-- what a list lends to a walk: the items from where it is, and of these the ones before the end
pub record Lending (p : Parts) (first end : Option ℕ) (s : IsStretch p first end) (at : Option ℕ)
    (w : Walked p s.inner s.back at) : Type 0 where
  pub tree : IsTree p
  pub name : ℕ
  pub is : at ≡ Some name
  pub other : at ≢ end
  pub lent : List Item
  pub behind : List Item
  pub from : items_from name p.items ≡ lent ++ behind
  pub items : List Item
  pub cut : items ≡ items_up_to end lent

module _ {p : Parts} {first end : Option ℕ} {s : IsStretch p first end} {at : Option ℕ}
    {w : Walked p s.inner s.back at} (l : Lending p first end s at w) where
  k : Step p l.tree first end s at l.name w
  k = step p l.tree first end s at l.name l.is l.other w

  rest_is : w.rest ++ s.back ≡ l.lent ++ l.behind
  rest_is = ap (λ (xs : List Item). xs ++ s.back) k.is ∙ sym k.from ∙ l.from

  regroup : (a b c d : List Item) → a ++ ((b ++ c) ++ d) ≡ (a ++ b) ++ (c ++ d)
  regroup a b c d = simp append_assoc

  whole : p.items ≡ (s.front ++ w.done) ++ (w.rest ++ s.back)
  whole = s.is ∙ ap (λ (xs : List Item). s.front ++ (xs ++ s.back)) w.is ∙ regroup s.front w.done w.rest s.back

  reached : Reach end w.rest s.back l.lent l.behind
  reached = reach end w.rest s.back l.lent l.behind s.ends (sym rest_is) away
    where
      away : (b : Item) (more : List Item) → s.back ≡ b ∷ more → IsItem b.name w.rest → ⊥
      away b more f h = apart-parts w.rest (b ∷ more)
          (subst (λ (xs : List Item). AreApart (w.rest ++ xs)) f
          (apart-back (s.front ++ w.done) (w.rest ++ s.back) (subst AreApart whole l.tree.apart))) b.name h (inl refl)

  -- the items are the next ones of the walk, and it goes on at another
  pub record Onward (next : Option ℕ) : Type 0 where
    pub more : List Item
    pub is : w.rest ≡ l.items ++ more
    pub here : first_name (more ++ s.back) ≡ next

  pub to_end : length l.items < length l.lent → Onward end
  to_end b = at_end reached
    where
      at_end : Reach end w.rest s.back l.lent l.behind → Onward end
      at_end (Past f g) = record { more = []; is = sym f ∙ sym l.cut ∙ sym (append-nil l.items); here = s.ends }
      at_end (Short more f g h) = let long = ap (λ (xs : List Item). length xs) (l.cut ∙ f) in absurd (omega arith)

  pub to_behind : (next : Option ℕ) → next ≡ first_name l.behind → length l.lent ≤ length l.items → Onward next
  to_behind next e b = at_behind reached
    where
      at_behind : Reach end w.rest s.back l.lent l.behind → Onward next
      at_behind (Past f g) = let long = ap (λ (xs : List Item). length xs) (l.cut ∙ f) in absurd (omega arith)
      at_behind (Short more f g h) = record {
        more = more;
        is = g ∙ ap (λ (xs : List Item). xs ++ more) (sym (l.cut ∙ f));
        here = ap first_name (sym h) ∙ sym e;
      }

  -- one way or the other they are the next ones
  pub next_ones : (more : List Item) × (w.rest ≡ l.items ++ more)
  next_ones = ones reached
    where
      ones : Reach end w.rest s.back l.lent l.behind → (more : List Item) × (w.rest ≡ l.items ++ more)
      ones (Past f g) = ([], sym f ∙ sym l.cut ∙ sym (append-nil l.items))
      ones (Short more f g h) = (more, g ∙ ap (λ (xs : List Item). xs ++ more) (sym (l.cut ∙ f)))

  pub are_there : (i : Item) → In i l.items → In i p.items
  are_there i h = subst (In i) (sym whole) (In-back i (s.front ++ w.done) (w.rest ++ s.back)
      (In-front i w.rest s.back (subst (In i) (sym next_ones.1) (In-front i l.items next_ones.0 h))))

  -- there is one at least
  some_ones : 0 < length l.lent → 0 < length l.items
  some_ones b = ones reached
    where
      ones : Reach end w.rest s.back l.lent l.behind → 0 < length l.items
      ones (Past f g) = let long = ap (λ (xs : List Item). length xs) (l.cut ∙ f ∙ k.is) in omega arith
      ones (Short more f g h) = let long = ap (λ (xs : List Item). length xs) (l.cut ∙ f) in omega arith

  module _ (next : Option ℕ) (o : Onward next) where
    abbrev pub walked_on : Walked p s.inner s.back next
    walked_on = record {
      done = w.done ++ l.items;
      rest = o.more;
      is = w.is ∙ ap (λ (xs : List Item). w.done ++ xs) o.is ∙ sym (append_assoc w.done l.items o.more);
      here = o.here;
    }

    pub fewer_left : 0 < length l.lent → length (items_from_end next p.items) < length (items_from_end at p.items)
    fewer_left b =
        let some = some_ones b in
        let was = rest_long p.items l.tree.apart (w.rest ++ s.back) at w.here (s.front ++ w.done) whole in
        let now = rest_long p.items l.tree.apart (o.more ++ s.back) next o.here ((s.front ++ w.done) ++ l.items)
        (whole ∙ ap (λ (xs : List Item). (s.front ++ w.done) ++ (xs ++ s.back)) o.is
        ∙ regroup (s.front ++ w.done) l.items o.more s.back) in
        let left = length-append w.rest s.back in
        let parts = ap (λ (xs : List Item). length xs) o.is in
        let more = length-append l.items o.more in
        let parted = length-append o.more s.back in
        omega arith

-- ends of walks
pub same_end : (a b : Option ℕ) → not (option_eq nat_eq a b) ≡ false → a ≡ b
same_end None None e = refl
same_end None (Some y) e = absurd (true≢false e)
same_end (Some x) None e = absurd (true≢false e)
same_end (Some x) (Some y) e = at (nat_eq x y) refl e
  where
    at : (c : Bool) → nat_eq x y ≡ c → not c ≡ false → Some x ≡ Some y
    at true f g = ap Some (eqb-true x y f)
    at false f g = absurd (true≢false g)

pub other_end : (a b : Option ℕ) → not (option_eq nat_eq a b) ≡ true → a ≢ b
other_end a b e f = differ (option_eq nat_eq a b) (ap (option_eq nat_eq a) (sym f) ∙ self a) e
  where
    self : (a : Option ℕ) → option_eq nat_eq a a ≡ true
    self None = refl
    self (Some x) = eq-eqb x x refl

    differ : (c : Bool) → c ≡ true → not c ≡ true → ⊥
    differ true e f = true≢false (sym f)
    differ false e f = true≢false (sym e)

pub item_there : (p : Parts) (t : IsTree p) (first end : Option ℕ) (s : IsStretch p first end) (at : Option ℕ)
    (name : ℕ) (e : at ≡ Some name) (n : at ≢ end) (w : Walked p s.inner s.back at) → IsItem name p.items
item_there p t first end s at name e n w =
    let k = step p t first end s at name e n w in
    subst (λ (x : ℕ). IsItem x p.items) k.named (In-map (λ (i : Item). i.name) k.item p.items k.there)

-- at the end of all, all is done
pub all_done : (p : Parts) (t : IsTree p) (first end : Option ℕ) (s : IsStretch p first end) (at : Option ℕ) → at
    ≡ None → (w : Walked p s.inner s.back at) → s.inner ≡ w.done
all_done p t first end s at e w = w.is ∙ ap (λ (xs : List Item). w.done ++ xs) (nothing w.rest (w.here ∙ e))
    ∙ append-nil w.done
  where
    none_some : (x : ℕ) → Some x ≡ None → ⊥
    none_some x e = cc

    nothing : (rest : List Item) → first_name (rest ++ s.back) ≡ None → rest ≡ []
    nothing [] e = refl
    nothing (i ∷ rest) e = absurd (none_some i.name e)
