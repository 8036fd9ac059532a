-- Each step keeps the tie between the text that is shown and its history.
use Rattle.std.proofs.Common.{◌≡◌, ◌≢◌, ℕ, zero, suc, List, [], ◌∷◌, ◌++◌, set, sym, refl, ap, ◌∙◌, subst, ⊎_elim, Some}
use Rattle.std.proofs.lemmas.Option.{none-some}
use mathlib.Core.Option.{some, some-ne-none, some-injective}
use lib.ListN.{get_elem?}
use Rattle.crossbeam_utils.specs.Register.{Admits, TurnsAt, Turns, Forks, Merges}
use Rattle.atomic_table.proofs.Lists.{at_set, at_snoc}
use Rattle.td_view.specs.declared.shown.Shown.{Shown}
use Rattle.td_view.specs.declared.table.Named.{Named}
use Rattle.td_view.specs.Deeds.{Publishes}
use Rattle.td_view.specs.Tied.{StandsAtEnd, Tied, nobody, given_more}

-- a seat knows no other history than that of x
abbrev Same : Shown → Named → Type 0
Same x v = (p : Publishes) → v.of ≡ Some p → p.book ≡ x.past.book

same_none : (x : Shown) → Same x nobody
same_none x p e = absurd (none-some p e)

abbrev Every : Shown → List Named → Type 0
Every x views = (seat : ℕ) (v : Named) → get_elem? views seat ≡ some v → Same x v

every_set : (x : Shown) (views : List Named) (seat : ℕ) (w : Named) → Same x w → Every x views
    → Every x (set views seat w)
every_set x views seat w mine others j u e = ⊎_elim (λ (t : (j ≡ seat) × (w ≡ u)). subst (Same x) t.1 mine)
    (λ (t : (j ≢ seat) × (get_elem? views j ≡ some u)). others j u t.1) (at_set views seat j w u e)

every_snoc : (x : Shown) (views : List Named) (w : Named) → Same x w → Every x views → Every x (views ++ w ∷ [])
every_snoc x views w mine others j u e = ⊎_elim (λ (t : get_elem? views j ≡ some u). others j u t)
    (λ (t : w ≡ u). subst (Same x) t mine) (at_snoc views w u j e)

every_one : (x : Shown) → Every x (nobody ∷ [])
every_one x zero v e = subst (Same x) (some-injective nobody v e) (same_none x)
every_one x (suc j) v e = absurd (some-ne-none v (sym e))

moved : (x y : Shown) (views : List Named) → y.past.book ≡ x.past.book → Every x views → Every y views
moved x y views same all j u e p is = all j u e p is ∙ sym same

pub begins : (x : Shown) → StandsAtEnd x → Tied x (nobody ∷ [])
begins x s = (s, every_one x)

pub admits : Admits Tied nobody
admits x views h = (h.0, every_snoc x views nobody (same_none x) h.1)

pub names : (seat : ℕ) (v : Named) (x y : Shown) → StandsAtEnd y → y.past.book ≡ x.past.book
    → TurnsAt Tied seat v x y (λ v x y w. w ≡ record { of = Some y.past; given = [] })
names seat v x y s same views h at = (
  record { of = Some y.past; given = [] },
  (
    s,
    every_set y views seat (record { of = Some y.past; given = [] })
        (λ p is. ap (λ (q : Publishes). q.book) (sym (some_same y.past p is))) (moved x y views same h.1),
  ),
  refl,
)
  where
    some_same : (a b : Publishes) → Some a ≡ Some b → a ≡ b
    some_same a b e = cc

pub shows : (seat : ℕ) (v : Named) (x y : Shown) → StandsAtEnd y → y.past.book ≡ x.past.book
    → TurnsAt Tied seat v x y (λ v x y w. w ≡ v)
shows seat v x y s same views h at = let all = moved x y views same h.1 in
    (v, (s, every_set y views seat v (all seat v at) all), refl)

pub looks : (seat : ℕ) (v : Named) → Turns Tied seat v (λ x. x)
    (λ v x y w. (w ≡ given_more v y.past) × StandsAtEnd y × ((p : Publishes) → v.of ≡ Some p → p.book ≡ y.past.book))
looks seat v x views h at = (
  given_more v x.past,
  (h.0, every_set x views seat (given_more v x.past) (h.1 seat v at) h.1),
  (refl, h.0, h.1 seat v at),
)

pub tells : (seat : ℕ) (v : Named) → Forks Tied seat v v v
tells seat v x views h at = (
  h.0,
  every_snoc x (set views seat v) v (h.1 seat v at)
      (every_set x views seat v (h.1 seat v at) h.1),
)

pub learns : (seat : ℕ) (v : Named) (other : ℕ) (w : Named) → Merges Tied seat v other w w nobody
learns seat v other w x views h at apart there =
    let was : get_elem? views other ≡ some w = ⊎_elim (λ (t : (other ≡ seat) × (w ≡ w)). absurd (apart t.0))
    (λ (t : (other ≢ seat) × (get_elem? views other ≡ some w)). t.1) (at_set views seat other w w there) in
    (h.0, every_set x (set views seat w) other nobody (same_none x) (every_set x views seat w (h.1 other w was) h.1))
