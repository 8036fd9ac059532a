-- The least dot of lists with the same dots.
use Rattle.std.proofs.Common.{◌≡◌, List, [], ◌∷◌, Bool, true, false, if◌then◌else◌, Option, Some, None}
use Rattle.std.proofs.Common.{map, filter, refl, sym, ap, subst, inl, inr, ⊎_elim, arith}
use Rattle.std.proofs.lemmas.Cmp.{tied_itself}
use Rattle.std.proofs.lemmas.List.Sorted.{ranks_by}
use Rattle.std.specs.Cmp.{IsStrictWeakOrder}
use Rattle.std.specs.Ordering.{is_lt}
use Rattle.td_base.specs.Value.{DotValue}
use Rattle.td_base.specs.Lists.{In}
use Rattle.td_base.specs.Order.{dot_lt}
use Rattle.td_base.proofs.Lists.{In-filter, filter_In, In-map, map_In}
use Rattle.td_base.proofs.Orders.{dot_total, dot_lt_false}
use Rattle.td_path.specs.declared.slot.Slot.{Slot}
use Rattle.td_machine.specs.Hold.{Hold, smaller_dot, least_dot, held_by}

dots_rank : IsStrictWeakOrder dot_lt
dots_rank = ranks_by dot_total (λ (d : DotValue). d)

not_below_itself : (d : DotValue) → dot_lt d d ≡ false
not_below_itself d = ap is_lt (tied_itself dot_total d)

-- no smaller one is among them
record IsLeast (d : DotValue) (dots : List DotValue) : Type 0 where
  there : In d dots
  least : (e : DotValue) → In e dots → dot_lt e d ≡ false

smaller_least : (d : DotValue) (dots : List DotValue) (m : DotValue) → IsLeast m dots → (b : Bool) → dot_lt m d ≡ b
    → IsLeast (if b then m else d) (d ∷ dots)
smaller_least d dots m l true h = record {
  there = inr l.there;
  least = λ e i. ⊎_elim
      (λ (k : e ≡ d). subst (λ (x : DotValue). dot_lt x m ≡ false) (sym k) (dots_rank.one_way m d h))
      (l.least e) i;
}
smaller_least d dots m l false h = record {
  there = inl refl;
  least = λ e i. ⊎_elim
      (λ (k : e ≡ d). subst (λ (x : DotValue). dot_lt x d ≡ false) (sym k) (not_below_itself d))
      (λ (j : In e dots). dots_rank.chain e m d (l.least e j) h) i;
}

least_at : (d : DotValue) (dots : List DotValue) (o : Option DotValue) → least_dot dots ≡ o
    → ((m : DotValue) → o ≡ Some m → IsLeast m dots) → (o ≡ None → dots ≡ []) → IsLeast (smaller_dot d o) (d ∷ dots)
least_at d dots None h some none = record {
  there = inl refl;
  least = λ e i. ⊎_elim
      (λ (k : e ≡ d). subst (λ (x : DotValue). dot_lt x d ≡ false) (sym k) (not_below_itself d))
      (λ (j : In e dots). absurd (subst (In e) (none refl) j)) i;
}
least_at d dots (Some m) h some none = smaller_least d dots m (some m refl) (dot_lt m d) refl

nothing : (dots : List DotValue) → least_dot dots ≡ None → dots ≡ []
nothing [] h = refl
nothing (d ∷ dots) h = absurd cc

least_is : (dots : List DotValue) (m : DotValue) → least_dot dots ≡ Some m → IsLeast m dots
least_is [] m h = absurd cc
least_is (d ∷ dots) m h =
    subst (λ (x : DotValue). IsLeast x (d ∷ dots)) (same (smaller_dot d (least_dot dots)) m h)
    (least_at d dots (least_dot dots) refl (λ n k. least_is dots n k) (nothing dots))
  where
    same : (a b : DotValue) → Some a ≡ Some b → a ≡ b
    same a b e = cc

neither : (d e : DotValue) → dot_lt d e ≡ false → dot_lt e d ≡ false → d ≡ e
neither d e h k =
    let a = dot_lt_false d e h in
    let b = dot_lt_false e d k in
    let site : d.site ≡ e.site = omega (arith, a.0, b.0) in
    let low = a.1 (sym site) in
    let high = b.1 site in
    let seq : d.seq ≡ e.seq = omega (arith, low, high) in
    λ i. record { site = site i; seq = seq i }

least_same : (xs ys : List DotValue) (o u : Option DotValue) → least_dot xs ≡ o → least_dot ys ≡ u
    → ((d : DotValue) → In d xs → In d ys) → ((d : DotValue) → In d ys → In d xs) → o ≡ u
least_same xs ys None None e f h k = refl
least_same xs ys None (Some n) e f h k =
    absurd (subst (In n) (nothing xs e) (k n (least_is ys n f).there))
least_same xs ys (Some m) None e f h k =
    absurd (subst (In m) (nothing ys f) (h m (least_is xs m e).there))
least_same xs ys (Some m) (Some n) e f h k =
    let a = least_is xs m e in
    let b = least_is ys n f in
    ap Some (neither m n (b.least m (h m a.there)) (a.least n (k n b.there)))

abbrev proposals : List Hold → List DotValue
proposals holds = map (λ (h : Hold). h.proposal) holds

named_in : (some others : List Hold) → ((h : Hold) → In h some → In h others) → (d : DotValue)
    → In d (proposals some) → In d (proposals others)
named_in some others f d i =
    let h = map_In (λ (h : Hold). h.proposal) d some i in
    subst (λ (e : DotValue). In e (proposals others)) (sym h.2)
    (In-map (λ (h : Hold). h.proposal) h.0 others (f h.0 h.1))

passing : (t u : Slot → Bool) (some others : List Hold)
    → ((h : Hold) → In h some → t h.slot ≡ true → In h others × (u h.slot ≡ true))
    → (h : Hold) → In h (filter (λ (g : Hold). t g.slot) some) → In h (filter (λ (g : Hold). u g.slot) others)
passing t u some others f h i =
    let k = In-filter (λ (g : Hold). t g.slot) h some i in
    let o = f h k.0 k.1 in
    filter_In (λ (g : Hold). u g.slot) h others o.0 o.1

-- the least held proposal of two lists where the same holds pass
pub held_alike : (t u : Slot → Bool) (some others : List Hold)
    → ((h : Hold) → In h some → t h.slot ≡ true → In h others × (u h.slot ≡ true))
    → ((h : Hold) → In h others → u h.slot ≡ true → In h some × (t h.slot ≡ true)) → held_by t some ≡ held_by u others
held_alike t u some others f g =
    let xs = filter (λ (h : Hold). t h.slot) some in
    let ys = filter (λ (h : Hold). u h.slot) others in
    least_same (proposals xs) (proposals ys) (held_by t some) (held_by u others) refl refl
    (named_in xs ys (passing t u some others f)) (named_in ys xs (passing u t others some g))

pub held_same : (test : Slot → Bool) (some others : List Hold)
    → ((h : Hold) → In h some → test h.slot ≡ true → In h others)
    → ((h : Hold) → In h others → test h.slot ≡ true → In h some) → held_by test some ≡ held_by test others
held_same test some others f g = held_alike test test some others (λ h i k. (f h i k, k)) (λ h i k. (g h i k, k))
