-- Each atom has a key, a list of steps from the root down, by which all atoms can be compared. A step is a rank among
-- the insertions of its slot, the insert's dot, the offset in its run, and 0, 1 or 2: on to the left, here, on to the
-- right.
use Rattle.std.proofs.Common.{◌≡◌, ◌⊎◌, ◌<◌, ℕ, List, [], ◌∷◌, true, inl, inr, ⊎_elim}
use Rattle.td_order.proofs.Lex.{Strict, Lex, lex_strict, Below, nat_strict}
use Rattle.td_base.specs.Value.{DotValue, AtomIdValue}
use Rattle.td_base.specs.Order.{dot_lt}
use Rattle.td_base.proofs.Orders.{dot_lt_true, dot_lt_from}

abbrev pub Key : Type 0
Key = List (List ℕ)

abbrev pub StepLt : List ℕ → List ℕ → Type 0
StepLt = Lex Below

abbrev pub KeyLt : Key → Key → Type 0
KeyLt = Lex StepLt

pub step_strict : Strict StepLt
step_strict = lex_strict Below nat_strict

pub key_strict : Strict KeyLt
key_strict = lex_strict StepLt step_strict

abbrev pub step : ℕ → DotValue → ℕ → ℕ → List ℕ
step rank dot offset side = rank ∷ dot.site ∷ dot.seq ∷ offset ∷ side ∷ []

abbrev pub id_of : DotValue → ℕ → AtomIdValue
id_of dot offset = record { dot = dot; offset = offset }

-- of two keys that go on differently, the first has the smaller rank, or at one rank the smaller dot
pub first_step : (r q : ℕ) (d e : DotValue) (i j s t : ℕ) (u v : Key) → KeyLt (step r d i s ∷ u) (step q e j t ∷ v)
    → (r < q) ⊎ ((r ≡ q) × ((dot_lt d e ≡ true) ⊎ ((d ≡ e) × KeyLt ((i ∷ s ∷ []) ∷ u) ((j ∷ t ∷ []) ∷ v))))
first_step r q d e i j s t u v h =
    ⊎_elim (λ a. from_step a (λ k. inl k)) (λ (b : (step r d i s ≡ step q e j t) × KeyLt u v). equal b.0 b.1) h
  where
    from_step : StepLt (step r d i s) (step q e j t)
        → (StepLt (i ∷ s ∷ []) (j ∷ t ∷ []) → KeyLt ((i ∷ s ∷ []) ∷ u) ((j ∷ t ∷ []) ∷ v)) → (r < q)
        ⊎ ((r ≡ q) × ((dot_lt d e ≡ true) ⊎ ((d ≡ e) × KeyLt ((i ∷ s ∷ []) ∷ u) ((j ∷ t ∷ []) ∷ v))))
    from_step a lift =
        ⊎_elim (λ k. inl k)
        (λ (b : (r ≡ q) × StepLt (d.site ∷ d.seq ∷ i ∷ s ∷ []) (e.site ∷ e.seq ∷ j ∷ t ∷ [])). inr (
          b.0,
          ⊎_elim (λ k. inl (dot_lt_from d e (inl k)))
              (λ (c : (d.site ≡ e.site) × StepLt (d.seq ∷ i ∷ s ∷ []) (e.seq ∷ j ∷ t ∷ [])).
              ⊎_elim (λ k. inl (dot_lt_from d e (inr (c.0, k))))
              (λ (f : (d.seq ≡ e.seq) × StepLt (i ∷ s ∷ []) (j ∷ t ∷ [])). inr
              ((λ x. record { site = c.0 x; seq = f.0 x }), lift f.1)) c.1)
              b.1,
        ))
        a

    equal : step r d i s ≡ step q e j t → KeyLt u v → (r < q)
        ⊎ ((r ≡ q) × ((dot_lt d e ≡ true) ⊎ ((d ≡ e) × KeyLt ((i ∷ s ∷ []) ∷ u) ((j ∷ t ∷ []) ∷ v))))
    equal e' k =
        let rr : r ≡ q = cc in let a : d.site ≡ e.site = cc in let b : d.seq ≡ e.seq = cc in let c : i ≡ j = cc in
        let g : s ≡ t = cc in
        inr (rr, inr ((λ x. record { site = a x; seq = b x }), inr ((λ x. c x ∷ g x ∷ []), k)))

pub rank_first : (r q : ℕ) (d e : DotValue) (i j s t : ℕ) (u v : Key) → r < q
    → KeyLt (step r d i s ∷ u) (step q e j t ∷ v)
rank_first r q d e i j s t u v h = inl (inl h)

pub dot_first : (r q : ℕ) (d e : DotValue) (i j s t : ℕ) (u v : Key) → r ≡ q → dot_lt d e ≡ true
    → KeyLt (step r d i s ∷ u) (step q e j t ∷ v)
dot_first r q d e i j s t u v h k = inl (inr (
  h,
  ⊎_elim (λ a. inl a)
      (λ (b : (d.site ≡ e.site) × (d.seq < e.seq)). inr (b.0, inl b.1)) (dot_lt_true d e k),
))
