-- Looking for a dot that comes twice.
use Rattle.std.proofs.Common.{◌≡◌, ◌+◌, ◌-◌, ◌<◌, ◌≤◌, ℕ, List, ◌∷◌, true, false, take, drop}
use Rattle.std.proofs.Common.{get_or, length, sym, ap, ◌∙◌, subst, true≢false}
use Rattle.std.specs.Prelude.{◌↔◌}
use Rattle.std.specs.List.{list_any}
use Rattle.std.proofs.lemmas.List.{drop_more, drop_all, length-drop}
use Rattle.std.proofs.Math.Seq.{take-length}
use Rattle.td_base.specs.Lists.{In}
use Rattle.td_base.proofs.Lists.{any_found, any_none, all_in, all_of}
use Rattle.td_op.specs.Op.{OpValue}
use Rattle.td_base.specs.Equality.{same_dot}
use Rattle.td_order.specs.LineUp.{DotsDiffer}
use Rattle.td_base.proofs.Equals.{same_dot_true, same_dot_refl}
use Rattle.td_order.proofs.LineUpLemmas.{OtherDot}

pub to_end : {X : Type 0} (k : ℕ) (xs : List X) → take (length xs - k) (drop k xs) ≡ drop k xs
to_end k xs = ap (λ n. take n (drop k xs)) (sym (length-drop k xs)) ∙ take-length (drop k xs)

-- no two of those from a place on have one dot exactly where no two of all have
abbrev pub Same : List OpValue → ℕ → Type 0
Same ops i = DotsDiffer (drop i ops) ↔ DotsDiffer ops

module _ (ops : List OpValue) (i : ℕ) (o : OpValue) (item : o ≡ get_or ops i o) (within : i < length ops)
    (same : Same ops i) where
  rest : drop i ops ≡ o ∷ drop (i + 1) ops
  rest = drop_more ops i o within ∙ ap (λ p. p ∷ drop (i + 1) ops) (sym item)

  other_dots : list_any (λ (p : OpValue). same_dot p.dot o.dot) (drop (i + 1) ops) ≡ false → (p : OpValue)
      → In p (drop (i + 1) ops) → o.dot ≡ p.dot → ⊥
  other_dots none p k e =
      true≢false (sym (subst (λ d. same_dot d o.dot ≡ true) e (same_dot_refl o.dot))
      ∙ any_none (λ (q : OpValue). same_dot q.dot o.dot) (drop (i + 1) ops) p none k)

  pub differ_next : list_any (λ (p : OpValue). same_dot p.dot o.dot) (drop (i + 1) ops) ≡ false → Same ops (i + 1)
  differ_next none = (
    (λ d. same.0 (subst (λ (l : List OpValue). DotsDiffer l) (sym rest)
        (all_of (OtherDot o) (drop (i + 1) ops) (other_dots none), d))),
    (λ d. let r : DotsDiffer (o ∷ drop (i + 1) ops) = subst (λ (l : List OpValue). DotsDiffer l) rest (same.1 d) in
        r.1),
  )

  pub differ_not : list_any (λ (p : OpValue). same_dot p.dot o.dot) (drop (i + 1) ops) ≡ true → DotsDiffer ops → ⊥
  differ_not some d =
      let r : DotsDiffer (o ∷ drop (i + 1) ops) = subst (λ (l : List OpValue). DotsDiffer l) rest (same.1 d) in
      let f = any_found (λ (p : OpValue). same_dot p.dot o.dot) (drop (i + 1) ops) some in
      all_in (OtherDot o) (drop (i + 1) ops) r.0 f.0 f.1 (sym (same_dot_true f.0.dot o.dot f.2))

pub differ_all : (ops : List OpValue) (i : ℕ) → length ops ≤ i → Same ops i → DotsDiffer ops
differ_all ops i h same = same.0 (subst (λ (l : List OpValue). DotsDiffer l) (sym (drop_all i ops h)) tt)
