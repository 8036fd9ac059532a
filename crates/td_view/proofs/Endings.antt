-- After a publish of the end all that can follow is known.
use Rattle.std.proofs.Common.{◌≡◌, ℕ, zero, suc, ◌+◌, List, [], ◌∷◌, ◌++◌, refl, ap, sym}
use Rattle.std.proofs.Common.{◌∙◌, subst, arith, append_assoc, ⊎_elim}
use mathlib.Core.List.{IsPrefix}
use Rattle.logbook.specs.Pages.{Book}
use Rattle.td_base.specs.Lists.{In}
use Rattle.td_view.specs.declared.publish.Publish.{Publish}
use Rattle.td_view.specs.Publishes.{publish, again, MayFollow, AreLegal, IsLegalAfter, countdown}
use Rattle.td_view.specs.Values.{ToldValue, tolds}

same_publish : (q p : Publish) (n : ℕ) → q.upto ≡ p.upto → q.atoms ≡ p.atoms → q.last ≡ n → q ≡ again p n
same_publish q p n a b c i = publish (a i) (b i) (c i)

one_less : (a m : ℕ) → a + 1 ≡ suc (suc m) → a ≡ suc m
one_less a m e = omega (arith, e)

after_counts : (more : List Publish) (p : Publish) (m : ℕ) → IsLegalAfter (again p (suc m)) more
    → IsPrefix more (countdown p m)
after_counts [] p m l = (countdown p m, refl)
after_counts (q ∷ rest) p zero l = let f : MayFollow (again p (suc zero)) q = l.0 in absurd (f.goes_on (omega arith))
after_counts (q ∷ rest) p (suc m) l =
    let f : MayFollow (again p (suc (suc m))) q = l.0 in
    let k = f.counts (omega arith) in
    let is : q ≡ again p (suc m) = same_publish q p (suc m) k.0 k.1 (one_less q.last m k.2) in
    let r = after_counts rest p m (subst (λ (x : Publish). IsLegalAfter x rest) is l.1) in
    (r.0, λ i. is i ∷ r.1 i)

after_of : (x : Publish) (xs : List Publish) (p : Publish) (more : List Publish) → IsLegalAfter x (xs ++ p ∷ more)
    → IsLegalAfter p more
after_of x [] p more l = l.1
after_of x (y ∷ xs) p more l = after_of y xs p more l.1

legal_of : (xs : List Publish) (p : Publish) (more : List Publish) → AreLegal (xs ++ p ∷ more) → IsLegalAfter p more
legal_of [] p more l = l
legal_of (x ∷ xs) p more l = after_of x xs p more l

-- what was seen after a publish of the end was learnt is within the whole list of the writer
pub seen_within : (log seen : List Publish) (p : Publish) (m : ℕ) → IsPrefix (log ++ again p (suc m) ∷ []) seen
    → AreLegal seen
    → IsPrefix seen (log ++ countdown p (suc m))
seen_within log seen p m front l =
    let x : Publish = again p (suc m) in
    let e : log ++ x ∷ front.0 ≡ seen = sym (append_assoc log (x ∷ []) front.0) ∙ front.1 in
    let r = after_counts front.0 p m (legal_of log x front.0 (subst AreLegal (sym e) l)) in (
      r.0,
      ap (λ (s : List Publish). s ++ r.0) (sym e)
          ∙ (append_assoc log (x ∷ front.0) r.0 ∙ ap (λ (t : List Publish). log ++ x ∷ t) r.1),
    )

-- of any publish of the end
pub told_within : (views : Book) (log : List Publish) (p : Publish) (count : ℕ) (told : ToldValue) (seen : List Publish)
    → In told (tolds views log p count) → IsPrefix told.list seen → AreLegal seen
    → IsPrefix seen (log ++ countdown p count)
told_within views log p zero told seen here front l = absurd here
told_within views log p (suc m) told seen here front l =
    either_within views log p m told seen front l (told_within views (log ++ again p (suc m) ∷ []) p m told seen) here
  where
    either_within : (views : Book) (log : List Publish) (p : Publish) (m : ℕ) (told : ToldValue) (seen : List Publish)
        → IsPrefix told.list seen → AreLegal seen
        → (In told (tolds views (log ++ again p (suc m) ∷ []) p m) → IsPrefix told.list seen → AreLegal seen
        → IsPrefix seen ((log ++ again p (suc m) ∷ []) ++ countdown p m))
        → In told (tolds views log p (suc m)) → IsPrefix seen (log ++ countdown p (suc m))
    either_within views log p m told seen front l later here =
        let next : List Publish = log ++ again p (suc m) ∷ [] in
        ⊎_elim (λ (is : told ≡ record { views = views; list = next }).
        seen_within log seen p m (subst (λ (t : ToldValue). IsPrefix t.list seen) is front) l)
        (λ (rest : In told (tolds views next p m)). subst (IsPrefix seen)
        (append_assoc log (again p (suc m) ∷ []) (countdown p m)) (later rest front l))
        here
