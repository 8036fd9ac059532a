-- Lists that stand in places of a list: one of them replaced.
use Rattle.std.proofs.Common.{◌≡◌, ◌<◌, ◌≤◌, ◌+◌, ℕ, zero, suc, Bool, true, false, ⊎_elim}
use Rattle.std.proofs.Common.{true≢false, List, [], ◌∷◌, length, set, get_or, map, Option, Some}
use Rattle.std.proofs.Common.{None, Vec, Global, refl, sym, ap, ◌∙◌, subst, arith}
use Rattle.std.proofs.lemmas.List.{map-set}
use Rattle.std.proofs.lemmas.Bool.{cases_lt}
use Rattle.std.proofs.Math.Seq.{map-set_same}
use Rattle.std.specs.List.{slice_get}
use Rattle.std.specs.Option.{IfSome}
use Rattle.td_history.specs.declared.index.Logged.{Logged}
use Rattle.td_history.specs.Index.{decided_in}

mapped_at : {V L : Type 0} (f : V → List L) (xs : List V) (i : ℕ) (e : V) → i < length xs → e ≡ get_or xs i e
    → get_or (map f xs) i [] ≡ f e
mapped_at f [] i e lt is = absurd (omega arith)
mapped_at f (x ∷ xs) zero e lt is = ap f (sym is)
mapped_at f (x ∷ xs) (suc i) e lt is = mapped_at f xs i e (omega arith) is

-- the list at a place becomes g of it
pub replaced : {V L : Type 0} (f : V → List L) (g : List L → List L) (xs : List V) (i : ℕ) (e v : V) → i < length xs
    → e ≡ get_or xs i e
    → f v ≡ g (f e) → map f (set xs i v) ≡ set (map f xs) i (g (get_or (map f xs) i []))
replaced f g xs i e v lt is same =
    let old : get_or (map f xs) i [] ≡ f e = mapped_at f xs i e lt is in
    let new : f v ≡ g (get_or (map f xs) i []) = same ∙ ap g (sym old) in
    map-set f xs i v ∙ ap (λ w. set (map f xs) i w) new

-- or stays as it is
pub replaced_same : {V L : Type 0} (f : V → List L) (xs : List V) (i : ℕ) (e v : V) → e ≡ get_or xs i e → f v ≡ f e
    → map f (set xs i v) ≡ map f xs
replaced_same f xs i e v is same = map-set_same f xs i v e (same ∙ ap f is)

pub set_get : {X : Type 0} (xs : List X) (i : ℕ) (x : X) → i < length xs → slice_get (set xs i x) i ≡ Some x
set_get [] i x h = absurd (omega arith)
set_get (y ∷ xs) zero x h = refl
set_get (y ∷ xs) (suc i) x h = set_get xs i x (omega arith)

pub set_some : {X : Type 0} (P : X → Type 0) (xs : List X) (i : ℕ) (x : X) → i < length xs → P x
    → IfSome (slice_get (set xs i x) i) P
set_some P xs i x h p = subst (λ q. IfSome q P) (sym (set_get xs i x h)) p

-- no vector has more elements than room
pub fits : {X : Type 0} (o : Option (Vec X Global)) → IfSome o (λ (v : Vec X Global). v.len + 0 ≤ v.cap)
fits None = tt
fits (Some v) = omega (arith, v.ok.1)

-- the decision of the operation at a place

pub decided_at : (list : List Logged) (i : ℕ) (l : Logged) (said : Bool) → i < length list → l ≡ get_or list i l
    → set list i (record l { decided = Some said }) ≡ decided_in i said list
decided_at [] i l said lt is = absurd (omega arith)
decided_at (x ∷ list) zero l said lt is = ap (λ (q : Logged). record q { decided = Some said } ∷ list) is
decided_at (x ∷ list) (suc i) l said lt is = ap (λ q. x ∷ q) (decided_at list i l said (omega arith) is)

pub decided_past : (list : List Logged) (i : ℕ) (said : Bool) → length list ≤ i → decided_in i said list ≡ list
decided_past [] i said h = refl
decided_past (x ∷ list) zero said h = absurd (omega arith)
decided_past (x ∷ list) (suc i) said h = ap (λ q. x ∷ q) (decided_past list i said (omega arith))

-- what would be found within is not
pub not_within : (i n : ℕ) → (i < n → false ≡ true) → n ≤ i
not_within i n h = ⊎_elim (λ (k : i < n). absurd (true≢false (sym (h k)))) (λ (k : n ≤ i). k) (cases_lt i n)
