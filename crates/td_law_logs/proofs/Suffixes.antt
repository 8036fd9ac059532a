-- What is left of a list when its newest elements are left out.
use Rattle.std.proofs.Common.{◌≡◌, ◌⊎◌, ◌≤◌, ◌++◌, List, [], ◌∷◌, length, refl, inl, inr, arith}
use Rattle.td_base.specs.Lists.{In}

pub data Suffix {X : Type 0} (part : List X) : List X → Type 0 where
  whole : Suffix part part
  more : {list : List X} → (o : X) → Suffix part list → Suffix part (o ∷ list)

-- what goes on to what is left when the newest element is left out
pub suffix_keeps : {X : Type 0} (P : List X → Type 0) → ((o : X) (list : List X) → P (o ∷ list) → P list)
    → (part list : List X) → Suffix part list → P list → P part
suffix_keeps P tail part list whole p = p
suffix_keeps P tail part list (more {list = rest} o s) p = suffix_keeps P tail part rest s (tail o rest p)

pub suffix_in : {X : Type 0} (part list : List X) → Suffix part list → (e : X) → In e part → In e list
suffix_in part list whole e i = i
suffix_in part list (more {list = rest} o s) e i = inr (suffix_in part rest s e i)

pub suffix_few : {X : Type 0} (part list : List X) → Suffix part list → length part ≤ length list
suffix_few part list whole = omega arith
suffix_few part list (more {list = rest} o s) = let h = suffix_few part rest s in omega arith

pub suffix_next : {X : Type 0} (o : X) (part list : List X) → Suffix (o ∷ part) list → Suffix part list
suffix_next o part list whole = more o whole
suffix_next o part list (more {list = rest} p s) = more p (suffix_next o part rest s)

pub suffix_front : {X : Type 0} (front part : List X) → Suffix part (front ++ part)
suffix_front [] part = whole
suffix_front (x ∷ front) part = more x (suffix_front front part)

-- of two ends of one list one is an end of the other
ends_more : {X : Type 0} (a rest : List X) (o : X) → Suffix a (o ∷ rest) → (b : List X) → Suffix b (o ∷ rest)
    → (Suffix b rest → Suffix a b ⊎ Suffix b a) → Suffix a b ⊎ Suffix b a
ends_more a rest o s b whole ih = inl s
ends_more a rest o s b (more p t) ih = ih t

pub ends : {X : Type 0} (a list : List X) → Suffix a list → (b : List X) → Suffix b list → Suffix a b ⊎ Suffix b a
ends a list whole b t = inr t
ends a list (more {list = rest} o s) b t = ends_more a rest o (more o s) b t (λ u. ends a rest s b u)

pub split_end : {X : Type 0} (o : X) (part : List X) (q : X) (list : List X) → Suffix (o ∷ part) (q ∷ list)
    → (o ≡ q) ⊎ Suffix (o ∷ part) list
split_end o part q list whole = inl refl
split_end o part q list (more v k) = inr k
