-- What is listed under an atom.
use Rattle.std.proofs.Common.{◌≡◌, ◌<◌, ◌+◌, ◌∷◌, ◌++◌, [], Bool, true, false, cond, List, ℕ, ◌∙◌, ap, refl, sym}
use Rattle.std.proofs.Common.{subst, unwrap_or}
use Rattle.std.proofs.Common.{get_or, length, take}
use Rattle.std.proofs.lemmas.List.{take_more}
use Rattle.std.specs.Prelude.{Option, Some, None}
use Rattle.std.specs.BTreeMap.{is_at}
use Rattle.std.specs.Ordering.{is_eq}
use Rattle.std.specs.declared.alloc.Global.{Global}
use Rattle.std.specs.declared.vec.Vec.{Vec}
use Rattle.std.proofs.lemmas.Cmp.{tied_itself}
use Rattle.td_base.specs.Lists.{In}
use Rattle.td_base.specs.Order.{id_cmp}
use Rattle.td_base.specs.Value.{AtomIdValue}
use Rattle.td_base.proofs.Orders.{equal_ids, id_total, is_eq_true}
use Rattle.td_marks.specs.Index.{listed}

-- what stands under an atom, where nothing does at first
pub stood : (o : Option (Vec ℕ Global)) (here made : Vec ℕ Global) → here ≡ unwrap_or o made → made.items ≡ []
    → here.items ≡ listed o
stood None here made is none = ap (λ (v : Vec ℕ Global). v.items) is ∙ none
stood (Some numbers) here made is none = ap (λ (v : Vec ℕ Global). v.items) is

-- what is found under an atom x, where a list was put under y
pub stays_listed : (x y : AtomIdValue) (old found : Option (Vec ℕ Global)) (w : Vec ℕ Global) (k : ℕ)
    → found ≡ cond (is_at (id_cmp y) x) (Some w) old → (y ≡ x → In k (listed old) → In k w.items)
    → In k (listed old) → In k (listed found)
stays_listed x y old found w k is kept i =
    subst (λ (o : Option (Vec ℕ Global)). In k (listed o)) (sym is) (at (is_at (id_cmp y) x) refl)
  where
    at : (b : Bool) → is_at (id_cmp y) x ≡ b → In k (listed (cond b (Some w) old))
    at true e = kept (equal_ids y x (is_eq_true (id_cmp y x) e)) i
    at false e = i

pub is_listed : (x : AtomIdValue) (old found : Option (Vec ℕ Global)) (w : Vec ℕ Global) (k : ℕ)
    → found ≡ cond (is_at (id_cmp x) x) (Some w) old → In k w.items → In k (listed found)
is_listed x old found w k is i =
    subst (λ (o : Option (Vec ℕ Global)). In k (listed o))
    (sym (is ∙ ap (λ (b : Bool). cond b (Some w) old) (ap is_eq (tied_itself id_total x)))) i

-- the atoms so far and the next one
pub with_next : (atoms : List AtomIdValue) (i : ℕ) (x : AtomIdValue) → i < length atoms → x ≡ get_or atoms i x
    → take (i + 1) atoms ≡ take i atoms ++ x ∷ []
with_next atoms i x within read =
    take_more atoms i x within ∙ ap (λ (y : AtomIdValue). take i atoms ++ y ∷ []) (sym read)
