-- Paths in infix order, and how one path lies to another.
use Rattle.std.proofs.Common.{◌≡◌, ◌⊎◌, [], ◌∷◌, ◌++◌, true, refl, sym, ap, ◌∙◌, subst, inl, inr, ⊎_elim}
use Rattle.std.specs.declared.cmp.Ordering.{Ordering}
use Rattle.std.specs.declared.cmp.Ordering.TheVariants.{Less, Equal, Greater}
use Rattle.std.specs.Ordering.{ordering_then, ordering_reverse, nat_cmp}
use Rattle.std.proofs.lemmas.Cmp.{tied_itself}
use Rattle.td_base.specs.declared.bit.Bit.{Bit}
use Rattle.td_base.specs.declared.bit.Bit.TheVariants.{Left, Right}
use Rattle.td_base.specs.Value.{AtomIdValue}
use Rattle.td_base.specs.Order.{dot_cmp, id_cmp, bit_cmp, dot_lt}
use Rattle.td_path.specs.Infix.{Pair, Pairs, pair_cmp, path_cmp}
use Rattle.td_path.proofs.InfixOrder.{path_total, equal_pairs, same_pairs, left_before, right_after}
use Rattle.td_base.proofs.Orders.{bit_total, less_of}
use Rattle.td_base.proofs.Elements.{same_head, same_tail}
use Rattle.td_doc.specs.Document.{DocRow, last_id}
use Rattle.td_doc.proofs.PutRows.{not_before_itself}

abbrev pub PathLt : Pairs → Pairs → Type 0
PathLt p q = path_cmp p q ≡ Less

abbrev pub RowLt : DocRow → DocRow → Type 0
RowLt r q = PathLt r.path q.path

pub path_trans : (p q r : Pairs) → PathLt p q → PathLt q r → PathLt p r
path_trans p q r h k = path_total.trans p q r h k

pub path_not : (p : Pairs) → PathLt p p → ⊥
path_not p h = not_before_itself p h

pub above_left : (p : Pairs) (t : Pair) (rest : Pairs) → t.0 ≡ Left → PathLt (p ++ t ∷ rest) p
above_left p t rest e = subst (λ (b : Bit). PathLt (p ++ (b, t.1) ∷ rest) p) (sym e) (left_before p t.1 rest)

pub above_right : (p : Pairs) (t : Pair) (rest : Pairs) → t.0 ≡ Right → PathLt p (p ++ t ∷ rest)
above_right p t rest e = subst (λ (b : Bit). PathLt p (p ++ (b, t.1) ∷ rest)) (sym e) (right_after p t.1 rest)

one_pair : (t u : Pair) → t ≡ u → pair_cmp t u ≡ Equal
one_pair t u e = subst (λ (z : Pair). pair_cmp t z ≡ Equal) e (same_pairs t)

pairs_on : (t u : Pair) (p q : Pairs) → t ≡ u → PathLt p q → PathLt (t ∷ p) (u ∷ q)
pairs_on t u p q e h = ap (λ (o : Ordering). ordering_then o (path_cmp p q)) (one_pair t u e) ∙ h

pub path_append : (path u v : Pairs) → PathLt u v → PathLt (path ++ u) (path ++ v)
path_append [] u v h = h
path_append (x ∷ path) u v h = pairs_on x x (path ++ u) (path ++ v) refl (path_append path u v h)

-- the first of two pairs that differ, by its dot
pub first_less : (t u : Pair) (p q : Pairs) → t.0 ≡ u.0 → dot_lt t.1.dot u.1.dot ≡ true → PathLt (t ∷ p) (u ∷ q)
first_less t u p q e h =
    let bits : bit_cmp t.0 u.0 ≡ Equal = subst (λ (b : Bit). bit_cmp t.0 b ≡ Equal) e (tied_itself bit_total t.0) in
    let dots : dot_cmp t.1.dot u.1.dot ≡ Less = less_of (dot_cmp t.1.dot u.1.dot) h in
    ap (λ (o : Ordering). ordering_then (ordering_then o (id_cmp t.1 u.1)) (path_cmp p q)) bits
    ∙ ap (λ (o : Ordering). ordering_then (ordering_then o (nat_cmp t.1.offset u.1.offset)) (path_cmp p q)) dots

-- how a path lies to a node's path
pub data PathCase (p path : Pairs) : Type 0 where
  sooner : ((more : Pairs) → PathLt p (path ++ more)) → PathCase p path
  later : ((more : Pairs) → PathLt (path ++ more) p) → PathCase p path
  here : p ≡ path → PathCase p path
  deeper : (t : Pair) (rest : Pairs) → p ≡ path ++ t ∷ rest → PathCase p path

case_on : (t u : Pair) (p path : Pairs) → t ≡ u → PathCase p path → PathCase (t ∷ p) (u ∷ path)
case_on t u p path s (sooner f) = sooner (λ more. pairs_on t u p (path ++ more) s (f more))
case_on t u p path s (later f) = later (λ more. pairs_on u t (path ++ more) p (sym s) (f more))
case_on t u p path s (here e) = here (λ i. s i ∷ e i)
case_on t u p path s (deeper v rest e) = deeper v rest (λ i. s i ∷ e i)

case_at : (t u : Pair) (p path : Pairs) (o : Ordering) → pair_cmp t u ≡ o → PathCase p path
    → PathCase (t ∷ p) (u ∷ path)
case_at t u p path Less h k = sooner (λ more. ap (λ (o : Ordering). ordering_then o (path_cmp p (path ++ more))) h)
case_at t u p path Equal h k = case_on t u p path (equal_pairs t u h) k
case_at t u p path Greater h k =
    later (λ more. path_total.antisymm (u ∷ path ++ more) (t ∷ p)
    ∙ ap (λ (o : Ordering). ordering_reverse (ordering_then o (path_cmp p (path ++ more)))) h)

pub path_case : (p path : Pairs) → PathCase p path
path_case [] [] = here refl
path_case (t ∷ p) [] = deeper t p refl
path_case [] ((Left, x) ∷ path) = later (λ more. refl)
path_case [] ((Right, x) ∷ path) = sooner (λ more. refl)
path_case (t ∷ p) (u ∷ path) = case_at t u p path (pair_cmp t u) refl (path_case p path)

-- paths that are cut

pub no_pairs : (p : Pairs) (u : Pair) (q : Pairs) → p ++ u ∷ q ≡ [] → ⊥
no_pairs [] u q h = cc
no_pairs (z ∷ p) u q h = cc

pub cancel : (p u v : Pairs) → p ++ u ≡ p ++ v → u ≡ v
cancel [] u v e = e
cancel (x ∷ p) u v e = cancel p u v (same_tail x _ x _ e)

-- the path is that of a node, or of one below it
abbrev pub IsBelow : Pairs → Pairs → Type 0
IsBelow node p = (rest : Pairs) × (p ≡ node ++ rest)

-- a node above a path is above the path's front, or comes on its way after the front
pub fork : (path : Pairs) (t : Pair) (rest node more : Pairs) → path ++ t ∷ rest ≡ node ++ more
    → IsBelow node path ⊎ ((after : Pairs) × (node ≡ path ++ t ∷ after))
fork [] t rest [] more e = inl ([], refl)
fork [] t rest (n ∷ node) more e = inr (node, λ i. sym (same_head t _ n _ e) i ∷ node)
fork (p ∷ path) t rest [] more e = inl (p ∷ path, refl)
fork (p ∷ path) t rest (n ∷ node) more e =
    let h = same_head p _ n _ e in
    ⊎_elim (λ (a : IsBelow node path). inl (a.0, λ i. h i ∷ a.1 i))
    (λ (b : (after : Pairs) × (node ≡ path ++ t ∷ after)). inr (b.0, λ i. sym h i ∷ b.1 i))
    (fork path t rest node more (same_tail p _ n _ e))

-- the identity at a path's end
pub last_more : (d : AtomIdValue) (p : Pairs) (t : Pair) (rest : Pairs) → last_id d (p ++ t ∷ rest) ≡ last_id t.1 rest
last_more d [] t rest = refl
last_more d (q ∷ p) t rest = last_more q.1 p t rest
