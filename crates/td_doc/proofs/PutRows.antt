-- Rows put where the infix order has them.
use Rattle.std.proofs.Common.{◌≡◌, ◌≢◌, ◌⊎◌, List, [], ◌∷◌, ◌++◌, Bool, true, false, cond, refl, sym, ap}
use Rattle.std.proofs.Common.{◌∙◌, subst, inl, inr, ⊎_elim, true≢false, append_assoc}
use Rattle.std.proofs.lemmas.List.{append-nil}
use Rattle.std.specs.declared.cmp.Ordering.{Ordering}
use Rattle.std.specs.declared.cmp.Ordering.TheVariants.{Less, Equal, Greater}
use Rattle.std.specs.Ordering.{is_lt, ordering_reverse}
use Rattle.std.proofs.lemmas.Cmp.{tied_itself}
use Rattle.td_base.specs.Lists.{In, Successive}
use Rattle.td_base.proofs.Lists.{In-append, all_in, all_of}
use Rattle.td_path.specs.Infix.{Pairs, path_cmp}
use Rattle.td_path.proofs.InfixOrder.{path_total, equal_paths}
use Rattle.td_doc.specs.Document.{DocRow, row_id}
use Rattle.td_doc.specs.Insertion.{put_row, put_rows}
use Rattle.td_base.proofs.Orders.{less_of}

abbrev pub Before : DocRow → DocRow → Type 0
Before r s = path_cmp r.path s.path ≡ Less

abbrev pub Differ : DocRow → DocRow → Type 0
Differ r s = row_id r ≢ row_id s

-- the order of paths

pub not_before_itself : (p : Pairs) → path_cmp p p ≡ Less → ⊥
not_before_itself p h = less_is_not_equal (sym h ∙ tied_itself path_total p)
  where
    less_is_not_equal : Less ≡ Equal → ⊥
    less_is_not_equal e = cc

pub not_both_before : (p q : Pairs) → path_cmp p q ≡ Less → path_cmp q p ≡ Less → ⊥
not_both_before p q h k = not_before_itself p (path_total.trans p q p h k)

three_ways_at : (p q : Pairs) (o : Ordering) → path_cmp p q ≡ o → (path_cmp p q ≡ Less)
    ⊎ ((p ≡ q) ⊎ (path_cmp q p ≡ Less))
three_ways_at p q Less h = inl h
three_ways_at p q Equal h = inr (inl (equal_paths p q h))
three_ways_at p q Greater h = inr (inr (path_total.antisymm q p ∙ ap ordering_reverse h))

pub three_ways : (p q : Pairs) → (path_cmp p q ≡ Less) ⊎ ((p ≡ q) ⊎ (path_cmp q p ≡ Less))
three_ways p q = three_ways_at p q (path_cmp p q) refl

reverse_less : (o : Ordering) → ordering_reverse o ≡ Less → is_lt o ≡ false
reverse_less Less h = cc
reverse_less Equal h = refl
reverse_less Greater h = refl

-- what stands before is not after
pub not_after : (p q : Pairs) → path_cmp q p ≡ Less → is_lt (path_cmp p q) ≡ false
not_after p q h = reverse_less (path_cmp p q) (sym (path_total.antisymm q p) ∙ h)

not_less : (p q : Pairs) → is_lt (path_cmp p q) ≡ false → p ≢ q → path_cmp q p ≡ Less
not_less p q h n =
    ⊎_elim (λ (l : path_cmp p q ≡ Less). absurd (true≢false (sym (ap is_lt l) ∙ h)))
    (λ (k : (p ≡ q) ⊎ (path_cmp q p ≡ Less)). ⊎_elim (λ (e : p ≡ q). absurd (n e)) (λ (l : path_cmp q p ≡ Less). l) k)
    (three_ways p q)

-- who is a row afterwards

in_put_at : (n r x : DocRow) (rows : List DocRow) (b : Bool) → (In x (put_row n rows) → (x ≡ n) ⊎ In x rows)
    → In x (cond b (n ∷ r ∷ rows) (r ∷ put_row n rows)) → (x ≡ n) ⊎ In x (r ∷ rows)
in_put_at n r x rows true ih h = h
in_put_at n r x rows false ih h = ⊎_elim (λ (e : x ≡ r). inr (inl e))
    (λ (i : In x (put_row n rows)). ⊎_elim (λ (e : x ≡ n). inl e) (λ (j : In x rows). inr (inr j)) (ih i)) h

pub in_put : (n x : DocRow) (rows : List DocRow) → In x (put_row n rows) → (x ≡ n) ⊎ In x rows
in_put n x [] h = h
in_put n x (r ∷ rows) h = in_put_at n r x rows (is_lt (path_cmp n.path r.path)) (in_put n x rows) h

put_in_at : (n r x : DocRow) (rows : List DocRow) (b : Bool) → ((x ≡ n) ⊎ In x rows → In x (put_row n rows)) → (x ≡ n)
    ⊎ In x (r ∷ rows) → In x (cond b (n ∷ r ∷ rows) (r ∷ put_row n rows))
put_in_at n r x rows true ih h = h
put_in_at n r x rows false ih h = ⊎_elim (λ (e : x ≡ n). inr (ih (inl e)))
    (λ (i : In x (r ∷ rows)). ⊎_elim (λ (e : x ≡ r). inl e) (λ (j : In x rows). inr (ih (inr j))) i) h

pub put_in : (n x : DocRow) (rows : List DocRow) → (x ≡ n) ⊎ In x rows → In x (put_row n rows)
put_in n x [] h = h
put_in n x (r ∷ rows) h = put_in_at n r x rows (is_lt (path_cmp n.path r.path)) (put_in n x rows) h

pub in_puts : (new rows : List DocRow) (x : DocRow) → In x (put_rows new rows) → In x new ⊎ In x rows
in_puts [] rows x h = inr h
in_puts (n ∷ new) rows x h =
    ⊎_elim (λ (i : In x new). inl (inr i))
    (λ (i : In x (put_row n rows)). ⊎_elim (λ (e : x ≡ n). inl (inl e)) (λ (j : In x rows). inr j) (in_put n x rows i))
    (in_puts new (put_row n rows) x h)

pub puts_in : (new rows : List DocRow) (x : DocRow) → In x new ⊎ In x rows → In x (put_rows new rows)
puts_in [] rows x h = ⊎_elim (λ (i : ⊥). absurd i) (λ (j : In x rows). j) h
puts_in (n ∷ new) rows x h =
    puts_in new (put_row n rows) x
    (⊎_elim (λ (i : In x (n ∷ new)). ⊎_elim (λ (e : x ≡ n). inr (put_in n x rows (inl e))) (λ (j : In x new). inl j)
    i) (λ (j : In x rows). inr (put_in n x rows (inr j))) h)

-- paths increase

abbrev pub IsFree : DocRow → List DocRow → Type 0
IsFree n rows = (x : DocRow) → In x rows → n.path ≢ x.path

ascending_at : (n r : DocRow) (rows : List DocRow) (b : Bool) → is_lt (path_cmp n.path r.path) ≡ b
    → IsFree n (r ∷ rows) → Successive Before (r ∷ rows) → Successive Before (put_row n rows)
    → Successive Before (cond b (n ∷ r ∷ rows) (r ∷ put_row n rows))
ascending_at n r rows true e free up ih =
    let first : Before n r = less_of _ e in (
      (
        first,
        all_of (Before n) rows (λ x i. path_total.trans n.path r.path x.path first
            (all_in (Before r) rows up.0 x i)),
      ),
      up,
    )
ascending_at n r rows false e free up ih =
    let first : Before r n = not_less n.path r.path e (free r (inl refl)) in (
      all_of (Before r) (put_row n rows) (λ x i. ⊎_elim
          (λ (q : x ≡ n). subst (λ (y : DocRow). Before r y) (sym q) first)
          (λ (j : In x rows). all_in (Before r) rows up.0 x j) (in_put n x rows i)),
      ih,
    )

ascending_put : (n : DocRow) (rows : List DocRow) → IsFree n rows → Successive Before rows
    → Successive Before (put_row n rows)
ascending_put n [] free up = (tt, tt)
ascending_put n (r ∷ rows) free up = ascending_at n r rows (is_lt (path_cmp n.path r.path)) refl free up
    (ascending_put n rows (λ x i. free x (inr i)) up.1)

pub ascending_puts : (new rows : List DocRow) → Successive Before new → Successive Before rows
    → ((n : DocRow) → In n new → IsFree n rows) → Successive Before (put_rows new rows)
ascending_puts [] rows up down free = down
ascending_puts (n ∷ new) rows up down free =
    ascending_puts new (put_row n rows) up.1 (ascending_put n rows (free n (inl refl)) down)
    (λ m i x j e. ⊎_elim
    (λ (q : x ≡ n). not_before_itself n.path (subst (λ (p : Pairs). path_cmp n.path p ≡ Less)
    (e ∙ ap (λ (y : DocRow). y.path) q) (all_in (Before n) new up.0 m i)))
    (λ (k : In x rows). free m (inr i) x k e) (in_put n x rows j))

-- identities differ

abbrev pub IsOther : DocRow → List DocRow → Type 0
IsOther n rows = (x : DocRow) → In x rows → Differ n x

apart_at : (n r : DocRow) (rows : List DocRow) (b : Bool) → IsOther n (r ∷ rows) → Successive Differ (r ∷ rows)
    → Successive Differ (put_row n rows) → Successive Differ (cond b (n ∷ r ∷ rows) (r ∷ put_row n rows))
apart_at n r rows true other up ih = ((other r (inl refl), all_of (Differ n) rows (λ x i. other x (inr i))), up)
apart_at n r rows false other up ih = (
  all_of (Differ r) (put_row n rows) (λ x i. ⊎_elim
      (λ (q : x ≡ n). subst (λ (y : DocRow). Differ r y) (sym q) (λ e. other r (inl refl) (sym e)))
      (λ (j : In x rows). all_in (Differ r) rows up.0 x j) (in_put n x rows i)),
  ih,
)

apart_put : (n : DocRow) (rows : List DocRow) → IsOther n rows → Successive Differ rows
    → Successive Differ (put_row n rows)
apart_put n [] other up = (tt, tt)
apart_put n (r ∷ rows) other up = apart_at n r rows (is_lt (path_cmp n.path r.path)) other up
    (apart_put n rows (λ x i. other x (inr i)) up.1)

pub apart_puts : (new rows : List DocRow) → Successive Differ new → Successive Differ rows
    → ((n : DocRow) → In n new → IsOther n rows) → Successive Differ (put_rows new rows)
apart_puts [] rows up down other = down
apart_puts (n ∷ new) rows up down other =
    apart_puts new (put_row n rows) up.1 (apart_put n rows (other n (inl refl)) down)
    (λ m i x j e. ⊎_elim
    (λ (q : x ≡ n). all_in (Differ n) new up.0 m i (sym (e ∙ ap row_id q)))
    (λ (k : In x rows). other m (inr i) x k e) (in_put n x rows j))

-- between the rows before and the rows after

abbrev pub AllBefore : List DocRow → List DocRow → Type 0
AllBefore front back = (r s : DocRow) → In r front → In s back → Before r s

pub put_before : (n r : DocRow) (rows : List DocRow) → Before n r → put_row n (r ∷ rows) ≡ n ∷ r ∷ rows
put_before n r rows h = ap (λ o. cond (is_lt o) (n ∷ r ∷ rows) (r ∷ put_row n rows)) h

put_first : (n : DocRow) (rows : List DocRow) → ((s : DocRow) → In s rows → Before n s) → put_row n rows ≡ n ∷ rows
put_first n [] h = refl
put_first n (s ∷ rows) h = put_before n s rows (h s (inl refl))

put_past : (n : DocRow) (front back : List DocRow) → ((r : DocRow) → In r front → Before r n)
    → put_row n (front ++ back) ≡ front ++ put_row n back
put_past n [] back h = refl
put_past n (r ∷ front) back h =
    let later : is_lt (path_cmp n.path r.path) ≡ false = not_after n.path r.path (h r (inl refl)) in
    ap (λ b. cond b (n ∷ r ∷ (front ++ back)) (r ∷ put_row n (front ++ back))) later
    ∙ ap (λ (rows : List DocRow). r ∷ rows) (put_past n front back (λ q i. h q (inr i)))

-- rows in their order, after the front and before the back
pub put_between : (new front back : List DocRow) → Successive Before new → AllBefore front new → AllBefore new back
    → put_rows new (front ++ back) ≡ front ++ new ++ back
put_between [] front back up past ahead = ap (λ (rows : List DocRow). rows ++ back) (sym (append-nil front))
put_between (n ∷ new) front back up past ahead =
    let put : put_row n (front ++ back) ≡ front ++ n ∷ back =
    put_past n front back (λ r i. past r n i (inl refl))
    ∙ ap (λ (rows : List DocRow). front ++ rows) (put_first n back (λ s i. ahead n s (inl refl) i)) in
    ap (put_rows new) (put ∙ sym (append_assoc front (n ∷ []) back))
    ∙ put_between new (front ++ n ∷ []) back up.1
    (λ r s i j. ⊎_elim (λ (k : In r front). past r s k (inr j))
    (λ (k : In r (n ∷ [])). ⊎_elim (λ (e : r ≡ n). subst (λ (q : DocRow). Before q s) (sym e)
    (all_in (Before n) new up.0 s j)) (λ (z : ⊥). absurd z) k) (In-append r front (n ∷ []) i))
    (λ r s i j. ahead r s (inr i) j)
    ∙ ap (λ (rows : List DocRow). rows ++ back) (append_assoc front (n ∷ []) new)
