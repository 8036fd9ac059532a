-- The row that follows a row hangs on the right of it, where anything does.
use Rattle.std.proofs.Common.{◌≡◌, ◌≢◌, List, [], ◌∷◌, ◌++◌, Bool, true, false, cond, filter, Option, Some}
use Rattle.std.proofs.Common.{refl, sym, ap, ◌∙◌, subst, inl, inr, ⊎_elim, true≢false}
use Rattle.std.specs.Option.{option_map}
use Rattle.td_base.specs.declared.bit.Bit.TheVariants.{Right}
use Rattle.td_base.specs.Lists.{In}
use Rattle.td_base.proofs.Lists.{In-append, In-back, across, all_in, successive_back}
use Rattle.td_path.specs.Infix.{Pairs, path_cmp}
use Rattle.std.specs.declared.cmp.Ordering.TheVariants.{Less}
use Rattle.td_path.specs.SlotPaths.{goes_on}
use Rattle.td_path.specs.declared.slot.Slot.TheVariants.{At}
use Rattle.td_path.specs.declared.slot_path.SlotPath.TheVariants.{Below}
use Rattle.td_path.proofs.InfixOrder.{right_after, between_right, goes_on_parts}
use Rattle.td_doc.specs.Document.{DocRow, row_id, is_empty_list, IsDocument}
use Rattle.td_doc.specs.Slots.{rows_below, is_empty_slot}
use Rattle.td_doc.specs.Allocation.{first_id, next_id}
use Rattle.td_doc.proofs.PutRows.{Before, Differ, not_before_itself, not_both_before}
use Rattle.td_doc.proofs.Placement.{self_id, has_id-false, find_at}

-- the identity that follows
pub next_in : (front : List DocRow) (r : DocRow) (back : List DocRow)
    → ((s : DocRow) → In s front → row_id s ≢ row_id r)
    → next_id (row_id r) (front ++ r ∷ back) ≡ first_id back
next_in [] r back out = ap (λ (b : Bool). cond b (first_id back) (next_id (row_id r) back)) (self_id r)
next_in (s ∷ front) r back out =
    ap (λ (b : Bool). cond b (first_id (front ++ r ∷ back)) (next_id (row_id r) (front ++ r ∷ back)))
    (has_id-false (row_id r) s (out s (inl refl)))
    ∙ next_in front r back (λ q i. out q (inr i))

-- a list that is not empty after a filter has an element that passes
pub some_passes : {X : Type 0} (test : X → Bool) (xs : List X) → is_empty_list (filter test xs) ≡ false
    → (x : X) × In x xs × (test x ≡ true)
some_passes test [] e = absurd (true≢false e)
some_passes {X} test (x ∷ xs) e = at (test x) refl e (some_passes test xs)
  where
    at : (b : Bool) → test x ≡ b → is_empty_list (cond b (x ∷ filter test xs) (filter test xs)) ≡ false
        → (is_empty_list (filter test xs) ≡ false → (y : X) × In y xs × (test y ≡ true))
        → (y : X) × In y (x ∷ xs) × (test y ≡ true)
    at true g h ih = (x, inl refl, g)
    at false g h ih = let r = ih h in (r.0, inr r.1, r.2)

pub record NextOnRight (r : DocRow) (rows : List DocRow) : Type 0 where
  pub next : DocRow
  pub inside : In next rows
  pub is : next_id (row_id r) rows ≡ Some (row_id next)
  pub on_right : goes_on r.path Right next.path ≡ true

module _ (front : List DocRow) (r : DocRow) (back : List DocRow) (d : IsDocument (front ++ r ∷ back)) where
  pub apart : (s : DocRow) → In s front → row_id s ≢ row_id r
  apart s i = across Differ front (r ∷ back) d.apart s r i (inl refl)

  pub passed : is_empty_slot (front ++ r ∷ back) (At (row_id r) Right) ≡ false
      → is_empty_list (filter (λ (q : DocRow). goes_on r.path Right q.path) (front ++ r ∷ back)) ≡ false
  passed e =
      sym (ap (λ (o : Option DocRow). is_empty_list
      (rows_below (front ++ r ∷ back) (option_map (λ (q : DocRow). Below q.path Right) o)))
      (find_at front r back apart)) ∙ e

  later : (q : DocRow) → goes_on r.path Right q.path ≡ true → Before r q
  later q h =
      let g = goes_on_parts r.path Right q.path h in
      subst (λ (p : Pairs). path_cmp r.path p ≡ Less) (sym g.is) (right_after r.path g.id g.rest)

  in_back : (q : DocRow) → In q (front ++ r ∷ back) → goes_on r.path Right q.path ≡ true → In q back
  in_back q i h =
      ⊎_elim (λ (j : In q front). absurd
      (not_both_before q.path r.path (across Before front (r ∷ back) d.ascending q r j (inl refl)) (later q h)))
      (λ (j : In q (r ∷ back)).
      ⊎_elim (λ (e : q ≡ r). absurd (not_before_itself r.path (subst (λ (s : DocRow). Before r s) e (later q h))))
      (λ (k : In q back). k) j)
      (In-append q front (r ∷ back) i)

pub next_on_right : (front : List DocRow) (r : DocRow) (back : List DocRow) → IsDocument (front ++ r ∷ back)
    → is_empty_slot (front ++ r ∷ back) (At (row_id r) Right) ≡ false → NextOnRight r (front ++ r ∷ back)
next_on_right front r back d e =
    let p = some_passes (λ (q : DocRow). goes_on r.path Right q.path) (front ++ r ∷ back) (passed front r back d e) in
    first back d p.0 (in_back front r back d p.0 p.1 p.2) p.2
  where
    first : (back : List DocRow) → IsDocument (front ++ r ∷ back) → (q : DocRow) → In q back
        → goes_on r.path Right q.path ≡ true
        → NextOnRight r (front ++ r ∷ back)
    first [] d q i h = absurd i
    first (f ∷ rest) d q i h =
        let rises = successive_back Before front (r ∷ f ∷ rest) d.ascending in
        let g = goes_on_parts r.path Right q.path h in
        record {
          next = f;
          inside = In-back f front (r ∷ f ∷ rest) (inr (inl refl));
          is = next_in front r (f ∷ rest) (apart front r (f ∷ rest) d);
          on_right = ⊎_elim (λ (k : q ≡ f). subst (λ (s : DocRow). goes_on r.path Right s.path ≡ true) k h)
              (λ (k : In q rest).
              between_right r.path f.path g.id g.rest rises.0.0
              (subst (λ (p : Pairs). path_cmp f.path p ≡ Less) g.is (all_in (Before f) rest rises.1.0 q k)))
              i;
        }
