-- Walks over items, from one to the next.
use Rattle.std.proofs.Common.{◌≡◌, ◌≢◌, ℕ, List, [], ◌∷◌, ◌++◌, Option, Some, refl}
use Rattle.std.proofs.Common.{sym, ap, ◌∙◌, subst, inl, append_assoc}
use Rattle.std.proofs.lemmas.List.{append-nil}
use Rattle.td_base.specs.Lists.{In}
use Rattle.td_base.proofs.Lists.{In-back, In-map, all_in}
use Rattle.td_list.specs.Items.{Item, names, IsItem, AreApart, first_name, items_from}
use Rattle.td_list.proofs.Parted.{from_at}
use Rattle.td_list.proofs.Names.{apart-parts, apart-back}
use Rattle.td_tree.specs.Parts.{Parts, IsTree}
use Rattle.td_tree.specs.Walks.{IsStretch}

-- how far a walk has come
pub record Walked (p : Parts) (inner back : List Item) (at : Option ℕ) : Type 0 where
  pub done : List Item
  pub rest : List Item
  pub is : inner ≡ done ++ rest
  pub here : first_name (rest ++ back) ≡ at

module _ (p : Parts) (t : IsTree p) (first end : Option ℕ) (s : IsStretch p first end) where
  abbrev pub Way : Option ℕ → Type 0
  Way at = Walked p s.inner s.back at

  abbrev pub begins : Way first
  begins = record { done = []; rest = s.inner; is = refl; here = s.starts }

  -- the item there, and the walk behind it
  pub record Step (at : Option ℕ) (name : ℕ) (w : Way at) : Type 0 where
    pub item : Item
    pub rest : List Item
    pub is : w.rest ≡ item ∷ rest
    pub named : item.name ≡ name
    pub there : In item p.items
    pub from : items_from name p.items ≡ item ∷ (rest ++ s.back)

  some_rest : (at : Option ℕ) (name : ℕ) → at ≡ Some name → at ≢ end → (rest : List Item)
      → first_name (rest ++ s.back) ≡ at → (i : Item) × (more : List Item) × (rest ≡ i ∷ more) × (i.name ≡ name)
  some_rest at name e n [] h = absurd (n (sym h ∙ s.ends))
  some_rest at name e n (i ∷ more) h = (i, more, refl, same i.name name (h ∙ e))
    where
      same : (a b : ℕ) → Some a ≡ Some b → a ≡ b
      same a b e = cc

  pub step : (at : Option ℕ) (name : ℕ) → at ≡ Some name → at ≢ end → (w : Way at) → Step at name w
  step at name e n w =
      let r = some_rest at name e n w.rest w.here in
      let parts : p.items ≡ (s.front ++ w.done) ++ r.0 ∷ (r.1 ++ s.back) = s.is
      ∙ ap (λ (q : List Item). s.front ++ (q ++ s.back)) (w.is ∙ ap (λ (q : List Item). w.done ++ q) r.2)
      ∙ regroup s.front w.done (r.0 ∷ r.1) s.back in
      let away : IsItem name (s.front ++ w.done) → ⊥ =
      λ k. apart-parts (s.front ++ w.done) (r.0 ∷ (r.1 ++ s.back)) (subst AreApart parts t.apart) name k
      (inl (sym r.3)) in
      record {
        item = r.0;
        rest = r.1;
        is = r.2;
        named = r.3;
        there = subst (In r.0) (sym parts) (In-back r.0 (s.front ++ w.done) (r.0 ∷ (r.1 ++ s.back)) (inl refl));
        from = ap (items_from name) parts ∙ from_at name (s.front ++ w.done) r.0 (r.1 ++ s.back) r.3 away;
      }
    where
      regroup : (a b c d : List Item) → a ++ ((b ++ c) ++ d) ≡ (a ++ b) ++ (c ++ d)
      regroup a b c d = simp append_assoc

  -- at the end all are done
  pub ended : (at : Option ℕ) → at ≡ end → (w : Way at) → s.inner ≡ w.done
  ended at e w = w.is ∙ ap (λ (q : List Item). w.done ++ q) (none_left w.rest w.is (w.here ∙ e ∙ sym s.ends))
      ∙ append-nil w.done
    where
      same : (a b : ℕ) → Some a ≡ Some b → a ≡ b
      same a b e = cc

      at_back : (i : Item) (more : List Item) (back : List Item) → AreApart (i ∷ (more ++ back)) → Some i.name
          ≡ first_name back → ⊥
      at_back i more [] a f = absurd cc
      at_back i more (j ∷ back) a f = all_in (λ (y : ℕ). i.name ≢ y) (names (more ++ j ∷ back)) a.0 j.name
          (In-map (λ (k : Item). k.name) j (more ++ j ∷ back) (In-back j more (j ∷ back) (inl refl)))
          (same i.name j.name f)

      none_left : (rest : List Item) → s.inner ≡ w.done ++ rest → first_name (rest ++ s.back) ≡ first_name s.back
          → rest ≡ []
      none_left [] g h = refl
      none_left (i ∷ more) g h =
          let parts : p.items ≡ (s.front ++ w.done) ++ (i ∷ (more ++ s.back)) = s.is
          ∙ ap (λ (q : List Item). s.front ++ (q ++ s.back)) g ∙ regroup s.front w.done (i ∷ more) s.back in
          absurd (at_back i more s.back (apart-back (s.front ++ w.done) (i ∷ (more ++ s.back))
          (subst AreApart parts t.apart)) h)
        where
          regroup : (a b c d : List Item) → a ++ ((b ++ c) ++ d) ≡ (a ++ b) ++ (c ++ d)
          regroup a b c d = simp append_assoc
