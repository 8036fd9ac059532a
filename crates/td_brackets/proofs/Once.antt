-- No token stands twice: that follows from the grammar, and from rows standing once. And a leaf exploded one step
-- leaves brackets.
use Rattle.std.proofs.Common.{◌≡◌, ◌≢◌, ◌⊎◌, ◌/◌, ℕ, List, [], ◌∷◌, ◌++◌, false, map, length, refl, sym}
use Rattle.std.proofs.Common.{ap, ◌∙◌, subst, inl, inr, ⊎_elim, append_assoc, true≢false}
use Rattle.std.proofs.lemmas.List.{append-nil}
use Rattle.td_base.specs.declared.bit.Bit.TheVariants.{Left, Right}
use Rattle.td_base.specs.Lists.{In, Successive}
use Rattle.td_base.proofs.Lists.{In-append, In-front, In-back, In-map, across, all_in, all_of}
use Rattle.td_base.proofs.Lists.{successive_back, successive_front, successive_append}
use Rattle.td_doc.specs.Document.{is_empty_list, IsDocument}
use Rattle.td_brackets.specs.Brackets.{Token, Open, Atom, Close, Leaf, Entry, Level, AllFit}
use Rattle.td_brackets.specs.Brackets.{IsWord, numbers_at, numbers_of, IsBrackets}
use Rattle.td_brackets.specs.Laws.{leaf_word, exploded}
use Rattle.td_brackets.proofs.Words.{append-fit, word_fits, word_moves, word_put, word_cut}
use Rattle.td_brackets.proofs.NodeRows.{numbers-append}
use Rattle.td_brackets.proofs.Standing.{whole_moves}
use Rattle.td_brackets.proofs.Leaves.{leaf_word_fits, explode}

-- rows that stand once

module _ (table : ℕ → Entry) where
  abbrev Other : ℕ → ℕ → Type 0
  Other r s = (table r).id ≢ (table s).id

  abbrev pub Apart : List ℕ → Type 0
  Apart xs = Successive (λ (r s : ℕ). (table r).id ≢ (table s).id) xs

  not_in_front : (front : List ℕ) (x : ℕ) (back : List ℕ) → Apart (front ++ x ∷ back) → In x front → ⊥
  not_in_front front x back h i = across Other front (x ∷ back) h x x i (inl refl) refl

  not_in_back : (front : List ℕ) (x : ℕ) (back : List ℕ) → Apart (front ++ x ∷ back) → In x back → ⊥
  not_in_back front x back h i = all_in (Other x) back (successive_back Other front (x ∷ back) h).0 x i refl

  -- one of them moved to the front, and back
  pub to_front : (front : List ℕ) (x : ℕ) (back : List ℕ) → Apart (front ++ x ∷ back) → Apart (x ∷ (front ++ back))
  to_front front x back h =
      let b = successive_back Other front (x ∷ back) h in (
        all_of (Other x) (front ++ back) (λ y i e. ⊎_elim
            (λ (j : In y front). across Other front (x ∷ back) h y x j (inl refl) (sym e))
            (λ (j : In y back). all_in (Other x) back b.0 y j e) (In-append y front back i)),
        successive_append Other front back (successive_front Other front (x ∷ back) h) b.1
            (λ y z i j. across Other front (x ∷ back) h y z i (inr j)),
      )

  abbrev levels : List Level → List ℕ
  levels stack = map (λ (l : Level). l.0) stack

  -- an atom is of an open row that is read on its left, or of one that comes
  pub atom_of_level : (stack : List Level) (tokens : List Token) → AllFit stack tokens → (s : ℕ) → In (Atom s) tokens
      → In {X = Level} (s, Left) stack ⊎ In s (numbers_of tokens)
  atom_of_level stack [] h s i = absurd i
  atom_of_level stack (Open r ∷ tokens) h s i =
      ⊎_elim (λ (e : Atom s ≡ Open r). absurd (no s r e))
      (λ (k : In (Atom s) tokens).
      ⊎_elim (λ (l : In {X = Level} (s, Left) ((r, Left) ∷ stack)). ⊎_elim
      (λ (e : ◌≡◌ {A = Level} (s, Left) (r, Left)). inr (inl (ap (λ (q : Level). q.0) e)))
      (λ (m : In {X = Level} (s, Left) stack). inl m) l)
      (λ (n : In s (numbers_of tokens)). inr (inr n)) (atom_of_level ((r, Left) ∷ stack) tokens h.1 s k)) i
    where
      no : (s r : ℕ) → Atom s ≡ Open r → ⊥
      no s r e = cc
  atom_of_level [] (Atom r ∷ tokens) h s i = absurd h.0
  atom_of_level (l ∷ stack) (Atom r ∷ tokens) h s i =
      ⊎_elim (λ (e : Atom s ≡ Atom r). inl (inl (ap (λ (q : ℕ). (q, Left)) (same s r e) ∙ sym h.0)))
      (λ (k : In (Atom s) tokens).
      ⊎_elim (λ (m : In {X = Level} (s, Left) ((l.0, Right) ∷ stack)). ⊎_elim
      (λ (e : ◌≡◌ {A = Level} (s, Left) (l.0, Right)). absurd (sides (ap (λ (q : Level). q.1) e)))
      (λ (n : In {X = Level} (s, Left) stack). inl (inr n)) m)
      (λ (n : In s (numbers_of tokens)). inr n) (atom_of_level ((l.0, Right) ∷ stack) tokens h.1 s k)) i
    where
      same : (s r : ℕ) → Atom s ≡ Atom r → s ≡ r
      same s r e = cc

      sides : Left ≡ Right → ⊥
      sides e = cc
  atom_of_level [] (Close r ∷ tokens) h s i = absurd h.0
  atom_of_level (l ∷ stack) (Close r ∷ tokens) h s i =
      ⊎_elim (λ (e : Atom s ≡ Close r). absurd (no s r e))
      (λ (k : In (Atom s) tokens). ⊎_elim (λ (m : In {X = Level} (s, Left) stack). inl (inr m))
      (λ (n : In s (numbers_of tokens)). inr n) (atom_of_level stack tokens h.1 s k)) i
    where
      no : (s r : ℕ) → Atom s ≡ Close r → ⊥
      no s r e = cc
  atom_of_level stack (Leaf rs ∷ tokens) h s i =
      ⊎_elim (λ (e : Atom s ≡ Leaf rs). absurd (no s rs e))
      (λ (k : In (Atom s) tokens). ⊎_elim (λ (m : In {X = Level} (s, Left) stack). inl m)
      (λ (n : In s (numbers_of tokens)). inr (In-back s rs (numbers_of tokens) n))
      (atom_of_level stack tokens h.1 s k)) i
    where
      no : (s : ℕ) (rs : List ℕ) → Atom s ≡ Leaf rs → ⊥
      no s rs e = cc

  -- and so is a closing bracket
  pub close_of_level : (stack : List Level) (tokens : List Token) → AllFit stack tokens → (s : ℕ)
      → In (Close s) tokens → In s (levels stack) ⊎ In s (numbers_of tokens)
  close_of_level stack [] h s i = absurd i
  close_of_level stack (Open r ∷ tokens) h s i =
      ⊎_elim (λ (e : Close s ≡ Open r). absurd (no s r e))
      (λ (k : In (Close s) tokens). ⊎_elim (λ (l : In s (r ∷ levels stack)). ⊎_elim (λ (e : s ≡ r). inr (inl e))
      (λ (m : In s (levels stack)). inl m) l) (λ (n : In s (numbers_of tokens)). inr (inr n))
      (close_of_level ((r, Left) ∷ stack) tokens h.1 s k)) i
    where
      no : (s r : ℕ) → Close s ≡ Open r → ⊥
      no s r e = cc
  close_of_level [] (Atom r ∷ tokens) h s i = absurd h.0
  close_of_level (l ∷ stack) (Atom r ∷ tokens) h s i =
      ⊎_elim (λ (e : Close s ≡ Atom r). absurd (no s r e))
      (λ (k : In (Close s) tokens). close_of_level ((l.0, Right) ∷ stack) tokens h.1 s k) i
    where
      no : (s r : ℕ) → Close s ≡ Atom r → ⊥
      no s r e = cc
  close_of_level [] (Close r ∷ tokens) h s i = absurd h.0
  close_of_level (l ∷ stack) (Close r ∷ tokens) h s i =
      ⊎_elim (λ (e : Close s ≡ Close r). inl (inl (same s r e ∙ sym (ap (λ (q : Level). q.0) h.0))))
      (λ (k : In (Close s) tokens). ⊎_elim (λ (m : In s (levels stack)). inl (inr m))
      (λ (n : In s (numbers_of tokens)). inr n) (close_of_level stack tokens h.1 s k)) i
    where
      same : (s r : ℕ) → Close s ≡ Close r → s ≡ r
      same s r e = cc
  close_of_level stack (Leaf rs ∷ tokens) h s i =
      ⊎_elim (λ (e : Close s ≡ Leaf rs). absurd (no s rs e))
      (λ (k : In (Close s) tokens). ⊎_elim (λ (m : In s (levels stack)). inl m)
      (λ (n : In s (numbers_of tokens)). inr (In-back s rs (numbers_of tokens) n))
      (close_of_level stack tokens h.1 s k)) i
    where
      no : (s : ℕ) (rs : List ℕ) → Close s ≡ Leaf rs → ⊥
      no s rs e = cc

  -- the rows of a token are among those of all
  numbers_in : (t : Token) (tokens : List Token) → In t tokens → (r : ℕ) → In r (numbers_at t)
      → In r (numbers_of tokens)
  numbers_in t [] i r j = absurd i
  numbers_in t (s ∷ tokens) i r j =
      ⊎_elim (λ (e : t ≡ s). In-front r (numbers_at s) (numbers_of tokens)
      (subst (λ (q : Token). In r (numbers_at q)) e j))
      (λ (k : In t tokens). In-back r (numbers_at s) (numbers_of tokens) (numbers_in t tokens k r j)) i

  pub stand_once : (stack : List Level) (tokens : List Token) → AllFit stack tokens
      → Apart (levels stack ++ numbers_of tokens) → Successive (λ (s t : Token). s ≢ t) tokens
  stand_once stack [] h d = tt
  stand_once stack (Open r ∷ tokens) h d = (
    all_of (λ (t : Token). Open r ≢ t) tokens (λ t i e. not_in_back (levels stack) r (numbers_of tokens) d
        (numbers_in (Open r) tokens (subst (λ (q : Token). In q tokens) (sym e) i) r (inl refl))),
    stand_once ((r, Left) ∷ stack) tokens h.1 (to_front (levels stack) r (numbers_of tokens) d),
  )
  stand_once [] (Atom r ∷ tokens) h d = absurd h.0
  stand_once (l ∷ stack) (Atom r ∷ tokens) h d = (
    all_of (λ (t : Token). Atom r ≢ t) tokens (λ t i e. twice h.0
        (atom_of_level ((l.0, Right) ∷ stack) tokens h.1 r (subst (λ (q : Token). In q tokens) (sym e) i))),
    stand_once ((l.0, Right) ∷ stack) tokens h.1 d,
  )
    where
      sides : Left ≡ Right → ⊥
      sides e = cc

      twice : l ≡ (r, Left) → In {X = Level} (r, Left) ((l.0, Right) ∷ stack) ⊎ In r (numbers_of tokens) → ⊥
      twice f o =
          let first : l.0 ≡ r = ap (λ (q : Level). q.0) f in
          ⊎_elim
          (λ (m : In {X = Level} (r, Left) ((l.0, Right) ∷ stack)). ⊎_elim
          (λ (e : ◌≡◌ {A = Level} (r, Left) (l.0, Right)). sides (ap (λ (q : Level). q.1) e))
          (λ (n : In {X = Level} (r, Left) stack). not_in_back [] l.0 (levels stack ++ numbers_of tokens) d
          (subst (λ (y : ℕ). In y (levels stack ++ numbers_of tokens)) (sym first)
          (In-front r (levels stack) (numbers_of tokens) (In-map (λ (q : Level). q.0) (r, Left) stack n)))) m)
          (λ (n : In r (numbers_of tokens)). not_in_back [] l.0 (levels stack ++ numbers_of tokens) d
          (subst (λ (y : ℕ). In y (levels stack ++ numbers_of tokens)) (sym first)
          (In-back r (levels stack) (numbers_of tokens) n)))
          o
  stand_once [] (Close r ∷ tokens) h d = absurd h.0
  stand_once (l ∷ stack) (Close r ∷ tokens) h d = (
    all_of (λ (t : Token). Close r ≢ t) tokens (λ t i e. twice h.0
        (close_of_level stack tokens h.1 r (subst (λ (q : Token). In q tokens) (sym e) i))),
    stand_once stack tokens h.1 d.1,
  )
    where
      twice : l ≡ (r, Right) → In r (levels stack) ⊎ In r (numbers_of tokens) → ⊥
      twice f o =
          let first : l.0 ≡ r = ap (λ (q : Level). q.0) f in
          not_in_back [] l.0 (levels stack ++ numbers_of tokens) d
          (subst (λ (y : ℕ). In y (levels stack ++ numbers_of tokens)) (sym first)
          (⊎_elim (λ (n : In r (levels stack)). In-front r (levels stack) (numbers_of tokens) n)
          (λ (n : In r (numbers_of tokens)). In-back r (levels stack) (numbers_of tokens) n) o))
  stand_once stack (Leaf [] ∷ tokens) h d = absurd (true≢false h.0)
  stand_once stack (Leaf (r ∷ rs) ∷ tokens) h d = (
    all_of (λ (t : Token). Leaf (r ∷ rs) ≢ t) tokens
        (λ t i e. not_in_back (levels stack) r (rs ++ numbers_of tokens) d
        (In-back r rs (numbers_of tokens) (numbers_in (Leaf (r ∷ rs)) tokens
        (subst (λ (q : Token). In q tokens) (sym e) i) r (inl refl)))),
    stand_once stack tokens h.1 (without (r ∷ rs) (levels stack) (numbers_of tokens) d),
  )
    where
      without : (mid front back : List ℕ) → Apart (front ++ (mid ++ back)) → Apart (front ++ back)
      without mid front back k =
          successive_append Other front back (successive_front Other front (mid ++ back) k)
          (successive_back Other mid back (successive_back Other front (mid ++ back) k))
          (λ x y i j. across Other front (mid ++ back) k x y i (In-back y mid back j))

  pub from_front : (front : List ℕ) (x : ℕ) (back : List ℕ) → Apart (x ∷ (front ++ back)) → Apart (front ++ x ∷ back)
  from_front front x back h =
      successive_append Other front (x ∷ back) (successive_front Other front back h.1) (
        all_of (Other x) back (λ y i. all_in (Other x) (front ++ back) h.0 y (In-back y front back i)),
        successive_back
            Other front back h.1,
      )
      (λ y z i j. ⊎_elim (λ (e : z ≡ x). λ k. all_in (Other x) (front ++ back) h.0 y (In-front y front back i)
      (ap (λ (q : ℕ). (table q).id) (sym e) ∙ sym k)) (λ (l : In z back). across Other front back h.1 y z i l) j)

  pub word_numbers : (rs : List ℕ) → numbers_of (leaf_word rs) ≡ rs
  word_numbers [] = refl
  word_numbers (r ∷ rs) = append-nil (r ∷ rs)

  exploded_numbers : (before : List ℕ) (m : ℕ) (after : List ℕ) → numbers_of (exploded before m after)
      ≡ m ∷ (before ++ after)
  exploded_numbers before m after =
      ap (λ (q : List ℕ). m ∷ q)
      (numbers-append (leaf_word before) (Atom m ∷ (leaf_word after ++ Close m ∷ []))
      ∙ (λ i. word_numbers before i ++ (numbers-append (leaf_word after) (Close m ∷ [])
      ∙ append-nil (numbers_of (leaf_word after)) ∙ word_numbers after) i))

  module _ (front back : List Token) (before : List ℕ) (m : ℕ) (after : List ℕ)
      (half : length before ≡ length (before ++ m ∷ after) / 2)
      (b : IsBrackets table (front ++ Leaf (before ++ m ∷ after) ∷ back)) where
    abbrev rs : List ℕ
    rs = before ++ m ∷ after

    abbrev there : Token
    there = Leaf rs

    abbrev pub after_all : List Token
    after_all = front ++ (exploded before m after ++ back)

    not_empty : (xs : List ℕ) → is_empty_list (xs ++ m ∷ after) ≡ false
    not_empty [] = refl
    not_empty (x ∷ xs) = refl

    word_exploded : IsWord (exploded before m after)
    word_exploded = (
      (
        tt,
        append-fit ((m, Left) ∷ []) (leaf_word before) (Atom m ∷ (leaf_word after ++ Close m ∷ []))
            (word_fits ((m, Left) ∷ []) (leaf_word before) (leaf_word_fits before))
            (subst (λ (s : List Level). AllFit s (Atom m ∷ (leaf_word after ++ Close m ∷ [])))
            (sym (word_moves ((m, Left) ∷ []) (leaf_word before) (leaf_word_fits before))) (
              refl,
              append-fit ((m, Right) ∷ []) (leaf_word after) (Close m ∷ [])
                  (word_fits ((m, Right) ∷ []) (leaf_word after) (leaf_word_fits after))
                  (subst (λ (s : List Level). AllFit s (Close m ∷ []))
                  (sym (word_moves ((m, Right) ∷ []) (leaf_word after) (leaf_word_fits after))) (refl, tt)),
            )),
      ),
      whole_moves table [] m (leaf_word before) (leaf_word after) (leaf_word_fits before) (leaf_word_fits after),
    )

    new_word : IsWord after_all
    new_word = word_put front back (exploded before m after)
        (word_cut front back (there ∷ []) b.word ((not_empty before, tt), refl)) word_exploded

    live_there : (r : ℕ) → In r rs → (table r).deletes ≡ []
    live_there r i = b.live rs r (In-back there front (there ∷ back) (inl refl)) i

    new_apart : Apart (numbers_of after_all)
    new_apart =
        let nf : List ℕ = numbers_of front in
        let nb : List ℕ = numbers_of back in
        let was : Apart (nf ++ (rs ++ nb)) = subst Apart (numbers-append front (there ∷ back)) b.apart in
        let moved : Apart (m ∷ ((nf ++ before) ++ (after ++ nb))) =
        to_front (nf ++ before) m (after ++ nb) (subst Apart (regroup nf before after nb) was) in
        let here : Apart (nf ++ m ∷ (before ++ (after ++ nb))) =
        from_front nf m (before ++ (after ++ nb)) (subst (λ (q : List ℕ). Apart (m ∷ q))
        (append_assoc nf before (after ++ nb)) moved) in
        subst Apart (sym (numbers-append front (exploded before m after ++ back)
        ∙ ap (λ (q : List ℕ). nf ++ q) (numbers-append (exploded before m after) back
        ∙ ap (λ (q : List ℕ). q ++ nb) (exploded_numbers before m after))))
        (subst (λ (q : List ℕ). Apart (nf ++ m ∷ q)) (sym (append_assoc before after nb)) here)
      where
        regroup : (a c d e : List ℕ) → a ++ ((c ++ m ∷ d) ++ e) ≡ (a ++ c) ++ m ∷ (d ++ e)
        regroup a c d e = simp append_assoc

    -- a leaf afterwards was there, or has some of the rows
    leaf_of_word : (word : List ℕ) (qs : List ℕ) (r : ℕ) → In (Leaf qs) (leaf_word word) → In r qs → In r word
    leaf_of_word [] qs r i j = absurd i
    leaf_of_word (x ∷ word) qs r i j = ⊎_elim (λ (e : Leaf qs ≡ Leaf (x ∷ word)). subst (In r) (same qs (x ∷ word) e)
        j) (λ (z : ⊥). absurd z) i
      where
        same : (p q : List ℕ) → Leaf p ≡ Leaf q → p ≡ q
        same p q e = cc

    leaf_of_exploded : (qs : List ℕ) (r : ℕ) → In (Leaf qs) (exploded before m after) → In r qs → In r rs
    leaf_of_exploded qs r i j =
        ⊎_elim (λ (e : Leaf qs ≡ Open m). absurd (no_open e))
        (λ (k : In (Leaf qs) (leaf_word before ++ Atom m ∷ (leaf_word after ++ Close m ∷ []))).
        ⊎_elim (λ (l : In (Leaf qs) (leaf_word before)). In-front r before (m ∷ after) (leaf_of_word before qs r l j))
        (λ (l : In (Leaf qs) (Atom m ∷ (leaf_word after ++ Close m ∷ []))).
        ⊎_elim (λ (e : Leaf qs ≡ Atom m). absurd (no_atom e))
        (λ (n : In (Leaf qs) (leaf_word after ++ Close m ∷ [])).
        ⊎_elim (λ (o : In (Leaf qs) (leaf_word after)). In-back r before (m ∷ after)
        (inr (leaf_of_word after qs r o j)))
        (λ (o : In (Leaf qs) (Close m ∷ [])). ⊎_elim (λ (e : Leaf qs ≡ Close m). absurd (no_close e))
        (λ (z : ⊥). absurd z) o)
        (In-append (Leaf qs) (leaf_word after) (Close m ∷ []) n)) l)
        (In-append (Leaf qs) (leaf_word before) (Atom m ∷ (leaf_word after ++ Close m ∷ [])) k)) i
      where
        no_open : Leaf qs ≡ Open m → ⊥
        no_open e = cc

        no_atom : Leaf qs ≡ Atom m → ⊥
        no_atom e = cc

        no_close : Leaf qs ≡ Close m → ⊥
        no_close e = cc

    new_live : (qs : List ℕ) (r : ℕ) → In (Leaf qs) after_all → In r qs → (table r).deletes ≡ []
    new_live qs r i j =
        ⊎_elim (λ (k : In (Leaf qs) front). b.live qs r (In-front (Leaf qs) front (there ∷ back) k) j)
        (λ (k : In (Leaf qs) (exploded before m after ++ back)).
        ⊎_elim (λ (l : In (Leaf qs) (exploded before m after)). live_there r (leaf_of_exploded qs r l j))
        (λ (l : In (Leaf qs) back). b.live qs r (In-back (Leaf qs) front (there ∷ back) (inr l)) j)
        (In-append (Leaf qs) (exploded before m after) back k))
        (In-append (Leaf qs) front (exploded before m after ++ back) i)

    pub explode_brackets : IsBrackets table after_all
    explode_brackets = record {
      word = new_word;
      once = stand_once [] after_all new_word.0 new_apart;
      apart = new_apart;
      live = new_live;
      document = subst IsDocument (explode table [] front back before m after half
          (live_there m (In-back m before (m ∷ after) (inl refl)))) b.document;
    }
