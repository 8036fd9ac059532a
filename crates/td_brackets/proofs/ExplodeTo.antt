-- A leaf exploded down to one of its rows: the row is a node then, and the list of brackets means the same.
use Rattle.std.proofs.Common.{◌≡◌, ◌+◌, ◌/◌, ◌<◌, ℕ, zero, suc, List, [], ◌∷◌, ◌++◌, length, take, drop, refl, sym}
use Rattle.std.proofs.Common.{ap, ◌∙◌, subst, inl, ⊎_elim, arith, append_assoc, take-append-drop, length-append}
use Rattle.std.proofs.lemmas.List.{append-nil, length-take-le}
use Rattle.td_base.specs.Lists.{In}
use Rattle.td_base.proofs.Lists.{In-append, In-back}
use Rattle.td_brackets.specs.Brackets.{Token, Open, Atom, Close, Leaf, Entry, rows_of, IsBrackets}
use Rattle.td_brackets.specs.Laws.{leaf_word, exploded, ExplodedTo}
use Rattle.td_brackets.proofs.Leaves.{explode}
use Rattle.td_brackets.proofs.Once.{explode_brackets}

record Halves (rs : List ℕ) : Type 0 where
  before : List ℕ
  middle : ℕ
  after : List ℕ
  is : rs ≡ before ++ middle ∷ after
  half : length before ≡ length (before ++ middle ∷ after) / 2
  shorter_before : length before < length rs
  shorter_after : length after < length rs

rest_of : (before rest : List ℕ) (rs : List ℕ) → rs ≡ before ++ rest → length before ≡ length rs / 2 → 0 < length rs
    → Halves rs
rest_of before [] rs e h some = absurd (none (length before) (length rs) h (ap length (e ∙ append-nil before)) some)
  where
    none : (a n : ℕ) → a ≡ n / 2 → n ≡ a → 0 < n → ⊥
    none a n h e s = omega arith
rest_of before (m ∷ after) rs e h some =
    let long = ap length e ∙ length-append before (m ∷ after) in
    record {
      before = before;
      middle = m;
      after = after;
      is = e;
      half = h ∙ ap (λ (q : List ℕ). length q / 2) e;
      shorter_before = omega arith;
      shorter_after = omega arith;
    }

halves : (rs : List ℕ) → 0 < length rs → Halves rs
halves rs some = rest_of (take (length rs / 2) rs) (drop (length rs / 2) rs) rs
    (sym (take-append-drop (length rs / 2) rs)) (length-take-le (length rs / 2) rs (omega arith)) some

some_of : (x : ℕ) (rs : List ℕ) → In x rs → 0 < length rs
some_of x [] i = absurd i
some_of x (r ∷ rs) i = omega arith

-- a leaf with a row is one token
one_leaf : (x : ℕ) (rs : List ℕ) → In x rs → leaf_word rs ≡ Leaf rs ∷ []
one_leaf x [] i = absurd i
one_leaf x (r ∷ rs) i = refl

module _ (table : ℕ → Entry) (x : ℕ) where
  -- the row is the middle one
  in_middle : (front back : List Token) (rs : List ℕ) (h : Halves rs) → IsBrackets table (front ++ Leaf rs ∷ back) → x
      ≡ h.middle → ExplodedTo table front back rs x
  in_middle front back rs h b e =
      let there : IsBrackets table (front ++ Leaf (h.before ++ h.middle ∷ h.after) ∷ back) =
      subst (λ (q : List ℕ). IsBrackets table (front ++ Leaf q ∷ back)) h.is b in
      let live : (table h.middle).deletes ≡ [] =
      there.live (h.before ++ h.middle ∷ h.after) h.middle
      (In-back (Leaf (h.before ++ h.middle ∷ h.after)) front (Leaf (h.before ++ h.middle ∷ h.after) ∷ back)
      (inl refl)) (In-back h.middle h.before (h.middle ∷ h.after) (inl refl)) in
      let same : front ++ (exploded h.before h.middle h.after ++ back) ≡ (front ++ [])
      ++ (exploded h.before x h.after ++ ([] ++ back)) =
      ap (λ (k : ℕ). front ++ (exploded h.before k h.after ++ back)) (sym e)
      ∙ ap (λ (q : List Token). q ++ (exploded h.before x h.after ++ back)) (sym (append-nil front)) in
      record {
        opened = [];
        closed = [];
        before = h.before;
        after = h.after;
        rows = ap (λ (q : List ℕ). rows_of table (front ++ Leaf q ∷ back)) h.is
            ∙ explode table [] front back h.before h.middle h.after h.half live ∙ ap (rows_of table) same;
        brackets = subst (IsBrackets table) same (explode_brackets table front back h.before h.middle h.after h.half
            there);
      }

  -- what one step makes of it
  record Stepped (front back : List Token) (rs : List ℕ) (next : List Token) : Type 0 where
    rows : rows_of table (front ++ Leaf rs ∷ back) ≡ rows_of table next
    brackets : IsBrackets table next

  stepped : (front back : List Token) (rs : List ℕ) (h : Halves rs) → IsBrackets table (front ++ Leaf rs ∷ back)
      → Stepped front back rs (front ++ (exploded h.before h.middle h.after ++ back))
  stepped front back rs h b =
      let there : IsBrackets table (front ++ Leaf (h.before ++ h.middle ∷ h.after) ∷ back) =
      subst (λ (q : List ℕ). IsBrackets table (front ++ Leaf q ∷ back)) h.is b in
      let live : (table h.middle).deletes ≡ [] =
      there.live (h.before ++ h.middle ∷ h.after) h.middle
      (In-back (Leaf (h.before ++ h.middle ∷ h.after)) front (Leaf (h.before ++ h.middle ∷ h.after) ∷ back)
      (inl refl)) (In-back h.middle h.before (h.middle ∷ h.after) (inl refl)) in
      record {
        rows = ap (λ (q : List ℕ). rows_of table (front ++ Leaf q ∷ back)) h.is
            ∙ explode table [] front back h.before h.middle h.after h.half live;
        brackets = explode_brackets table front back h.before h.middle h.after h.half there;
      }

  -- where the rest of the leaf, with the row, stands between more, and is exploded down to it
  deeper : (front back : List Token) (rs part : List ℕ) (left right : List Token) (next : List Token)
      → Stepped front back rs next → next ≡ (front ++ left) ++ Leaf part ∷ (right ++ back)
      → (IsBrackets table ((front ++ left) ++ Leaf part ∷ (right ++ back))
      → ExplodedTo table (front ++ left) (right ++ back) part x) → ExplodedTo table front back rs x
  deeper front back rs part left right next s e go =
      let p = go (subst (IsBrackets table) e s.brackets) in
      let same = regroup front left p.opened (exploded p.before x p.after) p.closed right back in
      record {
        opened = left ++ p.opened;
        closed = p.closed ++ right;
        before = p.before;
        after = p.after;
        rows = s.rows ∙ ap (rows_of table) e ∙ p.rows ∙ ap (rows_of table) same;
        brackets = subst (IsBrackets table) same p.brackets;
      }
    where
      regroup : (a b c d e f g : List Token) → ((a ++ b) ++ c) ++ (d ++ (e ++ (f ++ g))) ≡ (a ++ (b ++ c))
          ++ (d ++ ((e ++ f) ++ g))
      regroup a b c d e f g = simp append_assoc

  within : (n : ℕ) (front back : List Token) (rs : List ℕ) → length rs < n
      → IsBrackets table (front ++ Leaf rs ∷ back) → In x rs → ExplodedTo table front back rs x
  within zero front back rs l b i = absurd (omega arith)
  within (suc n) front back rs l b i =
      let h = halves rs (some_of x rs i) in
      let p = h.shorter_before in
      let q = h.shorter_after in
      let s = stepped front back rs h b in
      ⊎_elim
      (λ (j : In x h.before).
      let left : List Token = Open h.middle ∷ [] in
      let right : List Token = Atom h.middle ∷ (leaf_word h.after ++ Close h.middle ∷ []) in
      deeper front back rs h.before left right (front ++ (exploded h.before h.middle h.after ++ back)) s
      (ap (λ (w : List Token). front ++ ((Open h.middle ∷ (w ++ right)) ++ back)) (one_leaf x h.before j)
      ∙ sym (append_assoc front left (Leaf h.before ∷ (right ++ back))))
      (λ c. within n (front ++ left) (right ++ back) h.before (omega arith) c j))
      (λ (j : In x (h.middle ∷ h.after)).
      ⊎_elim (λ (e : x ≡ h.middle). in_middle front back rs h b e)
      (λ (k : In x h.after).
      let left : List Token = Open h.middle ∷ (leaf_word h.before ++ Atom h.middle ∷ []) in
      let right : List Token = Close h.middle ∷ [] in
      deeper front back rs h.after left right (front ++ (exploded h.before h.middle h.after ++ back)) s
      (ap (λ (w : List Token). front ++ ((Open h.middle ∷ (leaf_word h.before ++ Atom h.middle ∷ (w ++ right)))
      ++ back)) (one_leaf x h.after k) ∙ regroup (leaf_word h.before) h.middle (Leaf h.after))
      (λ c. within n (front ++ left) (right ++ back) h.after (omega arith) c k)) j)
      (In-append x h.before (h.middle ∷ h.after) (subst (In x) h.is i))
    where
      regroup : (b : List Token) (m : ℕ) (t : Token) → front ++ Open m ∷ ((b ++ Atom m ∷ t ∷ Close m ∷ []) ++ back)
          ≡ (front ++ Open m ∷ (b ++ Atom m ∷ [])) ++ t ∷ (Close m ∷ back)
      regroup b m t = simp append_assoc

pub explode_to : (table : ℕ → Entry) (front back : List Token) (rs : List ℕ) (x : ℕ)
    → IsBrackets table (front ++ Leaf rs ∷ back) → In x rs → ExplodedTo table front back rs x
explode_to table front back rs x b i = within table x (length rs + 1) front back rs (omega arith) b i
