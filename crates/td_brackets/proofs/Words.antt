-- Words of brackets: taken apart, put together, and read up to the bracket that closes.
use Rattle.std.proofs.Common.{◌≡◌, ℕ, List, [], ◌∷◌, ◌++◌, refl, sym, ap, ◌∙◌, subst, append_assoc}
use Rattle.td_base.specs.declared.bit.Bit.{Bit}
use Rattle.td_base.specs.declared.bit.Bit.TheVariants.{Left, Right}
use Rattle.td_doc.specs.Document.{DocRow}
use Rattle.td_brackets.specs.Brackets.{Token, Open, Atom, Close, Leaf, Entry, Level, move, move_all}
use Rattle.td_brackets.specs.Brackets.{Fits, AllFit, IsWord, row_at, rows_from}

pub move-append : (stack : List Level) (xs ys : List Token) → move_all stack (xs ++ ys)
    ≡ move_all (move_all stack xs) ys
move-append stack [] ys = refl
move-append stack (t ∷ xs) ys = move-append (move stack t) xs ys

pub fit-append : (stack : List Level) (xs ys : List Token) → AllFit stack (xs ++ ys) → AllFit stack xs
    × AllFit (move_all stack xs) ys
fit-append stack [] ys h = (tt, h)
fit-append stack (t ∷ xs) ys h = let r = fit-append (move stack t) xs ys h.1 in ((h.0, r.0), r.1)

pub append-fit : (stack : List Level) (xs ys : List Token) → AllFit stack xs → AllFit (move_all stack xs) ys
    → AllFit stack (xs ++ ys)
append-fit stack [] ys h k = k
append-fit stack (t ∷ xs) ys h k = (h.0, append-fit (move stack t) xs ys h.1 k)

pub rows-append : (table : ℕ → Entry) (stack : List Level) (xs ys : List Token) → rows_from table stack (xs ++ ys)
    ≡ rows_from table stack xs ++ rows_from table (move_all stack xs) ys
rows-append table stack [] ys = refl
rows-append table stack (t ∷ xs) ys =
    ap (λ (q : List DocRow). row_at table stack t ++ q) (rows-append table (move stack t) xs ys)
    ∙ sym (append_assoc (row_at table stack t) (rows_from table (move stack t) xs)
    (rows_from table (move_all (move stack t) xs) ys))

-- what is read below some open rows leaves them as they are

move_above : (up base : List Level) (t : Token) → Fits up t → move (up ++ base) t ≡ move up t ++ base
move_above up base (Open r) h = refl
move_above [] base (Atom r) h = absurd h
move_above (l ∷ up) base (Atom r) h = refl
move_above [] base (Close r) h = absurd h
move_above (l ∷ up) base (Close r) h = refl
move_above up base (Leaf rs) h = refl

fits_above : (up base : List Level) (t : Token) → Fits up t → Fits (up ++ base) t
fits_above up base (Open r) h = tt
fits_above [] base (Atom r) h = absurd h
fits_above (l ∷ up) base (Atom r) h = h
fits_above [] base (Close r) h = absurd h
fits_above (l ∷ up) base (Close r) h = h
fits_above up base (Leaf rs) h = h

pub move_all_above : (up base : List Level) (tokens : List Token) → AllFit up tokens → move_all (up ++ base) tokens
    ≡ move_all up tokens ++ base
move_all_above up base [] h = refl
move_all_above up base (t ∷ tokens) h = ap (λ (s : List Level). move_all s tokens) (move_above up base t h.0)
    ∙ move_all_above (move up t) base tokens h.1

pub all_fit_above : (up base : List Level) (tokens : List Token) → AllFit up tokens → AllFit (up ++ base) tokens
all_fit_above up base [] h = tt
all_fit_above up base (t ∷ tokens) h = (
  fits_above up base t h.0,
  subst (λ (s : List Level). AllFit s tokens)
      (sym (move_above up base t h.0)) (all_fit_above (move up t) base tokens h.1),
)

pub word_moves : (base : List Level) (tokens : List Token) → IsWord tokens → move_all base tokens ≡ base
word_moves base tokens w = move_all_above [] base tokens w.0 ∙ ap (λ (s : List Level). s ++ base) w.1

pub word_fits : (base : List Level) (tokens : List Token) → IsWord tokens → AllFit base tokens
word_fits base tokens w = all_fit_above [] base tokens w.0

-- a word put anywhere in a word

pub word_put : (front back new : List Token) → IsWord (front ++ back) → IsWord new → IsWord (front ++ (new ++ back))
word_put front back new w n =
    let p = fit-append [] front back w.0 in
    let base : List Level = move_all [] front in
    let moved = word_moves base new n in (
      append-fit [] front (new ++ back) p.0 (append-fit base new back (word_fits base new n)
          (subst (λ (s : List Level). AllFit s back) (sym moved) p.1)),
      move-append [] front (new ++ back) ∙ move-append base new back ∙ ap (λ (s : List Level). move_all s back) moved
          ∙ sym (move-append [] front back) ∙ w.1,
    )

pub word_cut : (front back old : List Token) → IsWord (front ++ (old ++ back)) → IsWord old → IsWord (front ++ back)
word_cut front back old w n =
    let p = fit-append [] front (old ++ back) w.0 in
    let base : List Level = move_all [] front in
    let moved = word_moves base old n in
    let q = fit-append base old back p.1 in (
      append-fit [] front back p.0 (subst (λ (s : List Level). AllFit s back) moved q.1),
      move-append [] front back ∙ ap (λ (s : List Level). move_all s back) (sym moved)
          ∙ sym (move-append base old back) ∙ sym (move-append [] front (old ++ back)) ∙ w.1,
    )

pub word-append : (xs ys : List Token) → IsWord xs → IsWord ys → IsWord (xs ++ ys)
word-append xs ys w v = (
  append-fit [] xs ys w.0 (subst (λ (s : List Level). AllFit s ys) (sym w.1) v.0),
  move-append [] xs ys
      ∙ ap (λ (s : List Level). move_all s ys) w.1 ∙ v.1,
)

-- one row by itself
abbrev pub group : ℕ → List Token
group n = Open n ∷ Atom n ∷ Close n ∷ []

pub group_word : (n : ℕ) → IsWord (group n)
group_word n = ((tt, (refl, (refl, tt))), refl)

-- the token at which a side of a row ends
abbrev pub closing : Bit → ℕ → Token
closing Left r = Atom r
closing Right r = Close r

-- up to the token that ends the side of the row r
pub record Parsed (up : List Level) (r : ℕ) (side : Bit) (tokens : List Token) : Type 0 where
  pub inner : List Token
  pub rest : List Token
  pub is : tokens ≡ inner ++ closing side r ∷ rest
  pub fits : AllFit up inner
  pub done : move_all up inner ≡ []

same_level : (r s : ℕ) (b c : Bit) → ◌≡◌ {A = Level} (r, b) (s, c) → (r ≡ s) × (b ≡ c)
same_level r s b c e = (ap (λ (l : Level). l.0) e, ap (λ (l : Level). l.1) e)

sides_differ : Left ≡ Right → ⊥
sides_differ e = cc

end_at_atom : (r s : ℕ) (side : Bit) (tokens : List Token) → ◌≡◌ {A = Level} (r, side) (s, Left)
    → Parsed [] r side (Atom s ∷ tokens)
end_at_atom r s Left tokens e = record {
  inner = [];
  rest = tokens;
  is = ap (λ (q : ℕ). Atom q ∷ tokens) (sym (same_level r s Left Left e).0);
  fits = tt;
  done = refl;
}
end_at_atom r s Right tokens e = absurd (sides_differ (sym (same_level r s Right Left e).1))

end_at_close : (r s : ℕ) (side : Bit) (tokens : List Token) → ◌≡◌ {A = Level} (r, side) (s, Right)
    → Parsed [] r side (Close s ∷ tokens)
end_at_close r s Left tokens e = absurd (sides_differ (same_level r s Left Right e).1)
end_at_close r s Right tokens e = record {
  inner = [];
  rest = tokens;
  is = ap (λ (q : ℕ). Close q ∷ tokens) (sym (same_level r s Right Right e).0);
  fits = tt;
  done = refl;
}

more : (up : List Level) (t : Token) (r : ℕ) (side : Bit) (tokens : List Token) → Fits up t
    → Parsed (move up t) r side tokens → Parsed up r side (t ∷ tokens)
more up t r side tokens h p = record {
  inner = t ∷ p.inner;
  rest = p.rest;
  is = ap (λ (q : List Token). t ∷ q) p.is;
  fits = (h, p.fits);
  done = p.done;
}

not_closed : (up : List Level) (l : Level) (base : List Level) → up ++ l ∷ base ≡ [] → ⊥
not_closed [] l base e = cc
not_closed (k ∷ up) l base e = cc

pub parse : (up base : List Level) (r : ℕ) (side : Bit) (tokens : List Token) → AllFit (up ++ (r, side) ∷ base) tokens
    → move_all (up ++ (r, side) ∷ base) tokens ≡ [] → Parsed up r side tokens
parse up base r side [] h e = absurd (not_closed up (r, side) base e)
parse up base r side (Open s ∷ tokens) h e = more up (Open s) r side tokens tt
    (parse ((s, Left) ∷ up) base r side tokens h.1 e)
parse [] base r side (Atom s ∷ tokens) h e = end_at_atom r s side tokens h.0
parse (l ∷ up) base r side (Atom s ∷ tokens) h e =
    more (l ∷ up) (Atom s) r side tokens h.0 (parse ((l.0, Right) ∷ up) base r side tokens h.1 e)
parse [] base r side (Close s ∷ tokens) h e = end_at_close r s side tokens h.0
parse (l ∷ up) base r side (Close s ∷ tokens) h e =
    more (l ∷ up) (Close s) r side tokens h.0 (parse up base r side tokens h.1 e)
parse up base r side (Leaf rs ∷ tokens) h e = more up (Leaf rs) r side tokens h.0 (parse up base r side tokens h.1 e)

-- a row with its two sides
pub record Node (r : ℕ) (front tokens : List Token) : Type 0 where
  pub left : List Token
  pub right : List Token
  pub back : List Token
  pub is : tokens ≡ left ++ Atom r ∷ (right ++ Close r ∷ back)
  pub left_word : IsWord left
  pub right_word : IsWord right

-- what follows an opening bracket
pub node : (front tokens : List Token) (r : ℕ) → IsWord (front ++ Open r ∷ tokens) → Node r front tokens
node front tokens r w =
    let base : List Level = move_all [] front in
    let p = fit-append [] front (Open r ∷ tokens) w.0 in
    let l = parse [] base r Left tokens p.1.1 (sym (move-append [] front (Open r ∷ tokens)) ∙ w.1) in
    let lw : IsWord l.inner = (l.fits, l.done) in
    let fits : AllFit ((r, Left) ∷ base) (l.inner ++ Atom r ∷ l.rest) = subst (AllFit ((r, Left) ∷ base)) l.is p.1.1 in
    let q = fit-append ((r, Left) ∷ base) l.inner (Atom r ∷ l.rest) fits in
    let same : move_all ((r, Left) ∷ base) l.inner ≡ (r, Left) ∷ base = word_moves ((r, Left) ∷ base) l.inner lw in
    let after : AllFit ((r, Right) ∷ base) l.rest =
    (subst (λ (s : List Level). AllFit s (Atom r ∷ l.rest)) same q.1).1 in
    let ends : move_all ((r, Right) ∷ base) l.rest ≡ [] =
    ap (λ (s : List Level). move_all s (Atom r ∷ l.rest)) (sym same)
    ∙ sym (move-append ((r, Left) ∷ base) l.inner (Atom r ∷ l.rest)) ∙ ap (move_all ((r, Left) ∷ base)) (sym l.is)
    ∙ sym (move-append [] front (Open r ∷ tokens)) ∙ w.1 in
    let c = parse [] base r Right l.rest after ends in
    record {
      left = l.inner;
      right = c.inner;
      back = c.rest;
      is = l.is ∙ ap (λ (q : List Token). l.inner ++ Atom r ∷ q) c.is;
      left_word = lw;
      right_word = (c.fits, c.done);
    }
