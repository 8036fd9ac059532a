-- Pieces joined from the first on and from the last on.
use Rattle.std.proofs.Common.{◌≡◌, ◌<◌, ◌-◌, ◌++◌, ◌==◌, ◌≢◌, ℕ, zero, suc, List, [], ◌∷◌, Bool, true, false}
use Rattle.std.proofs.Common.{if◌then◌else◌, length, get_or, set, refl, sym, ap, ◌∙◌, arith, true≢false}
use Rattle.std.proofs.lemmas.Bool.{eqb-true, eq-eqb, ne_eqb}
use Rattle.std.proofs.lemmas.List.{append_assoc}
use Rattle.td_marks.specs.Text.{joined, put_before}
use Rattle.td_marks.specs.declared.piece.Piece.{Piece}

-- a piece behind others: one with the last of them where that has its names
abbrev pub put_last : List Piece → Piece → List Piece
put_last [] p = p ∷ []
put_last (q ∷ []) p = if q.names == p.names then record q { text = q.text ++ p.text } ∷ [] else q ∷ p ∷ []
put_last (q ∷ r ∷ pieces) p = q ∷ put_last (r ∷ pieces) p

before_one : (q r p : Piece) (b c : Bool) → q.names == r.names ≡ b → r.names == p.names ≡ c
    → put_before q (if c then record r { text = r.text ++ p.text } ∷ [] else r ∷ p ∷ [])
    ≡ put_last (if b then record q { text = q.text ++ r.text } ∷ [] else q ∷ r ∷ []) p
before_one q r p true c e f =
    let same : q.names == p.names ≡ c = ap (λ (n : ℕ). n == p.names) (eqb-true q.names r.names e) ∙ f in
    at c same
  where
    at : (c : Bool) → q.names == p.names ≡ c
        → put_before q (if c then record r { text = r.text ++ p.text } ∷ [] else r ∷ p ∷ [])
        ≡ put_last (record q { text = q.text ++ r.text } ∷ []) p
    at true same =
        (λ i. if e i then record q { text = q.text ++ (r.text ++ p.text) } ∷ []
        else q ∷ record r { text = r.text ++ p.text } ∷ [])
        ∙ (λ i. record q { text = sym (append_assoc q.text r.text p.text) i } ∷ [])
        ∙ sym (λ i. if same i then record q { text = (q.text ++ r.text) ++ p.text } ∷ []
        else record q { text = q.text ++ r.text } ∷ p ∷ [])
    at false same =
        (λ i. if e i then record q { text = q.text ++ r.text } ∷ p ∷ [] else q ∷ r ∷ p ∷ [])
        ∙ sym (λ i. if same i then record q { text = (q.text ++ r.text) ++ p.text } ∷ []
        else record q { text = q.text ++ r.text } ∷ p ∷ [])
before_one q r p false true e f =
    (λ i. if e i then record q { text = q.text ++ (r.text ++ p.text) } ∷ []
    else q ∷ record r { text = r.text ++ p.text } ∷ [])
    ∙ sym (λ i. q ∷ (if f i then record r { text = r.text ++ p.text } ∷ [] else r ∷ p ∷ []))
before_one q r p false false e f =
    (λ i. if e i then record q { text = q.text ++ r.text } ∷ p ∷ [] else q ∷ r ∷ p ∷ [])
    ∙ sym (λ i. q ∷ (if f i then record r { text = r.text ++ p.text } ∷ [] else r ∷ p ∷ []))

before_last : (q : Piece) (pieces : List Piece) (p : Piece)
    → put_before q (put_last pieces p) ≡ put_last (put_before q pieces) p
before_last q [] p = refl
before_last q (r ∷ []) p = before_one q r p (q.names == r.names) (r.names == p.names) refl refl
before_last q (r ∷ s ∷ pieces) p = at (q.names == r.names)
  where
    at : (b : Bool)
        → (if b then record q { text = q.text ++ r.text } ∷ put_last (s ∷ pieces) p
        else q ∷ r ∷ put_last (s ∷ pieces) p)
        ≡ put_last (if b then record q { text = q.text ++ r.text } ∷ s ∷ pieces else q ∷ r ∷ s ∷ pieces) p
    at true = refl
    at false = refl

pub joined_last : (front : List Piece) (p : Piece) → joined (front ++ p ∷ []) ≡ put_last (joined front) p
joined_last [] p = refl
joined_last (q ∷ front) p = ap (put_before q) (joined_last front p) ∙ before_last q (joined front) p

-- ---- what stands last

pub last_joins : (pieces : List Piece) (k : ℕ) (q p : Piece) → length pieces ≡ suc k → get_or pieces k q ≡ q
    → q.names ≡ p.names → put_last pieces p ≡ set pieces k (record q { text = q.text ++ p.text })
last_joins [] k q p long e h = absurd (omega (arith, long))
last_joins (r ∷ []) zero q p long e h =
    let same : r.names == p.names ≡ true = eq-eqb r.names p.names (ap (λ (z : Piece). z.names) e ∙ h) in
    (λ i. if same i then record r { text = r.text ++ p.text } ∷ [] else r ∷ p ∷ [])
    ∙ (λ i. record (e i) { text = (e i).text ++ p.text } ∷ [])
last_joins (r ∷ []) (suc k) q p long e h = absurd (omega (arith, long))
last_joins (r ∷ s ∷ pieces) zero q p long e h = absurd (omega (arith, long))
last_joins (r ∷ s ∷ pieces) (suc k) q p long e h =
    ap (λ (rest : List Piece). r ∷ rest) (last_joins (s ∷ pieces) k q p (omega (arith, long)) e h)

pub last_stays : (pieces : List Piece) (k : ℕ) (q p : Piece) → length pieces ≡ suc k → get_or pieces k q ≡ q
    → q.names ≢ p.names → put_last pieces p ≡ pieces ++ p ∷ []
last_stays [] k q p long e h = absurd (omega (arith, long))
last_stays (r ∷ []) zero q p long e h =
    let other : r.names == p.names ≡ false = ne_eqb r.names p.names (λ (f : r.names ≡ p.names).
    h (ap (λ (z : Piece). z.names) (sym e) ∙ f)) in
    λ i. if other i then record r { text = r.text ++ p.text } ∷ [] else r ∷ p ∷ []
last_stays (r ∷ []) (suc k) q p long e h = absurd (omega (arith, long))
last_stays (r ∷ s ∷ pieces) zero q p long e h = absurd (omega (arith, long))
last_stays (r ∷ s ∷ pieces) (suc k) q p long e h =
    ap (λ (rest : List Piece). r ∷ rest) (last_stays (s ∷ pieces) k q p (omega (arith, long)) e h)

-- ---- what is put behind what was joined so far

module _ (pieces front : List Piece) (text : List ℕ) (names : ℕ) where
  abbrev atom : Piece
  atom = record { text = text; names = names }

  after_joined : pieces ≡ joined front → put_last pieces atom ≡ joined (front ++ atom ∷ [])
  after_joined e = ap (λ (before : List Piece). put_last before atom) e ∙ sym (joined_last front atom)

  -- within the last piece
  pub put_within : (n : ℕ) (last : Piece) (more : List ℕ) → n ≡ length pieces → 0 < n
      → last ≡ get_or pieces (n - 1) last → last.names ≡ names → more ≡ last.text ++ text → pieces ≡ joined front
      → set pieces (n - 1) (record { text = more; names = last.names }) ≡ joined (front ++ atom ∷ [])
  put_within n last more long some at same e j =
      let size : length pieces ≡ suc (n - 1) = omega (arith, long, some) in
      ap (λ (t : List ℕ). set pieces (n - 1) (record { text = t; names = last.names })) e
      ∙ sym (last_joins pieces (n - 1) last atom size (sym at) same) ∙ after_joined j

  -- as a piece of its own
  pub put_behind : (n : ℕ) (last : Piece) → n ≡ length pieces → 0 < n → last ≡ get_or pieces (n - 1) last
      → last.names ≢ names → pieces ≡ joined front → pieces ++ atom ∷ [] ≡ joined (front ++ atom ∷ [])
  put_behind n last long some at other j =
      let size : length pieces ≡ suc (n - 1) = omega (arith, long, some) in
      sym (last_stays pieces (n - 1) last atom size (sym at) other) ∙ after_joined j

  -- as the first piece
  pub put_first : pieces ≡ [] → pieces ≡ joined front → pieces ++ atom ∷ [] ≡ joined (front ++ atom ∷ [])
  put_first none j = ap (λ (before : List Piece). before ++ atom ∷ []) none
      ∙ ap (λ (before : List Piece). put_last before atom) (sym none) ∙ after_joined j

pub no_pieces : (pieces : List Piece) (n : ℕ) → n ≡ length pieces → (0 < n → false ≡ true) → pieces ≡ []
no_pieces [] n long none = refl
no_pieces (p ∷ pieces) n long none = absurd (true≢false (sym (none (omega (arith, long)))))
