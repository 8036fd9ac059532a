-- What is left of a file with a closed gate when a piece is written behind it, and when the gate is opened.
use Rattle.std.proofs.Common.{◌≡◌, ◌≢◌, inl, inr, ℕ, ◌+◌, ◌<◌, List, [], ◌∷◌, ◌++◌, length, get_or, take, drop, refl}
use Rattle.std.proofs.Common.{sym, ◌∙◌, ap, arith, append_assoc, length-append, take-append-drop}
use Rattle.std.proofs.lemmas.Bool.{cases_eq}
use Rattle.std.proofs.lemmas.List.{take_at, drop_at, drop_more}
use Rattle.td_disk.specs.Device.{overwritten, Torn}
use Rattle.td_disk.specs.Gated.{Stands, StandsBeforeOrAfter}

module _ (front : List ℕ) (gate : ℕ) (rest : List ℕ) where
  abbrev file : List ℕ
  file = front ++ gate ∷ rest

  -- the front and its gate
  abbrev shut : List ℕ
  shut = front ++ gate ∷ []

  pub split : file ≡ shut ++ rest
  split = sym (append_assoc front (gate ∷ []) rest)

  length_shut : length shut ≡ length front + 1
  length_shut = length-append front (gate ∷ [])

  pub length_file : length file ≡ length front + 1 + length rest
  length_file = omega (arith, length-append front (gate ∷ rest))

  take_shut : take (length front + 1) file ≡ shut
  take_shut = ap (λ (l : List ℕ). take (length front + 1) l) split ∙ take_at shut rest (length front + 1) length_shut

  drop_shut : drop (length front + 1) file ≡ rest
  drop_shut = ap (λ (l : List ℕ). drop (length front + 1) l) split ∙ drop_at shut rest (length front + 1) length_shut

  -- whatever is torn behind the gate, the front and the gate stand
  pub torn_behind : (n : ℕ) (c : List ℕ) → Torn (length front + 1) n file c → c ≡ front
      ++ gate ∷ drop (length front + 1) c
  torn_behind n c torn =
      sym (take-append-drop (length front + 1) c)
      ∙ ap (λ (l : List ℕ). l ++ drop (length front + 1) c) (torn.before ∙ take_shut)
      ∙ append_assoc front (gate ∷ []) (drop (length front + 1) c)

  pub written_behind : (bytes : List ℕ) → overwritten file (length front + 1) bytes ≡ front
      ++ gate ∷ (bytes ++ drop (length front + 1 + length bytes) file)
  written_behind bytes =
      append_assoc (take (length front + 1) file) bytes (drop (length front + 1 + length bytes) file)
      ∙ ap (λ (l : List ℕ). l ++ (bytes ++ drop (length front + 1 + length bytes) file)) take_shut
      ∙ append_assoc front (gate ∷ []) (bytes ++ drop (length front + 1 + length bytes) file)

  -- whatever is torn at the gate, the front stands, and what is behind the gate
  pub torn_gate : (c : List ℕ) → Torn (length front) 1 file c → c ≡ front ++ get_or c (length front) 0 ∷ rest
  torn_gate c torn =
      let long : length front < length c = omega (arith, torn.no_shorter, length_file) in
      let behind : drop (length front) c ≡ get_or c (length front) 0 ∷ rest =
      drop_more c (length front) 0 long ∙ ap (λ (l : List ℕ). get_or c (length front) 0 ∷ l) (torn.behind ∙ drop_shut)
      in
      sym (take-append-drop (length front) c)
      ∙ ap (λ (l : List ℕ). l ++ drop (length front) c) (torn.before ∙ take_at front (gate ∷ rest) (length front) refl)
      ∙ ap (λ (l : List ℕ). front ++ l) behind

  pub written_gate : overwritten file (length front) (1 ∷ []) ≡ front ++ 1 ∷ rest
  written_gate =
      append_assoc (take (length front) file) (1 ∷ []) (drop (length front + 1) file)
      ∙ ap (λ (l : List ℕ). l ++ 1 ∷ drop (length front + 1) file) (take_at front (gate ∷ rest) (length front) refl)
      ∙ ap (λ (l : List ℕ). front ++ 1 ∷ l) drop_shut

  pub stands_shut : gate ≢ 1 → Stands front file
  stands_shut closed = record { gate = gate; rest = rest; shut = closed; is = refl }

-- a gate over a whole piece is open or it isn't
pub at_any_gate : (front body rest : List ℕ) (gate : ℕ)
    → StandsBeforeOrAfter front (1 ∷ body) (front ++ gate ∷ (body ++ 0 ∷ rest))
at_any_gate front body rest gate = elim (cases_eq gate 1) [
  | inl is_open ↦ inr (record {
    gate = 0;
    rest = rest;
    shut = omega arith;
    is = ap (λ (g : ℕ). front ++ g ∷ (body ++ 0 ∷ rest)) is_open ∙ sym (append_assoc front (1 ∷ body) (0 ∷ rest));
  })
  | inr shut ↦ inl (record { gate = gate; rest = body ++ 0 ∷ rest; shut = shut; is = refl })
]
