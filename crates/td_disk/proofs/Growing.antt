-- What a disk reads as, and what a crash leaves of it, while a piece is added to a file.
use Rattle.std.proofs.Common.{◌≡◌, ◌≢◌, inl, ℕ, ◌+◌, ◌-◌, ◌<◌, List, [], ◌∷◌, ◌++◌, length, take}
use Rattle.std.proofs.Common.{drop, refl, sym, ◌∙◌, ap, subst, arith, append_assoc, length-append}
use Rattle.std.proofs.Common.{slice_index, take-append-drop, length-drop}
use Rattle.std.proofs.lemmas.List.{take_at, drop_more, take_all, length-take-le}
use Rattle.td_disk.specs.declared.disk.Disk as disk
use Rattle.td_disk.specs.Device.{overwritten, Torn}
use Rattle.td_disk.specs.Moments.{LeavesOnly}
use Rattle.td_disk.specs.Gated.{Stands, StandsBeforeOrAfter, IsPiece, piece_of}
use Rattle.td_disk.proofs.Moments.{weakened}
use Rattle.td_disk.proofs.Gates.{torn_behind, written_behind, torn_gate, written_gate, at_any_gate}

-- the element right behind a front
at_seam : (xs : List ℕ) (y : ℕ) (ys : List ℕ) → slice_index (xs ++ y ∷ ys) (length xs) ≡ y
at_seam [] y ys = refl
at_seam (x ∷ xs) y ys = at_seam xs y ys

pub not_both : (front body file : List ℕ) → Stands front file → ¬ Stands (front ++ 1 ∷ body) file
not_both front body file without with =
    let behind : file ≡ front ++ 1 ∷ (body ++ with.gate ∷ with.rest) = with.is
    ∙ append_assoc front (1 ∷ body) (with.gate ∷ with.rest) in
    without.shut (sym (at_seam front without.gate without.rest)
    ∙ ap (λ (l : List ℕ). slice_index l (length front)) (sym without.is ∙ behind)
    ∙ at_seam front 1 (body ++ with.gate ∷ with.rest))

-- the slice of all but the first byte
pub all_but_first : (bytes : List ℕ) → take (length bytes - 1) (drop 1 bytes) ≡ drop 1 bytes
all_but_first bytes = take_all (length bytes - 1) (drop 1 bytes) (omega (arith, length-drop 1 bytes))

-- a file with a closed gate, in its parts
pub stands_of : (file : List ℕ) (end : ℕ) → end < length file → slice_index file end ≢ 1 → Stands (take end file) file
stands_of file end within shut =
    record {
      gate = slice_index file end;
      rest = drop (end + 1) file;
      shut = shut;
      is = sym (take-append-drop end file) ∙ ap (λ (l : List ℕ). take end file ++ l) (drop_more file end 0 within);
    }

-- a file that has the piece behind this front, and its closed gate at this place
pub record Grown (front bytes now : List ℕ) (place : ℕ) : Type 0 where
  pub front_is : take place now ≡ front ++ piece_of bytes
  pub within : place < length now
  pub shut : slice_index now place ≢ 1

module _ (file front rest : List ℕ) (gate end : ℕ) (is : file ≡ front ++ gate ∷ rest) (long : length front ≡ end)
    (bytes body : List ℕ) (piece : bytes ≡ 1 ∷ body ++ 0 ∷ []) where
  pub piece_is : piece_of bytes ≡ 1 ∷ body
  piece_is =
      let size : length bytes - 1 ≡ length (1 ∷ body) =
      omega (arith, ap length piece, length-append (1 ∷ body) (0 ∷ [])) in
      ap (λ (l : List ℕ). take (length bytes - 1) l) piece ∙ take_at (1 ∷ body) (0 ∷ []) (length bytes - 1) (sym size)

  abbrev pub P : List ℕ → Type 0
  P c = StandsBeforeOrAfter front (piece_of bytes) c

  abbrev tail : List ℕ
  tail = drop (end + 1 + length (drop 1 bytes)) file

  -- the piece stands behind the closed gate, and the next one behind it
  abbrev pub staged : List ℕ
  staged = front ++ gate ∷ (body ++ 0 ∷ tail)

  -- the gate is open
  abbrev pub grown : List ℕ
  grown = front ++ 1 ∷ (body ++ 0 ∷ tail)

  behind : drop 1 bytes ≡ body ++ 0 ∷ []
  behind = ap (λ (l : List ℕ). drop 1 l) piece

  pub staged_is : overwritten file (end + 1) (drop 1 bytes) ≡ staged
  staged_is =
      let at_front : overwritten (front ++ gate ∷ rest) (length front + 1) (drop 1 bytes) ≡ front
      ++ gate ∷ (drop 1 bytes ++ drop (length front + 1 + length (drop 1 bytes)) (front ++ gate ∷ rest)) =
      written_behind front gate rest (drop 1 bytes) in
      let here : overwritten file (end + 1) (drop 1 bytes) ≡ front ++ gate ∷ (drop 1 bytes ++ tail) =
      subst (λ (f : List ℕ). overwritten f (end + 1) (drop 1 bytes) ≡ front
      ++ gate ∷ (drop 1 bytes ++ drop (end + 1 + length (drop 1 bytes)) f)) (sym is)
      (subst (λ (n : ℕ). overwritten (front ++ gate ∷ rest) (n + 1) (drop 1 bytes) ≡ front
      ++ gate ∷ (drop 1 bytes ++ drop (n + 1 + length (drop 1 bytes)) (front ++ gate ∷ rest))) long at_front) in
      here ∙ ap (λ (l : List ℕ). front ++ gate ∷ (l ++ tail)) behind
      ∙ ap (λ (l : List ℕ). front ++ gate ∷ l) (append_assoc body (0 ∷ []) tail)

  pub grown_is : overwritten staged end (1 ∷ []) ≡ grown
  grown_is = subst (λ (n : ℕ). overwritten staged n (1 ∷ []) ≡ grown) long (written_gate front gate (body ++ 0 ∷ tail))

  -- whatever is torn behind the closed gate, the front stands
  pub behind_torn : gate ≢ 1 → (n : ℕ) (c : List ℕ) → Torn (end + 1) n file c → P c
  behind_torn shut n c torn =
      let here : Torn (end + 1) n (front ++ gate ∷ rest) c = subst (λ (f : List ℕ). Torn (end + 1) n f c) is torn in
      let torn_at : Torn (length front + 1) n (front ++ gate ∷ rest) c =
      subst (λ (m : ℕ). Torn (m + 1) n (front ++ gate ∷ rest) c) (sym long) here in
      inl (record {
        gate = gate;
        rest = drop (length front + 1) c;
        shut = shut;
        is = torn_behind front gate rest n c torn_at;
      })

  -- whatever is torn at the gate, the front stands with the piece or without it
  pub gate_torn : (c : List ℕ) → Torn end 1 staged c → P c
  gate_torn c torn =
      let torn_at : Torn (length front) 1 staged c = subst (λ (m : ℕ). Torn m 1 staged c) (sym long) torn in
      let whole = torn_gate front gate (body ++ 0 ∷ tail) c torn_at in
      subst (λ (p : List ℕ). StandsBeforeOrAfter front p c) (sym piece_is)
      (subst (λ (f : List ℕ). StandsBeforeOrAfter front (1 ∷ body) f) (sym whole) (at_any_gate front body tail _))

  pub grown_stands : (now : List ℕ) → now ≡ grown → Grown front bytes now (end + (length bytes - 1))
  grown_stands now is_grown =
      let size : length bytes - 1 ≡ length (1 ∷ body) =
      omega (arith, ap length piece, length-append (1 ∷ body) (0 ∷ [])) in
      let place : length (front ++ 1 ∷ body) ≡ end + (length bytes - 1) =
      omega (arith, long, size, length-append front (1 ∷ body)) in
      let parts : now ≡ (front ++ 1 ∷ body) ++ 0 ∷ tail = is_grown ∙ sym (append_assoc front (1 ∷ body) (0 ∷ tail)) in
      let front_now : take (end + (length bytes - 1)) now ≡ front ++ 1 ∷ body =
      ap (λ (l : List ℕ). take (end + (length bytes - 1)) l) parts
      ∙ take_at (front ++ 1 ∷ body) (0 ∷ tail) (end + (length bytes - 1)) place in
      record {
        front_is = front_now ∙ ap (λ (l : List ℕ). front ++ l) (sym piece_is);
        within = omega (arith, place, ap length parts, length-append (front ++ 1 ∷ body) (0 ∷ tail));
        shut = subst (λ (l : List ℕ). slice_index l (end + (length bytes - 1)) ≢ 1) (sym parts)
            (subst (λ (n : ℕ). slice_index ((front ++ 1 ∷ body) ++ 0 ∷ tail) n ≢ 1) place
            (subst (λ (n : ℕ). n ≢ 1) (sym (at_seam (front ++ 1 ∷ body) 0 tail)) (omega arith)));
      }

-- The two puts of a piece, at a disk that holds a file with a closed gate at this place.
module _ {D : Type 0} (w : disk.Ghosts D) (old : D) (end : ℕ) (bytes : List ℕ) (within : end < length (w.reads old))
    (shut : slice_index (w.reads old) end ≢ 1) (piece : IsPiece bytes) where
  abbrev held : List ℕ
  held = w.reads old

  -- the piece behind its gate, and the next gate
  abbrev rest_of : List ℕ
  rest_of = take (length bytes - 1) (drop 1 bytes)

  abbrev Q : List ℕ → Type 0
  Q c = StandsBeforeOrAfter (take end held) (piece_of bytes) c

  stands : Stands (take end held) held
  stands = stands_of held end within shut

  front_long : length (take end held) ≡ end
  front_long = length-take-le end held (omega (arith, within))

  abbrev put_behind : List ℕ
  put_behind = staged held (take end held) stands.rest stands.gate end stands.is front_long bytes piece.body piece.is

  pub behind_put : (mid : D) (n : ℕ) → LeavesOnly w old mid (Torn (end + 1) n held) → LeavesOnly w old mid Q
  behind_put mid n only =
      weakened w old mid (Torn (end + 1) n held) Q only
      (behind_torn held (take end held) stands.rest stands.gate end stands.is front_long bytes piece.body piece.is
      stands.shut n)

  is_staged : (mid : D) → w.reads mid ≡ overwritten held (end + 1) rest_of → w.reads mid ≡ put_behind
  is_staged mid put =
      put ∙ ap (λ (l : List ℕ). overwritten held (end + 1) l) (all_but_first bytes)
      ∙ staged_is held (take end held) stands.rest stands.gate end stands.is front_long bytes piece.body piece.is

  pub gate_put : (mid new : D) → w.reads mid ≡ overwritten held (end + 1) rest_of
      → LeavesOnly w mid new (Torn end 1 (w.reads mid)) → LeavesOnly w mid new Q
  gate_put mid new put only =
      weakened w mid new (Torn end 1 (w.reads mid)) Q only
      (λ (c : List ℕ) (torn : Torn end 1 (w.reads mid) c). gate_torn held (take end held) stands.rest stands.gate end
      stands.is front_long bytes piece.body piece.is c
      (subst (λ (f : List ℕ). Torn end 1 f c) (is_staged mid put) torn))

  pub both_put : (mid new : D) → w.reads mid ≡ overwritten held (end + 1) rest_of → w.reads new
      ≡ overwritten (w.reads mid) end (1 ∷ []) → Grown (take end held) bytes (w.reads new) (end + (length bytes - 1))
  both_put mid new put opened =
      grown_stands held (take end held) stands.rest stands.gate end stands.is front_long bytes piece.body piece.is
      (w.reads new)
      (opened ∙ ap (λ (l : List ℕ). overwritten l end (1 ∷ [])) (is_staged mid put)
      ∙ grown_is held (take end held) stands.rest stands.gate end stands.is front_long bytes piece.body piece.is)
