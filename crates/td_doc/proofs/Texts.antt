-- The text of the rows up to one, with that one.
use Rattle.std.proofs.Common.{◌≡◌, ◌<◌, ◌+◌, ℕ, List, [], ◌∷◌, ◌++◌, true, false, cond, map, take}
use Rattle.std.proofs.Common.{length, slice_index_or, sym, ap, ◌∙◌, append_assoc}
use Rattle.std.specs.List.{concat}
use Rattle.std.proofs.lemmas.List.{take_more, append-nil}
use Rattle.std.proofs.lemmas.List.Folds.{concat-append}
use Rattle.td_doc.specs.Document.{DocRow, is_live, live_atoms, text_of}
use Rattle.td_doc.proofs.Typing.{live_atoms-append}

text_more : (rows : List DocRow) (i : ℕ) (r : DocRow) → i < length rows → r ≡ slice_index_or rows i r
    → text_of (take (i + 1) rows) ≡ text_of (take i rows) ++ text_of (r ∷ [])
text_more rows i r within is =
    ap text_of (take_more rows i r within ∙ ap (λ (q : DocRow). take i rows ++ q ∷ []) (sym is))
    ∙ ap concat (live_atoms-append (take i rows) (r ∷ []))
    ∙ concat-append (live_atoms (take i rows)) (live_atoms (r ∷ []))

-- the atom of a live row is added
pub text_live : (rows : List DocRow) (i : ℕ) (r : DocRow) (start now new piece : List ℕ) → i < length rows → r
    ≡ slice_index_or rows i r
    → is_live r ≡ true → piece ≡ r.atom → now ≡ start ++ text_of (take i rows) → new ≡ now ++ piece
    → new ≡ start ++ text_of (take (i + 1) rows)
text_live rows i r start now new piece within is live atom so_far n =
    let one : text_of (r ∷ []) ≡ piece =
    ap (λ b. concat (map (λ (q : DocRow). q.atom) (cond b (r ∷ []) []))) live ∙ append-nil r.atom ∙ sym atom in
    n ∙ ap (λ (t : List ℕ). t ++ piece) so_far ∙ append_assoc start (text_of (take i rows)) piece
    ∙ ap (λ (t : List ℕ). start ++ t) (ap (λ (t : List ℕ). text_of (take i rows) ++ t) (sym one)
    ∙ sym (text_more rows i r within is))

-- nothing of a tombstone is
pub text_gone : (rows : List DocRow) (i : ℕ) (r : DocRow) (start now : List ℕ) → i < length rows → r
    ≡ slice_index_or rows i r
    → is_live r ≡ false → now ≡ start ++ text_of (take i rows) → now ≡ start ++ text_of (take (i + 1) rows)
text_gone rows i r start now within is gone so_far =
    let none : text_of (r ∷ []) ≡ [] = ap (λ b. concat (map (λ (q : DocRow). q.atom) (cond b (r ∷ []) []))) gone in
    so_far ∙ ap (λ (t : List ℕ). start ++ t)
    (sym (text_more rows i r within is ∙ ap (λ (t : List ℕ). text_of (take i rows) ++ t) none
    ∙ append-nil (text_of (take i rows))))
