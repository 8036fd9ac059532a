-- The text of a list of atoms, and when two lists have the same.
use Rattle.std.proofs.Common.{◌≡◌, ◌++◌, ◌∷◌, ℕ, List, length, map, true, sym, ap, ◌∙◌}
use Rattle.std.specs.List.{concat}
use Rattle.std.proofs.lemmas.List.{append_assoc}
use Rattle.td_base.specs.Run.{pieces}
use Rattle.td_base.proofs.RunPieces.{pieces_again}
use Rattle.unicode_segmentation.specs.Grapheme.{graphemes}

-- the bytes of the next atom, put behind those so far
pub next_bytes : (so_far atom : List ℕ) (rest left : List (List ℕ)) (all : List ℕ) → so_far ++ concat left ≡ all
    → left ≡ atom ∷ rest
    → (so_far ++ atom) ++ concat rest ≡ all
next_bytes so_far atom rest left all whole next =
    append_assoc so_far atom (concat rest) ∙ ap (λ (atoms : List (List ℕ)). so_far ++ concat atoms) (sym next) ∙ whole

-- atoms are told by their lengths and their bytes
pub same_atoms : (a b : List (List ℕ)) → map length a ≡ map length b → concat a ≡ concat b → a ≡ b
same_atoms a b lengths bytes = sym (pieces_again a) ∙ (λ i. pieces (lengths i) (bytes i)) ∙ pieces_again b

-- the atoms into which the text of the clusters is cut
pub found_atoms : (clusters atoms : List (List ℕ)) (text whole : List ℕ) → text ≡ concat clusters → whole ≡ text
    → atoms ≡ graphemes true whole
    → graphemes true (concat clusters) ≡ atoms
found_atoms clusters atoms text whole joined read cut = sym (cut ∙ ap (graphemes true) (read ∙ joined))
