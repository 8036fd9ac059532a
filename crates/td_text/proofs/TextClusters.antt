-- What is said of the clusters of a text.
use Rattle.std.proofs.Common.{◌≡◌, ◌<◌, ◌≤◌, ℕ, true, List, [], ◌∷◌, ◌++◌, length, All, IsUtf8, subst}
use Rattle.std.proofs.lemmas.List.Elements.{All-weaker}
use Rattle.td_base.specs.Atom.{IsAtom}
use Rattle.td_base.specs.declared.atom.TheConstants.{MAX_ATOM_LEN}
use Rattle.unicode_segmentation.specs.Grapheme.{graphemes, is_grapheme_break}
use Rattle.unicode_segmentation.proofs.SegmentsLemmas.{AllPieces, segments_nonempty}
use Rattle.td_text.specs.Clusters.{IsFirstLong}

piece_at : (P : List ℕ → Type 0) (before : List (List ℕ)) (piece : List ℕ) (behind : List (List ℕ))
    → AllPieces P (before ++ piece ∷ behind) → P piece
piece_at P [] piece behind h = h.0
piece_at P (first ∷ before) piece behind h = piece_at P before piece behind h.1

some_cluster : (text : List ℕ) (before : List (List ℕ)) (cluster : List ℕ) (behind : List (List ℕ))
    → graphemes true text ≡ before ++ cluster ∷ behind → 0 < length cluster
some_cluster text before cluster behind e =
    piece_at (λ p. 0 < length p) before cluster behind
    (subst (AllPieces (λ p. 0 < length p)) e (segments_nonempty (is_grapheme_break true) text))

-- a cluster that is short enough is an atom
pub short_atom : (text : List ℕ) (before : List (List ℕ)) (cluster : List ℕ) (behind : List (List ℕ))
    → graphemes true text ≡ before ++ cluster ∷ behind
    → IsUtf8 cluster → length cluster ≤ MAX_ATOM_LEN → IsAtom cluster
short_atom text before cluster behind e u short =
    record { some = some_cluster text before cluster behind e; short = short; text = u }

-- the first cluster that is too long
pub first_long : (text : List ℕ) (before : List (List ℕ)) (cluster : List ℕ) (behind : List (List ℕ)) (index : ℕ)
    → graphemes true text ≡ before ++ cluster ∷ behind
    → All IsAtom before → MAX_ATOM_LEN < length cluster → index ≡ length before
    → IsFirstLong (graphemes true text) index
first_long text before cluster behind index e each long place = record {
  before = before;
  cluster = cluster;
  behind = behind;
  whole = e;
  place = place;
  short = All-weaker IsAtom (λ c. length c ≤ MAX_ATOM_LEN) (λ (c : List ℕ) (is : IsAtom c). is.short) before each;
  long = long;
}
