-- A text in quotes: its spelling is read as its clusters, and what is read is its spelling.
use Rattle.std.proofs.Common.{◌≡◌, ◌≢◌, ◌<◌, ◌+◌, ℕ, zero, suc, Bool, true, false, cond, eqb, List, []}
use Rattle.std.proofs.Common.{◌∷◌, ◌++◌, length, get_or, All, Option, Some, None, Result, Ok, Err, refl}
use Rattle.std.proofs.Common.{sym, ap, subst, ◌∙◌, append_assoc, IsUtf8, arith}
use Rattle.std.specs.List.{concat, flat_map, list_all}
use Rattle.std.proofs.lemmas.Bool.{eqb-true, cond-true, leb-true}
use Rattle.std.proofs.lemmas.List.Elements.{All-nil, All-cons, All-tail, All-map, All-weaker}
use Rattle.std.proofs.lemmas.List.Sums.{AllPass-from_list_all}
use Rattle.std.proofs.lemmas.Str.{IsUtf8-between, IsUtf8-from_ascii}
use Rattle.td_base.specs.Atom.{IsAtom}
use Rattle.td_base.specs.declared.atom.TheConstants.{MAX_ATOM_LEN}
use Rattle.unicode_segmentation.specs.Grapheme.{graphemes, is_grapheme_break}
use Rattle.unicode_segmentation.specs.Segments.{with_offsets, segments}
use Rattle.unicode_segmentation.proofs.SegmentsLemmas.{AllPieces, segments_nonempty, concat-segments}
use Rattle.unicode_segmentation.proofs.SegmentsLemmas.{map-with_offsets, IsPieceOf, All-IsPieceOf}
use Rattle.unicode_segmentation.proofs.TextLemmas.{IsUtf8-after}
use Rattle.td_script.specs.declared.kind.Kind.{Kind}
use Rattle.td_script.specs.declared.kind.Kind.TheVariants as Fault
use Rattle.td_script.specs.Arguments.{Reading, argument, opened, clusters_of, text_at}
use Rattle.td_script.specs.Script.{IsClusters}
use Rattle.td_script.specs.Spelling.{spaced_text}
use Rattle.td_script.specs.Texts.{escaped, is_short, unquoted}
use Rattle.td_script.proofs.Results.{ok_same, err_is_no_ok}
use Rattle.td_script.proofs.Splitting.{Lacks}
use Rattle.td_script.proofs.TextReading.{all_short}
use Rattle.td_script.proofs.TextWords.{unquoted_there, unquoted_back, unquoted_utf8}
use Rattle.td_script.proofs.WordLaws.{argument_back}

all_pieces : (P : List ℕ → Type 0) (pieces : List (List ℕ)) → AllPieces P pieces → All P pieces
all_pieces P [] h = All-nil P
all_pieces P (piece ∷ pieces) h = All-cons P piece pieces h.0 (all_pieces P pieces h.1)

piece_utf8 : (text : List ℕ) → IsUtf8 text → (x : ℕ × List ℕ) → IsPieceOf text x → IsUtf8 x.1
piece_utf8 text u x is = subst IsUtf8 (sym is.bytes)
    (IsUtf8-between text x.0 (x.0 + length x.1) u (omega arith) is.start is.end)

clusters_utf8 : (text : List ℕ) → IsUtf8 text → All IsUtf8 (graphemes true text)
clusters_utf8 text u =
    let pieces = segments (is_grapheme_break true) text in
    subst (All IsUtf8) (map-with_offsets 0 pieces)
    (All-map IsUtf8 (λ (x : ℕ × List ℕ). x.1) (with_offsets 0 pieces)
    (All-weaker (IsPieceOf text) (λ (x : ℕ × List ℕ). IsUtf8 x.1) (piece_utf8 text u) (with_offsets 0 pieces)
    (All-IsPieceOf (is_grapheme_break true) text u)))

-- the clusters of a text are its atoms, where each is short
clusters_back : (text : List ℕ) → IsUtf8 text → list_all is_short (graphemes true text) ≡ true
    → IsClusters (graphemes true text) × (concat (graphemes true text) ≡ text)
clusters_back text u short =
    let whole : concat (graphemes true text) ≡ text = concat-segments (is_grapheme_break true) text u in
    let some = all_pieces (λ p. 0 < length p) (graphemes true text) (segments_nonempty (is_grapheme_break true) text)
    in (
      record {
        each = λ i d inside. record {
          some = some i d inside;
          short = leb-true (length (get_or (graphemes true text) i d)) MAX_ATOM_LEN
              (AllPass-from_list_all is_short (graphemes true text) short i d inside);
          text = clusters_utf8 text u i d inside;
        };
        cut = ap (graphemes true) whole;
      },
      whole,
    )

pub text_at_there : (atoms : List (List ℕ)) (rest : List ℕ) → IsClusters atoms → text_at (spaced_text atoms ++ rest)
    ≡ Ok (atoms, rest)
text_at_there atoms rest h =
    let text = concat atoms in
    let clusters = graphemes true text in
    let inner : (flat_map escaped text ++ 34 ∷ []) ++ rest ≡ flat_map escaped text
    ++ 34 ∷ rest = append_assoc (flat_map escaped text) (34 ∷ []) rest in
    ap (λ (bs : List ℕ). clusters_of (unquoted false bs)) inner ∙ ap clusters_of (unquoted_there text rest)
    ∙ cond-true {A = Reading (List (List ℕ))} (list_all is_short clusters) (Ok (clusters, rest)) (Err Fault.Atom)
    (all_short clusters (subst (All IsAtom) (sym h.cut) h.each))
    ∙ ap (λ (xs : List (List ℕ)). Ok (xs, rest)) h.cut

-- a text that was read
pub record IsText (bytes : List ℕ) (atoms : List (List ℕ)) (rest : List ℕ) : Type 0 where
  pub fits : IsClusters atoms
  pub whole : bytes ≡ spaced_text atoms ++ rest

clusters_of_back : (bs : List ℕ) (atoms : List (List ℕ)) (rest : List ℕ) (o : Option (List ℕ × List ℕ)) → IsUtf8 bs
    → Lacks 10 bs → unquoted false bs ≡ o → clusters_of o ≡ Ok (atoms, rest) → IsText (32 ∷ 34 ∷ bs) atoms rest
clusters_of_back bs atoms rest None u lacks h e = absurd (err_is_no_ok Fault.Quote (atoms, rest) e)
clusters_of_back bs atoms rest (Some read) u lacks h e = at_test (list_all is_short (graphemes true read.0)) refl e
  where
    written : (clusters : List (List ℕ)) → concat clusters ≡ read.0 → 32 ∷ 34 ∷ bs ≡ spaced_text clusters ++ read.1
    written clusters whole =
        ap (λ (xs : List ℕ). 32 ∷ 34 ∷ xs) (unquoted_back bs read.0 read.1 lacks h
        ∙ sym (append_assoc (flat_map escaped read.0) (34 ∷ []) read.1)
        ∙ ap (λ (t : List ℕ). (flat_map escaped t ++ 34 ∷ []) ++ read.1) (sym whole))

    at_test : (short : Bool) → list_all is_short (graphemes true read.0) ≡ short
        → cond {A = Reading (List (List ℕ))} short (Ok (graphemes true read.0, read.1)) (Err Fault.Atom)
        ≡ Ok (atoms, rest) → IsText (32 ∷ 34 ∷ bs) atoms rest
    at_test true is e =
        let back = clusters_back read.0 (unquoted_utf8 bs read.0 read.1 u h) is in
        let same : (graphemes true read.0, read.1) ≡ (atoms, rest) =
        ok_same (graphemes true read.0, read.1) (atoms, rest) e in
        subst (λ (x : List (List ℕ) × List ℕ). IsText (32 ∷ 34 ∷ bs) x.0 x.1) same
        (record { fits = back.0; whole = written (graphemes true read.0) back.1 })
    at_test false is e = absurd (err_is_no_ok Fault.Atom (atoms, rest) e)

ascii_at : (i : ℕ) → get_or (32 ∷ 34 ∷ []) i 0 < 128
ascii_at zero = omega arith
ascii_at (suc zero) = omega arith
ascii_at (suc (suc i)) = omega arith

opened_back : (bytes : List ℕ) (atoms : List (List ℕ)) (rest : List ℕ) (r : Result (List ℕ) Kind) → IsUtf8 bytes
    → Lacks 10 bytes → argument bytes ≡ r → opened r ≡ Ok (atoms, rest) → IsText bytes atoms rest
opened_back bytes atoms rest (Err kind) u lacks h e = absurd (err_is_no_ok kind (atoms, rest) e)
opened_back bytes atoms rest (Ok []) u lacks h e = absurd (err_is_no_ok Fault.Quote (atoms, rest) e)
opened_back bytes atoms rest (Ok (b ∷ bs)) u lacks h e = at_quote (eqb b 34) refl e
  where
    at_quote : (is : Bool) → eqb b 34 ≡ is → cond {A = Reading (List (List ℕ))} is (clusters_of (unquoted false bs))
        (Err Fault.Quote) ≡ Ok (atoms, rest) → IsText bytes atoms rest
    at_quote true is e =
        let whole : bytes ≡ 32 ∷ 34 ∷ bs = argument_back bytes (b ∷ bs) h
        ∙ ap (λ (x : ℕ). 32 ∷ x ∷ bs) (eqb-true b 34 is) in
        let inner : Lacks 10 bs = All-tail (λ (byte : ℕ). byte ≢ 10) 34 bs
        (All-tail (λ (byte : ℕ). byte ≢ 10) 32 (34 ∷ bs) (subst (Lacks 10) whole lacks)) in
        let text : IsUtf8 bs = IsUtf8-after bytes (32 ∷ 34 ∷ []) bs u (IsUtf8-from_ascii (32 ∷ 34 ∷ []) ascii_at)
        whole in
        subst (λ (xs : List ℕ). IsText xs atoms rest) (sym whole)
        (clusters_of_back bs atoms rest (unquoted false bs) text inner refl e)
    at_quote false is e = absurd (err_is_no_ok Fault.Quote (atoms, rest) e)

pub text_at_back : (bytes : List ℕ) (atoms : List (List ℕ)) (rest : List ℕ) → IsUtf8 bytes → Lacks 10 bytes
    → text_at bytes ≡ Ok (atoms, rest) → IsText bytes atoms rest
text_at_back bytes atoms rest u lacks e = opened_back bytes atoms rest (argument bytes) u lacks refl e
