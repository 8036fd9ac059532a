-- A text of ASCII without CR has a cluster for each byte.
use Rattle.std.proofs.Common.{◌≡◌, ◌<◌, ℕ, suc, Bool, true, false, ◌||◌, ◌==◌, List, [], ◌∷◌, ◌++◌, map, unwrap_or}
use Rattle.std.proofs.Common.{refl, sym, ap, subst, ◌∙◌, arith, true≢false}
use Rattle.std.specs.Prelude.{encode_utf8_all}
use Rattle.std.specs.List.{list_any}
use Rattle.std.specs.Str.{IsAscii}
use Rattle.std.proofs.lemmas.Bool.{cond-true, or_parts}
use Rattle.std.proofs.lemmas.Str.{chars-IsAscii, encodes-IsAscii, IsAscii-take}
use Rattle.ucd_table.proofs.Facts.{Stepped-below}
use Rattle.ucd_breaks.specs.GraphemeClusterBreak.{grapheme_cluster_break}
use Rattle.ucd_breaks.specs.declared.GraphemeClusterBreak.{GraphemeClusterBreak}
use Rattle.ucd_breaks.specs.declared.GraphemeClusterBreak.TheVariants.{Control, Lf, Other}
use Rattle.ucd_breaks.proofs.Computing.{ucd_breaks}
use Rattle.ucd_breaks.proofs.GraphemeClusterBreakLemmas.{grapheme_cluster_break_stepped}
use Rattle.unicode_segmentation.specs.Grapheme.{break_by_pair, graphemes, is_grapheme_break}
use Rattle.unicode_segmentation.specs.Segments.{cut, prepend, segments}
use Rattle.unicode_segmentation.proofs.GraphemeLemmas.{is_grapheme_break-inside, is_grapheme_break-others}
use Rattle.td_base.specs.Run.{letters}

abbrev is_cr : ℕ → Bool
is_cr c = c == 13

-- the values of Grapheme_Cluster_Break that ASCII has, but for that of CR
abbrev is_lone : GraphemeClusterBreak → Bool
is_lone Control = true
is_lone Lf = true
is_lone Other = true
is_lone _ = false

cr_or_lone : (c : ℕ) → c < 128 → (is_cr c || is_lone (grapheme_cluster_break c)) ≡ true
unfolding ucd_breaks
cr_or_lone = Stepped-below grapheme_cluster_break grapheme_cluster_break_stepped (λ c v. is_cr c || is_lone v) 128 refl

lone : (c : ℕ) → c < 128 → is_cr c ≡ false → is_lone (grapheme_cluster_break c) ≡ true
lone c below clear = subst (λ (b : Bool). (b || is_lone (grapheme_cluster_break c)) ≡ true) clear (cr_or_lone c below)

-- two such values break by the rules on pairs, unless both are Other
by_pair : (v w : GraphemeClusterBreak) (rest : Bool) → is_lone v ≡ true → is_lone w ≡ true
    → (Other ≡ v → Other ≡ w → unwrap_or (break_by_pair true v w) rest ≡ true)
    → unwrap_or (break_by_pair true v w) rest ≡ true
by_pair Control w rest left right others = refl
by_pair Lf w rest left right others = refl
by_pair Other Control rest left right others = refl
by_pair Other Lf rest left right others = refl
by_pair Other Other rest left right others = others refl refl
by_pair Other _ rest left right others = absurd (true≢false (sym right))
by_pair _ w rest left right others = absurd (true≢false (sym left))

-- such a text breaks between its characters, and at its end
between : (last : ℕ) (before : List ℕ) (next : ℕ) (after : List ℕ) → is_lone (grapheme_cluster_break last) ≡ true
    → next < 128 → is_lone (grapheme_cluster_break next) ≡ true
    → is_grapheme_break true (last ∷ before) (next ∷ after) ≡ true
between last before next after left below right =
    let inside = is_grapheme_break-inside true (last ∷ before) next after (omega arith) in
    inside ∙ by_pair (grapheme_cluster_break last) (grapheme_cluster_break next) _ left right
    (λ l r. sym inside ∙ sym (is_grapheme_break-others true (last ∷ before) next after (omega arith) (omega arith) l r))

at_end : (last : ℕ) (before : List ℕ) → is_grapheme_break true (last ∷ before) [] ≡ true
unfolding is_grapheme_break
at_end last before = refl

-- so each character is a cluster, and its own byte
each_alone : (before text : List ℕ) → IsAscii text → list_any is_cr text ≡ false
    → cut (is_grapheme_break true) before text [] ≡ letters text
unfolding cut
each_alone before [] ascii clear = refl
each_alone before (c ∷ []) ascii clear = cond-true _ ((c ∷ []) ∷ []) (prepend (c ∷ []) []) (at_end c before)
each_alone before (c ∷ d ∷ text) ascii clear =
    let first = or_parts (is_cr c) (list_any is_cr (d ∷ text)) clear in
    let second = or_parts (is_cr d) (list_any is_cr text) first.1 in
    let rest : List (List ℕ) = cut (is_grapheme_break true) (c ∷ before) (d ∷ text) [] in
    cond-true _ ((c ∷ []) ∷ rest) (prepend (c ∷ []) rest)
    (between c before d (text ++ []) (lone c (ascii 0) first.0) (ascii 1) (lone d (ascii 1) second.0))
    ∙ ap (λ (others : List (List ℕ)). (c ∷ []) ∷ others)
    (each_alone (c ∷ before) (d ∷ text) (λ i. ascii (suc i)) first.1)

encoded : (text : List ℕ) → IsAscii text → map encode_utf8_all (letters text) ≡ letters text
encoded [] ascii = refl
encoded (c ∷ text) ascii =
    λ i. encodes-IsAscii (c ∷ []) (IsAscii-take (c ∷ text) 1 ascii) i ∷ encoded text (λ k. ascii (suc k)) i

pub plain_graphemes : (text : List ℕ) → IsAscii text → list_any is_cr text ≡ false → graphemes true text ≡ letters text
unfolding segments
plain_graphemes text ascii clear =
    ap (λ (cs : List ℕ). map encode_utf8_all (cut (is_grapheme_break true) [] cs [])) (chars-IsAscii text ascii)
    ∙ ap (map encode_utf8_all) (each_alone [] text ascii clear) ∙ encoded text ascii
