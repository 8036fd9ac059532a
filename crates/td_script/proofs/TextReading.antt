-- How the last argument of a line is read where it is a text.
use Rattle.std.proofs.Common.{◌≡◌, ◌≢◌, ◌<◌, ◌≤◌, ℕ, true, false, eqb, List, [], ◌∷◌, ◌++◌, length}
use Rattle.std.proofs.Common.{All, Some, Result, Ok, Err, refl, sym, ap, subst, ◌∙◌, arith}
use Rattle.std.specs.List.{list_all}
use Rattle.std.proofs.lemmas.Bool.{eqb-true, cond-true, cond-false, false_from_ne_true}
use Rattle.std.proofs.lemmas.Bool.{le-leb, lt-leb, and_left, and_right}
use Rattle.std.proofs.lemmas.List.Sums.{list_all-from_AllPass}
use Rattle.std.proofs.lemmas.List.Elements.{All-weaker}
use Rattle.td_base.specs.Atom.{IsAtom}
use Rattle.td_base.specs.declared.atom.TheConstants.{MAX_ATOM_LEN}
use Rattle.unicode_segmentation.specs.Grapheme.{graphemes}
use Rattle.td_script.specs.declared.kind.Kind.{Kind}
use Rattle.td_script.specs.declared.kind.Kind.TheVariants.{End, Quote, Atom}
use Rattle.td_script.specs.Arguments.{Reading, argument, behind, cluster_at, cluster_of, clusters_of, last, opened}
use Rattle.td_script.specs.Arguments.{text_at, with_rest}
use Rattle.td_text.specs.Clusters.{IsFirstLong}
use Rattle.td_script.specs.Texts.{is_short, unquoted}

abbrev Atoms : Type 0
Atoms = List (List ℕ)

-- something is left behind the last argument
pub last_left : {V : Type 0} (v : V) (bs : List ℕ) → 0 < length bs → last v bs ≡ Err End
last_left v [] h = absurd (omega arith)
last_left v (b ∷ bs) h = refl

pub last_done : {V : Type 0} (v : V) (bs : List ℕ) → length bs ≤ 0 → last v bs ≡ Ok v
last_done v [] h = refl
last_done v (b ∷ bs) h = absurd (omega arith)

opened_none : (bs : List ℕ) → ((text : List ℕ) → bs ≢ 34 ∷ text) → opened (Ok bs) ≡ Err Quote
opened_none [] none = refl
opened_none (b ∷ bs) none =
    cond-false {A = Reading Atoms} (eqb b 34) (clusters_of (unquoted false bs)) (Err Quote)
    (false_from_ne_true (eqb b 34) (λ (e : eqb b 34 ≡ true). none bs (ap (λ (x : ℕ). x ∷ bs) (eqb-true b 34 e))))

pub all_short : (clusters : Atoms) → All IsAtom clusters → list_all is_short clusters ≡ true
all_short clusters each = list_all-from_AllPass is_short clusters
    (All-weaker IsAtom (λ c. is_short c ≡ true) (λ (c : List ℕ) (is : IsAtom c). le-leb (length c) MAX_ATOM_LEN
    is.short) clusters each)

not_all_short : (before : Atoms) (cluster : List ℕ) (rest : Atoms) → MAX_ATOM_LEN < length cluster
    → list_all is_short (before ++ cluster ∷ rest) ≡ false
not_all_short [] cluster rest long = and_left (is_short cluster) (list_all is_short rest)
    (lt-leb (length cluster) MAX_ATOM_LEN long)
not_all_short (first ∷ before) cluster rest long =
    and_right (is_short first) (list_all is_short (before ++ cluster ∷ rest)) (not_all_short before cluster rest long)

some_long : (clusters : Atoms) (index : ℕ) → IsFirstLong clusters index → list_all is_short clusters ≡ false
some_long clusters index h = ap (list_all is_short) h.whole ∙ not_all_short h.before h.cluster h.behind h.long

-- a text that was read up to its closing quote
pub read_text : (rest all inner text left : List ℕ) → argument rest ≡ Ok all → all ≡ 34 ∷ inner → unquoted false inner
    ≡ Some (text, left) → text_at rest ≡ clusters_of (Some (text, left))
read_text rest all inner text left begins opens reads =
    ap opened begins ∙ ap (λ (bs : List ℕ). opened (Ok bs)) opens ∙ ap clusters_of reads

pub no_opening : (rest all : List ℕ) → argument rest ≡ Ok all → ((inner : List ℕ) → all ≢ 34 ∷ inner) → text_at rest
    ≡ Err Quote
no_opening rest all begins none = ap opened begins ∙ opened_none all none

pub long_text : (rest text left : List ℕ) (index : ℕ) → text_at rest ≡ clusters_of (Some (text, left))
    → IsFirstLong (graphemes true text) index → text_at rest ≡ Err Atom
long_text rest text left index e long =
    e ∙ cond-false {A = Reading Atoms} (list_all is_short (graphemes true text)) (Ok (graphemes true text, left))
    (Err Atom) (some_long (graphemes true text) index long)

-- a text whose clusters are atoms
pub whole_text : (rest text left : List ℕ) (atoms : Atoms) → text_at rest ≡ clusters_of (Some (text, left))
    → atoms ≡ graphemes true text → All IsAtom atoms → text_at rest ≡ Ok (atoms, left)
whole_text rest text left atoms e same each =
    e ∙ cond-true {A = Reading Atoms} (list_all is_short (graphemes true text)) (Ok (graphemes true text, left))
    (Err Atom) (all_short (graphemes true text) (subst (All IsAtom) same each))
    ∙ ap (λ (xs : Atoms). Ok (xs, left)) (sym same)

-- what is judged of the last argument where so much is left behind it
pub text_then_last : (rest left : List ℕ) (atoms : Atoms) → text_at rest ≡ Ok (atoms, left)
    → behind (text_at rest) last ≡ last atoms left
text_then_last rest left atoms e = ap (λ (r : Reading Atoms). behind r last) e

pub text_fault : (rest : List ℕ) (kind : Kind) → text_at rest ≡ Err kind → behind (text_at rest) last ≡ Err kind
text_fault rest kind e = ap (λ (r : Reading Atoms). behind r last) e

-- and where the text is one cluster
pub cluster_then_last : (rest left atom : List ℕ) (atoms : Atoms) → text_at rest ≡ Ok (atoms, left)
    → cluster_of atoms ≡ Ok atom → behind (cluster_at rest) last ≡ last atom left
cluster_then_last rest left atom atoms e one =
    ap (λ (r : Reading Atoms). behind (behind r (λ clusters rest. with_rest rest (cluster_of clusters))) last) e
    ∙ ap (λ (r : Result (List ℕ) Kind). behind (with_rest left r) last) one

pub no_cluster : (rest left : List ℕ) (atoms : Atoms) (kind : Kind) → text_at rest ≡ Ok (atoms, left)
    → cluster_of atoms ≡ Err kind → behind (cluster_at rest) last ≡ Err kind
no_cluster rest left atoms kind e none =
    ap (λ (r : Reading Atoms). behind (behind r (λ clusters rest. with_rest rest (cluster_of clusters))) last) e
    ∙ ap (λ (r : Result (List ℕ) Kind). behind (with_rest left r) last) none

pub cluster_fault : (rest : List ℕ) (kind : Kind) → text_at rest ≡ Err kind
    → behind (cluster_at rest) last ≡ Err kind
cluster_fault rest kind e =
    ap (λ (r : Reading Atoms). behind (behind r (λ clusters rest. with_rest rest (cluster_of clusters))) last) e
