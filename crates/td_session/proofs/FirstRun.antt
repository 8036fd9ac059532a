-- The first run of a text, as it is cut.
use Rattle.std.proofs.Common.{◌≡◌, ℕ, List, [], ◌∷◌, ◌++◌, Option, Some, None, true}
use Rattle.std.proofs.Common.{IfOk, IsUtf8, All, ap, arith, sym, subst, ◌∙◌}
use Rattle.std.specs.Option.{ok_or}
use Rattle.std.specs.Prelude.{MatchOption}
use Rattle.std.proofs.lemmas.List.Elements.{All-head, All-tail}
use Rattle.unicode_segmentation.specs.Grapheme.{graphemes}
use Rattle.td_base.specs.Atom.{IsAtom}
use Rattle.td_text.specs.Clusters.{IsFirstLong}
use Rattle.td_text.specs.Runs.{runs_of}
use Rattle.td_session.specs.declared.fault.Fault.{Fault}
use Rattle.td_session.specs.declared.fault.Fault.TheVariants.{Text}
use Rattle.td_session.specs.Calls.{IsText, IsFirstRun}

-- what the atoms of a text give next is its first run
pub first_of : (text : List ℕ) (atoms after : List (List ℕ)) (next : Option (List (List ℕ)))
    → IsUtf8 text → atoms ≡ graphemes true text → All IsAtom atoms
    → MatchOption next ((atoms ≡ []) × (after ≡ [])) (λ run. runs_of atoms ≡ run ∷ runs_of after)
    → IfOk (ok_or {E = Fault} next Text) (IsFirstRun text)
first_of text atoms after None utf8 cut each is = tt
first_of text atoms after (Some run) utf8 cut each is = record {
  is_text = record {
    utf8 = utf8;
    some = λ none. none_again (cut ∙ none) is;
    each = subst (All IsAtom) cut each;
  };
  runs = runs_of after;
  first = ap runs_of (sym cut) ∙ is;
}
  where
    none_again : atoms ≡ [] → runs_of atoms ≡ run ∷ runs_of after → ⊥
    none_again none e = let f : [] ≡ run ∷ runs_of after = ap runs_of (sym none) ∙ e in absurd cc

atom_in : (before : List (List ℕ)) (cluster : List ℕ) (behind : List (List ℕ))
    → All IsAtom (before ++ cluster ∷ behind) → IsAtom cluster
atom_in [] cluster behind each = All-head IsAtom cluster behind each
atom_in (atom ∷ before) cluster behind each =
    atom_in before cluster behind (All-tail IsAtom atom (before ++ cluster ∷ behind) each)

-- where a cluster is too long there is no text
pub no_text : (text cut : List ℕ) (index : ℕ) → cut ≡ text → IsFirstLong (graphemes true cut) index → IsText text → ⊥
no_text text cut index same found is =
    let atom : IsAtom found.cluster = atom_in found.before found.cluster found.behind
    (subst (All IsAtom) (ap (graphemes true) (sym same) ∙ found.whole) is.each) in
    absurd (omega (arith, atom.short, found.long))
