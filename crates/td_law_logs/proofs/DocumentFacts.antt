-- What the rules of a document say of two of its rows.
use Rattle.std.proofs.Common.{◌≡◌, ◌⊎◌, List, [], ◌∷◌, ◌++◌, refl, sym, ap, ◌∙◌, subst, ⊎_elim, append_assoc}
use Rattle.td_base.specs.declared.bit.Bit.TheVariants.{Right}
use Rattle.td_base.specs.Value.{AtomIdValue}
use Rattle.td_base.specs.Lists.{In, Successive}
use Rattle.td_path.specs.Infix.{Pair, Pairs}
use Rattle.td_doc.specs.Document.{DocRow, row_id, last_id, IsPath, IsDocument}
use Rattle.td_doc.proofs.PutRows.{Differ}
use Rattle.td_base.proofs.Rising.{rises_tri}
use Rattle.td_law_logs.proofs.Paths.{PathLt, RowLt, path_not, no_pairs, last_more}

abbrev pub nobody : AtomIdValue
nobody = record { dot = record { site = 0; seq = 0 }; offset = 0 }

-- the identity of a row, from its path
pub id_at : (q : DocRow) (p : Pairs) (t : Pair) → q.path ≡ p ++ t ∷ [] → row_id q ≡ t.1
id_at q p t e = ap (last_id nobody) e ∙ last_more nobody p t []

module _ (doc : List DocRow) (d : IsDocument doc) where
  pub doc_rises : Successive RowLt doc
  doc_rises = d.ascending

  -- rows with one path are one
  pub by_path : (x y : DocRow) → In x doc → In y doc → x.path ≡ y.path → x ≡ y
  by_path x y i j e =
      ⊎_elim (λ k. k)
      (λ (k : RowLt x y ⊎ RowLt y x). absurd
      (⊎_elim (λ m. path_not y.path (subst (λ z. PathLt z y.path) e m))
      (λ m. path_not y.path (subst (λ z. PathLt y.path z) e m)) k))
      (rises_tri RowLt doc doc_rises x y i j)

  -- rows with one identity are one
  pub by_id : (x y : DocRow) → In x doc → In y doc → row_id x ≡ row_id y → x ≡ y
  by_id x y i j e =
      ⊎_elim (λ k. k)
      (λ (k : Differ x y ⊎ Differ y x). absurd (⊎_elim (λ m. m e) (λ m. m (sym e)) k))
      (rises_tri Differ doc d.apart x y i j)

  -- a row's path begins on the right of the root
  pub first_pair : (r : DocRow) → In r doc → (t : Pair) × (rest : Pairs) × (r.path ≡ t ∷ rest) × (t.0 ≡ Right)
  first_pair r i = cases r.path refl (d.paths r i)
    where
      cases : (p : Pairs) → r.path ≡ p → IsPath p → (t : Pair) × (rest : Pairs) × (r.path ≡ t ∷ rest) × (t.0 ≡ Right)
      cases [] e h = absurd h
      cases (t ∷ rest) e h = (t, rest, e, h)

  -- on the way to a row there are rows
  pub on_the_way : (r : DocRow) → In r doc → (p : Pairs) (t : Pair) (rest : Pairs) → r.path ≡ p ++ t ∷ rest
      → (q : DocRow) × In q doc × (q.path ≡ p ++ t ∷ [])
  on_the_way r i p t [] e = (r, i, e)
  on_the_way r i p t (next ∷ rest) e =
      d.rooted r (p ++ t ∷ []) next rest i (e ∙ sym (append_assoc p (t ∷ []) (next ∷ rest))) (no_pairs p t [])
