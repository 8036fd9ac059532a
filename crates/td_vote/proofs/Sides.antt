-- The order of places, as it is asked of a document.
use Rattle.std.proofs.Common.{◌≡◌, ◌≢◌, List, true, false, Option, Some, None, refl, sym, ap, ◌∙◌}
use Rattle.std.proofs.Common.{true≢false}
use Rattle.std.proofs.lemmas.Cmp.{tied_itself}
use Rattle.std.specs.declared.cmp.Ordering.{Ordering}
use Rattle.std.specs.declared.cmp.Ordering.TheVariants.{Less, Equal, Greater}
use Rattle.std.specs.Ordering.{is_lt, ordering_then}
use Rattle.std.specs.Option.{is_some, option_map}
use Rattle.td_base.specs.declared.bit.Bit.{Bit}
use Rattle.td_base.specs.declared.bit.Bit.TheVariants.{Left, Right}
use Rattle.td_base.specs.Equality.{same_bit}
use Rattle.td_base.specs.Order.{bit_cmp}
use Rattle.td_base.specs.Value.{AtomIdValue}
use Rattle.td_path.specs.Infix.{path_cmp}
use Rattle.td_path.specs.declared.slot.Slot.TheVariants.{Root, At}
use Rattle.td_path.specs.declared.slot_path.SlotPath.TheVariants.{Root as Whole, Below}
use Rattle.td_path.proofs.InfixOrder.{path_total, equal_paths}
use Rattle.td_doc.specs.Document.{DocRow, last_id, find_row}
use Rattle.td_doc.specs.Answers.{is_row, is_found_before, stands_before}
use Rattle.td_doc.proofs.ArrayRows.{nobody}
use Rattle.td_doc.proofs.Rules.{found}
use Rattle.td_vote.specs.ByPlace.{path_before, place_before}

module _ (rows : List DocRow) (x : AtomIdValue) (b c : Bit) where
  -- of one row the left side comes first
  pub one_row : is_lt (bit_cmp b c) ≡ true → is_row rows x ≡ place_before rows (At x b) (At x c)
  one_row h = at (find_row x rows)
    where
      at : (o : Option DocRow) → is_some o ≡ path_before (option_map (λ (r : DocRow). Below r.path b) o)
          (option_map (λ (r : DocRow). Below r.path c) o)
      at None = refl
      at (Some r) =
          sym (ap (λ (t : Ordering). is_lt (ordering_then t (bit_cmp b c))) (tied_itself path_total r.path) ∙ h)

  pub no_row_before : is_lt (bit_cmp b c) ≡ false → false ≡ place_before rows (At x b) (At x c)
  no_row_before h = at (find_row x rows)
    where
      at : (o : Option DocRow) → false ≡ path_before (option_map (λ (r : DocRow). Below r.path b) o)
          (option_map (λ (r : DocRow). Below r.path c) o)
      at None = refl
      at (Some r) =
          sym (ap (λ (t : Ordering). is_lt (ordering_then t (bit_cmp b c))) (tied_itself path_total r.path) ∙ h)

  -- and of two that one which stands before the other
  pub two_rows : (y : AtomIdValue) → x ≢ y → stands_before rows x y ≡ place_before rows (At x b) (At y c)
  two_rows y differ = at (find_row x rows) (find_row y rows) refl refl
    where
      ordered : (r s : DocRow) → find_row x rows ≡ Some r → find_row y rows ≡ Some s → (o : Ordering)
          → path_cmp r.path s.path ≡ o → is_lt o ≡ is_lt (ordering_then o (bit_cmp b c))
      ordered r s e f Less k = refl
      ordered r s e f Greater k = refl
      ordered r s e f Equal k =
          absurd (differ (sym (found x r rows e).1 ∙ ap (last_id nobody) (equal_paths r.path s.path k)
          ∙ (found y s rows f).1))

      at : (o u : Option DocRow) → find_row x rows ≡ o → find_row y rows ≡ u → is_found_before o u
          ≡ path_before (option_map (λ (r : DocRow). Below r.path b) o)
          (option_map (λ (r : DocRow). Below r.path c) u)
      at None u e f = refl
      at (Some r) None e f = refl
      at (Some r) (Some s) e f = ordered r s e f (path_cmp r.path s.path) refl

-- no slot stands before the root
pub not_before_root : (rows : List DocRow) (x : AtomIdValue) (b : Bit) → false ≡ place_before rows (At x b) Root
not_before_root rows x b = at (find_row x rows)
  where
    at : (o : Option DocRow) → false ≡ path_before (option_map (λ (r : DocRow). Below r.path b) o) (Some Whole)
    at None = refl
    at (Some r) = refl

pub left_then : (b c : Bit) → same_bit b Left ≡ true → same_bit c Right ≡ is_lt (bit_cmp b c)
left_then Left Left h = refl
left_then Left Right h = refl
left_then Right c h = absurd (true≢false (sym h))

pub left_else : (b c : Bit) → same_bit b Left ≡ false → false ≡ is_lt (bit_cmp b c)
left_else Left c h = absurd (true≢false h)
left_else Right Left h = refl
left_else Right Right h = refl
