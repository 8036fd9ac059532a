-- Rows by their identities.
use Rattle.std.proofs.Common.{◌≡◌, ◌≢◌, ◌<◌, ℕ, List, [], ◌∷◌, Bool, true, false, ◌&&◌, map, length, nat_eq}
use Rattle.std.proofs.Common.{is_some, Option, Some, None, refl, sym, ap, ◌∙◌, subst, ⊎_elim, arith}
use Rattle.std.proofs.lemmas.Bool.{eq-eqb}
use Rattle.std.proofs.lemmas.Bool.Decides.{nat_tests}
use Rattle.std.specs.Option.{option_map, option_and_then}
use Rattle.std.specs.Prelude.{slice_get, IsTrue}
use Rattle.std.specs.List.{list_all, AllByRecursion}
use Rattle.td_clock.specs.Vector.{vector_has}
use Rattle.td_base.specs.declared.bit.Bit.{Bit}
use Rattle.td_base.specs.Value.{DotValue, AtomIdValue}
use Rattle.td_base.specs.Lists.{In}
use Rattle.td_base.proofs.Elements.{cut_at}
use Rattle.td_base.proofs.Lists.{In-filter, In-map, map_In}
use Rattle.td_path.specs.declared.slot.Slot.{Slot}
use Rattle.td_path.specs.declared.slot.Slot.TheVariants.{Root, At}
use Rattle.td_path.specs.declared.slot_path.SlotPath.{SlotPath}
use Rattle.td_path.specs.declared.slot_path.SlotPath.TheVariants.{Below}
use Rattle.td_path.specs.SlotPaths.{slot_contains}
use Rattle.td_doc.proofs.RootRows.{all_in_root, within_root}
use Rattle.td_doc.specs.Document.{DocRow, has_id, find_row, is_empty_list}
use Rattle.td_doc.specs.Slots.{slot_path, rows_below, rows_in_slot, is_empty_slot, is_within, is_known, is_known_row}
use Rattle.td_doc.specs.Deletion.{delete_at}
use Rattle.td_base.proofs.Searches.{find_nothing, find_none, all_pass}
use Rattle.td_brackets.specs.Brackets.{Entry}
use Rattle.td_brackets.specs.RowNumbers.{entry_of, is_known_entry}
use Rattle.td_brackets.proofs.Entries.{not_found, found_at, parted}
use Rattle.td_tree.specs.declared.tree_row.RowState.TheVariants.{Gone}
use Rattle.td_tree.specs.Parts.{Parts, state_at, table, doc_rows, IsTree, IsNamed}
use Rattle.td_tree.specs.Reading.{shown}
use Rattle.td_tree.specs.Whole.{IsSeen}
use Rattle.td_tree.proofs.Shown.{entries, shown_stays, stands}

-- what is found of a row by its number
pub record FoundRow (p : Parts) (r : ℕ) : Type 0 where
  pub row : DocRow
  pub found : find_row (table p r).id (doc_rows p) ≡ Some row
  pub entry : entry_of row ≡ table p r

pub found_row : (p : Parts) → IsTree p → (r : ℕ) → r < length p.rows → state_at p r ≢ Gone → FoundRow p r
found_row p t r l s =
    let c = cut_at r (shown p p.items) (stands p t r l s) in
    let same = entries p t ∙ ap (map (table p)) c.is in
    record {
      row = (parted (table p) c.front r c.back (doc_rows p) same t.brackets.document.apart).row;
      found = found_at (table p) c.front r c.back (doc_rows p) same t.brackets.document.apart;
      entry = (parted (table p) c.front r c.back (doc_rows p) same t.brackets.document.apart).row_is;
    }

module _ (p : Parts) (t : IsTree p) (find : AtomIdValue → Option ℕ) (named : IsNamed find p.rows) where
  -- no row has an identity that leads to none, or to a row that is gone
  unknown : (x : AtomIdValue) → ((r : ℕ) → find x ≡ Some r → state_at p r ≡ Gone) → find_row x (doc_rows p) ≡ None
  unknown x h =
      not_found (table p) (shown p p.items) (doc_rows p) (entries p t) x (λ r m e.
      let k = shown_stays p t r m in
      ⊎_elim (λ (g : state_at p r ≡ Gone). k.1 g) (λ (f : find (table p r).id ≡ Some r). k.1
      (h r (sym (ap find e) ∙ f))) (named.here r k.0))

  pub none_found : (x : AtomIdValue) → find x ≡ None → find_row x (doc_rows p) ≡ None
  none_found x e = unknown x (λ r f. absurd (no r (sym e ∙ f)))
    where
      no : (r : ℕ) → None ≡ Some r → ⊥
      no r f = cc

  pub gone_found : (x : AtomIdValue) (r : ℕ) → find x ≡ Some r → state_at p r ≡ Gone → find_row x (doc_rows p) ≡ None
  gone_found x r e g = unknown x (λ s f. ap (state_at p) (same s r (sym f ∙ e)) ∙ g)
    where
      same : (a b : ℕ) → Some a ≡ Some b → a ≡ b
      same a b e = cc

-- slots of what is no row

pub gone_slot : (rows : List DocRow) (x : AtomIdValue) (bit : Bit) → find_row x rows ≡ None
    → rows_in_slot rows (At x bit) ≡ []
gone_slot rows x bit e = ap (λ (o : Option DocRow). rows_below rows (option_map (λ (r : DocRow). Below r.path bit) o)) e

none_below : (x : AtomIdValue) (rows : List DocRow) (o : Option SlotPath) → find_row x rows ≡ None
    → find_row x (rows_below rows o) ≡ None
none_below x rows None e = refl
none_below x rows (Some s) e =
    find_nothing (has_id x) (rows_below rows (Some s))
    (λ q i. find_none (has_id x) rows q e (In-filter (λ (r : DocRow). slot_contains s r.path) q rows i).0)

pub not_within : (rows : List DocRow) (x : AtomIdValue) (slot : Slot) → find_row x rows ≡ None → false
    ≡ is_within rows x slot
not_within rows x slot e = sym (ap is_some (none_below x rows (slot_path rows slot) e))

pub in_gone_slot : (rows : List DocRow) (x y : AtomIdValue) (bit : Bit) → find_row y rows ≡ None → false
    ≡ is_within rows x (At y bit)
in_gone_slot rows x y bit e = sym (ap (λ (q : List DocRow). is_some (find_row x q)) (gone_slot rows y bit e))

pub in_root : (rows : List DocRow) (x : AtomIdValue) (r : DocRow) → find_row x rows ≡ Some r → true
    ≡ is_within rows x Root
in_root rows x r e = sym (within_root rows x ∙ ap is_some e)

pub root_empty : (rows : List DocRow) (n : ℕ) → n ≡ length rows → nat_eq n 0 ≡ is_empty_slot rows Root
root_empty rows n e = by_length rows n e ∙ ap is_empty_list (sym (all_in_root rows))
  where
    by_length : (rows : List DocRow) (n : ℕ) → n ≡ length rows → nat_eq n 0 ≡ is_empty_list rows
    by_length [] n e = eq-eqb n 0 e
    by_length (r ∷ rows) n e = not_zero n (omega arith)
      where
        not_zero : (n : ℕ) → 0 < n → nat_eq n 0 ≡ false
        not_zero n h = grind (arith, nat_tests)

-- the dots of the deletes of a row
pub delete_dot_is : (p : Parts) → IsTree p → (r : ℕ) → r < length p.rows → state_at p r ≢ Gone → (x : AtomIdValue)
    → (table p r).id ≡ x → (k : ℕ) → slice_get (table p r).deletes k ≡ delete_at (doc_rows p) x k
delete_dot_is p t r l s x e k =
    let f = found_row p t r l s in
    ap (λ (q : Entry). slice_get q.deletes k) (sym f.entry)
    ∙ ap (option_and_then (λ (q : DocRow). slice_get q.deletes k)) (sym f.found)
    ∙ ap (λ (y : AtomIdValue). delete_at (doc_rows p) y k) e

pub no_delete_dot : (rows : List DocRow) (x : AtomIdValue) (k : ℕ) → find_row x rows ≡ None → None ≡ delete_at rows x k
no_delete_dot rows x k e = ap (option_and_then (λ (q : DocRow). slice_get q.deletes k)) (sym e)

-- where all that was seen is known, all is known of the rows

all_dots : (seen v : List ℕ) → ((d : DotValue) → IsTrue (vector_has seen d) → IsTrue (vector_has v d))
    → (dots : List DotValue) → AllByRecursion (λ (d : DotValue). IsTrue (vector_has seen d)) dots
    → list_all (vector_has v) dots ≡ true
all_dots seen v h [] a = refl
all_dots seen v h (d ∷ dots) a = ap (λ (b : Bool). b && list_all (vector_has v) dots) (h d a.0)
    ∙ all_dots seen v h dots a.1

seen_entry : (seen v : List ℕ) → ((d : DotValue) → IsTrue (vector_has seen d) → IsTrue (vector_has v d)) → (e : Entry)
    → IsSeen seen e → is_known_entry v e ≡ true
seen_entry seen v h e s = ap (λ (b : Bool). b && list_all (vector_has v) e.deletes) (h e.id.dot s.made)
    ∙ all_dots seen v h e.deletes s.deletes

below_in : (rows : List DocRow) (o : Option SlotPath) (q : DocRow) → In q (rows_below rows o) → In q rows
below_in rows None q m = absurd m
below_in rows (Some s) q m = (In-filter (λ (r : DocRow). slot_contains s r.path) q rows m).0

pub seen_known : (p : Parts) (t : IsTree p) (seen v : List ℕ)
    → ((d : DotValue) → IsTrue (vector_has seen d) → IsTrue (vector_has v d))
    → ((r : ℕ) → r < length p.rows → IsSeen seen (table p r)) → (slot : Slot) → true ≡ is_known (doc_rows p) slot v
seen_known p t seen v h each slot =
    sym (all_pass (is_known_row v) (rows_in_slot (doc_rows p) slot) (λ q m.
    let k = map_In (table p) (entry_of q) (shown p p.items)
    (subst (In (entry_of q)) (entries p t) (In-map entry_of q (doc_rows p)
    (below_in (doc_rows p) (slot_path (doc_rows p) slot) q m))) in
    ap (is_known_entry v) k.2 ∙ seen_entry seen v h (table p k.0) (each k.0 (shown_stays p t k.0 k.1).0)))

pub gone_known : (rows : List DocRow) (x : AtomIdValue) (bit : Bit) (v : List ℕ) → find_row x rows ≡ None → true
    ≡ is_known rows (At x bit) v
gone_known rows x bit v e = ap (list_all (is_known_row v)) (sym (gone_slot rows x bit e))
