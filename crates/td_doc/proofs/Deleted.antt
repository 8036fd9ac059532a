-- A delete leaves a document, moves no row, and takes one atom out of the text.
use Rattle.std.proofs.Common.{◌≡◌, ◌≢◌, ◌⊎◌, List, [], ◌∷◌, Bool, true, false, not, cond, map, filter}
use Rattle.std.proofs.Common.{refl, sym, ap, ◌∙◌, subst, inl, inr, ⊎_elim, true≢false}
use Rattle.std.specs.declared.cmp.Ordering.{Ordering}
use Rattle.std.specs.declared.cmp.Ordering.TheVariants.{Less, Equal, Greater}
use Rattle.std.specs.Ordering.{is_lt, is_eq, ordering_reverse}
use Rattle.td_base.specs.Order.{dot_cmp}
use Rattle.td_base.specs.Value.{DotValue, AtomIdValue}
use Rattle.td_base.specs.Lists.{In, Successive}
use Rattle.td_base.proofs.Lists.{In-map, map_In, all_in, all_of, successive_imp, successive_map}
use Rattle.td_path.specs.Infix.{path_cmp}
use Rattle.td_base.proofs.Orders.{dot_total, equal_dots, is_eq_true, less_of}
use Rattle.td_doc.specs.Document.{DocRow, row_id, has_id, is_live, is_empty_list, live_rows, IsPath, IsDocument}
use Rattle.td_doc.specs.Deletion.{add_dot, mark_deleted, delete}
use Rattle.td_doc.specs.Array.{named}
use Rattle.td_base.specs.RunAtoms.{NamedAtom}
use Rattle.td_doc.proofs.PutRows.{Before, Differ}
use Rattle.td_doc.proofs.Placement.{self_id, has_id-false}

-- the set of delete dots

abbrev Earlier : DotValue → DotValue → Type 0
Earlier d e = dot_cmp d e ≡ Less

greater_of : (o : Ordering) → is_lt o ≡ false → is_eq o ≡ false → ordering_reverse o ≡ Less
greater_of Less h k = absurd (true≢false h)
greater_of Equal h k = absurd (true≢false k)
greater_of Greater h k = refl

add_in_at : (d e : DotValue) (dots : List DotValue) (b c : Bool) → is_eq (dot_cmp d e) ≡ c → In d (add_dot d dots)
    → In d (cond b (d ∷ e ∷ dots) (cond c (e ∷ dots) (e ∷ add_dot d dots)))
add_in_at d e dots true c h ih = inl refl
add_in_at d e dots false true h ih = inl (equal_dots d e (is_eq_true _ h))
add_in_at d e dots false false h ih = inr ih

pub add_in : (d : DotValue) (dots : List DotValue) → In d (add_dot d dots)
add_in d [] = inl refl
add_in d (e ∷ dots) = add_in_at d e dots (is_lt (dot_cmp d e)) (is_eq (dot_cmp d e)) refl (add_in d dots)

in_add_at : (d e x : DotValue) (dots : List DotValue) (b c : Bool) → (In x (add_dot d dots) → (x ≡ d) ⊎ In x dots)
    → In x (cond b (d ∷ e ∷ dots) (cond c (e ∷ dots) (e ∷ add_dot d dots))) → (x ≡ d) ⊎ In x (e ∷ dots)
in_add_at d e x dots true c ih h = h
in_add_at d e x dots false true ih h = inr h
in_add_at d e x dots false false ih h = ⊎_elim (λ (q : x ≡ e). inr (inl q))
    (λ (k : In x (add_dot d dots)). ⊎_elim (λ (q : x ≡ d). inl q) (λ (j : In x dots). inr (inr j)) (ih k)) h

pub in_add : (d x : DotValue) (dots : List DotValue) → In x (add_dot d dots) → (x ≡ d) ⊎ In x dots
in_add d x [] h = h
in_add d x (e ∷ dots) h = in_add_at d e x dots (is_lt (dot_cmp d e)) (is_eq (dot_cmp d e)) (in_add d x dots) h

add_ordered_at : (d e : DotValue) (dots : List DotValue) (b c : Bool) → is_lt (dot_cmp d e) ≡ b → is_eq (dot_cmp d e)
    ≡ c → Successive Earlier (e ∷ dots) → Successive Earlier (add_dot d dots)
    → Successive Earlier (cond b (d ∷ e ∷ dots) (cond c (e ∷ dots) (e ∷ add_dot d dots)))
add_ordered_at d e dots true c h k up ih =
    let first : Earlier d e = less_of _ h in
    ((first, all_of (Earlier d) dots (λ x i. dot_total.trans d e x first (all_in (Earlier e) dots up.0 x i))), up)
add_ordered_at d e dots false true h k up ih = up
add_ordered_at d e dots false false h k up ih =
    let later : Earlier e d = dot_total.antisymm e d ∙ greater_of _ h k in (
      all_of (Earlier e) (add_dot d dots) (λ x i. ⊎_elim (λ (q : x ≡ d). subst (Earlier e) (sym q) later)
          (λ (j : In x dots). all_in (Earlier e) dots up.0 x j) (in_add d x dots i)),
      ih,
    )

add_ordered : (d : DotValue) (dots : List DotValue) → Successive Earlier dots → Successive Earlier (add_dot d dots)
add_ordered d [] up = (tt, tt)
add_ordered d (e ∷ dots) up = add_ordered_at d e dots (is_lt (dot_cmp d e)) (is_eq (dot_cmp d e)) refl refl up
    (add_ordered d dots up.1)

some_dot_at : (d e : DotValue) (dots more : List DotValue) (b c : Bool)
    → is_empty_list (cond b (d ∷ e ∷ dots) (cond c (e ∷ dots) (e ∷ more))) ≡ false
some_dot_at d e dots more true c = refl
some_dot_at d e dots more false true = refl
some_dot_at d e dots more false false = refl

pub some_dot : (d : DotValue) (dots : List DotValue) → is_empty_list (add_dot d dots) ≡ false
some_dot d [] = refl
some_dot d (e ∷ dots) = some_dot_at d e dots (add_dot d dots) (is_lt (dot_cmp d e)) (is_eq (dot_cmp d e))

-- one row

module _ (x : AtomIdValue) (by : DotValue) where
  abbrev mark : DocRow → DocRow
  mark r = mark_deleted x by r

  abbrev marked : DocRow → DocRow
  marked r = record { path = r.path; atom = r.atom; deletes = add_dot by r.deletes }

  mark_path_at : (r : DocRow) (b : Bool) → (cond b (marked r) r).path ≡ r.path
  mark_path_at r true = refl
  mark_path_at r false = refl

  mark_path : (r : DocRow) → (mark r).path ≡ r.path
  mark_path r = mark_path_at r (has_id x r)

  mark_named_at : (r : DocRow) (b : Bool) → named (cond b (marked r) r) ≡ named r
  mark_named_at r true = refl
  mark_named_at r false = refl

  mark_named : (r : DocRow) → named (mark r) ≡ named r
  mark_named r = mark_named_at r (has_id x r)

  mark_id : (r : DocRow) → row_id (mark r) ≡ row_id r
  mark_id r = ap (λ (a : NamedAtom). a.id) (mark_named r)

  mark_ordered_at : (r : DocRow) (b : Bool) → Successive Earlier r.deletes
      → Successive Earlier (cond b (marked r) r).deletes
  mark_ordered_at r true up = add_ordered by r.deletes up
  mark_ordered_at r false up = up

  -- no row moves

  pub delete_paths : (rows : List DocRow) → map (λ (r : DocRow). r.path) (delete x by rows)
      ≡ map (λ (r : DocRow). r.path) rows
  delete_paths [] = refl
  delete_paths (r ∷ rows) = λ i. mark_path r i ∷ delete_paths rows i

  pub delete_names : (rows : List DocRow) → map named (delete x by rows) ≡ map named rows
  delete_names [] = refl
  delete_names (r ∷ rows) = λ i. mark_named r i ∷ delete_names rows i

  -- the rules

  still_before : (r s : DocRow) → Before r s → Before (mark r) (mark s)
  still_before r s h = (λ i. path_cmp (mark_path r i) (mark_path s i)) ∙ h

  still_differ : (r s : DocRow) → Differ r s → Differ (mark r) (mark s)
  still_differ r s h e = h (sym (mark_id r) ∙ e ∙ mark_id s)

  pub delete_document : (rows : List DocRow) → IsDocument rows → IsDocument (delete x by rows)
  delete_document rows d = record {
    ascending = successive_map Before mark rows (successive_imp Before (λ (r s : DocRow). Before (mark r) (mark s))
        still_before rows d.ascending);
    apart = successive_map Differ mark rows (successive_imp Differ (λ (r s : DocRow). Differ (mark r) (mark s))
        still_differ rows d.apart);
    paths = λ r i. let m = map_In mark r rows i in
        subst IsPath (sym (ap (λ (q : DocRow). q.path) m.2 ∙ mark_path m.0)) (d.paths m.0 m.1);
    rooted = λ r front next rest i e some.
        let m = map_In mark r rows i in
        let at = d.rooted m.0 front next rest m.1 (sym (ap (λ (q : DocRow). q.path) m.2 ∙ mark_path m.0) ∙ e) some in
        (mark at.0, In-map mark at.0 rows at.1, mark_path at.0 ∙ at.2);
    deletes = λ r i. let m = map_In mark r rows i in
        subst (λ (q : DocRow). Successive Earlier q.deletes) (sym m.2)
        (mark_ordered_at m.0 (has_id x m.0) (d.deletes m.0 m.1));
  }

  -- the row that is named, and the others

  mark_adds : (r : DocRow) → row_id r ≡ x → In by (mark r).deletes
  mark_adds r e = subst (λ b. In by (cond b (marked r) r).deletes)
      (sym (ap (λ (y : AtomIdValue). has_id y r) (sym e) ∙ self_id r)) (add_in by r.deletes)

  pub delete_marks : (rows : List DocRow) (r : DocRow) → In r (delete x by rows) → row_id r ≡ x → In by r.deletes
  delete_marks rows r i e =
      let m = map_In mark r rows i in
      subst (λ (q : DocRow). In by q.deletes) (sym m.2) (mark_adds m.0 (sym (mark_id m.0) ∙ ap row_id (sym m.2) ∙ e))

  mark_other : (r : DocRow) → has_id x r ≡ false → mark r ≡ r
  mark_other r e = ap (λ b. cond b (marked r) r) e

  pub delete_leaves : (rows : List DocRow) (r : DocRow) → In r rows → row_id r ≢ x → In r (delete x by rows)
  delete_leaves rows r i n = subst (λ (q : DocRow). In q (delete x by rows)) (mark_other r (has_id-false x r n))
      (In-map mark r rows i)

  -- the live rows

  mark_dead : (r : DocRow) → has_id x r ≡ true → is_live (mark r) ≡ false
  mark_dead r e = ap (λ b. is_live (cond b (marked r) r)) e ∙ some_dot by r.deletes

  abbrev other : DocRow → Bool
  other r = not (has_id x r)

  live_at : (r : DocRow) (rows : List DocRow) (b c : Bool) → has_id x r ≡ b → is_live r ≡ c
      → live_rows (delete x by rows) ≡ filter other (live_rows rows) → live_rows (mark r ∷ delete x by rows)
      ≡ filter other (cond c (r ∷ live_rows rows) (live_rows rows))
  live_at r rows true true e f ih =
      ap (λ b. cond b (mark r ∷ live_rows (delete x by rows)) (live_rows (delete x by rows))) (mark_dead r e) ∙ ih
      ∙ ap (λ b. cond (not b) (r ∷ filter other (live_rows rows)) (filter other (live_rows rows))) (sym e)
  live_at r rows true false e f ih = ap (λ b. cond b (mark r ∷ live_rows (delete x by rows))
      (live_rows (delete x by rows))) (mark_dead r e) ∙ ih
  live_at r rows false true e f ih =
      ap (λ b. cond b (mark r ∷ live_rows (delete x by rows)) (live_rows (delete x by rows)))
      (ap is_live (mark_other r e) ∙ f) ∙ (λ i. mark_other r e i ∷ ih i)
      ∙ ap (λ b. cond (not b) (r ∷ filter other (live_rows rows)) (filter other (live_rows rows))) (sym e)
  live_at r rows false false e f ih = ap (λ b. cond b (mark r ∷ live_rows (delete x by rows))
      (live_rows (delete x by rows))) (ap is_live (mark_other r e) ∙ f) ∙ ih

  pub delete_live : (rows : List DocRow) → live_rows (delete x by rows) ≡ filter other (live_rows rows)
  delete_live [] = refl
  delete_live (r ∷ rows) = live_at r rows (has_id x r) (is_live r) refl refl (delete_live rows)
