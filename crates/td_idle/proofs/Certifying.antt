-- The largest candidates, and the best of them, are a certificate.
use Rattle.std.proofs.Common.{◌≡◌, ◌⊎◌, ℕ, List, [], ◌∷◌, Bool, true, false, ◌&&◌, ◌||◌, nat_eq, not, length, Option}
use Rattle.std.proofs.Common.{Some, None, map, refl, sym, ap, ◌∙◌, subst, inl, inr, ⊎_elim, true≢false}
use Rattle.std.proofs.lemmas.Bool.{and_from, or_left, or_right, eq-eqb}
use Rattle.std.specs.List.{list_all, list_any}
use Rattle.td_base.specs.Lists.{In}
use Rattle.td_base.specs.Value.{AtomIdValue}
use Rattle.td_base.proofs.Lists.{In-map, filter_In, any_from}
use Rattle.td_base.proofs.Searches.{all_pass, filter_all}
use Rattle.td_path.specs.declared.slot.Slot.{Slot}
use Rattle.td_path.specs.declared.slot.Slot.TheVariants.{Root, At}
use Rattle.td_path.specs.declared.slot_path.SlotPath.TheVariants.{Root as Whole}
use Rattle.td_path.specs.SlotPaths.{slot_contains}
use Rattle.td_doc.specs.Document.{DocRow, row_id, IsDocument}
use Rattle.td_doc.specs.Slots.{slot_path, rows_in_slot, is_empty_slot, is_within, is_known, is_known_row, own_slot}
use Rattle.td_doc.proofs.Rules.{in_found}
use Rattle.td_doc.proofs.SubtreeRows.{find_in}
use Rattle.td_machine.specs.Machine.{Machine}
use Rattle.td_idle.specs.declared.idle.Counted.{Counted}
use Rattle.td_idle.specs.declared.idle.Idle.{Idle}
use Rattle.td_idle.specs.Stable.{stable}
use Rattle.td_idle.specs.Unknown.{is_known_id, unknown_ids}
use Rattle.td_idle.specs.Candidate.{is_held_over, is_candidate}
use Rattle.td_idle.specs.Best.{row_count, is_better}
use Rattle.td_idle.specs.Certificate.{is_unknown_in, is_covered, is_top, is_certified}
use Rattle.td_idle.specs.Walk.{HasTop, AreTops, IsListed}
use Rattle.td_idle.specs.Kept.{IsBestOf}
use Rattle.td_idle.proofs.Better.{not_better, better_irrefl}
use Rattle.td_idle.proofs.Inside.{not_empty, rows_within}
use Rattle.td_idle.proofs.Lists.{one_fails}
use Rattle.td_idle.proofs.Maximum.{AreConditions, from_slot}
use Rattle.td_idle.proofs.OwnSlots.{own_has}
use Rattle.td_idle.proofs.UnknownRows.{known_is}

pub certified_by : (m : Machine) (i : Idle) → AreConditions m i → is_certified m i ≡ true
certified_by m i c =
    and_from ((is_candidate m i.slot && nat_eq (row_count m.doc i.slot) i.rows) && list_all (is_top m i.slot)
    i.tops.items)
    (list_all (is_covered m i.tops.items i.unknown.items) m.doc)
    (and_from (is_candidate m i.slot && nat_eq (row_count m.doc i.slot) i.rows)
    (list_all (is_top m i.slot) i.tops.items)
    (and_from (is_candidate m i.slot) (nat_eq (row_count m.doc i.slot) i.rows) c.candidate
    (eq-eqb (row_count m.doc i.slot) i.rows c.count))
    c.tops)
    c.covered

-- ---- the conditions, looked at one after another

module _ (m : Machine) (i : Idle) where
  abbrev tops_pass : Bool
  tops_pass = list_all (is_top m i.slot) i.tops.items

  abbrev all_covered : Bool
  all_covered = list_all (is_covered m i.tops.items i.unknown.items) m.doc

  abbrev has_count : Bool
  has_count = nat_eq (row_count m.doc i.slot) i.rows

  pub no_candidate_there : is_candidate m i.slot ≡ false → false ≡ is_certified m i
  no_candidate_there e = λ j. ((sym e j && has_count) && tops_pass) && all_covered

  pub other_count : is_candidate m i.slot ≡ true → has_count ≡ false → false ≡ is_certified m i
  other_count c e = λ j. ((sym c j && sym e j) && tops_pass) && all_covered

  pub bad_top : is_candidate m i.slot ≡ true → has_count ≡ true → tops_pass ≡ false → false ≡ is_certified m i
  bad_top c n e = λ j. ((sym c j && sym n j) && sym e j) && all_covered

  pub all_but_rows : is_candidate m i.slot ≡ true → has_count ≡ true → tops_pass ≡ true → (b : Bool) → b ≡ all_covered
      → b ≡ is_certified m i
  all_but_rows c n t b e = λ j. ((sym c j && sym n j) && sym t j) && e j

pub top_from : (m : Machine) (slot t : Slot) → is_candidate m t ≡ true → is_better m.doc t slot ≡ false
    → is_top m slot t ≡ true
top_from m slot t good worse = and_from (is_candidate m t) (not (is_better m.doc t slot)) good (ap not worse)

module _ (m : Machine) (d : IsDocument m.doc) (tops : List Slot) (unknown : List AtomIdValue) (r : DocRow) where
  by_top : (s : Slot) → In s tops → In r (rows_in_slot m.doc s) → is_covered m tops unknown r ≡ true
  by_top s i j =
      or_left (list_any (is_within m.doc (row_id r)) tops || list_any (is_unknown_in m (own_slot r)) unknown)
      (is_held_over m (own_slot r))
      (or_left (list_any (is_within m.doc (row_id r)) tops) (list_any (is_unknown_in m (own_slot r)) unknown)
      (any_from (is_within m.doc (row_id r)) tops s i (in_found r (rows_in_slot m.doc s) j)))

  by_unknown : (q : DocRow) → In q (rows_in_slot m.doc (own_slot r)) → is_known_row (stable m) q ≡ false
      → In (row_id q) unknown → is_covered m tops unknown r ≡ true
  by_unknown q i e j =
      let there : In q m.doc = from_slot m.doc (slot_path m.doc (own_slot r)) q i in
      let open_yet : is_known_id (stable m) m.doc (row_id q)
      ≡ false = known_is (stable m) m.doc (row_id q) q (find_in m.doc q d.apart there) ∙ e in
      or_left (list_any (is_within m.doc (row_id r)) tops || list_any (is_unknown_in m (own_slot r)) unknown)
      (is_held_over m (own_slot r))
      (or_right (list_any (is_within m.doc (row_id r)) tops) (list_any (is_unknown_in m (own_slot r)) unknown)
      (any_from (is_unknown_in m (own_slot r)) unknown (row_id q) j
      (and_from (is_within m.doc (row_id q) (own_slot r)) (not (is_known_id (stable m) m.doc (row_id q)))
      (in_found q (rows_in_slot m.doc (own_slot r)) i) (ap not open_yet))))

  by_hold : is_held_over m (own_slot r) ≡ true → is_covered m tops unknown r ≡ true
  by_hold h =
      or_right (list_any (is_within m.doc (row_id r)) tops || list_any (is_unknown_in m (own_slot r)) unknown)
      (is_held_over m (own_slot r)) h

-- why a slot with rows is no candidate
pub no_candidate_because : (m : Machine) (s : Slot) → is_empty_slot m.doc s ≡ false → is_candidate m s ≡ false
    → ((q : DocRow) × In q (rows_in_slot m.doc s) × (is_known_row (stable m) q ≡ false)) ⊎ (is_held_over m s ≡ true)
no_candidate_because m s some bad = at (is_known m.doc s (stable m)) (is_held_over m s) refl refl
  where
    at : (k h : Bool) → is_known m.doc s (stable m) ≡ k → is_held_over m s ≡ h
        → ((q : DocRow) × In q (rows_in_slot m.doc s) × (is_known_row (stable m) q ≡ false)) ⊎ (is_held_over m s ≡ true)
    at false h e f = inl (one_fails (is_known_row (stable m)) (rows_in_slot m.doc s) e)
    at true true e f = inr f
    at true false e f = absurd (true≢false (sym (λ i. not (some i) && e i && not (f i)) ∙ bad))

-- what the walks found: the unknown rows, the largest candidates, and the best of these
pub record Reasons (m : Machine) (tops : List Slot) (unknown : List AtomIdValue) (b : Option Counted) : Type 0 where
  pub is : unknown ≡ unknown_ids (stable m) m.doc
  pub are : AreTops m tops
  pub best : IsBestOf m.doc tops b

-- as they tell it of what they were lent
pub reasons : (m : Machine) → IsDocument m.doc → (v : List ℕ) → v ≡ stable m
    → (rows : List DocRow) → rows ≡ m.doc → (ids : List AtomIdValue) → (IsDocument rows → ids ≡ map row_id rows)
    → (again : List DocRow) → again ≡ m.doc → (lent : List AtomIdValue) → lent ≡ ids → (unknown : List AtomIdValue)
    → (IsDocument again → lent ≡ map row_id again → unknown ≡ unknown_ids v again)
    → (left : List AtomIdValue) → left ≡ unknown
    → (tops : List Slot) → (IsListed (stable m) m.doc ids unknown → AreTops m tops)
    → (last : List DocRow) → last ≡ m.doc → (slots : List Slot) → slots ≡ tops
    → (b : Option Counted) → IsBestOf last slots b → Reasons m tops left b
reasons m d v stable_is rows rows_are ids listed again again_are lent lent_is unknown found left left_is tops are last
    last_is slots slots_are b best =
    let all : ids ≡ map row_id m.doc = listed (subst IsDocument (sym rows_are) d) ∙ ap (map row_id) rows_are in
    let some : unknown ≡ unknown_ids (stable m) m.doc =
    found (subst IsDocument (sym again_are) d) (lent_is ∙ (all ∙ ap (map row_id) (sym again_are)))
    ∙ (λ i. unknown_ids (stable_is i) (again_are i)) in
    record {
      is = left_is ∙ some;
      are = are (record { all = all; some = some });
      best = subst (λ (q : List DocRow). IsBestOf q tops b) last_is
          (subst (λ (ts : List Slot). IsBestOf last ts b) slots_are best);
    }

module _ (m : Machine) (d : IsDocument m.doc) (root : is_candidate m Root ≡ false) where
  covered : (tops : List Slot) (unknown : List AtomIdValue) → unknown ≡ unknown_ids (stable m) m.doc → AreTops m tops
      → (r : DocRow) → In r m.doc → is_covered m tops unknown r ≡ true
  covered tops unknown is are r i = at (own_slot r) refl (is_candidate m (own_slot r)) refl
    where
      inside : In r (rows_in_slot m.doc (own_slot r))
      inside = own_has m.doc d r i

      in_top : HasTop m.doc tops (own_slot r) → is_covered m tops unknown r ≡ true
      in_top h = by_top m d tops unknown r h.0 h.1 (rows_within m.doc d h.0 (own_slot r) h.2 r inside)

      at : (s : Slot) → own_slot r ≡ s → (b : Bool) → is_candidate m (own_slot r) ≡ b → is_covered m tops unknown r
          ≡ true
      at Root own true good = absurd (true≢false (sym good ∙ (ap (is_candidate m) own ∙ root)))
      at (At x bit) own true good =
          in_top (subst (λ (s : Slot). HasTop m.doc tops s) (sym own)
          (are.all x bit (sym (ap (is_candidate m) own) ∙ good)))
      at s own false bad =
          ⊎_elim
          (λ (h : (q : DocRow) × In q (rows_in_slot m.doc (own_slot r)) × (is_known_row (stable m) q ≡ false)).
          by_unknown m d tops unknown r h.0 h.1 h.2
          (subst (λ (z : List AtomIdValue). In (row_id h.0) z) (sym is)
          (In-map row_id h.0 _
          (filter_In (λ (q : DocRow). not (is_known_row (stable m) q)) h.0 m.doc
          (from_slot m.doc (slot_path m.doc (own_slot r)) h.0 h.1) (ap not h.2)))))
          (λ (h : is_held_over m (own_slot r) ≡ true). by_hold m d tops unknown r h)
          (no_candidate_because m (own_slot r) (not_empty (rows_in_slot m.doc (own_slot r)) r inside) bad)

  pub certified : (i : Idle) (b : Counted) → i.slot ≡ b.slot → i.rows ≡ b.rows
      → Reasons m i.tops.items i.unknown.items (Some b)
      → is_certified m i ≡ true
  certified i b slot rows r =
      certified_by m i
      (record {
        candidate = ap (is_candidate m) slot ∙ r.are.candidates b.slot r.best.0;
        count = ap (row_count m.doc) slot ∙ (sym r.best.1 ∙ sym rows);
        tops = all_pass (is_top m i.slot) i.tops.items
            (λ t j. top_from m i.slot t (r.are.candidates t j) (ap (is_better m.doc t) slot ∙ r.best.2 t j));
        covered = all_pass (is_covered m i.tops.items i.unknown.items) m.doc
            (covered i.tops.items i.unknown.items r.is r.are);
      })

  pub no_candidate : (tops : List Slot) → AreTops m tops → IsBestOf m.doc tops None → (t : Slot) → is_candidate m t
      ≡ false
  no_candidate tops are none Root = root
  no_candidate tops are none (At x bit) = by (is_candidate m (At x bit)) refl
    where
      by : (b : Bool) → is_candidate m (At x bit) ≡ b → b ≡ false
      by false e = refl
      by true e = let h = are.all x bit e in absurd (subst (λ (z : List Slot). In h.0 z) none h.1)

-- ---- the root slot

pub root_rows : (rows : List DocRow) → rows_in_slot rows Root ≡ rows
root_rows rows = filter_all (λ (r : DocRow). slot_contains Whole r.path) rows (λ r i. refl)

pub root_certified : (m : Machine) → IsDocument m.doc → is_candidate m Root ≡ true → (i : Idle) → i.slot ≡ Root
    → i.rows ≡ length m.doc → i.tops.items ≡ Root ∷ []
    → is_certified m i ≡ true
root_certified m d good i slot rows tops =
    certified_by m i
    (record {
      candidate = ap (is_candidate m) slot ∙ good;
      count = ap (row_count m.doc) slot ∙ (ap length (root_rows m.doc) ∙ sym rows);
      tops = ap (list_all (is_top m i.slot)) tops ∙ (ap (λ (s : Slot). list_all (is_top m s) (Root ∷ [])) slot ∙ one);
      covered = all_pass (is_covered m i.tops.items i.unknown.items) m.doc
          (λ r j.
          by_top m d i.tops.items i.unknown.items r Root (subst (λ (z : List Slot). In Root z) (sym tops) (inl refl))
          (subst (λ (z : List DocRow). In r z) (sym (root_rows m.doc)) j));
    })
  where
    one : list_all (is_top m Root) (Root ∷ []) ≡ true
    one = and_from (is_top m Root Root) true (top_from m Root Root good
        (not_better m.doc Root Root (better_irrefl m.doc Root))) refl
