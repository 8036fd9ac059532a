-- What is typed where something was just typed goes on the left of its first atom.
use Rattle.std.proofs.Common.{◌≡◌, ◌≢◌, ℕ, List, [], ◌∷◌, ◌++◌, Bool, true, false, cond, map, filter, Option, Some}
use Rattle.std.proofs.Common.{None, refl, sym, ap, ◌∙◌, subst, inl, inr, ⊎_elim, true≢false, append_assoc}
use Rattle.std.specs.Option.{option_map, is_some}
use Rattle.td_base.specs.declared.bit.Bit.TheVariants.{Left, Right}
use Rattle.td_base.specs.Value.{DotValue, AtomIdValue}
use Rattle.td_base.specs.Lists.{In}
use Rattle.td_base.specs.RunAtoms.{NamedAtom, run_atoms}
use Rattle.td_base.proofs.Lists.{In-append, In-front, In-back, filter_In}
use Rattle.td_path.specs.declared.slot.Slot.{Slot}
use Rattle.td_path.specs.declared.slot.Slot.TheVariants.{At}
use Rattle.td_path.specs.declared.slot_path.SlotPath.TheVariants.{Below}
use Rattle.td_path.specs.SlotPaths.{goes_on}
use Rattle.td_doc.specs.Document.{DocRow, row_id, find_row, is_empty_list, IsDocument}
use Rattle.td_doc.specs.Slots.{rows_below, rows_in_slot, is_empty_slot, is_within}
use Rattle.td_doc.specs.Allocation.{alloc, first_id, next_id, slot_before}
use Rattle.td_doc.specs.Array.{named}
use Rattle.td_doc.specs.Insertion.{insert_run}
use Rattle.td_doc.specs.Stretches.{RunBetween}
use Rattle.td_doc.specs.Answers.{IsRow, IsFresh}
use Rattle.td_doc.proofs.Rules.{alloc_rooted}
use Rattle.td_doc.proofs.AddedRows.{run_there}
use Rattle.td_doc.proofs.Placement.{placed, Placed, find_at, run_first, run_after}
use Rattle.td_law_interleaving.specs.Typing.{TypedInFront}
use Rattle.td_law_interleaving.proofs.NextRow.{next_in, apart, passed, some_passes}

-- the first of new rows is that of the run's first atom
first_new : (new back : List DocRow) (dot : DotValue) (run : List (List ℕ)) → map named new ≡ run_atoms dot run
    → run ≢ []
    → first_id (new ++ back) ≡ Some (record { dot = dot; offset = 0 })
first_new new back dot [] e some = absurd (some refl)
first_new [] back dot (atom ∷ run) e some = absurd (none _ _ e)
  where
    none : (x : NamedAtom) (xs : List NamedAtom) → [] ≡ x ∷ xs → ⊥
    none x xs k = cc
first_new (n ∷ new) back dot (atom ∷ run) e some = ap (λ (x : NamedAtom). Some x.id) (head _ _ _ _ e)
  where
    head : (x y : NamedAtom) (xs ys : List NamedAtom) → x ∷ xs ≡ y ∷ ys → x ≡ y
    head x y xs ys k = cc

-- a list with an element is not empty
not_empty : {X : Type 0} (x : X) (xs : List X) → In x xs → is_empty_list xs ≡ false
not_empty x [] i = absurd i
not_empty x (y ∷ xs) i = refl

not_empty_found : (x : AtomIdValue) (rows : List DocRow) → is_some (find_row x rows) ≡ true
    → is_empty_list rows ≡ false
not_empty_found x [] h = absurd (true≢false (sym h))
not_empty_found x (r ∷ rows) h = refl

first_atom : (dot : DotValue) (run : List (List ℕ)) → run ≢ [] → (a : NamedAtom) × In a (run_atoms dot run)
first_atom dot [] some = absurd (some refl)
first_atom dot (atom ∷ run) some = (record { id = record { dot = dot; offset = 0 }; atom = atom }, inl refl)

module _ (front : List DocRow) (r : DocRow) (back : List DocRow) (d : IsDocument (front ++ r ∷ back)) (dot : DotValue)
    (run : List (List ℕ))
    (fresh : IsFresh (front ++ r ∷ back) dot) (some : run ≢ []) (row : IsRow (front ++ r ∷ back) (row_id r)) where
  abbrev rows : List DocRow
  rows = front ++ r ∷ back

  abbrev slot : Slot
  slot = alloc rows (Some (row_id r))

  abbrev later : List DocRow
  later = insert_run slot dot run rows

  run_there_now : RunBetween (run_atoms dot run) (front ++ r ∷ []) back
      (insert_run (alloc (front ++ r ∷ back) (Some (row_id r))) dot run (front ++ r ∷ back))
  run_there_now = run_after front r back d dot run

  is : (b : RunBetween (run_atoms dot run) (front ++ r ∷ []) back later) → later ≡ front ++ r ∷ (b.new ++ back)
  is b = b.is ∙ (append_assoc (front ++ r ∷ []) b.new back ∙ append_assoc front (r ∷ []) (b.new ++ back))

  -- something is on the right of the row then
  filled : (b : RunBetween (run_atoms dot run) (front ++ r ∷ []) back later)
      → is_empty_slot later (At (row_id r) Right) ≡ false
  filled b = from (is_empty_slot rows (At (row_id r) Right)) refl
    where
      from : (t : Bool) → is_empty_slot rows (At (row_id r) Right) ≡ t
          → is_empty_slot later (At (row_id r) Right) ≡ false
      from true e =
          let a = first_atom dot run some in
          let here : slot ≡ At (row_id r) Right =
          ap (λ (t : Bool). cond t (At (row_id r) Right) (slot_before (next_id (row_id r) rows))) e in
          let there =
          run_there rows slot dot run a.0 d fresh
          (alloc_rooted rows (Some (row_id r)) (λ x g. subst (λ (y : AtomIdValue). IsRow rows y) (same x g) row))
          a.1 in
          not_empty_found a.0.id (rows_in_slot later (At (row_id r) Right))
          (subst (λ (s : Slot). is_within later a.0.id s ≡ true) here there)
        where
          same : (x : AtomIdValue) → Some (row_id r) ≡ Some x → row_id r ≡ x
          same x g = cc
      from false e =
          let q = some_passes (λ (q : DocRow). goes_on r.path Right q.path) rows (passed front r back d e) in
          let stays : In q.0 (front ++ r ∷ (b.new ++ back)) = more q.0 q.1 in
          subst (λ (z : List DocRow). is_empty_slot z (At (row_id r) Right) ≡ false) (sym (is b))
          (ap (λ (o : Option DocRow). is_empty_list
          (rows_below (front ++ r ∷ (b.new ++ back)) (option_map (λ (q : DocRow). Below q.path Right) o)))
          (find_at front r (b.new ++ back) (apart front r back d))
          ∙ not_empty q.0 (filter (λ (s : DocRow). goes_on r.path Right s.path) (front ++ r ∷ (b.new ++ back)))
          (filter_In (λ (s : DocRow). goes_on r.path Right s.path) q.0 (front ++ r ∷ (b.new ++ back)) stays q.2))
        where
          more : (q : DocRow) → In q (front ++ r ∷ back) → In q (front ++ r ∷ (b.new ++ back))
          more q i =
              ⊎_elim (λ (j : In q front). In-front q front (r ∷ (b.new ++ back)) j)
              (λ (j : In q (r ∷ back)).
              In-back q front (r ∷ (b.new ++ back))
              (⊎_elim (λ (e : q ≡ r). inl e) (λ (k : In q back). inr (In-back q b.new back k)) j))
              (In-append q front (r ∷ back) i)

  pub after_row : alloc later (Some (row_id r)) ≡ At (record { dot = dot; offset = 0 }) Left
  after_row =
      let b = run_there_now in
      ap (λ (t : Bool). cond t (At (row_id r) Right) (slot_before (next_id (row_id r) later))) (filled b)
      ∙ ap slot_before
      (ap (next_id (row_id r)) (is b)
      ∙ (next_in front r (b.new ++ back) (apart front r back d) ∙ first_new b.new back dot run b.atoms some))

pub typed_in_front : TypedInFront
typed_in_front rows None dot run d h fresh some =
    let b = run_first rows d dot run in
    ap (λ (z : List DocRow). slot_before (first_id z)) b.is
    ∙ ap slot_before (first_new b.new rows dot run b.atoms some)
typed_in_front rows (Some p) dot run d h fresh some = at (placed p rows (h p refl))
  where
    at : Placed rows p → alloc (insert_run (alloc rows (Some p)) dot run rows) (Some p) ≡ At
        (record { dot = dot; offset = 0 }) Left
    at q =
        subst (λ (x : AtomIdValue). alloc (insert_run (alloc rows (Some x)) dot run rows) (Some x) ≡ At
        (record { dot = dot; offset = 0 }) Left) q.named
        (subst (λ (z : List DocRow). alloc (insert_run (alloc z (Some (row_id q.row))) dot run z)
        (Some (row_id q.row)) ≡ At (record { dot = dot; offset = 0 }) Left)
        (sym q.is)
        (after_row q.front q.row q.back (subst IsDocument q.is d) dot run
        (subst (λ (z : List DocRow). IsFresh z dot) q.is fresh) some
        (subst (λ (z : List DocRow). IsRow z (row_id q.row)) q.is
        (subst (λ (x : AtomIdValue). IsRow rows x) (sym q.named) (h p refl)))))
