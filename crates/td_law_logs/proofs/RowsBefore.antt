-- What a row was before an operation, and where the rows of an insert hang.
use Rattle.std.proofs.Common.{◌≡◌, ◌⊎◌, ◌/◌, ◌++◌, ℕ, zero, suc, List, [], ◌∷◌, length, take, drop}
use Rattle.std.proofs.Common.{Bool, true, false, ◌&&◌, cond, Option, Some, None, refl, sym, ap, ◌∙◌}
use Rattle.std.proofs.Common.{subst, inl, inr, ⊎_elim, append_assoc, append-nil}
use Rattle.std.specs.Option.{option_map}
use Rattle.td_base.specs.declared.bit.Bit.{Bit}
use Rattle.td_base.specs.declared.bit.Bit.TheVariants.{Left, Right}
use Rattle.td_base.specs.Value.{AtomIdValue}
use Rattle.td_base.specs.Lists.{In}
use Rattle.td_base.proofs.Lists.{In-append, map_In}
use Rattle.td_path.specs.Infix.{Pairs}
use Rattle.td_path.specs.SlotPaths.{slot_contains, path_in}
use Rattle.td_path.specs.declared.slot.Slot.{Slot}
use Rattle.td_path.specs.declared.slot.Slot.TheVariants.{Root, At}
use Rattle.td_path.specs.declared.slot_path.SlotPath.{SlotPath}
use Rattle.td_path.specs.declared.slot_path.SlotPath.TheVariants.{Root as Whole, Below}
use Rattle.td_path.proofs.InfixOrder.{same_pair_refl}
use Rattle.td_op.specs.declared.body.Body.{Body}
use Rattle.td_op.specs.declared.body.Body.TheVariants.{Insert, Delete, Propose, Commit, Abort}
use Rattle.td_op.specs.Op.{OpValue}
use Rattle.td_doc.specs.Document.{DocRow, row_id, find_row, has_id}
use Rattle.td_doc.specs.Array.{named, row_in, around, array_upto, array}
use Rattle.td_base.specs.RunAtoms.{NamedAtom, run_atoms}
use Rattle.td_doc.specs.Insertion.{put_array_below}
use Rattle.td_doc.specs.Deletion.{mark_deleted, add_dot}
use Rattle.td_doc.specs.Flatten.{flatten_below}
use Rattle.td_doc.specs.Slots.{slot_path}
use Rattle.td_doc.specs.Subtrees.{begins}
use Rattle.td_doc.proofs.PutRows.{in_puts}
use Rattle.td_doc.proofs.ArrayRows.{array_starts, Starts}
use Rattle.td_doc.proofs.Rules.{found}
use Rattle.td_doc.proofs.SubtreeRows.{was}
use Rattle.td_machine.specs.Making.{effect}
use Rattle.td_machine.specs.History.{Family, IsConsistent}
use Rattle.td_machine.proofs.Family.{not_older}
use Rattle.td_machine.specs.Replay.{doc_of}
use Rattle.td_law_logs.specs.Logs.{IsLogOf, slot_of}
use Rattle.td_law_logs.proofs.LogRows.{rows_born, run_places}
use Rattle.td_law_logs.proofs.Bases.{op_in, tail, causal, proposal_of}
use Rattle.td_law_logs.proofs.Steps.{commit_doc, commit_slot_is}
use Rattle.std.proofs.lemmas.Option.{same_Some, none-some}

-- ---- arrays hang at their middle atom

pub record AtMiddle (sp : SlotPath) (atoms : List NamedAtom) (r : DocRow) : Type 0 where
  pub atom : NamedAtom
  pub among : In atom atoms
  pub after : List NamedAtom
  pub is : drop (length atoms / 2) atoms ≡ atom ∷ after
  pub more : Pairs
  pub path : r.path ≡ path_in sp atom.id ++ more

pub in_drop : (k : ℕ) (xs : List NamedAtom) (y : NamedAtom) → In y (drop k xs) → In y xs
in_drop zero xs y i = i
in_drop (suc k) [] y i = absurd i
in_drop (suc k) (x ∷ xs) y i = inr (in_drop k xs y i)

side_path : (sp : SlotPath) (id : AtomIdValue) (side : Bit) (path : Pairs) → Starts (Below (path_in sp id) side) path
    → (more : Pairs) × (path ≡ path_in sp id ++ more)
side_path sp id side path s = ((side, s.id) ∷ s.rest, s.is ∙ append_assoc (path_in sp id) ((side, s.id) ∷ []) s.rest)

around_middle : (n : ℕ) (sp : SlotPath) (atoms part rest : List NamedAtom) (r : DocRow)
    → drop (length atoms / 2) atoms ≡ rest → ((y : NamedAtom) → In y rest → In y atoms)
    → In r (around (array_upto n) sp part rest) → AtMiddle sp atoms r
around_middle n sp atoms part [] r e up i = absurd i
around_middle n sp atoms part (m ∷ after) r e up i =
    ⊎_elim
    (λ (k : In r (array_upto n (Below (path_in sp m.id) Left) part)).
    let s = side_path sp m.id Left r.path (array_starts n (Below (path_in sp m.id) Left) part r k) in
    record { atom = m; among = up m (inl refl); after = after; is = e; more = s.0; path = s.1 })
    (λ (k : In r (row_in sp m ∷ array_upto n (Below (path_in sp m.id) Right) after)).
    ⊎_elim (λ (f : r ≡ row_in sp m). record {
      atom = m;
      among = up m (inl refl);
      after = after;
      is = e;
      more =
          [];
      path = ap (λ (q : DocRow). q.path) f ∙ sym (append-nil (path_in sp m.id));
    })
    (λ (j : In r (array_upto n (Below (path_in sp m.id) Right) after)).
    let s = side_path sp m.id Right r.path (array_starts n (Below (path_in sp m.id) Right) after r j) in
    record { atom = m; among = up m (inl refl); after = after; is = e; more = s.0; path = s.1 }) k)
    (In-append r (array_upto n (Below (path_in sp m.id) Left) part)
    (row_in sp m ∷ array_upto n (Below (path_in sp m.id) Right) after) i)

pub at_middle : (n : ℕ) (sp : SlotPath) (atoms : List NamedAtom) (r : DocRow) → In r (array_upto n sp atoms)
    → AtMiddle sp atoms r
at_middle zero sp atoms r i = absurd i
at_middle (suc n) sp atoms r i =
    around_middle n sp atoms (take (length atoms / 2) atoms) (drop (length atoms / 2) atoms) r refl
    (in_drop (length atoms / 2) atoms) i

-- ---- what a row was

pub data RowWas (family : Family) (o : OpValue) (log : List OpValue) (r : DocRow) : Type 0 where
  same_path : (q : DocRow) → In q (doc_of log) → row_id r ≡ row_id q → r.path ≡ q.path → RowWas family o log r
  put_in : (slot : Slot) (run : List (List ℕ)) (sp : SlotPath) → o.body ≡ Insert slot run
      → slot_path (doc_of log) slot ≡ Some sp → In r (array sp (run_atoms o.dot run)) → RowWas family o log r
  within_slot : (slot : Slot) (sp : SlotPath) → slot_of family o ≡ Some slot → slot_path (doc_of log) slot ≡ Some sp
      → (q : DocRow) → In q (doc_of log) → row_id r ≡ row_id q → slot_contains sp q.path ≡ true
      → slot_contains sp r.path ≡ true → RowWas family o log r

begins_from : (node more : Pairs) → begins node (node ++ more) ≡ true
begins_from [] more = refl
begins_from (p ∷ node) more = (λ i. same_pair_refl p i && begins node (node ++ more)) ∙ begins_from node more

-- below an atom's node
pub below_from : (node path more : Pairs) → path ≡ node ++ more → begins node path ≡ true
below_from node path more e = subst (λ (z : Pairs). begins node z ≡ true) (sym e) (begins_from node more)

-- where the array of an insert hangs
pub record Hangs (log : List OpValue) (slot : Slot) (sp : SlotPath) : Type 0 where
  pub base : Pairs
  pub side : Bit
  pub path : (id : AtomIdValue) → path_in sp id ≡ base ++ (side, id) ∷ []
  pub how : ((slot ≡ Root) × (base ≡ []))
      ⊎ ((x : DocRow) × In x (doc_of log) × (slot ≡ At (row_id x) side) × (base ≡ x.path))

pub hangs : (log : List OpValue) (slot : Slot) (sp : SlotPath) → slot_path (doc_of log) slot ≡ Some sp
    → Hangs log slot sp
hangs log Root sp e = subst (λ (z : SlotPath). Hangs log Root z) (same_Some Whole sp e)
    (record { base = []; side = Right; path = λ id. refl; how = inl (refl, refl) })
hangs log (At z bit) sp e = from (find_row z (doc_of log)) refl e
  where
    from : (o : Option DocRow) → find_row z (doc_of log) ≡ o
        → option_map (λ (r : DocRow). Below r.path bit) o ≡ Some sp → Hangs log (At z bit) sp
    from None f k = absurd (none-some sp k)
    from (Some x) f k =
        let w = found z x (doc_of log) f in
        subst (λ (s : SlotPath). Hangs log (At z bit) s) (same_Some (Below x.path bit) sp k)
        (record {
          base = x.path;
          side = bit;
          path = λ id. refl;
          how =
              inr (x, w.0, (λ i. At (sym w.1 i) bit), refl);
        })

module _ (family : Family) (c : IsConsistent family) where
  abbrev n : ℕ
  n = length family

  put_was : (o : OpValue) (log : List OpValue) (r : DocRow) (slot : Slot) (run : List (List ℕ))
      → o.body ≡ Insert slot run → (s : Option SlotPath) → slot_path (doc_of log) slot ≡ s
      → In r (put_array_below s (run_atoms o.dot run) (doc_of log)) → RowWas family o log r
  put_was o log r slot run e None f i = same_path r i refl refl
  put_was o log r slot run e (Some sp) f i =
      ⊎_elim (λ (k : In r (array sp (run_atoms o.dot run))). put_in slot run sp e f k)
      (λ (k : In r (doc_of log)). same_path r k refl refl)
      (in_puts (array sp (run_atoms o.dot run)) (doc_of log) r i)

  flat_was : (o : OpValue) (log : List OpValue) (r : DocRow) (slot : Slot) → slot_of family o ≡ Some slot
      → (s : Option SlotPath) → slot_path (doc_of log) slot ≡ s → In r (flatten_below s (doc_of log))
      → RowWas family o log r
  flat_was o log r slot e None f i = same_path r i refl refl
  flat_was o log r slot e (Some sp) f i =
      let w = was sp (doc_of log) r i in
      ⊎_elim (λ (k : w.old ≡ r). same_path w.old w.inside (sym w.named) (ap (λ (q : DocRow). q.path) (sym k)))
      (λ (k : (slot_contains sp w.old.path ≡ true) × (slot_contains sp r.path ≡ true)). within_slot slot sp e f w.old
      w.inside (sym w.named) k.0 k.1) w.moved

  pub row_was : (o : OpValue) (log : List OpValue) → IsLogOf family (o ∷ log) → (r : DocRow) → In r (doc_of (o ∷ log))
      → RowWas family o log r
  row_was o log l r i = from o.body refl
    where
      here : (b : Body) → o.body ≡ b → In r (effect log o.dot b (doc_of log))
      here b e = subst (λ (z : Body). In r (effect log o.dot z (doc_of log))) e i

      from : (b : Body) → o.body ≡ b → RowWas family o log r
      from (Insert slot run) e = put_was o log r slot run e (slot_path (doc_of log) slot) refl
          (here (Insert slot run) e)
      from (Delete target) e =
          let m = map_In (mark_deleted target o.dot) r (doc_of log) (here (Delete target) e) in
          marked m.0 m.1 (has_id target m.0) m.2
        where
          marked : (q : DocRow) → In q (doc_of log) → (b : Bool)
              → r ≡ cond b (record { path = q.path; atom = q.atom; deletes = add_dot o.dot q.deletes }) q
              → RowWas family o log r
          marked q j true k = same_path q j (ap row_id k) (ap (λ (z : DocRow). z.path) k)
          marked q j false k = same_path q j (ap row_id k) (ap (λ (z : DocRow). z.path) k)
      from (Propose slot) e = same_path r (here (Propose slot) e) refl refl
      from (Abort p) e = same_path r (here (Abort p) e) refl refl
      from (Commit p) e =
          let k = op_in family c (o ∷ log) l o (inl refl) in
          let q = proposal_of family c o p k e in
          let s = commit_slot_is family c o p q.op q.slot e q.of q.dot q.asks in
          flat_was o log r q.slot s (slot_path (doc_of log) q.slot) refl
          (subst (λ (rows : List DocRow). In r rows) (commit_doc family c o log q.slot l s) i)

  -- a row of a log is of an insert in it
  pub row_op : (log : List OpValue) → IsLogOf family log → (r : DocRow) → In r (doc_of log)
      → (y : OpValue) × In y log × (y.dot ≡ (row_id r).dot)
  row_op log l r i = let b = rows_born n log (causal family c log l) r i in
      (b.op, b.inside, sym (run_places b.op.dot 0 b.run (named r) b.among).dot)

  -- an operation that comes has no rows yet
  pub no_row_yet : (o : OpValue) (log : List OpValue) → IsLogOf family (o ∷ log) → (r : DocRow) → In r (doc_of log)
      → (row_id r).dot ≡ o.dot → ⊥
  no_row_yet o log l r i e =
      let k = causal family c (o ∷ log) l in
      let b = row_op log (tail family c o log l) r i in
      not_older n o b.0 log k.0 k.1 b.1 (sym e ∙ sym b.2)
